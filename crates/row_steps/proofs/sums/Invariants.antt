-- The first j entries are the sums.
use mathlib.Core.Path.{◌≡◌}
use lib.ListN.{get_or}
use Rattle.base.specs.Fill.{filled}
use Rattle.row_steps.specs.Rows.{add_entry}
use Rattle.row_steps.proofs.sums.Given as goal

abbrev pub invariant-loop-j : goal.invariant-loop-j
invariant-loop-j l = l.entries ≡ filled (λ i. add_entry l.p l.h (get_or l.y i 0) (get_or l.x i 0)) l.j l.initial.entries
