-- The loop writes the definition entry by entry.
use mathlib.Core.Path.{◌≡◌}
use Rattle.row_steps.specs.Rows.{scale_row}
use Rattle.row_steps.proofs.scale_row_narrow.Given as goal

abbrev pub invariant-loop-x : goal.invariant-loop-x
invariant-loop-x l = l.row ≡ scale_row l.p l.k 0 l.x-index l.initial.row
