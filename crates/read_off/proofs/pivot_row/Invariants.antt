-- The search from here is the search of the whole.
use Prim.Native.Nat.{◌-◌, suc}
use mathlib.Core.Path.{◌≡◌}
use lib.Dec.{eqb}
use Rattle.base.specs.Search.{first_from}
use Rattle.field.specs.Dot.{at}
use Rattle.read_off.specs.ReadOff.{pivot_row}
use Rattle.read_off.proofs.pivot_row.Given as goal

abbrev pub invariant-loop-i : goal.invariant-loop-i
invariant-loop-i l = first_from (λ k. eqb (at l.used k) (suc l.q)) l.i (l.rows - l.i) ≡ pivot_row l.rows (at l.used) l.q
