-- a times `acc` is `cur` throughout; `cur` falls and stays above 0 because no number between 1 and the prime p divides it.
use Prim.Native.Nat.{◌*◌, ◌%◌, ◌<◌}
use mathlib.Core.Path.{◌≡◌}
use Rattle.field.proofs.inverse_worked.Given as goal

abbrev pub invariant-loop-cur : goal.invariant-loop-cur
invariant-loop-cur l = (0 < l.cur) × (l.cur < l.p) × (l.acc < l.p) × (l.a * l.acc % l.p ≡ l.cur)

abbrev pub decreases-loop-cur : goal.decreases-loop-cur
decreases-loop-cur l = l.cur
