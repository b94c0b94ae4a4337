-- The sum over the first i lanes.
use Prim.Native.Nat.{◌+◌, ◌*◌}
use mathlib.Core.Path.{◌≡◌}
use Rattle.field.specs.Dot.{at, dot}
use Rattle.key_values.proofs.dot.Given as goal

abbrev pub invariant-loop-i : goal.invariant-loop-i
invariant-loop-i l = l.sum ≡ dot l.i (at l.scaled) (λ k. at l.v (16 * l.q + k))
