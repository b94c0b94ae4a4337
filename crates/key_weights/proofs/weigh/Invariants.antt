-- The factors of the members so far are multiplied.
use Prim.Native.Nat.{◌%◌}
use mathlib.Core.Path.{◌≡◌}
use Rattle.base.specs.Fill.{tab}
use Rattle.field.specs.Dot.{at}
use Rattle.polynomial.specs.Polynomial.{prod}
use Rattle.key_weights.specs.Inner.{away, behind}
use Rattle.key_weights.proofs.weigh.Given as goal

abbrev pub invariant-loop-j : goal.invariant-loop-j
invariant-loop-j l =
    (l.x ≡ tab 16 (λ i. prod l.j-index (λ a. away l.inverses (at l.members a) i) % 257))
    × (l.y ≡ tab 16 (λ c. prod l.j-index (λ a. behind (at l.members a) c) % 257))
