-- The members so far are added.
use mathlib.Core.Path.{◌≡◌}
use Rattle.base.specs.Fill.{tab}
use Rattle.field.specs.Dot.{at, dot}
use Rattle.key_weights.specs.Inner.{away}
use Rattle.key_values.proofs.expected.Given as goal

abbrev pub invariant-loop-j : goal.invariant-loop-j
invariant-loop-j l = l.sums ≡ tab 16 (λ i. dot l.j-index (λ a. at l.scaled (at l.members a)) (λ a. away l.inverses (at l.members a) i))
