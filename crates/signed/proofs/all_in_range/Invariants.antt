-- Whether every correction passed is in the range.
use mathlib.Core.Path.{◌≡◌}
use Rattle.base.specs.Search.{every}
use Rattle.signed.specs.Integers.{integer_at}
use Rattle.signed.specs.Corrections.{in_range}
use Rattle.signed.proofs.all_in_range.Given as goal

abbrev pub invariant-loop-x : goal.invariant-loop-x
invariant-loop-x l = l.all ≡ every l.x-index (λ k. in_range (integer_at l.s k))
