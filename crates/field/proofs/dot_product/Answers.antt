-- The sum so far is the product of the entries passed, at most 65535 * 65535 for each.
use mathlib.Core.Path.{refl}
use native.Mathlib.Nat.{mul-le-mul, mul-one}
use native.Mathlib.Omega.{arith}
use Rattle.base.specs.Sum.{sum}
use Rattle.field.specs.Dot.{dot}
use Rattle.field.proofs.Dot.{dot-step}
use Rattle.field.proofs.dot_product.Goals as goal

pub loop-k-init : goal.loop-k-init
unfolding dot sum
loop-k-init c = (omega arith, refl)

pub loop-k-preserved : goal.loop-k-preserved
loop-k-preserved c = (omega (arith, mul-le-mul c.at.ensures.1 c.at-in-loop-k.ensures.1), rw (dot-step, mul-one) cc)
