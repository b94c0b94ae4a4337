-- The first j entries are the weights of the first j nodes.
use mathlib.Core.Path.{◌≡◌}
use native.Mathlib.Omega.{arith}
use Rattle.base.proofs.Fill.{filled_none, filled-store}
use Rattle.points.specs.Inner.{zeros, weights_of}
use Rattle.points.proofs.weights.Goals as goal

pub loop-j-init : goal.loop-j-init
unfolding zeros
loop-j-init c = filled_none _ _

pub loop-j-preserved : goal.loop-j-preserved
loop-j-preserved c = filled-store _ _ _ _ _ c.loop-j.invariant c.weight.ensures

pub returns : goal.returns
unfolding weights_of
returns c = let e : c.loop-j.j ≡ c.args.d = omega arith in rw e at c.loop-j.invariant
