-- The first j entries are the sums.
use mathlib.Core.Path.{◌≡◌, refl, ◌∙◌}
use native.Mathlib.Omega.{arith}
use Rattle.base.proofs.Fill.{filled_none, filled-store, filled-all}
use Rattle.row_steps.proofs.sums.Goals as goal

pub loop-j-init : goal.loop-j-init
loop-j-init c = filled_none _ _

pub loop-j-preserved : goal.loop-j-preserved
loop-j-preserved c = filled-store _ _ _ _ _ c.loop-j.invariant c.add_narrow.ensures

pub returns : goal.returns
returns c = let e : c.loop-j.j ≡ 8 = omega arith in rw e at c.loop-j.invariant ∙ filled-all _ 8 _ refl
