-- The last entries of the first i columns are written.
use mathlib.Core.Path.{ap, ◌∙◌}
use native.Mathlib.Nat.{zero-mul}
use native.Mathlib.Omega.{arith}
use lib.ListN.{get_or}
use Rattle.base.proofs.Fill.{filled_none, laid-ext, laid-row}
use Rattle.zero_dealing.specs.Inner.{last_of}
use Rattle.zero_dealing.proofs.keep_last.Goals as goal

pub loop-i-init : goal.loop-i-init
loop-i-init c = simp zero-mul (filled_none _ _)

pub loop-i-preserved : goal.loop-i-preserved
loop-i-preserved c =
    let x = c.args in
    c.copy.ensures
    ∙ laid-ext _ (last_of x.l x.e x.columns.now c.loop-i.i) _ x.e _ (λ j m. ap (λ t. get_or x.columns.now t 0) (omega arith))
    ∙ laid-row x.e (last_of x.l x.e x.columns.now) c.loop-i.i _ _ c.loop-i.invariant
