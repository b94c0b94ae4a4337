-- The loop writes the entries in order.
use Rattle.std.proofs.Common.{refl}
use borrow.Author.Rules.{rules}
use Rattle.base.proofs.Fill.{laid_none, laid-store}
use Rattle.base.proofs.copy.Goals as goal

pub loop-j-init : goal.loop-j-init
loop-j-init c = (refl, laid_none _ _ _)

pub loop-j-preserved : goal.loop-j-preserved
loop-j-preserved c = (search rules, laid-store _ _ _ _ _ _ c.loop-j.invariant.1 refl)
