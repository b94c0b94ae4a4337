-- The first t lanes are reduced.
use mathlib.Core.Path.{refl}
use Rattle.base.proofs.Fill.{filled-store}
use Rattle.parts.proofs.remainders8.Goals as goal

pub loop-t-preserved : goal.loop-t-preserved
loop-t-preserved c = filled-store _ _ _ _ _ c.loop-t.invariant (rw c.from.ensures refl)
