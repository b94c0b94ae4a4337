-- The first t entries stand apart.
use native.Mathlib.Omega.{arith}
use Rattle.base.proofs.Rows.{put_step}
use Rattle.parts.proofs.put.Goals as goal

pub loop-t-preserved : goal.loop-t-preserved
loop-t-preserved c = put_step _ _ _ _ _ _ c.requires.d_nonzero.0 (c.requires.by_index c.loop-t.t (omega arith)) c.loop-t.invariant
