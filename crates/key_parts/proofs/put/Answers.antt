-- The first i entries stand at place c of their parts.
use native.Mathlib.Omega.{arith}
use Rattle.base.proofs.Rows.{put_step}
use Rattle.key_parts.proofs.put.Goals as goal

pub loop-i-preserved : goal.loop-i-preserved
loop-i-preserved c = put_step _ _ _ _ _ _ (omega arith) (omega (arith, c.requires)) c.loop-i.invariant
