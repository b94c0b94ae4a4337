-- The first i rows are those of the points matrix.
use Rattle.base.proofs.Fill.{filled_none, filled-store}
use Rattle.points.proofs.fill_rows_by.Goals as goal

pub loop-i-init : goal.loop-i-init
loop-i-init g c = filled_none _ _

pub loop-i-preserved : goal.loop-i-preserved
loop-i-preserved g c = filled-store _ _ _ _ _ c.loop-i.invariant c.row.ensures
