-- The loop writes the definition entry by entry.
use Rattle.row_steps.proofs.Rows.{scale-none, scale-next}
use Rattle.row_steps.proofs.scale_row_by.Goals as goal

pub loop-x-init : goal.loop-x-init
loop-x-init c = scale-none _ _ 0 _

pub loop-x-preserved : goal.loop-x-preserved
loop-x-preserved c = scale-next _ _ _ _ _ _ c.loop-x.invariant c.add_entry.ensures
