-- The loop writes the definition entry by entry.
use Rattle.row_steps.proofs.Rows.{scale-none, below-scale, scale-next}
use Rattle.row_steps.proofs.scale_row_narrow.Goals as goal

pub loop-x-init : goal.loop-x-init
loop-x-init c = scale-none _ _ 0 _

pub loop-x-preserved : goal.loop-x-preserved
loop-x-preserved c = scale-next _ _ _ _ _ _ c.loop-x.invariant c.add_narrow.ensures

pub add_narrow-requires-clause-y_lt_p : goal.add_narrow-requires-clause-y_lt_p
add_narrow-requires-clause-y_lt_p c =
    let x = c.args in
    let pos = c.requires.reciprocal.pos in
    (pos, rw c.loop-x.invariant (below-scale x.p x.k 0 c.loop-x.x-index x.row.now pos c.requires.below c.loop-x.x-index))
