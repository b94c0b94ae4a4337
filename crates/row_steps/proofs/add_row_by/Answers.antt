-- The loop writes the definition column by column.
use native.Mathlib.Omega.{arith}
use Rattle.row_steps.proofs.Rows.{add_none, add_step}
use Rattle.row_steps.proofs.add_row_by.Goals as goal

pub loop-c-init : goal.loop-c-init
loop-c-init c = add_none _ _ _ _ _

pub loop-c-preserved : goal.loop-c-preserved
loop-c-preserved c =
    let x = c.args in add_step x.p x.h x.t x.q x.width c.loop-c.c c.requires.kept (omega arith) x.a.now c.loop-c.a _ c.loop-c.invariant c.add_entry.ensures
