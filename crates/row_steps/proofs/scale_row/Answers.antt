-- The row comes back scaled.
use native.Mathlib.Omega.{arith}
use Rattle.row_steps.proofs.Rows.{scaled_part}
use Rattle.row_steps.proofs.scale_row.Goals as goal

pub returns-in-0-to-257 : goal.returns-in-0-to-257
returns-in-0-to-257 c = scaled_part _ _ _ _ _ _ (omega arith) c.scale_row_narrow.ensures

pub returns-in-65521 : goal.returns-in-65521
returns-in-65521 c = rw c.in-65521.is (scaled_part _ _ _ _ _ _ (omega arith) c.scale_row_by.ensures)

pub returns-in_default : goal.returns-in_default
returns-in_default c = scaled_part _ _ _ _ _ _ (omega arith) c.scale_row_by-in_default.ensures
