-- The local rows are those of the points matrix, so what is written flat is the matrix.
use mathlib.Core.Path.{◌∙◌}
use native.Mathlib.Omega.{arith}
use Rattle.field.proofs.Fields.{field-prime}
use Rattle.points.proofs.Grid.{has-rows, rows-flat}
use Rattle.points.proofs.write_points.Goals as goal

pub weights-by-requires-clause-prime : goal.weights-by-requires-clause-prime
weights-by-requires-clause-prime c = field-prime _ c.requires.p_value

pub write_flat-requires-clause-has_rows : goal.write_flat-requires-clause-has_rows
write_flat-requires-clause-has_rows c = rw c.fill_rows.ensures (has-rows c.args.p c.args.d c.args.n _ (omega arith) (omega arith))

pub returns : goal.returns
returns c =
    let f = c.fill_rows.ensures in
    rw f at c.write_flat.ensures
    ∙ rows-flat c.args.p c.args.d c.args.n _ (omega arith) (omega arith) _ c.requires.d_bound.2
