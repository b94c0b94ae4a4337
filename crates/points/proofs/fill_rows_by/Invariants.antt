-- The first i rows are those of the points matrix.
use mathlib.Core.Path.{◌≡◌}
use Rattle.base.specs.Fill.{filled}
use Rattle.points.specs.Inner.{points_row}
use Rattle.points.proofs.fill_rows_by.Given as goal

abbrev pub invariant-loop-i : goal.invariant-loop-i
invariant-loop-i g l = l.rows ≡ filled (points_row g.row.P l.d) l.i l.initial.rows
