-- The first i rows stand in the matrix, one after the other.
use Prim.Native.Nat.{◌*◌}
use mathlib.Core.Path.{◌≡◌}
use Rattle.base.specs.Fill.{filled}
use Rattle.base.specs.Matrix.{flat}
use Rattle.points.specs.Inner.{row_entry}
use Rattle.points.proofs.write_flat.Given as goal

abbrev pub invariant-loop-i : goal.invariant-loop-i
invariant-loop-i l = l.matrix ≡ filled (flat l.d (row_entry l.rows)) (l.i * l.d) l.initial.matrix
