-- The points matrix (document 01, "Setup": "Points matrix (packed Shamir, after Franklin and Yung 1992): row i gives, from the values of a polynomial
-- of degree below d at 0, 1, .., d − 1, its value at d + i. There is one only where d + n is at most p"). Its entry is Lagrange's product
-- formula, `point` of crate polynomial, which proves that it maps the values of every such polynomial rightly, and that this determines it.
-- points_matrix: the matrix by rows
use Rattle.std.specs.Prelude.{List, ℕ, ◌*◌}
use Rattle.base.specs.Fill.{tab}
use Rattle.base.specs.Matrix.{flat}
use Rattle.polynomial.specs.Polynomial.{point}

unfoldable pub points_matrix : ℕ → ℕ → ℕ → List ℕ
points_matrix p d n = tab (n * d) (flat d (point p d))
