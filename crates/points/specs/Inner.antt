-- Contracts of inner functions: what the points matrix is worked out by, as a local array of 32 rows of 16 entries holds it.
-- zeros: the weights and a row as they begin
-- weight_of: the inverse of the basis of node j at its own node
-- weights_of: the weights of the d nodes
-- points_row: row i with its d entries, then zeros
-- row_entry: entry j of row i of an array of rows
-- HasRows: the array has n rows of at least d entries
use Rattle.std.specs.Prelude.{ℕ, ◌%◌, ◌≤◌, ◌<◌, List, [], length, get_or, replicate}
use Rattle.base.specs.Fill.{filled}
use Rattle.field.specs.Prime.{inverse_of}
use Rattle.polynomial.specs.Polynomial.{basis, point}

unfoldable pub zeros : List ℕ
zeros = replicate 16 0

unfoldable pub weight_of : ℕ → ℕ → ℕ → ℕ
weight_of p d j = inverse_of p (basis p d j (λ t. t) j % p)

unfoldable pub weights_of : ℕ → ℕ → List ℕ
weights_of p d = filled (weight_of p d) d zeros

unfoldable pub points_row : ℕ → ℕ → ℕ → List ℕ
points_row p d i = filled (point p d i) d zeros

abbrev pub row_entry : List (List ℕ) → ℕ → ℕ → ℕ
row_entry rows i j = get_or (get_or rows i []) j 0

pub record HasRows (d n : ℕ) (rows : List (List ℕ)) : Type 0 where
  pub count : n ≤ length rows
  pub wide : (i : ℕ) → i < n → d ≤ length (get_or rows i [])
