-- Products of vectors and matrices, as functions of their places. A list enters as `at l`, the row of a flat matrix as base's `entry d m i`.
-- at: a list as a vector, 0 past its end
-- dot: the product of two vectors of d entries, not reduced
-- along: the entries of a list from place a on, s apart, as a vector
-- RowFor: over the k rows of A, the coefficients r give 1 at position q and 0 at the other positions below d, modulo p
use Rattle.std.specs.Prelude.{◌≡◌, List, ℕ, ◌+◌, ◌*◌, ◌%◌, ◌<◌, get_or}
use Rattle.base.specs.Sum.{sum, unit}

abbrev pub at : List ℕ → ℕ → ℕ
at l k = get_or l k 0

unfoldable pub dot : ℕ → (ℕ → ℕ) → (ℕ → ℕ) → ℕ
dot d u v = sum d (λ i. u i * v i)

abbrev pub along : List ℕ → ℕ → ℕ → ℕ → ℕ
along l a s k = get_or l (a + k * s) 0

pub record RowFor (p k d : ℕ) (A : ℕ → ℕ → ℕ) (q : ℕ) (r : ℕ → ℕ) : Type 0 where
  pub gives : (j : ℕ) → j < d → dot k r (λ i. A i j) % p ≡ unit q j % p
