-- What becomes of a row of a flat buffer modulo p.
-- add_entry: y + h x modulo p
-- add_row: the row of n entries that starts at t, plus h times the row that starts at q
-- scale_row: the row of n entries that starts at t, times k
-- Kept: writing the row that starts at t from left to right spoils nothing that is still to be read of the row that starts at q
-- Reciprocal: r is 65536 h / p rounded down, for p up to 257
use Rattle.std.specs.Prelude.{ℕ, ◌+◌, ◌*◌, ◌/◌, ◌%◌, ◌≤◌, ◌<◌, ◌≡◌, ◌⊎◌, List, get_or}
use Rattle.base.specs.Fill.{laid}

abbrev pub add_entry : (p h y x : ℕ) → ℕ
add_entry p h y x = (y + h * x) % p

unfoldable pub add_row : (p h t q n : ℕ) → List ℕ → List ℕ
add_row p h t q n a = laid (λ j. add_entry p h (get_or a (t + j) 0) (get_or a (q + j) 0)) t n a

unfoldable pub scale_row : (p k t n : ℕ) → List ℕ → List ℕ
scale_row p k t n a = laid (λ j. k * get_or a (t + j) 0 % p) t n a

abbrev pub Kept : (t q n : ℕ) → Type 0
Kept t q n = (t ≤ q) ⊎ (q + n ≤ t)

pub record Reciprocal (p h r : ℕ) : Type 0 where
  pub pos : 0 < p
  pub small : p ≤ 257
  pub less : h < p
  pub is : r ≡ h * 65536 / p
