-- Prime fields: the numbers 0 to p - 1 modulo p (document 01, "Setup": "Field").
-- Prime: p is above 1 and no number between 1 and p divides it
-- inverse_of: the lowest r below p with a * r = 1 modulo p, and 0 where there is none, so of 0
-- Inverse: what the code promises of an inverse, the same over all five fields
-- Inverses: t is the table of the inverses modulo 257, 0 at entry 0
use Rattle.std.specs.Prelude.{◌≡◌, ◌≢◌, List, ℕ, ◌*◌, ◌%◌, ◌<◌, eqb, ltb, length, get_or}
use Rattle.base.specs.Choice.{pick}
use Rattle.base.specs.Search.{first}

pub record Prime (p : ℕ) : Type 0 where
  pub big : 1 < p
  pub indivisible : (a : ℕ) → 1 < a → a < p → p % a ≢ 0

unfoldable pub inverse_of : ℕ → ℕ → ℕ
inverse_of p a = let r = first (λ r. eqb (a * r % p) 1) p in pick (ltb r p) r 0

pub record Inverse (p a r : ℕ) : Type 0 where
  pub is : r ≡ inverse_of p a
  pub below : r < p
  pub product : a ≢ 0 → a * r % p ≡ 1
  pub zero : a ≡ 0 → r ≡ 0

pub record Inverses (t : List ℕ) : Type 0 where
  pub size : length t ≡ 257
  pub right : (k : ℕ) → k < 257 → Inverse 257 k (get_or t k 0)
