-- Tests over all numbers below a bound, the lowest number that passes one, and the first vector that passes one.
-- every: each number below n passes
-- first: the lowest number below n that passes, or n where none does
-- First: what the number r that `first` gives says of the test
-- first_of: the first of n answers that is there
-- first_vec: the first, in counting order, of the vectors of d entries below p that passes, if one does
-- Vec: a vector of d entries below p
use Rattle.std.specs.Prelude.{◌≡◌, Bool, true, false, ◌&&◌, List, [], ◌∷◌, ℕ, zero, suc, ◌<◌, length, get_or}
use Rattle.std.proofs.Math.Option.{Option, none, some}
use Rattle.base.specs.Choice.{pick}

unfoldable pub every : ℕ → (ℕ → Bool) → Bool
every zero t = true
every (suc n) t = every n t && t n

-- of the k numbers from i on; i + k where none passes
unfoldable pub first_from : (ℕ → Bool) → (i k : ℕ) → ℕ
first_from t i zero = i
first_from t i (suc k) = let r = first_from t (suc i) k in pick (t i) i r

unfoldable pub first : (ℕ → Bool) → ℕ → ℕ
first t n = first_from t 0 n

pub data First (t : ℕ → Bool) (n r : ℕ) : Type 0 where
  found : r < n → t r ≡ true → ((j : ℕ) → j < r → t j ≡ false) → First t n r
  missing : r ≡ n → ((j : ℕ) → j < n → t j ≡ false) → First t n r

unfoldable pub first_of {ℓ} : {A : Type ℓ} → ℕ → (ℕ → Option A) → Option A
first_of zero f = none
first_of (suc n) f = elim (first_of n f) [ some v ↦ some v | none ↦ f n ]

abbrev pub with_head : ℕ → Option (List ℕ) → Option (List ℕ)
with_head x none = none
with_head x (some v) = some (x ∷ v)

unfoldable pub first_vec : ℕ → ℕ → (List ℕ → Bool) → Option (List ℕ)
first_vec p zero t = elim (t []) [ true ↦ some [] | false ↦ none ]
first_vec p (suc d) t = first_of p (λ x. with_head x (first_vec p d (λ v. t (x ∷ v))))

pub record Vec (p d : ℕ) (v : List ℕ) : Type 0 where
  pub size : length v ≡ d
  pub small : (k : ℕ) → k < d → get_or v k 0 < p
