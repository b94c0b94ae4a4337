-- Lists that a function gives.
-- tab: f 0, f 1, .., f (n - 1) as a list
-- laid: the list a with f 0, .., f (n - 1) written from place t on
-- filled: the list l with its first k entries replaced by f 0, f 1, .., f (k - 1); the rest is as it was
-- Put: the first c entries stand d apart from place a on, and all else is as it was
use Rattle.std.specs.Prelude.{◌≡◌, List, [], ◌∷◌, ℕ, zero, suc, ◌+◌, ◌*◌, ◌<◌, length, get_or, set}

module _ {A : Type 0} where
  unfoldable pub tab_from : ℕ → ℕ → (ℕ → A) → List A
  tab_from i zero f = []
  tab_from i (suc n) f = f i ∷ tab_from (suc i) n f

  unfoldable pub tab : ℕ → (ℕ → A) → List A
  tab n f = tab_from 0 n f

  unfoldable pub laid : (ℕ → A) → ℕ → ℕ → List A → List A
  laid f t zero a = a
  laid f t (suc n) a = set (laid f t n a) (t + n) (f n)

  unfoldable pub filled : (ℕ → A) → ℕ → List A → List A
  filled f zero l = l
  filled f (suc k) [] = []
  filled f (suc k) (x ∷ xs) = f 0 ∷ filled (λ i. f (suc i)) k xs

pub record Put (d c a : ℕ) (entries before after : List ℕ) : Type 0 where
  pub size : length after ≡ length before
  pub written : (t : ℕ) → t < c → get_or after (a + t * d) 0 ≡ get_or entries t 0
  pub kept : (k : ℕ) → ((t : ℕ) → t < c → k ≡ a + t * d → ⊥) → get_or after k 0 ≡ get_or before k 0
