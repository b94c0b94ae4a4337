-- Matrices that lie flat in a list, row by row.
-- entry: the entry in row i and column c of a matrix of d columns
-- flat: place t of such a list, from the matrix's entries
-- Below: every element is below p
-- all_below: the same as a test
-- all_are: every element is x, as a test
use Rattle.std.specs.Prelude.{Bool, List, ℕ, ◌+◌, ◌*◌, ◌/◌, ◌%◌, ◌<◌, eqb, ltb, length, get_or}
use Rattle.base.specs.Search.{every}

abbrev pub entry : ℕ → List ℕ → ℕ → ℕ → ℕ
entry d m i c = get_or m (i * d + c) 0

abbrev pub flat {ℓ} : {A : Type ℓ} → ℕ → (ℕ → ℕ → A) → ℕ → A
flat d f t = f (t / d) (t % d)

abbrev pub Below : ℕ → List ℕ → Type 0
Below p l = (k : ℕ) → get_or l k 0 < p

unfoldable pub all_below : ℕ → List ℕ → Bool
all_below p l = every (length l) (λ i. ltb (get_or l i 0) p)

unfoldable pub all_are : ℕ → List ℕ → Bool
all_are x l = every (length l) (λ i. eqb (get_or l i 0) x)
