-- The laws of bounded sums: they add, scale, swap and split, depend only on the summands below the bound, and are bounded where these are.
use mathlib.Core.Path.{◌≡◌, refl, sym, ap, ◌∙◌}
use mathlib.Core.Bool.{Bool, true, false}
use Prim.Native.Nat.{ℕ, zero, suc, ◌+◌, ◌*◌, ◌≤◌, ◌<◌}
use native.Mathlib.Omega.{arith}
use native.Mathlib.Nat.{add-zero, add-suc}
use borrow.Author.Tests.{eq-eqb, ne_eqb}
use native.Mathlib.Numerals.{add-one}
use Rattle.base.specs.Sum.{sum, bit, unit}
use Rattle.base.proofs.Choice.{either}

pub sum_step : (n : ℕ) (f : ℕ → ℕ) → sum (n + 1) f ≡ sum n f + f n
unfolding sum
sum_step n f = rw add-one refl

pub sum-add : (n : ℕ) (f g : ℕ → ℕ) → sum n (λ i. f i + g i) ≡ sum n f + sum n g
unfolding sum
sum-add zero f g = refl
sum-add (suc n) f g = omega (arith, sum-add n f g)

pub sum-scale : (n c : ℕ) (f : ℕ → ℕ) → sum n (λ i. c * f i) ≡ c * sum n f
unfolding sum
sum-scale zero c f = omega arith
sum-scale (suc n) c f = omega (arith, sum-scale n c f)

pub sum-zero : (n : ℕ) → sum n (λ i. 0) ≡ 0
unfolding sum
sum-zero zero = refl
sum-zero (suc n) = omega (arith, sum-zero n)

pub sum-ext : (n : ℕ) (f g : ℕ → ℕ) → ((i : ℕ) → i < n → f i ≡ g i) → sum n f ≡ sum n g
unfolding sum
sum-ext zero f g h = refl
sum-ext (suc n) f g h = omega (arith, sum-ext n f g (λ i l. h i (omega arith)), h n (omega arith))

pub sum-none : (n : ℕ) (f : ℕ → ℕ) → ((i : ℕ) → i < n → f i ≡ 0) → sum n f ≡ 0
sum-none n f h = sum-ext n f (λ i. 0) h ∙ sum-zero n

pub sum-swap : (n m : ℕ) (f : ℕ → ℕ → ℕ) → sum n (λ i. sum m (λ j. f i j)) ≡ sum m (λ j. sum n (λ i. f i j))
unfolding sum
sum-swap zero m f = sym (sum-zero m)
sum-swap (suc n) m f = rw (sum-swap n m f) (sym (sum-add m (λ j. sum n (λ i. f i j)) (f n)))

pub sum-split : (l e : ℕ) (f : ℕ → ℕ) → sum (l + e) f ≡ sum l f + sum e (λ j. f (l + j))
unfolding sum
sum-split l zero f = rw add-zero (omega arith)
sum-split l (suc e) f = rw (add-suc l e) (omega (arith, sum-split l e f))

pub sum-le : (n c : ℕ) (f : ℕ → ℕ) → ((i : ℕ) → i < n → f i ≤ c) → sum n f ≤ n * c
unfolding sum
sum-le zero c f h = omega arith
sum-le (suc n) c f h = omega (arith, sum-le n c f (λ i l. h i (omega arith)), h n (omega arith))

pub sum_ones : (n : ℕ) (f : ℕ → ℕ) → ((i : ℕ) → i < n → f i ≡ 1) → sum n f ≡ n
unfolding sum
sum_ones zero f h = refl
sum_ones (suc n) f h = omega (arith, sum_ones n f (λ i l. h i (omega arith)), h n (omega arith))

pub bit_le : (b : Bool) → bit b ≤ 1
unfolding bit
bit_le true = omega arith
bit_le false = omega arith

pub unit-same : (k : ℕ) → unit k k ≡ 1
unfolding unit bit
unit-same k = rw (eq-eqb k k refl)

pub unit-other : (k i : ℕ) → (k ≡ i → ⊥) → unit k i ≡ 0
unfolding unit bit
unit-other k i h = rw (ne_eqb k i h)

-- a sum with at most one summand that is not 0
pub sum_one : (n k : ℕ) (f : ℕ → ℕ) → k < n → ((i : ℕ) → i < n → (k ≡ i → ⊥) → f i ≡ 0) → sum n f ≡ f k
unfolding sum
sum_one zero k f l h = omega arith
sum_one (suc n) k f l h = go (λ m. sum_one n k f m (λ i m g. h i (omega arith) g))
  where
    go : (k < n → sum n f ≡ f k) → sum n f + f n ≡ f k
    go ih =
        either k n (sum n f + f n ≡ f k)
        (λ e. rw (e, sum-none n f (λ i m. h i (omega arith) (λ q. omega arith))) (omega arith))
        (λ e. rw (h n (omega arith) e, ih (omega (arith, e))) (omega arith))

pub sum-unit : (n k : ℕ) (f : ℕ → ℕ) → k < n → sum n (λ i. unit k i * f i) ≡ f k
sum-unit n k f l = sum_one n k (λ i. unit k i * f i) l (λ i m g. rw (unit-other k i g) (omega arith)) ∙ rw (unit-same k) (omega arith)

-- one more at place k
pub sum-one-more : (n k : ℕ) (f : ℕ → ℕ) → k < n → sum n (λ i. f i + unit k i) ≡ sum n f + 1
sum-one-more n k f l =
    sum-add n f (unit k) ∙ ap (λ z. sum n f + z) (sum-ext n _ (λ i. unit k i * 1) (λ i m. omega arith) ∙ sum-unit n k (λ i. 1) l)
