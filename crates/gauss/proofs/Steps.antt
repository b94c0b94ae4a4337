-- The number of row steps: a column with a pivot takes at most R - 1, another none, and as each pivot uses a row, at most R columns have one.
-- used_rows: how many of the first R rows are used
-- Spent: the n row steps are at most those of m columns with a pivot, where m is at most c and at most the number of used rows
use mathlib.Core.Path.{◌≡◌, refl, sym, ◌∙◌}
use mathlib.Core.Logic.{◌≢◌}
use mathlib.Core.Bool.{not}
use Prim.Native.Nat.{ℕ, zero, suc, ◌+◌, ◌-◌, ◌*◌, ◌≤◌, ◌<◌, min}
use native.Mathlib.Omega.{arith}
use native.Mathlib.Nat.{mul-le-mul}
use lib.Dec.{eqb, ltb}
use borrow.Author.Tests.{eq-eqb, ne_eqb, lt-ltb, le-ltb}
use Rattle.base.specs.Choice.{pick}
use Rattle.base.specs.Search.{first, First, found, missing}
use Rattle.base.specs.Sum.{sum, bit, unit}
use Rattle.base.proofs.Choice.{either}
use Rattle.base.proofs.Search.{first-is}
use Rattle.base.proofs.Sum.{sum-le, sum_ones, sum-ext, sum-one-more, bit_le, unit-same, unit-other}
use Rattle.gauss.specs.Gauss.{State, usable, pivot_of, use_row, column, gauss, elsewhere, others, column_steps, steps}
use Rattle.gauss.proofs.Gauss.{usable-true}

unfoldable used_rows : ℕ → State → ℕ
used_rows R s = sum R (λ i. bit (not (eqb (s.used i) 0)))

-- ROWS OTHER THAN THE PIVOT'S
pub others-le : (R k : ℕ) (v : ℕ → ℕ) → others R k v ≤ R
unfolding others
others-le R k v = omega (arith, sum-le R 1 (λ j. bit (elsewhere k v j)) (λ j m. bit_le _))

module _ (R k : ℕ) (v : ℕ → ℕ) (l : k < R) where
  with-own : sum R (λ j. bit (elsewhere k v j) + unit k j) ≡ others R k v + 1
  unfolding others
  with-own = sum-one-more R k (λ j. bit (elsewhere k v j)) l

  own : bit (elsewhere k v k) + unit k k ≡ 1
  unfolding elsewhere bit
  own = rw (eq-eqb k k refl, unit-same k) refl

  others-lt : others R k v < R
  others-lt =
      let each = sum-le R 1 (λ j. bit (elsewhere k v j) + unit k j)
      (λ j m. either k j _ (λ e. rw (← e) (omega (arith, own))) (λ e. omega (arith, bit_le (elsewhere k v j), unit-other k j e))) in
      omega (arith, with-own)

  -- all of them have an entry
  pub others-all : ((j : ℕ) → j < R → (k ≡ j → ⊥) → v j ≢ 0) → others R k v ≡ R - 1
  unfolding elsewhere bit
  others-all h =
      let each = sum_ones R (λ j. bit (elsewhere k v j) + unit k j)
      (λ j m. either k j _ (λ e. rw (← e) own) (λ e. rw (unit-other k j e, ne_eqb k j e, ne_eqb (v j) 0 (h j m e)) refl)) in
      omega (arith, with-own)

-- COLUMNS
-- what holds of the state after a column and of its row steps, by whether there is a pivot
steps-by : (W : State → ℕ → Type 0) (p R c : ℕ) (s : State)
    → ((k : ℕ) → k < R → s.used k ≡ 0 → W (use_row p k c s) (others R k (λ i. s.mat i c))) → W s 0 → W (column p R c s) (column_steps R c s)
unfolding column column_steps pivot_of
steps-by W p R c s f g = go (first (usable s c) R) (first-is (usable s c) R)
  where
    go : (r : ℕ) → First (usable s c) R r → W (pick (ltb r R) (use_row p r c s) s) (pick (ltb r R) (others R r (λ i. s.mat i c)) 0)
    go r (found l e h) = rw (lt-ltb r R l) (f r l (usable-true s c r e).0)
    go r (missing l h) = rw (le-ltb r R (omega arith)) g

pub column-steps-le : (R c : ℕ) (s : State) → column_steps R c s ≤ R
column-steps-le R c s = steps-by (λ t n. n ≤ R) 0 R c s (λ k l u. others-le R k _) (omega arith)

used_le : (R : ℕ) (s : State) → used_rows R s ≤ R
unfolding used_rows
used_le R s = omega (arith, sum-le R 1 (λ i. bit (not (eqb (s.used i) 0))) (λ i m. bit_le _))

used-more : (p R k c : ℕ) (s : State) → k < R → s.used k ≡ 0 → used_rows R (use_row p k c s) ≡ used_rows R s + 1
unfolding used_rows use_row bit
used-more p R k c s l u =
    sum-ext R _ _
    (λ i m. either i k _
    (λ e. rw (e, u, unit-same k, eq-eqb k k refl) (rw (ne_eqb (suc c) 0 (λ d. omega arith)) refl))
    (λ e. rw (ne_eqb i k e, unit-other k i (λ d. e (sym d))) (omega arith)))
    ∙ sum-one-more R k (λ i. bit (not (eqb (s.used i) 0))) l

Spent : (R c : ℕ) → State → ℕ → Type 0
Spent R c s n = (m : ℕ) × (m ≤ c) × (m ≤ used_rows R s) × (n ≤ m * (R - 1))

spent : (p R c : ℕ) (s : State) → Spent R c (gauss p R c s) (steps p R c s)
unfolding gauss steps Spent
spent p R zero s = (0, omega arith, omega arith, omega arith)
spent p R (suc c) s =
    let (m, a, b, h) = spent p R c s in
    steps-by (λ t n. Spent R (suc c) t (steps p R c s + n)) p R c (gauss p R c s)
    (λ k l u. (
      suc m,
      omega arith,
      omega (arith, used-more p R k c (gauss p R c s) l u),
      more (R - 1) m _ h (omega (arith, others-lt R k (λ i. (gauss p R c s).mat i c) l)),
    ))
    (m, omega arith, b, omega arith)
  where
    more : (x m n : ℕ) → steps p R c s ≤ m * x → n ≤ x → steps p R c s + n ≤ suc m * x
    more x m n h l = omega arith

pub steps-bound : (p R c : ℕ) (s : State) → steps p R c s ≤ min c R * (R - 1)
unfolding Spent
steps-bound p R c s =
    let (m, a, b, h) = spent p R c s in
    omega (arith, h, mul-le-mul {n₁ = m} {m₁ = R - 1} {n₂ = min c R} {m₂ = R - 1} (omega (arith, used_le R (gauss p R c s))) (omega arith))
