-- Index arithmetic of flat matrices: a row and an entry lie inside, two rows do not overlap; and what keeps elements below p.
use Prim.Native.Nat.{ℕ, zero, suc, ◌+◌, ◌*◌, ◌/◌, ◌%◌, ◌≤◌, ◌<◌, max}
use mathlib.Core.Bool.{true, false, not, not-not, ◌&&◌, ◌||◌, and_assoc, and-true}
use mathlib.Core.List.{List, [], ◌∷◌}
use mathlib.Core.Logic.{◌≢◌, ◌⊎◌, inl, inr}
use mathlib.Core.Path.{◌≡◌, ap, sym, ◌∙◌}
use native.Mathlib.Nat.{mul-le-mul_right, suc-mul, mul-zero, mod-lt, div-lt_iff_lt-mul}
use native.Mathlib.Decide.{dec_lt}
use native.Mathlib.Omega.{arith}
use lib.Dec.{eqb, leb, ltb}
use lib.ListN.{length, get_or, set, replicate, length-replicate, get_or-replicate, get_or-eq_default}
use lib.Seq.{get_or-set_same, get_or-set_other, set_out}
use borrow.Author.Tests.{eqb-true, eq-eqb, ltb-true, lt-ltb, le-leb}
use Rattle.std.specs.List.{fold}
use Rattle.std.proofs.lemmas.Bool.Decides.{nat_tests}
use Rattle.base.specs.Fill.{tab, laid, filled}
use Rattle.base.specs.Matrix.{Below, all_below, all_are}
use Rattle.base.specs.Search.{every}
use Rattle.base.proofs.Choice.{either}
use Rattle.base.proofs.Fill.{get_d-tab, length-tab, length-filled, get_d-filled, get_d-filled-past}
use Rattle.base.proofs.Search.{every-at, every-all, every-ext, every-fails, every-front, fold-any}

pub row_fits : (rows d r : ℕ) → r < rows → r * d + d ≤ rows * d
row_fits rows d r h = omega (arith, mul-le-mul_right d h, suc-mul r d)

pub entry-fits : (rows d r c : ℕ) → r < rows → c < d → r * d + c < rows * d
entry-fits rows d r c h l = omega (arith, row_fits rows d r h)

pub rows_apart : (d r s : ℕ) → r ≢ s → (r * d + d ≤ s * d) ⊎ (s * d + d ≤ r * d)
rows_apart d r s h = go (dec_lt r s)
  where
    go : Dec (r < s) → (r * d + d ≤ s * d) ⊎ (s * d + d ≤ r * d)
    go (yes l) = inl (row_fits s d r l)
    go (no n) = inr (row_fits r d s (omega arith))

-- the row that starts at t is one of R, or it is past them
pub row_inside : (R d r t : ℕ) → t ≡ r * d → t < R * d → r < R
row_inside R d r t e l = go (dec_lt r R)
  where
    go : Dec (r < R) → r < R
    go (yes h) = h
    go (no h) = let m : R * d ≤ r * d = mul-le-mul_right d (omega arith) in absurd (omega arith)

pub row-past : (R d r t : ℕ) → t ≡ r * d → R * d ≤ t → r ≤ R → 0 < d → r ≡ R
row-past R d r t e l h pos = either r R (r ≡ R) (λ q. q) (λ q. absurd (omega (arith, row_fits R d r (omega (arith, q)))))

pub below_set : (p : ℕ) (a : List ℕ) (i v : ℕ) → v < p → Below p a → Below p (set a i v)
below_set p a i v hv all k =
    either k i (get_or (set a i v) k 0 < p) (λ e. go e (dec_lt i (length a))) (λ ne. rw (get_or-set_other a i k v 0 ne) (all k))
  where
    go : k ≡ i → Dec (i < length a) → get_or (set a i v) k 0 < p
    go e (yes l) = rw (e, get_or-set_same a i v 0 l) hv
    go e (no n) = rw (set_out a i v (omega arith)) (all k)

pub below-laid : (p : ℕ) (f : ℕ → ℕ) (t n : ℕ) (a : List ℕ) → ((j : ℕ) → f j < p) → Below p a → Below p (laid f t n a)
unfolding laid
below-laid p f t zero a h all = all
below-laid p f t (suc n) a h all = below_set p (laid f t n a) (t + n) (f n) (h n) (below-laid p f t n a h all)

-- past the end stands 0, so p is above 0
pub below-tab : (p n : ℕ) (f : ℕ → ℕ) → 0 < p → ((k : ℕ) → k < n → f k < p) → Below p (tab n f)
below-tab p n f pos h k = go (dec_lt k n)
  where
    go : Dec (k < n) → get_or (tab n f) k 0 < p
    go (yes l) = rw (get_d-tab n f 0 k l) (h k l)
    go (no l) = rw (get_or-eq_default (tab n f) 0 {n = k} (omega (arith, length-tab n f))) pos

pub below-zeros : (p n : ℕ) → 0 < p → Below p (replicate n 0)
below-zeros p n pos k = go (dec_lt k n)
  where
    go : Dec (k < n) → get_or (replicate n 0) k 0 < p
    go (yes l) = rw (get_or-replicate {A = ℕ} n k 0 0 l) pos
    go (no l) = rw (get_or-eq_default {A = ℕ} (replicate n 0) 0 {n = k} (omega (arith, length-replicate {A = ℕ} n 0))) pos

pub below-filled : (p : ℕ) (f : ℕ → ℕ) (n : ℕ) (l : List ℕ) → 0 < p → ((k : ℕ) → k < n → f k < p) → Below p l → Below p (filled f n l)
below-filled p f n l pos h all k = go (dec_lt k n) (dec_lt k (length l))
  where
    go : Dec (k < n) → Dec (k < length l) → get_or (filled f n l) k 0 < p
    go (yes m) (yes q) = rw (get_d-filled f n l k 0 m q) (h k m)
    go (yes m) (no q) = rw (get_or-eq_default (filled f n l) 0 {n = k} (omega (arith, length-filled f n l))) pos
    go (no m) q = rw (get_d-filled-past f n l k 0 (omega arith)) (all k)

-- the test and the fact; past the end stands 0, so p is above 0
pub below_by : (p : ℕ) (l : List ℕ) → 0 < p → all_below p l ≡ true → Below p l
unfolding all_below
below_by p l pos t k = go (dec_lt k (length l))
  where
    go : Dec (k < length l) → get_or l k 0 < p
    go (yes h) = ltb-true (get_or l k 0) p (every-at (length l) (λ i. ltb (get_or l i 0) p) t k h)
    go (no n) = rw (get_or-eq_default l 0 {n = k} (omega arith)) pos

pub below-is : (p : ℕ) (l : List ℕ) → ((k : ℕ) → k < length l → get_or l k 0 < p) → all_below p l ≡ true
unfolding all_below
below-is p l h = every-all (length l) (λ i. ltb (get_or l i 0) p) (λ k m. lt-ltb (get_or l k 0) p (h k m))

pub are_at : (x : ℕ) (l : List ℕ) → all_are x l ≡ true → (k : ℕ) → k < length l → get_or l k 0 ≡ x
unfolding all_are
are_at x l t k h = eqb-true (get_or l k 0) x (every-at (length l) (λ i. eqb (get_or l i 0) x) t k h)

pub are-is : (x : ℕ) (l : List ℕ) → ((k : ℕ) → k < length l → get_or l k 0 ≡ x) → all_are x l ≡ true
unfolding all_are
are-is x l h = every-all (length l) (λ i. eqb (get_or l i 0) x) (λ k m. eq-eqb (get_or l k 0) x (h k m))

-- a place of a flat matrix of n rows, by row and column
pub place_at : (d n t : ℕ) → t < n * d → (0 < d) × (t / d < n) × (t % d < d)
place_at zero n t h = absurd (omega (arith, mul-zero n))
place_at (suc d) n t h = (omega arith, (div-lt_iff_lt-mul {k = suc d} {x = t} {y = n} (omega arith)).1 h, mod-lt t (omega arith))

-- the tests as folds
pub not-leb : (p x : ℕ) → not (leb p x) ≡ ltb x p
not-leb p x = grind (arith, nat_tests)

-- nothing stands above any number in an empty list
pub none-below : (p : ℕ) (l : List ℕ) → length l ≡ 0 → leb 0 p ≡ all_below p l
unfolding all_below every
none-below p [] e = le-leb 0 p (omega arith)
none-below p (x ∷ l) e = absurd (omega (arith, e))

most-from : (p m : ℕ) (l : List ℕ) → ltb (fold max m l) p ≡ (ltb m p && every (length l) (λ i. ltb (get_or l i 0) p))
unfolding every
most-from p m [] = sym (and-true (ltb m p))
most-from p m (x ∷ l) =
    most-from p (max m x) l
    ∙ ap (λ b. b && every (length l) (λ i. ltb (get_or l i 0) p)) (larger m x)
    ∙ and_assoc (ltb m p) (ltb x p) (every (length l) (λ i. ltb (get_or l i 0) p))
    ∙ ap (λ b. ltb m p && b) (sym (every-front (length l) (λ i. ltb (get_or (x ∷ l) i 0) p)))
  where
    larger : (m x : ℕ) → ltb (max m x) p ≡ (ltb m p && ltb x p)
    larger m x = grind (arith, nat_tests)

-- the largest entry of a list that is not empty
pub most-fold : (p : ℕ) (l : List ℕ) → length l ≢ 0 → ltb (fold max 0 l) p ≡ all_below p l
unfolding all_below
most-fold p [] e = absurd (e (omega arith))
most-fold zero (x ∷ l) e =
    most-from zero 0 (x ∷ l) ∙ sym (every-fails (length (x ∷ l)) (λ i. ltb (get_or (x ∷ l) i 0) zero) 0 (omega arith) (grind (arith, nat_tests)))
most-fold (suc p) (x ∷ l) e =
    most-from (suc p) 0 (x ∷ l) ∙ ap (λ b. b && every (length (x ∷ l)) (λ i. ltb (get_or (x ∷ l) i 0) (suc p))) (lt-ltb 0 (suc p) (omega arith))

pub are-fold : (x : ℕ) (l : List ℕ) → all_are x l ≡ not (fold (λ other y. other || not (eqb y x)) false l)
unfolding all_are
are-fold x l = sym (fold-any (λ y. not (eqb y x)) false 0 l ∙ every-ext (length l) _ _ (λ i h. not-not (eqb (get_or l i 0) x)))
