-- The elimination on a flat buffer, as the code does it, is the elimination on matrices: each loop writes only the row that it is at, and the pivot
-- row, which it reads, is another.
use mathlib.Core.Path.{◌≡◌, refl, sym, ap, ap₂, ◌∙◌, subst}
use mathlib.Core.Logic.{inl, inr, ◌≢◌, ⊎_elim}
use mathlib.Core.Bool.{Bool, true, false, not, ◌&&◌}
use mathlib.Core.List.{List}
use Prim.Native.Nat.{ℕ, zero, suc, ◌+◌, ◌-◌, ◌*◌, ◌%◌, ◌≤◌, ◌<◌}
use native.Mathlib.Numerals.{add-one}
use native.Mathlib.Omega.{arith}
use native.Mathlib.Nat.{mod-eq_of_lt, sub-zero}
use lib.Dec.{eqb, ltb}
use lib.ListN.{length, get_or, set, length-set}
use lib.Seq.{get_or-set_same, get_or-set_other}
use borrow.Author.Tests.{eqb-true, eq-eqb, ne_eqb, lt-ltb, le-ltb, ltb-true}
use Rattle.base.specs.Choice.{pick}
use Rattle.base.specs.Matrix.{entry, Below}
use Rattle.base.specs.Sum.{sum, bit}
use Rattle.base.proofs.Choice.{either, picked}
use Rattle.base.proofs.Sum.{sum-ext}
use Rattle.base.proofs.Search.{first-ext}
use Rattle.base.proofs.Fill.{length-laid, laid_out, laid_in}
use Rattle.base.proofs.Matrix.{row_fits, rows_apart}
use Rattle.field.specs.Prime.{Prime, inverse_of}
use Rattle.field.proofs.Congruence.{cong-by}
use Rattle.row_steps.specs.Rows.{add_entry, add_row, scale_row}
use Rattle.row_steps.proofs.Rows.{below-add, below-scale}
use Rattle.field.specs.Dot.{at}
use Rattle.gauss.specs.Gauss.{State, scaled, clear, usable, pivot_of, use_row, column, gauss, start, reduced, elsewhere, others, column_steps, steps}
use Rattle.gauss.proofs.Steps.{column-steps-le}
use Rattle.elimination.specs.Inner.{buffers, other_entry, ColumnCleared, Reduction}
use Rattle.elimination.specs.Elimination.{clear_row, clear_to, Flat, view, flat_pivot, flat_use, flat_column, flat_reduce, flat_steps, Shows}

-- A COLUMN CLEARED
module _ (p W k c : ℕ) where
  pub clear-start : (a : List ℕ) → a ≡ clear_to p W k c 0 a
  unfolding clear_to
  clear-start a = refl

  -- the row is passed over, or a multiple of the pivot row is taken from it
  clear-row-by : (Z : List ℕ → Type 0) (r : ℕ) (a : List ℕ) → Z a → Z (add_row p (p - entry W a r c) (r * W) (k * W) W a) → Z (clear_row p W k c r a)
  unfolding clear_row
  clear-row-by Z r a x y = go (eqb r k) (eqb (entry W a r c) 0)
    where
      go : (s t : Bool) → Z (pick s a (pick t a (add_row p (p - entry W a r c) (r * W) (k * W) W a)))
      go true t = x
      go false true = x
      go false false = y

  length-clear_row : (r : ℕ) (a : List ℕ) → length (clear_row p W k c r a) ≡ length a
  unfolding add_row
  length-clear_row r a = clear-row-by (λ b. length b ≡ length a) r a refl (length-laid _ (r * W) W a)

  pub length-clear : (n : ℕ) (a : List ℕ) → length (clear_to p W k c n a) ≡ length a
  unfolding clear_to
  length-clear zero a = refl
  length-clear (suc n) a = length-clear_row n (clear_to p W k c n a) ∙ length-clear n a

  pub below_row : (r : ℕ) (a : List ℕ) → 0 < p → Below p a → Below p (clear_row p W k c r a)
  below_row r a hp all = clear-row-by (Below p) r a all (below-add p _ (r * W) (k * W) W a hp all)

  pub below-clear : (n : ℕ) (a : List ℕ) → 0 < p → Below p a → Below p (clear_to p W k c n a)
  unfolding clear_to
  below-clear zero a hp all = all
  below-clear (suc n) a hp all = below_row n (clear_to p W k c n a) hp (below-clear n a hp all)

  row_other : (r : ℕ) (a : List ℕ) (i j : ℕ) → i ≢ r → j < W → entry W (clear_row p W k c r a) i j ≡ entry W a i j
  unfolding add_row
  row_other r a i j h l =
      clear-row-by (λ b. entry W b i j ≡ entry W a i j) r a refl
      (laid_out _ (r * W) W a (i * W + j) 0 (⊎_elim (λ m. inl (omega arith)) (λ m. inr (omega arith)) (rows_apart W i r h)))

  row-pivot : (a : List ℕ) → clear_row p W k c k a ≡ a
  unfolding clear_row
  row-pivot a = rw (eq-eqb k k refl)

  row_same : (R r : ℕ) (a : List ℕ) (j : ℕ) → length a ≡ R * W → Below p a → r < R → r ≢ k → j < W
      → entry W (clear_row p W k c r a) r j ≡ add_entry p (p - entry W a r c) (entry W a r j) (entry W a k j)
  unfolding clear_row add_row
  row_same R r a j len low l h m = go (eqb r k) refl (eqb (entry W a r c) 0) refl
    where
      go : (x : Bool) → eqb r k ≡ x → (y : Bool) → eqb (entry W a r c) 0 ≡ y
          → entry W (pick x a (pick y a (add_row p (p - entry W a r c) (r * W) (k * W) W a))) r j ≡ add_entry p (p - entry W a r c) (entry W a r j) (entry W a k j)
      go true e y f = absurd (h (eqb-true r k e))
      go false e false f =
          laid_in _ (r * W) W a j 0 (omega (arith, row_fits R W r l)) m
      go false e true f =
          rw (eqb-true (entry W a r c) 0 f)
          (sym (rw (sub-zero p) (cong-by p (entry W a k j) _ (entry W a r j) (omega arith) ∙ mod-eq_of_lt (low (r * W + j)))))

  -- rows from n on, and the pivot row, are as they were
  clear-late : (n : ℕ) (a : List ℕ) (i j : ℕ) → n ≤ i → j < W → entry W (clear_to p W k c n a) i j ≡ entry W a i j
  unfolding clear_to
  clear-late zero a i j h l = refl
  clear-late (suc n) a i j h l = row_other n (clear_to p W k c n a) i j (λ e. omega arith) l ∙ clear-late n a i j (omega arith) l

  clear-pivot : (n : ℕ) (a : List ℕ) (j : ℕ) → j < W → entry W (clear_to p W k c n a) k j ≡ entry W a k j
  unfolding clear_to
  clear-pivot zero a j l = refl
  clear-pivot (suc n) a j l =
      either k n (entry W (clear_row p W k c n (clear_to p W k c n a)) k j ≡ entry W a k j)
      (λ e. subst (λ m. entry W (clear_row p W k c m (clear_to p W k c n a)) k j ≡ entry W a k j) e
      (ap (λ (z : List ℕ). entry W z k j) (row-pivot (clear_to p W k c n a)) ∙ clear-pivot n a j l))
      (λ e. row_other n (clear_to p W k c n a) k j e l ∙ clear-pivot n a j l)

  clear-same : (R n : ℕ) (a : List ℕ) (i j : ℕ) → 0 < p → length a ≡ R * W → Below p a → n ≤ R → i < n → i ≢ k → j < W → c < W
      → entry W (clear_to p W k c n a) i j ≡ add_entry p (p - entry W a i c) (entry W a i j) (entry W a k j)
  unfolding clear_to
  clear-same R zero a i j pos len low h l ne m o = absurd (omega arith)
  clear-same R (suc n) a i j pos len low h l ne m o =
      either i n (entry W (clear_row p W k c n b) i j ≡ add_entry p (p - entry W a i c) (entry W a i j) (entry W a k j))
      (λ e. subst (λ z. entry W (clear_row p W k c z b) i j ≡ add_entry p (p - entry W a i c) (entry W a i j) (entry W a k j)) e
      (row_same R i b j (length-clear n a ∙ len) (below-clear n a pos low) (omega arith) ne m
      ∙ ap₂ (λ u v. add_entry p (p - u) v (entry W b k j)) (clear-late n a i c (omega arith) o) (clear-late n a i j (omega arith) m)
      ∙ ap (add_entry p (p - entry W a i c) (entry W a i j)) (clear-pivot n a j m)))
      (λ e. row_other n b i j e m ∙ clear-same R n a i j pos len low (omega arith) (omega (arith, e)) ne m o)
    where
      b : List ℕ
      b = clear_to p W k c n a

  -- ITS SUBTRACTIONS
  -- the next row, by the entry f that is read of it
  module _ (r f : ℕ) (b : List ℕ) (l : c < W) (e : f ≡ other_entry b (r * W) (k * W) c) where
    own-entry : r ≢ k → f ≡ entry W b r c
    own-entry h = e ∙ rw (ne_eqb (r * W) (k * W) (λ s. ⊎_elim (λ m. omega arith) (λ m. omega arith) (rows_apart W r k h)))

    -- it is the pivot row or has no entry: it stays and does not count
    pub passed : f ≡ 0 → (b ≡ clear_row p W k c r b) × (bit (elsewhere k (λ i. entry W b i c) r) ≡ 0)
    unfolding clear_row elsewhere bit
    passed z =
        either r k _
        (λ h. (rw (eq-eqb r k h) refl, rw (eq-eqb k r (sym h)) refl))
        (λ h. let v = eq-eqb (entry W b r c) 0 (sym (own-entry h) ∙ z) in (rw (ne_eqb r k h, v) refl, rw (ne_eqb k r (λ s. h (sym s)), v) refl))

    -- or a multiple of the pivot row is subtracted
    pub not-pivot : f ≢ 0 → r ≢ k
    not-pivot n h = n (e ∙ rw (eq-eqb (r * W) (k * W) (ap (λ x. x * W) h)))

    pub cleared : f ≢ 0 → (add_row p (p - f) (r * W) (k * W) W b ≡ clear_row p W k c r b) × (bit (elsewhere k (λ i. entry W b i c) r) ≡ 1)
    unfolding clear_row elsewhere bit
    cleared n =
        let h = not-pivot n in
        let v = ne_eqb (entry W b r c) 0 (λ z. n (own-entry h ∙ z)) in
        (rw (ne_eqb r k h, v, ← own-entry h) refl, rw (ne_eqb k r (λ s. h (sym s)), v) refl)

  -- what is left after the rows before r and row r, and how many were counted
  pub rows-below : (r : ℕ) (a b : List ℕ) → b ≡ clear_to p W k c r a → 0 < p → Below p a → Below p b
  rows-below r a b e pos all = rw e (below-clear r a pos all)

  pub other-below : (t f : ℕ) (b : List ℕ) → f ≡ other_entry b t (k * W) c → 0 < p → Below p b → f < p
  other-below t f b e pos all = rw e (picked (λ x. x < p) (eqb t (k * W)) 0 (at b (t + c)) pos (all (t + c)))

  -- one row more, which has been passed over, or from which a multiple of the pivot row has been taken
  module _ (t r f n m : ℕ) (a b x : List ℕ) (l : c < W) (q : t ≡ r * W) (e : f ≡ other_entry b t (k * W) c) (so : ColumnCleared p r W k c a b n) where
    here : f ≡ other_entry b (r * W) (k * W) c
    here = e ∙ ap (λ z. other_entry b z (k * W) c) q

    pub one-more : x ≡ clear_row p W k c r b → bit (elsewhere k (λ i. entry W b i c) r) + n ≡ m → ColumnCleared p (r + 1) W k c a x m
    unfolding clear_to others elsewhere sum
    one-more g h =
        record {
          matrix = rw add-one (g ∙ ap (clear_row p W k c r) so.matrix);
          steps = rw add-one (omega (arith, h, so.steps, ap (λ y. bit (not (eqb k r) && not (eqb y 0))) (ap (λ (z : List ℕ). entry W z r c) so.matrix ∙ clear-late r a r c (omega arith) l)));
        }

    pub row_passed : f ≡ 0 → x ≡ b → m ≡ n → ColumnCleared p (r + 1) W k c a x m
    row_passed z g h = let s = passed r f b l here z in one-more (g ∙ s.0) (omega (arith, s.1))

    pub row_taken : f ≢ 0 → x ≡ add_row p (p - f) t (k * W) W b → m ≡ n + 1 → ColumnCleared p (r + 1) W k c a x m
    row_taken z g h = let s = cleared r f b l here z in one-more (g ∙ ap (λ y. add_row p (p - f) y (k * W) W b) q ∙ s.0) (omega (arith, s.1))

  -- scaling the pivot row leaves the other rows, and the pivot row does not count
  pub scaling-counts : (R h : ℕ) (a : List ℕ) → c < W → others R k (λ i. entry W (scale_row p h (k * W) W a) i c) ≡ others R k (λ i. entry W a i c)
  unfolding others elsewhere scale_row
  scaling-counts R h a l = sum-ext R _ _ (λ i m. either k i (counted i (entry W (scale_row p h (k * W) W a) i c) ≡ counted i (entry W a i c))
      (λ e. rw (eq-eqb k i e) refl)
      (λ e. ap (counted i) (laid_out _ (k * W) W a (i * W + c) 0 (⊎_elim (λ q. inl (omega arith)) (λ q. inr (omega arith)) (rows_apart W i k (λ d. e (sym d)))))))
    where
      counted : ℕ → ℕ → ℕ
      counted i x = bit (not (eqb k i) && not (eqb x 0))

-- THE BUFFER SHOWS THE MATRIX
-- what is read off two matrices that agree inside the range is the same
module _ (R : ℕ) (s t : State) (marks : (i : ℕ) → i < R → s.used i ≡ t.used i) where
  pivot-agrees : (c : ℕ) → ((i : ℕ) → i < R → s.mat i c ≡ t.mat i c) → pivot_of R c s ≡ pivot_of R c t
  unfolding pivot_of usable
  pivot-agrees c h = first-ext (usable s c) (usable t c) R (λ i m. rw (marks i m, h i m) refl)

  steps-agree : (c : ℕ) → ((i : ℕ) → i < R → s.mat i c ≡ t.mat i c) → column_steps R c s ≡ column_steps R c t
  unfolding column_steps others elsewhere
  steps-agree c h =
      ap (λ k. pick (ltb k R) (others R k (λ i. s.mat i c)) 0) (pivot-agrees c h)
      ∙ ap (λ n. pick (ltb (pivot_of R c t) R) n 0) (sum-ext R _ _ (λ i m. ap (λ x. bit (not (eqb (pivot_of R c t) i) && not (eqb x 0))) (h i m)))

module _ (p R W : ℕ) (s : Flat) (t : State) (S : Shows p R W s t) where
  pub pivot-shows : (c : ℕ) → c < W → flat_pivot R W c s ≡ pivot_of R c t
  unfolding flat_pivot
  pivot-shows c l = pivot-agrees R (view W s) t S.rows c (λ i m. S.entries i c m l)

-- a buffer with the entries of G and no row used
pub start-shows : (p R W : ℕ) (s : Flat) (G : ℕ → ℕ → ℕ) → length s.mat ≡ R * W → length s.used ≡ R → Below p s.mat
    → ((i j : ℕ) → i < R → j < W → entry W s.mat i j ≡ G i j % p) → ((i : ℕ) → i < R → at s.used i ≡ 0) → Shows p R W s (start p G)
unfolding start
start-shows p R W s G size marks below entries rows = record { size = size; marks = marks; below = below; entries = entries; rows = rows }

module _ (p : ℕ) (P : Prime p) (R W : ℕ) where
  pos : 0 < p
  pos = omega (arith, P.big)

  clear-here : (k c : ℕ) (M : ℕ → ℕ → ℕ) (j : ℕ) → clear p k c M k j ≡ (inverse_of p (M k c) * M k j) % p
  unfolding clear scaled
  clear-here k c M j = rw (eq-eqb k k refl)

  clear-there : (k c : ℕ) (M : ℕ → ℕ → ℕ) (i j : ℕ) → i ≢ k → clear p k c M i j ≡ (M i j + (p - M i c) * ((inverse_of p (M k c) * M k j) % p)) % p
  unfolding clear scaled
  clear-there k c M i j h = rw (ne_eqb i k h)

  module _ (s : Flat) (t : State) (S : Shows p R W s t) (c k : ℕ) (l : c < W) (m : k < R) where
    -- the buffer with the pivot row scaled
    unfoldable up : List ℕ
    up = scale_row p (inverse_of p (entry W s.mat k c)) (k * W) W s.mat

    up-size : length up ≡ R * W
    unfolding up scale_row
    up-size = length-laid _ (k * W) W s.mat ∙ S.size

    up-below : Below p up
    unfolding up
    up-below = below-scale p _ (k * W) W s.mat pos S.below

    up-here : (j : ℕ) → j < W → entry W up k j ≡ (inverse_of p (t.mat k c) * t.mat k j) % p
    unfolding up scale_row
    up-here j o =
        laid_in _ (k * W) W s.mat j 0 (omega (arith, S.size, row_fits R W k m)) o ∙ rw (S.entries k c m l, S.entries k j m o) refl

    up-there : (i j : ℕ) → i ≢ k → i < R → j < W → entry W up i j ≡ t.mat i j
    unfolding up scale_row
    up-there i j h n o =
        laid_out _ (k * W) W s.mat (i * W + j) 0 (⊎_elim (λ q. inl (omega arith)) (λ q. inr (omega arith)) (rows_apart W i k h)) ∙ S.entries i j n o

    use-shows : Shows p R W (flat_use p R W k c s) (use_row p k c t)
    unfolding flat_use use_row up
    use-shows = record {
      size = length-clear p W k c R up ∙ up-size;
      marks = length-set s.used k (suc c) ∙ S.marks;
      below = below-clear p W k c R up pos up-below;
      entries = λ i j n o. either i k (entry W (clear_to p W k c R up) i j ≡ clear p k c t.mat i j)
          (λ e. rw e (clear-pivot p W k c R up j o ∙ up-here j o ∙ sym (clear-here k c t.mat j)))
          (λ e. clear-same p W k c R R up i j pos up-size up-below (omega arith) n e o l
          ∙ rw (up-there i j e n o, up-there i c e n l, up-here j o) (sym (clear-there k c t.mat i j e)));
      rows = λ i n. either i k (get_or (set s.used k (suc c)) i 0 ≡ pick (eqb i k) (suc c) (t.used i))
          (λ e. rw (e, eq-eqb k k refl) (get_or-set_same s.used k (suc c) 0 (omega (arith, S.marks))))
          (λ e. rw (ne_eqb i k e) (get_or-set_other s.used k i (suc c) 0 e ∙ S.rows i n));
    }

  column-shows : (s : Flat) (t : State) → Shows p R W s t → (c : ℕ) → c < W → Shows p R W (flat_column p R W c s) (column p R c t)
  unfolding flat_column column
  column-shows s t S c l = go (flat_pivot R W c s) (pivot_of R c t) (pivot-shows p R W s t S c l)
    where
      go : (a b : ℕ) → a ≡ b → Shows p R W (pick (ltb a R) (flat_use p R W a c s) s) (pick (ltb b R) (use_row p b c t) t)
      go a b e = rw e (at' (ltb b R) refl)
        where
          at' : (x : Bool) → ltb b R ≡ x → Shows p R W (pick x (flat_use p R W b c s) s) (pick x (use_row p b c t) t)
          at' true d = use-shows s t S c b l (ltb-true b R d)
          at' false d = S

  -- the buffer after c columns shows the matrix after c columns
  pub reduce-shows : (s : Flat) (t : State) → Shows p R W s t → (c : ℕ) → c ≤ W → Shows p R W (flat_reduce p R W c s) (gauss p R c t)
  unfolding flat_reduce gauss
  reduce-shows s t S zero l = S
  reduce-shows s t S (suc c) l = column-shows (flat_reduce p R W c s) (gauss p R c t) (reduce-shows s t S c (omega arith)) c l

  pub reduced-shows : (s : Flat) (G : ℕ → ℕ → ℕ) → Shows p R W s (start p G) → (C : ℕ) → C ≤ W → Shows p R W (flat_reduce p R W C s) (reduced p R C G)
  unfolding reduced
  reduced-shows s G S C l = reduce-shows s (start p G) S C l

  pub steps-show : (s : Flat) (t : State) → Shows p R W s t → (c : ℕ) → c ≤ W → flat_steps p R W c s ≡ steps p R c t
  unfolding flat_steps steps
  steps-show s t S zero l = refl
  steps-show s t S (suc c) l =
      let u = reduce-shows s t S c (omega arith) in
      ap₂ ◌+◌ (steps-show s t S c (omega arith)) (steps-agree R (view W (flat_reduce p R W c s)) (gauss p R c t) u.rows c (λ i m. u.entries i c m l))

-- STEPS OF THE CODE
module _ (p R W : ℕ) where
  pub column-some : (c : ℕ) (s t : Flat) (r : ℕ) → r ≡ flat_pivot R W c s → r < R → t ≡ flat_use p R W r c s → t ≡ flat_column p R W c s
  unfolding flat_column
  column-some c s t r e l h = rw (← e, lt-ltb r R l) h

  pub column-none : (c : ℕ) (s : Flat) (r : ℕ) → r ≡ flat_pivot R W c s → R ≤ r → s ≡ flat_column p R W c s
  unfolding flat_column
  column-none c s r e l = rw (← e, le-ltb r R l)

  pub counts_some : (c : ℕ) (s : Flat) (r n : ℕ) → r ≡ flat_pivot R W c s → r < R → n ≡ others R r (λ i. entry W s.mat i c) → n ≡ column_steps R c (view W s)
  unfolding column_steps flat_pivot
  counts_some c s r n e l h = rw (← e, lt-ltb r R l) h

  pub counts-none : (c : ℕ) (s : Flat) (r : ℕ) → r ≡ flat_pivot R W c s → R ≤ r → 0 ≡ column_steps R c (view W s)
  unfolding column_steps flat_pivot
  counts-none c s r e l = rw (← e, le-ltb r R l)

  counts_step : (c : ℕ) (s t : Flat) (n m : ℕ) → t ≡ flat_reduce p R W c s → n ≡ flat_steps p R W c s → m ≡ column_steps R c (view W t)
      → n + m ≡ flat_steps p R W (c + 1) s
  unfolding flat_steps
  counts_step c s t n m e f g = rw (add-one c, f, g, e)

  counts-le : (c : ℕ) (s : Flat) → flat_steps p R W c s ≤ c * R
  unfolding flat_steps
  counts-le zero s = omega arith
  counts-le (suc c) s = omega (arith, counts-le c s, column-steps-le R c (view W (flat_reduce p R W c s)))

  reduce-step : (c : ℕ) (s t u : Flat) → t ≡ flat_reduce p R W c s → u ≡ flat_column p R W c t → u ≡ flat_reduce p R W (c + 1) s
  unfolding flat_reduce
  reduce-step c s t u e f = rw (add-one c) (f ∙ ap (flat_column p R W c) e)

  pub below-column : (c : ℕ) (s : Flat) → 0 < p → Below p s.mat → Below p (flat_column p R W c s).mat
  unfolding flat_column flat_use
  below-column c s pos all = go (ltb (flat_pivot R W c s) R)
    where
      go : (b : Bool) → Below p (pick b (flat_use p R W (flat_pivot R W c s) c s) s).mat
      go true = below-clear p W (flat_pivot R W c s) c R _ pos (below-scale p _ _ W s.mat pos all)
      go false = all

  below-reduced : (c : ℕ) (s : Flat) → 0 < p → Below p s.mat → Below p (flat_reduce p R W c s).mat
  unfolding flat_reduce
  below-reduced zero s hp all = all
  below-reduced (suc c) s hp all = below-column c (flat_reduce p R W c s) hp (below-reduced c s hp all)

  pub below-reduce : (c : ℕ) (s t : Flat) → t ≡ flat_reduce p R W c s → 0 < p → Below p s.mat → Below p t.mat
  below-reduce c s t e pos all = rw e (below-reduced c s pos all)

  pub used-is : (r c : ℕ) (a u b m : List ℕ) (k w : ℕ) → k ≡ inverse_of p (entry W a r c) → b ≡ scale_row p k (r * W) W a → m ≡ clear_to p W r c R b
      → w ≡ c + 1 → ◌≡◌ {A = Flat} (record { mat = m; used = set u r w }) (flat_use p R W r c (record { mat = a; used = u }))
  unfolding flat_use
  used-is r c a u b m k w ek eb em ew = rw (em, eb, ek, ew, add-one c)

-- one column more
pub passes : {p R W c : ℕ} {a u b v : List ℕ} {n : ℕ} → Reduction p R W c a u b v n → (x y : List ℕ) → buffers x y ≡ flat_column p R W c (buffers b v)
    → (m : ℕ) → m ≡ column_steps R c (view W (buffers b v)) → Reduction p R W (c + 1) a u x y (n + m)
passes {p} {R} {W} {c} {a} {u} {b} {v} {n} r x y e m g = record {
  state = reduce-step p R W c (buffers a u) (buffers b v) (buffers x y) r.state e;
  steps = counts_step p R W c (buffers a u) (buffers b v) n m r.state r.steps g;
}

pub renamed : {p R W c : ℕ} {a u b v x y : List ℕ} {n m : ℕ} → Reduction p R W c a u b v n → x ≡ b → y ≡ v → m ≡ n → Reduction p R W c a u x y m
renamed r e f g = rw (e, f, g) r

pub counted-le : {p R W C : ℕ} {a u b v : List ℕ} {n : ℕ} → Reduction p R W C a u b v n → n ≤ C * R
counted-le {p} {R} {W} {C} {a} {u} r = rw r.steps (counts-le p R W C (buffers a u))
