-- The laws of `tab`, `laid` and `filled`: lengths, entries, and the store by which a loop writes one entry, or one row of a flat matrix, more.
use mathlib.Core.Path.{◌≡◌, refl, ap, sym, subst, ◌∙◌}
use mathlib.Core.List.{List, [], ◌∷◌}
use mathlib.Core.Logic.{◌⊎◌, inl, inr, ⊎_elim}
use Prim.Native.Nat.{ℕ, zero, suc, ◌+◌, ◌-◌, ◌*◌, ◌<◌, ◌≤◌}
use native.Mathlib.Nat.{le_of_suc-le-suc, not-suc-le-zero, add_assoc, add-zero, zero-add, add-suc}
use native.Mathlib.Numerals.{add-one}
use native.Mathlib.Decide.{dec_lt}
use native.Mathlib.Omega.{arith}
use lib.Arith.{digits_div, digits_mod}
use lib.ListN.{length, get_or, set, length-set}
use lib.Seq.{ext_get_or, get_or-set_same, get_or-set_other}
use denote.Param.Members.{Mut}
use Rattle.std.specs.Array.{IsFromFnResultFrom, IsFromFnResult}
use Rattle.std.specs.Fn.{Called}
use Rattle.base.specs.Search.{Vec}
use Rattle.base.specs.Fill.{tab_from, tab, laid, filled}
use Rattle.base.specs.Matrix.{flat}
use Rattle.base.proofs.Choice.{either}

-- a place outside the n entries from t on
abbrev pub Outside : (t n k : ℕ) → Type 0
Outside t n k = (k < t) ⊎ (t + n ≤ k)

module _ {A : Type 0} where
  length-tab_from : (i n : ℕ) (f : ℕ → A) → length (tab_from i n f) ≡ n
  unfolding tab_from
  length-tab_from i zero f = refl
  length-tab_from i (suc n) f = ap suc (length-tab_from (suc i) n f)

  get_d-tab_from : (i n : ℕ) (f : ℕ → A) (z : A) (k : ℕ) → k < n → get_or (tab_from i n f) k z ≡ f (i + k)
  unfolding tab_from
  get_d-tab_from i zero f z k h = absurd (not-suc-le-zero h)
  get_d-tab_from i (suc n) f z zero h = ap f (sym (add-zero i))
  get_d-tab_from i (suc n) f z (suc k) h = get_d-tab_from (suc i) n f z k (le_of_suc-le-suc h) ∙ ap f (omega arith)

  pub length-tab : (n : ℕ) (f : ℕ → A) → length (tab n f) ≡ n
  unfolding tab
  length-tab n f = length-tab_from 0 n f

  pub get_d-tab : (n : ℕ) (f : ℕ → A) (z : A) (k : ℕ) → k < n → get_or (tab n f) k z ≡ f k
  unfolding tab
  get_d-tab n f z k h = get_d-tab_from 0 n f z k h ∙ ap f (omega arith)

  -- a list with the table's entries is the table
  pub tab-is : (n : ℕ) (f : ℕ → A) (z : A) (l : List A) → length l ≡ n → ((k : ℕ) → k < n → get_or l k z ≡ f k) → l ≡ tab n f
  tab-is n f z l e h = ext_get_or z l (tab n f) (e ∙ sym (length-tab n f)) (λ k m. let o : k < n = omega (arith, e) in h k o ∙ sym (get_d-tab n f z k o))

  tab_from-ext : (i n : ℕ) (f g : ℕ → A) → ((k : ℕ) → k < i + n → f k ≡ g k) → tab_from i n f ≡ tab_from i n g
  unfolding tab_from
  tab_from-ext i zero f g h = refl
  tab_from-ext i (suc n) f g h = rw (h i (omega arith), tab_from-ext (suc i) n f g (λ k l. h k (omega arith))) refl

  pub tab-ext : (n : ℕ) (f g : ℕ → A) → ((k : ℕ) → k < n → f k ≡ g k) → tab n f ≡ tab n g
  unfolding tab
  tab-ext n f g h = tab_from-ext 0 n f g (λ k l. h k (omega arith))

  pub laid_none : (f : ℕ → A) (t : ℕ) (a : List A) → a ≡ laid f t 0 a
  unfolding laid
  laid_none f t a = refl

  -- one store more, in the form that a loop's turn asks
  pub laid-store : (f : ℕ → A) (t n : ℕ) (x l : List A) (v : A) → l ≡ laid f t n x → v ≡ f n → set l (t + n) v ≡ laid f t (n + 1) x
  unfolding laid
  laid-store f t n x l v e h = rw (e, h, add-one n) refl

  pub length-laid : (f : ℕ → A) (t n : ℕ) (a : List A) → length (laid f t n a) ≡ length a
  unfolding laid
  length-laid f t zero a = refl
  length-laid f t (suc n) a = simp (length-set, length-laid f t n a)

  pub laid_out : (f : ℕ → A) (t n : ℕ) (a : List A) (k : ℕ) (z : A) → Outside t n k → get_or (laid f t n a) k z ≡ get_or a k z
  unfolding laid
  laid_out f t zero a k z h = refl
  laid_out f t (suc n) a k z h =
      get_or-set_other (laid f t n a) (t + n) k _ z (⊎_elim (λ l. omega arith) (λ l. omega arith) h)
      ∙ laid_out f t n a k z (⊎_elim (λ l. inl l) (λ l. inr (omega arith)) h)

  pub laid_in : (f : ℕ → A) (t n : ℕ) (a : List A) (c : ℕ) (z : A) → t + n ≤ length a → c < n → get_or (laid f t n a) (t + c) z ≡ f c
  unfolding laid
  laid_in f t zero a c z fits h = absurd (omega arith)
  laid_in f t (suc n) a c z fits h =
      either c n (get_or (set (laid f t n a) (t + n) (f n)) (t + c) z ≡ f c)
      (λ e. rw e (get_or-set_same (laid f t n a) (t + n) (f n) z (omega (arith, length-laid f t n a))))
      (λ e. get_or-set_other (laid f t n a) (t + n) (t + c) (f n) z (omega (arith, e)) ∙ laid_in f t n a c z (omega arith) (omega (arith, e)))

  -- a list with those entries there, and all else as it was
  pub laid-is : (f : ℕ → A) (t n : ℕ) (z : A) (a l : List A) → length l ≡ length a → t + n ≤ length a → ((c : ℕ) → c < n → get_or l (t + c) z ≡ f c)
      → ((k : ℕ) → Outside t n k → get_or l k z ≡ get_or a k z) → l ≡ laid f t n a
  laid-is f t n z a l size fits h kept = ext_get_or z l _ (size ∙ sym (length-laid f t n a)) (λ k m. go k (dec_lt k t) (dec_lt k (t + n)))
    where
      inside : (k c : ℕ) → k ≡ t + c → c < n → get_or l k z ≡ get_or (laid f t n a) k z
      inside k c q m = rw q (h c m ∙ sym (laid_in f t n a c z fits m))

      go : (k : ℕ) → Dec (k < t) → Dec (k < t + n) → get_or l k z ≡ get_or (laid f t n a) k z
      go k (yes b) q = kept k (inl b) ∙ sym (laid_out f t n a k z (inl b))
      go k (no b) (yes q) = inside k (k - t) (omega arith) (omega arith)
      go k (no b) (no q) = kept k (inr (omega arith)) ∙ sym (laid_out f t n a k z (inr (omega arith)))

  pub laid-ext : (f g : ℕ → A) (t n : ℕ) (a : List A) → ((j : ℕ) → j < n → f j ≡ g j) → laid f t n a ≡ laid g t n a
  unfolding laid
  laid-ext f g t zero a h = refl
  laid-ext f g t (suc n) a h = rw (laid-ext f g t n a (λ j l. h j (omega arith)), h n (omega arith)) refl

  -- in two parts, where the second may be given by another function
  pub laid-parts : (f g : ℕ → A) (t m n : ℕ) (a : List A) → ((j : ℕ) → j < n → g j ≡ f (m + j))
      → laid g (t + m) n (laid f t m a) ≡ laid f t (m + n) a
  unfolding laid
  laid-parts f g t m zero a h = rw add-zero refl
  laid-parts f g t m (suc n) a h =
      rw (laid-parts f g t m n a (λ j l. h j (omega arith)), h n (omega arith), add_assoc t m n, add-suc m n) refl

  -- the whole list, where its entries may be given by another function
  pub laid-whole : (f g : ℕ → A) (n : ℕ) (z : A) (a : List A) → length a ≡ n → ((k : ℕ) → k < n → f k ≡ g k) → laid f 0 n a ≡ tab n g
  laid-whole f g n z a e h =
      tab-is n g z (laid f 0 n a) (length-laid f 0 n a ∙ e)
      (λ k l. ap (λ i. get_or (laid f 0 n a) i z) (sym (zero-add k)) ∙ laid_in f 0 n a k z (omega (arith, e)) l ∙ h k l)

  pub filled_none : (f : ℕ → A) (l : List A) → l ≡ filled f 0 l
  unfolding filled
  filled_none f l = refl

  pub length-filled : (f : ℕ → A) (k : ℕ) (l : List A) → length (filled f k l) ≡ length l
  unfolding filled
  length-filled f zero l = refl
  length-filled f (suc k) [] = refl
  length-filled f (suc k) (x ∷ xs) = ap suc (length-filled (λ i. f (suc i)) k xs)

  filled-suc : (f : ℕ → A) (k : ℕ) (l : List A) → set (filled f k l) k (f k) ≡ filled f (suc k) l
  unfolding filled
  filled-suc f zero [] = refl
  filled-suc f zero (x ∷ xs) = refl
  filled-suc f (suc k) [] = refl
  filled-suc f (suc k) (x ∷ xs) = ap (λ l. f 0 ∷ l) (filled-suc (λ i. f (suc i)) k xs)

  -- one store more, in the form that a loop's turn asks
  pub filled-store : (f : ℕ → A) (k : ℕ) (x l : List A) (v : A) → l ≡ filled f k x → v ≡ f k → set l k v ≡ filled f (k + 1) x
  filled-store f k x l v e h = rw (e, h, add-one k) (filled-suc f k x)

  pub get_d-filled : (f : ℕ → A) (k : ℕ) (l : List A) (i : ℕ) (d : A) → i < k → i < length l → get_or (filled f k l) i d ≡ f i
  unfolding filled
  get_d-filled f zero l i d p q = absurd (not-suc-le-zero p)
  get_d-filled f (suc k) [] i d p q = absurd (not-suc-le-zero q)
  get_d-filled f (suc k) (x ∷ xs) zero d p q = refl
  get_d-filled f (suc k) (x ∷ xs) (suc i) d p q = get_d-filled (λ i. f (suc i)) k xs i d (le_of_suc-le-suc p) (le_of_suc-le-suc q)

  pub get_d-filled-past : (f : ℕ → A) (k : ℕ) (l : List A) (i : ℕ) (d : A) → k ≤ i → get_or (filled f k l) i d ≡ get_or l i d
  unfolding filled
  get_d-filled-past f zero l i d p = refl
  get_d-filled-past f (suc k) [] i d p = refl
  get_d-filled-past f (suc k) (x ∷ xs) zero d p = absurd (not-suc-le-zero p)
  get_d-filled-past f (suc k) (x ∷ xs) (suc i) d p = get_d-filled-past (λ i. f (suc i)) k xs i d (le_of_suc-le-suc p)

  -- a list filled whole is the table
  pub filled-whole : (f : ℕ → A) (z : A) (l : List A) → filled f (length l) l ≡ tab (length l) f
  filled-whole f z l = tab-is (length l) f z (filled f (length l) l) (length-filled f (length l) l) (λ k h. get_d-filled f (length l) l k z h h)

  pub flat-at : (d : ℕ) (f : ℕ → ℕ → A) (i c : ℕ) → c < d → f i c ≡ flat d f (i * d + c)
  flat-at d f i c h = rw (digits_div i h, digits_mod i h)

  -- a list that is filled up to where the part begins is then filled up to where it ends
  pub laid_filled : (f g : ℕ → A) (t n : ℕ) (x l : List A) → l ≡ filled g t x → ((j : ℕ) → j < n → f j ≡ g (t + j)) → laid f t n l ≡ filled g (t + n) x
  unfolding laid
  laid_filled f g t zero x l e h = rw (add-zero t) e
  laid_filled f g t (suc n) x l e h =
      rw (add-suc t n, ← add-one (t + n)) (filled-store g (t + n) x (laid f t n l) (f n) (laid_filled f g t n x l e (λ j m. h j (omega arith))) (h n (omega arith)))

  -- a row of a matrix that lies flat
  pub laid-row : (d : ℕ) (f : ℕ → ℕ → A) (i : ℕ) (x l : List A) → l ≡ filled (flat d f) (i * d) x → laid (f i) (i * d) d l ≡ filled (flat d f) ((i + 1) * d) x
  laid-row d f i x l e = laid_filled (f i) (flat d f) (i * d) d x l e (λ j m. flat-at d f i j m) ∙ ap (λ n. filled (flat d f) n x) (omega arith)

-- a table of numbers below p is a vector
pub tab-vec : (p d : ℕ) (f : ℕ → ℕ) → ((k : ℕ) → k < d → f k < p) → Vec p d (tab d f)
tab-vec p d f h = record { size = length-tab d f; small = λ k l. rw (get_d-tab d f 0 k l) (h k l) }

-- a list that is filled whole is the table
pub filled-all : (f : ℕ → ℕ) (n : ℕ) (l : List ℕ) → length l ≡ n → filled f n l ≡ tab n f
filled-all f n l e = rw (← e) (filled-whole f 0 l)

-- what `array::from_fn` gives, where its closure changes nothing that it holds
module _ {F A : Type 0} (g : Mut F (ℕ × Unit {0}) A) (f : F) (h : ℕ → A) (z : A) (l : List A) where
  from_fn-at : (n i : ℕ) → IsFromFnResultFrom g f l i n → ((j : ℕ) (y : A) (q : F) → j < i + n → Called g f (j, tt) y q → (y ≡ h j) × (q ≡ f))
      → (k : ℕ) → i ≤ k → k < i + n → get_or l k z ≡ h k
  from_fn-at zero i w call k low high = absurd (omega arith)
  from_fn-at (suc n) i w call k low high =
      let r = call i w.1 w.0 (omega arith) w.3 in
      either k i (get_or l k z ≡ h k) (λ e. rw e (w.2.1 z ∙ r.0))
      (λ e. from_fn-at n (i + 1) (subst (λ (q : F). IsFromFnResultFrom g q l (i + 1) n) r.1 w.4) (λ j y q m. call j y q (omega arith)) k (omega (arith, e)) (omega arith))

  pub tab-from_fn : (n : ℕ) → IsFromFnResult g f l n → ((j : ℕ) (y : A) (q : F) → j < n → Called g f (j, tt) y q → (y ≡ h j) × (q ≡ f)) → l ≡ tab n h
  tab-from_fn n w call = tab-is n h z l w.long (λ k m. from_fn-at n 0 w.each (λ j y q b. call j y q (omega arith)) k (omega arith) (omega arith))
