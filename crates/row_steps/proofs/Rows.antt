-- What a loop over a row needs: the entries that it has not come to are as they were, so a part of the row goes on with it.
use mathlib.Core.Path.{◌≡◌, sym, ap, ap₂, ◌∙◌}
use mathlib.Core.Logic.{inl, inr, ⊎_elim}
use mathlib.Core.List.{List}
use Prim.Native.Nat.{ℕ, ◌+◌, ◌-◌, ◌*◌, ◌%◌, ◌≤◌, ◌<◌}
use native.Mathlib.Omega.{arith}
use native.Mathlib.Nat.{mod-lt, zero-add, add-zero}
use borrow.Author.Rules.{rules}
use borrow.Rule.Slice.PartMut.{put_mid}
use Rattle.std.proofs.lemmas.Slice.{overwrites}
use Rattle.std.proofs.lemmas.List.{places, length-take, length-drop, get_or-take, get_or-drop}
use lib.ListN.{length, get_or, set, take, drop}
use Rattle.base.specs.Fill.{tab, laid}
use Rattle.base.specs.Matrix.{Below}
use Rattle.base.proofs.Fill.{get_d-tab, laid_none, laid-store, laid_out, laid-ext, laid-parts, laid-is, laid_in, length-laid}
use Rattle.base.proofs.Matrix.{below-laid}
use Rattle.row_steps.specs.Rows.{add_entry, add_row, scale_row, Kept}

-- A MULTIPLE OF ANOTHER ROW ADDED
module _ (p h t q : ℕ) where
  pub add_none : (a : List ℕ) → a ≡ add_row p h t q 0 a
  unfolding add_row
  add_none a = laid_none _ t a

  pub below-add : (n : ℕ) (a : List ℕ) → 0 < p → Below p a → Below p (add_row p h t q n a)
  unfolding add_row
  below-add n a hp all = below-laid p _ t n a (λ j. mod-lt _ hp) all

  -- where n entries are written, the next ones of both rows stand as before
  still : (w n : ℕ) → Kept t q w → (a : List ℕ) (i : ℕ) → n + i < w
      → add_entry p h (get_or (add_row p h t q n a) (t + n + i) 0) (get_or (add_row p h t q n a) (q + n + i) 0)
      ≡ add_entry p h (get_or a (t + (n + i)) 0) (get_or a (q + (n + i)) 0)
  unfolding add_row
  still w n kept a i l =
      ap₂ (add_entry p h)
      (laid_out _ t n a (t + n + i) 0 (inr (omega arith)) ∙ ap (λ k. get_or a k 0) (omega arith))
      (laid_out _ t n a (q + n + i) 0 (⊎_elim (λ m. inr (omega arith)) (λ m. inl (omega arith)) kept) ∙ ap (λ k. get_or a k 0) (omega arith))

  -- one part, then another
  pub add_parts : (w m n : ℕ) → Kept t q w → m + n ≤ w → (a b c : List ℕ) → b ≡ add_row p h t q m a → c ≡ add_row p h (t + m) (q + m) n b → c ≡ add_row p h t q (m + n) a
  add_parts w m n kept l a b c e f = f ∙ ap (add_row p h (t + m) (q + m) n) e ∙ (unfold add_row in laid-parts _ _ t m n a (λ j k. still w m kept a j (omega arith)))

  -- one store more
  pub add_step : (w n : ℕ) → Kept t q w → n < w → (a b : List ℕ) (v : ℕ) → b ≡ add_row p h t q n a → v ≡ add_entry p h (get_or b (t + n) 0) (get_or b (q + n) 0)
      → set b (t + n) v ≡ add_row p h t q (n + 1) a
  unfolding add_row laid
  add_step w n kept l a b v e g =
      add_parts w n 1 kept (omega arith) a b (set b (t + n) v) e (rw (add-zero (t + n), add-zero (q + n)) (ap (set b (t + n)) g))

  -- eight, read before any is written
  pub add-sums : (a y x v b : List ℕ) → y ≡ tab 8 (λ j. get_or a (t + j) 0) → x ≡ tab 8 (λ j. get_or a (q + j) 0)
      → v ≡ tab 8 (λ j. add_entry p h (get_or y j 0) (get_or x j 0)) → b ≡ laid (λ j. get_or v (0 + j) 0) t 8 a → b ≡ add_row p h t q 8 a
  unfolding add_row
  add-sums a y x v b ey ex ev eb = eb ∙ laid-ext _ _ t 8 a here
    where
      here : (j : ℕ) → j < 8 → get_or v (0 + j) 0 ≡ add_entry p h (get_or a (t + j) 0) (get_or a (q + j) 0)
      here j m =
          ap₂ (λ z k. get_or z k 0) ev (zero-add j) ∙ get_d-tab 8 _ 0 j m
          ∙ ap₂ (add_entry p h) (ap (λ z. get_or z j 0) ey ∙ get_d-tab 8 _ 0 j m) (ap (λ z. get_or z j 0) ex ∙ get_d-tab 8 _ 0 j m)

-- a part of a list put back with other entries
put_mid-laid : (f : ℕ → ℕ) (t w : ℕ) (a ys : List ℕ) → t + w ≤ length a → length ys ≡ w → ((j : ℕ) → j < w → get_or ys j 0 ≡ f j)
    → put_mid t (t + w - t) a ys ≡ laid f t w a
put_mid-laid f t w a ys fits long h =
    laid-is f t w 0 a _ (search (rules, places, overwrites)) fits (λ c l. let e : get_or ys c 0 ≡ f c = h c l in search (rules, places)) (λ k o. search (rules, places))

-- A ROW SCALED
module _ (p k t : ℕ) where
  pub scale-none : (a : List ℕ) → a ≡ scale_row p k t 0 a
  unfolding scale_row
  scale-none a = laid_none _ t a

  pub below-scale : (n : ℕ) (a : List ℕ) → 0 < p → Below p a → Below p (scale_row p k t n a)
  unfolding scale_row
  below-scale n a hp all = below-laid p _ t n a (λ j. mod-lt _ hp) all

  pub scale-step : (n : ℕ) (a b : List ℕ) (v : ℕ) → b ≡ scale_row p k t n a → v ≡ add_entry p k 0 (get_or b (t + n) 0)
      → set b (t + n) v ≡ scale_row p k t (n + 1) a
  unfolding scale_row
  scale-step n a b v e g =
      laid-store _ t n a b v e (g ∙ ap (λ (i : ℕ). i % p) (zero-add _)
      ∙ ap (λ i. k * i % p) (ap (λ z. get_or z (t + n) 0) e ∙ laid_out _ t n a (t + n) 0 (inr (omega arith))))

  -- a part of the buffer, scaled and put back
  pub scaled_part : (w : ℕ) (a row : List ℕ) → t + w ≤ length a → row ≡ scale_row p k 0 (length (take (t + w - t) (drop t a))) (take (t + w - t) (drop t a))
      → put_mid t (t + w - t) a row ≡ scale_row p k t w a
  unfolding scale_row
  scaled_part w a row fits e = put_mid-laid _ t w a row fits (ap length e ∙ length-laid _ 0 _ _ ∙ long) inside
    where
      part : List ℕ
      part = take (t + w - t) (drop t a)

      long : length part ≡ w
      long = omega (arith, length-take {A = ℕ}, length-drop {A = ℕ})

      inside : (j : ℕ) → j < w → get_or row j 0 ≡ k * get_or a (t + j) 0 % p
      inside j l =
          ap₂ (λ z i. get_or z i 0) e (sym (zero-add j))
          ∙ laid_in _ 0 (length part) part j 0 (omega arith) (omega (arith, long))
          ∙ ap (λ i. k * i % p) (ap (λ i. get_or part i 0) (zero-add j) ∙ get_or-take (t + w - t) (drop t a) j 0 (omega arith) ∙ get_or-drop t a j 0)

-- one store more, where the row is the whole list
pub scale-next : (p k n : ℕ) (a b : List ℕ) (v : ℕ) → b ≡ scale_row p k 0 n a → v ≡ add_entry p k 0 (get_or b n 0) → set b n v ≡ scale_row p k 0 (n + 1) a
scale-next p k n a b v e g =
    ap (λ i. set b i v) (sym (zero-add n)) ∙ scale-step p k 0 n a b v e (g ∙ ap (λ i. add_entry p k 0 (get_or b i 0)) (sym (zero-add n)))
