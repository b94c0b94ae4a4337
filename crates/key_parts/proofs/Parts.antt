-- The laws of the parts: sums in lanes, and parts written entry by entry.
-- lane: lane j's sum after k columns
use Prim.Native.Nat.{ℕ, ◌+◌, ◌*◌, ◌/◌, ◌%◌, ◌≤◌, ◌<◌}
use mathlib.Core.Path.{◌≡◌, refl, sym, ap, ◌∙◌}
use mathlib.Core.List.{List, []}
use native.Mathlib.Nat.{zero-add}
use native.Mathlib.Omega.{arith}
use lib.ListN.{length, get_or}
use Rattle.base.specs.Fill.{tab}
use Rattle.base.specs.Matrix.{flat, Below}
use Rattle.base.proofs.Fill.{get_d-tab, tab-ext, tab-is}
use Rattle.base.proofs.Matrix.{below-tab, place_at}
use Rattle.base.proofs.Rows.{Begun, begun-at}
use Rattle.field.specs.Dot.{at, dot}
use Rattle.field.proofs.Dot.{dot-step, dot-ext, dot-same, dot-comm, dot-comb, dot-le}
use Rattle.lanes.proofs.Laws.{half_le}
use Rattle.key_entries.specs.Inner.{Lent, key_entry}
use Rattle.key_entries.proofs.Entries.{row_below, column-below}
use Rattle.key_parts.specs.Inner.{Halves, matrix_entry, entry_g, entry_h, parts_g, parts_h}

-- SUMS
abbrev pub lane : (columns : List (List ℕ)) (x : List ℕ) (k j : ℕ) → ℕ
lane columns x k j = dot k (λ k. at (get_or columns k []) j) (at x)

module _ (columns : List (List ℕ)) (x : List ℕ) where
  pub lanes-below : (k : ℕ) (sums : List ℕ) → Halves columns → Below 257 x → k ≤ 7 → sums ≡ tab 32 (lane columns x k) → Below 61440 sums
  lanes-below k sums h g l e =
      rw e (below-tab 61440 32 _ (omega arith) (λ j m.
      omega (arith, dot-le k 4096 (λ k. at (get_or columns k []) j) (at x) (λ i q. half_le _ _ (h.small i (omega arith) j) (g i)))))

  pub lanes_step : (k : ℕ) (sums next : List ℕ) → sums ≡ tab 32 (lane columns x k)
      → next ≡ tab 32 (λ j. get_or sums j 0 + at x k * at (get_or columns k []) j) → next ≡ tab 32 (lane columns x (k + 1))
  lanes_step k sums next e n =
      n ∙ tab-ext 32 _ _ (λ j l. rw (e, get_d-tab 32 (lane columns x k) 0 j l, dot-step k (λ k. at (get_or columns k []) j) (at x)) (omega arith))

  pub lanes-joined : (sums : List ℕ) → sums ≡ tab 32 (lane columns x 7)
      → tab 16 (λ i. (get_or sums i 0 + 16 * get_or sums (16 + i) 0) % 257) ≡ tab 16 (λ i. dot 7 (matrix_entry columns i) (at x) % 257)
  unfolding matrix_entry
  lanes-joined sums e =
      tab-ext 16 _ _
      (λ i l.
      rw (e, get_d-tab 32 (lane columns x 7) 0 i (omega arith), get_d-tab 32 (lane columns x 7) 0 (16 + i) (omega arith))
      (ap (λ z. z % 257) (
      omega (arith, dot-comb 7 1 16 (λ k. at (get_or columns k []) i) (λ k. at (get_or columns k []) (16 + i)) (at x))
      ∙ dot-same 7 (λ k. 1 * at (get_or columns k []) i + 16 * at (get_or columns k []) (16 + i)) _ (at x) (at x) (λ k m. omega arith) (λ k m. refl)
      )))

-- products with a column and with a row of F are entries of g and of h
with-vector : (u f : ℕ → ℕ) (x : List ℕ) → x ≡ tab 7 f → dot 7 u (at x) ≡ dot 7 u f
with-vector u f x e = dot-ext 7 u (at x) f (λ k l. rw e (get_d-tab 7 f 0 k l))

module _ (columns : List (List ℕ)) (key random x : List ℕ) where
  pub products-g : (b : ℕ) (entries : List ℕ) → x ≡ tab 7 (λ k. key_entry key random k b)
      → entries ≡ tab 16 (λ i. dot 7 (matrix_entry columns i) (at x) % 257) → entries ≡ tab 16 (λ i. entry_g (matrix_entry columns) key random i b)
  unfolding entry_g
  products-g b entries e h =
      h ∙ tab-ext 16 _ _ (λ i l. ap (λ z. z % 257) (with-vector (matrix_entry columns i) (λ k. key_entry key random k b) x e))

  pub products-h : (k : ℕ) (entries : List ℕ) → x ≡ tab 7 (key_entry key random k)
      → entries ≡ tab 16 (λ i. dot 7 (matrix_entry columns i) (at x) % 257) → entries ≡ tab 16 (λ i. entry_h (matrix_entry columns) key random i k)
  unfolding entry_h
  products-h k entries e h =
      h
      ∙ tab-ext 16 _ _
      (λ i l.
      ap (λ z. z % 257)
      (with-vector (matrix_entry columns i) (key_entry key random k) x e ∙ dot-comm 7 (matrix_entry columns i) (key_entry key random k)))

-- so with all the columns and all the rows: every g and every h
module _ (columns : List (List ℕ)) (key random : List ℕ) (lines : List (List ℕ)) where
  pub all_products-g : lines ≡ tab 7 (λ b. tab 7 (λ k. key_entry key random k b))
      → tab 112 (flat 7 (λ i c. dot 7 (matrix_entry columns i) (at (get_or lines c [])) % 257)) ≡ parts_g (matrix_entry columns) key random
  unfolding parts_g entry_g
  all_products-g e =
      tab-ext 112 _ _
      (λ t l.
      let b = t % 7 in
      ap (λ z. z % 257)
      (with-vector (matrix_entry columns (t / 7)) (λ k. key_entry key random k b) _ (rw e (get_d-tab 7 (λ b. tab 7 (λ k. key_entry key random k b)) [] b (place_at 7 16 t l).2))))

  pub all_products-h : lines ≡ tab 7 (λ k. tab 7 (key_entry key random k))
      → tab 112 (flat 7 (λ i c. dot 7 (matrix_entry columns i) (at (get_or lines c [])) % 257)) ≡ parts_h (matrix_entry columns) key random
  unfolding parts_h entry_h
  all_products-h e =
      tab-ext 112 _ _
      (λ t l.
      let k = t % 7 in
      let m = matrix_entry columns (t / 7) in
      ap (λ z. z % 257)
      (with-vector m (key_entry key random k) _ (rw e (get_d-tab 7 (λ k. tab 7 (key_entry key random k)) [] k (place_at 7 16 t l).2))
      ∙ dot-comm 7 m (key_entry key random k)))

module _ (key random : List ℕ) (lines : List (List ℕ)) where
  pub rows-below : Lent key random → lines ≡ tab 7 (λ k. tab 7 (key_entry key random k)) → (c : ℕ) → c < 7 → Below 257 (get_or lines c [])
  rows-below ok e c l = row_below key random ok c _ (rw e (get_d-tab 7 (λ k. tab 7 (key_entry key random k)) [] c l))

  pub columns-below : Lent key random → lines ≡ tab 7 (λ b. tab 7 (λ k. key_entry key random k b)) → (c : ℕ) → c < 7 → Below 257 (get_or lines c [])
  columns-below ok e c l = column-below key random ok c _ (rw e (get_d-tab 7 (λ b. tab 7 (λ k. key_entry key random k b)) [] c l))

-- PARTS
pub entry_of : (f : ℕ → ℕ) (entries : List ℕ) → entries ≡ tab 16 f → (t : ℕ) → t < 16 → at entries t ≡ f t
entry_of f entries e t l = rw e (get_d-tab 16 f 0 t l)

-- all seven entries of each of the sixteen parts
pub parts_all : (f : ℕ → ℕ → ℕ) (out : List ℕ) → length out ≡ 112 → Begun 7 16 0 f 7 out → out ≡ tab 112 (flat 7 f)
parts_all f out e w = tab-is 112 (flat 7 f) 0 out e (λ t l. ap (at out) (sym (zero-add t)) ∙ begun-at 7 16 0 f out w t l)

-- the parts depend on the matrix's entries alone
module _ (m o : ℕ → ℕ → ℕ) (key random : List ℕ) (same : (i k : ℕ) → i < 16 → k < 7 → m i k ≡ o i k) where
  pub parts-g : parts_g m key random ≡ parts_g o key random
  unfolding parts_g entry_g
  parts-g =
      tab-ext 112 _ _ (λ t l. let w = place_at 7 16 t l in ap (λ z. z % 257) (dot-same 7 _ _ _ _ (λ k h. same (t / 7) k w.1 h) (λ k h. refl)))

  pub parts-h : parts_h m key random ≡ parts_h o key random
  unfolding parts_h entry_h
  parts-h =
      tab-ext 112 _ _ (λ t l. let w = place_at 7 16 t l in ap (λ z. z % 257) (dot-same 7 _ _ _ _ (λ k h. refl) (λ k h. same (t / 7) k w.1 h)))
