-- What the sums and the tests need: bounds of sums of products, one product more, and what an answer says of its tests.
-- below-dot, sums-below: a sum of at most 16 products of field elements, and so in all lanes
-- dot-next, sums_none, sums_next: one product more, and so in all lanes
-- fewer: fewer of the members
-- agreed-no, agreed-yes: what the answer of one column says
-- columns-below: columns that are reduced
use mathlib.Core.Path.{◌≡◌, refl, sym, ap, ◌∙◌}
use mathlib.Core.Bool.{Bool, true, false, not, true≢false}
use mathlib.Core.List.{List, []}
use Prim.Native.Nat.{ℕ, ◌+◌, ◌*◌, ◌%◌, ◌≤◌, ◌<◌}
use native.Mathlib.Decide.{dec_lt}
use native.Mathlib.Omega.{arith}
use lib.ListN.{get_or, replicate, get_or-eq_default}
use Rattle.base.specs.Sum.{sum}
use Rattle.base.specs.Fill.{tab, tab_from}
use Rattle.base.specs.Matrix.{Below}
use Rattle.base.proofs.Fill.{length-tab, get_d-tab, tab-ext}
use Rattle.base.proofs.Matrix.{below-tab}
use Rattle.field.specs.Dot.{at, dot}
use Rattle.field.proofs.Dot.{dot-step, dot-le}
use Rattle.lanes.proofs.Laws.{product_le}
use Rattle.key_weights.specs.Inner.{Depots}
use Rattle.key_weights.proofs.Lanes.{lanes-below}
use Rattle.key_values.specs.Inner.{Columns, Agreed, all, differs}

pub below-dot : (n : ℕ) (u v : ℕ → ℕ) → n ≤ 16 → ((i : ℕ) → i < n → u i < 257) → ((i : ℕ) → i < n → v i < 257) → dot n u v < 1048577
below-dot n u v l hu hv =
    omega (arith, dot-le n 65536 u v (λ i m. product_le (u i) (v i) (hu i m) (hv i m)))

pub sums_none : (u : ℕ → ℕ) (f : ℕ → ℕ → ℕ) → replicate 16 0 ≡ tab 16 (λ i. dot 0 u (λ a. f a i))
unfolding dot sum tab tab_from
sums_none u f = refl

pub sums_next : (n : ℕ) (u : ℕ → ℕ) (f : ℕ → ℕ → ℕ) (s w : List ℕ) → s ≡ tab 16 (λ i. dot n u (λ a. f a i)) → w ≡ tab 16 (f n)
    → tab 16 (λ i. at s i + u n * at w i) ≡ tab 16 (λ i. dot (n + 1) u (λ a. f a i))
sums_next n u f s w e h =
    tab-ext 16 _ _ (λ i l. ap (λ (z : List ℕ). at z i + u n * at w i) e ∙ ap (λ (z : List ℕ). at (tab 16 (λ i. dot n u (λ a. f a i))) i + u n * at z i) h
    ∙ rw (get_d-tab 16 (λ i. dot n u (λ a. f a i)) 0 i l, get_d-tab 16 (f n) 0 i l) (sym (dot-step n u (λ a. f a i))))

pub sums-below : (n : ℕ) (u : ℕ → ℕ) (f : ℕ → ℕ → ℕ) (s : List ℕ) → n ≤ 16 → ((a : ℕ) → u a < 257) → ((a i : ℕ) → f a i < 257)
    → s ≡ tab 16 (λ i. dot n u (λ a. f a i)) → Below 1048577 s
sums-below n u f s l hu hf e =
    rw e (below-tab 1048577 16 (λ i. dot n u (λ a. f a i)) (omega arith) (λ i m. below-dot n u (λ a. f a i) l (λ a h. hu a) (λ a h. hf a i)))

pub dot-next : (i : ℕ) (u v : ℕ → ℕ) (s y : ℕ) → s ≡ dot i u v → y ≡ v i → s + u i * y ≡ dot (i + 1) u v
dot-next i u v s y e h = rw (e, h) (sym (dot-step i u v))

pub fewer : {k j : ℕ} {ms : List ℕ} → Depots k ms → j ≤ k → Depots j ms
fewer D l = record {
  fits = omega (arith, D.fits);
  below = λ a m. D.below a (omega arith);
  rise = λ a b m n. D.rise a b m (omega arith);
}

-- ANSWERS OF TESTS
pub agreed-no : (k : ℕ) (t : ℕ → Bool) (r : Bool) → Agreed k t r → not r ≡ true → (x : ℕ) × (7 ≤ x) × (x < k) × (t x ≡ false)
agreed-no k t true (all h) e = absurd (true≢false (sym e))
agreed-no k t false (differs x l m h) e = (x, l, m, h)

pub agreed-yes : (k : ℕ) (t : ℕ → Bool) (r : Bool) → Agreed k t r → not r ≡ false → (x : ℕ) → 7 ≤ x → x < k → t x ≡ true
agreed-yes k t true (all h) e = h
agreed-yes k t false (differs x l m h) e = absurd (true≢false e)

pub columns-below : (f : ℕ → ℕ → ℕ) (t : List (List ℕ)) → t ≡ tab 4 (λ b. tab 16 (λ i. f b i % 257)) → Columns t
columns-below f t e b = go (dec_lt b 4)
  where
    columns : ℕ → List ℕ
    columns b = tab 16 (λ i. f b i % 257)

    go : Dec (b < 4) → Below 257 (get_or t b [])
    go (yes l) = rw (e, get_d-tab 4 columns [] b l) (lanes-below (f b) (columns b) refl)
    go (no h) = rw (e, get_or-eq_default (tab 4 columns) [] {n = b} (omega (arith, h, length-tab 4 columns))) (λ i. omega arith)
