-- The laws of products: y (G x) = (y G) x, a combination of vectors, and what a row for a position reads.
use mathlib.Core.Path.{◌≡◌, refl, sym, ap, ap₂, ◌∙◌, ◌≡⟨◌⟩◌, ◌∎}
use mathlib.Core.List.{List}
use Prim.Native.Nat.{ℕ, ◌+◌, ◌*◌, ◌%◌, ◌≤◌, ◌<◌}
use native.Mathlib.Numerals.{add-one}
use native.Mathlib.Omega.{arith}
use native.Mathlib.Nat.{zero-mod}
use lib.ListN.{get_or}
use Rattle.base.specs.Sum.{sum, unit}
use Rattle.base.proofs.Sum.{sum-add, sum-scale, sum-ext, sum-none, sum-swap, sum-unit, sum-le}
use Rattle.field.proofs.Congruence.{cong-mul, sum-mod}
use Rattle.field.specs.Dot.{dot, along, RowFor}

pub dot-step : (d : ℕ) (u v : ℕ → ℕ) → dot (d + 1) u v ≡ dot d u v + u d * v d
unfolding dot sum
dot-step d u v = rw add-one refl

pub dot-comm : (d : ℕ) (u v : ℕ → ℕ) → dot d u v ≡ dot d v u
unfolding dot
dot-comm d u v = sum-ext d _ _ (λ i l. omega arith)

pub dot-ext : (d : ℕ) (u v w : ℕ → ℕ) → ((j : ℕ) → j < d → v j ≡ w j) → dot d u v ≡ dot d u w
unfolding dot
dot-ext d u v w h = sum-ext d _ _ (λ i l. ap (λ z. u i * z) (h i l))

pub dot-same : (d : ℕ) (u v w x : ℕ → ℕ) → ((j : ℕ) → j < d → u j ≡ v j) → ((j : ℕ) → j < d → w j ≡ x j) → dot d u w ≡ dot d v x
unfolding dot
dot-same d u v w x h k = sum-ext d _ _ (λ i l. ap₂ ◌*◌ (h i l) (k i l))

-- entries that stand side by side
pub dot-along : (d : ℕ) (u v : List ℕ) (a b : ℕ) → dot d (along u a 1) (along v b 1) ≡ dot d (λ k. get_or u (a + k) 0) (λ k. get_or v (b + k) 0)
dot-along d u v a b = dot-same d _ _ _ _ (λ k l. ap (λ i. get_or u i 0) (omega arith)) (λ k l. ap (λ i. get_or v i 0) (omega arith))

pub dot-comb : (d a b : ℕ) (u v w : ℕ → ℕ) → dot d (λ j. a * u j + b * v j) w ≡ a * dot d u w + b * dot d v w
unfolding dot
dot-comb d a b u v w =
    sum-ext d _ (λ i. a * (u i * w i) + b * (v i * w i)) (λ i l. omega arith)
    ∙ sum-add d _ _ ∙ ap₂ ◌+◌ (sum-scale d a _) (sum-scale d b _)

pub dot-comb-right : (d a b : ℕ) (u v w : ℕ → ℕ) → dot d w (λ j. a * u j + b * v j) ≡ a * dot d w u + b * dot d w v
dot-comb-right d a b u v w = dot-comm d w _ ∙ dot-comb d a b u v w ∙ ap₂ (λ x y. a * x + b * y) (dot-comm d u w) (dot-comm d v w)

pub dot-scale : (d a : ℕ) (w u : ℕ → ℕ) → dot d w (λ j. a * u j) ≡ a * dot d w u
unfolding dot
dot-scale d a w u = sum-ext d _ (λ j. a * (w j * u j)) (λ j l. omega arith) ∙ sum-scale d a _

pub dot-mod : (p d : ℕ) (u v w : ℕ → ℕ) → ((j : ℕ) → j < d → u j % p ≡ v j % p) → dot d u w % p ≡ dot d v w % p
unfolding dot
dot-mod p d u v w h = sum-mod p d _ _ (λ i l. cong-mul p _ _ _ _ (h i l) refl)

pub dot-mod-right : (p d : ℕ) (u v w : ℕ → ℕ) → ((j : ℕ) → j < d → v j % p ≡ w j % p) → dot d u v % p ≡ dot d u w % p
dot-mod-right p d u v w h = ap (λ z. z % p) (dot-comm d u v) ∙ dot-mod p d v w u h ∙ ap (λ z. z % p) (dot-comm d w u)

pub dot-unit : (d q : ℕ) (v : ℕ → ℕ) → q < d → dot d (unit q) v ≡ v q
unfolding dot
dot-unit d q v l = sum-unit d q v l

pub dot-none : (d : ℕ) (u v : ℕ → ℕ) → ((j : ℕ) → j < d → u j ≡ 0) → dot d u v ≡ 0
unfolding dot
dot-none d u v h = sum-none d _ (λ i l. rw (h i l) (omega arith))

-- a sum of d products of at most c
pub dot-le : (d c : ℕ) (u v : ℕ → ℕ) → ((j : ℕ) → j < d → u j * v j ≤ c) → dot d u v ≤ d * c
unfolding dot
dot-le d c u v h = sum-le d c _ h

pub dot-zero : (p d : ℕ) (u v : ℕ → ℕ) → ((j : ℕ) → j < d → u j % p ≡ 0) → dot d u v % p ≡ 0
dot-zero p d u v h =
    dot-mod p d u (λ j. 0) v (λ j l. h j l ∙ sym (zero-mod p)) ∙ ap (λ z. z % p) (dot-none d (λ j. 0) v (λ j l. refl)) ∙ zero-mod p

-- y (G x) = (y G) x
pub dot-assoc : (R C : ℕ) (y x : ℕ → ℕ) (G : ℕ → ℕ → ℕ) → dot R y (λ i. dot C (G i) x) ≡ dot C (λ j. dot R y (λ i. G i j)) x
unfolding dot
dot-assoc R C y x G =
    sum-ext R _ (λ i. sum C (λ j. x j * (y i * G i j))) (λ i l. sym (sum-scale C (y i) _) ∙ sum-ext C _ _ (λ j m. omega arith))
    ∙ sum-swap R C (λ i j. x j * (y i * G i j))
    ∙ sum-ext C _ _ (λ j l. sum-scale R (x j) _ ∙ omega arith)

-- a row for position q reads entry q of w off what the rows make of w
pub row_reads : (p k d : ℕ) (A : ℕ → ℕ → ℕ) (q : ℕ) (r : ℕ → ℕ) → q < d → RowFor p k d A q r
    → (w : ℕ → ℕ) → dot k r (λ i. dot d (A i) w) % p ≡ w q % p
row_reads p k d A q r l h w =
    dot k r (λ i. dot d (A i) w) % p ≡⟨ ap (λ z. z % p) (dot-assoc k d r w A) ⟩
    dot d (λ j. dot k r (λ i. A i j)) w % p ≡⟨ dot-mod p d (λ j. dot k r (λ i. A i j)) (unit q) w h.gives ⟩
    dot d (unit q) w % p ≡⟨ ap (λ z. z % p) (dot-unit d q w l) ⟩
    w q % p ∎

-- so entry q is the same in every w of which the rows make the same
pub row-fixes : (p k d : ℕ) (A : ℕ → ℕ → ℕ) (q : ℕ) (r : ℕ → ℕ) → q < d → RowFor p k d A q r
    → (v w : ℕ → ℕ) → ((i : ℕ) → i < k → dot d (A i) v % p ≡ dot d (A i) w % p) → v q % p ≡ w q % p
row-fixes p k d A q r l h v w same =
    sym (row_reads p k d A q r l h v) ∙ dot-mod-right p k r _ _ same ∙ row_reads p k d A q r l h w
