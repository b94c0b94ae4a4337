-- The points matrix does what document 01 says of it, and nothing else does: for every prime p and d + n at most p, row i takes the values at 0 .. d − 1 of
-- every polynomial of degree below d to its value at d + i; the powers determine the row.
use mathlib.Core.Path.{◌≡◌, sym, ap, ◌∙◌}
use Prim.Native.Nat.{ℕ, ◌+◌, ◌*◌, ◌%◌, ◌^◌, ◌≤◌, ◌<◌}
use native.Mathlib.Omega.{arith}
use lib.Arith.{digits_lt}
use Rattle.base.specs.Matrix.{entry, flat}
use Rattle.base.specs.Search.{Vec}
use Rattle.base.proofs.Fill.{get_d-tab, flat-at, tab-vec}
use Rattle.field.specs.Prime.{Prime}
use Rattle.field.specs.Dot.{dot}
use Rattle.polynomial.specs.Polynomial.{Poly, point}
use Rattle.field.proofs.Dot.{dot-comm, dot-ext}
use Rattle.polynomial.proofs.Interpolation.{point-values, point-only, point-below}
use Rattle.scheme.specs.Points.{points_matrix}

module _ (p : ℕ) (P : Prime p) (d n : ℕ) (fits : d + n ≤ p) where
  points-at : (i j : ℕ) → i < n → j < d → entry d (points_matrix p d n) i j ≡ point p d i j
  unfolding points_matrix
  points-at i j l m = get_d-tab (n * d) (flat d (point p d)) 0 (i * d + j) (digits_lt l m) ∙ sym (flat-at d (point p d) i j m)

  pub points-vec : Vec p (n * d) (points_matrix p d n)
  unfolding points_matrix
  points-vec = tab-vec p (n * d) (flat d (point p d)) (λ k l. point-below p d _ _ (omega (arith, P.big)))

  pub points-value : (i : ℕ) → i < n → {f : ℕ → ℕ} → Poly p d f → dot d (entry d (points_matrix p d n) i) f % p ≡ f (d + i) % p
  points-value i l {f} F =
      ap (λ z. z % p) (dot-comm d _ f ∙ dot-ext d f _ (point p d i) (λ j m. points-at i j l m) ∙ dot-comm d f _) ∙ point-values p P d i (omega arith) F

  pub points-only : (i : ℕ) → i < n → (r : ℕ → ℕ) → ((t : ℕ) → t < d → dot d r (λ j. j ^ t) % p ≡ (d + i) ^ t % p)
      → (j : ℕ) → j < d → r j % p ≡ entry d (points_matrix p d n) i j
  points-only i l r h j m = point-only p P d i (omega arith) r h j m ∙ sym (points-at i j l m)
