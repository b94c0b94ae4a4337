-- The products of rows that lie flat are the pair values and the values due, of one part or of one of n parts; and the rows lie inside.
use mathlib.Core.Path.{◌≡◌, refl, sym, ap, ◌∙◌}
use mathlib.Core.List.{List}
use Prim.Native.Nat.{ℕ, ◌+◌, ◌*◌, ◌%◌, ◌<◌, ◌≤◌}
use native.Mathlib.Omega.{arith}
use lib.ListN.{length}
use Rattle.base.specs.Matrix.{entry}
use Rattle.base.proofs.Matrix.{row_fits}
use Rattle.base.proofs.Fill.{get_d-tab}
use Rattle.field.specs.Dot.{at, dot}
use Rattle.field.proofs.Dot.{dot-same}
use Rattle.scheme.specs.Setup.{Setup, dim}
use Rattle.scheme.specs.Dealing.{pair_value, expected, part}

-- a list is its own first row
pub first-row : (d : ℕ) (l : List ℕ) (k : ℕ) → entry d l 0 k ≡ at l k
first-row d l k = ap (at l) (omega arith)

part_at : (S : Setup) (parts : List ℕ) (i k : ℕ) → k < dim S → entry (dim S) parts i k ≡ at (part S parts i) k
part_at S parts i k l = sym (get_d-tab (dim S) (entry (dim S) parts i) 0 k l)

module _ (S : Setup) (d : ℕ) (e : d ≡ dim S) where
  pub row_inside : (m : List ℕ) (i : ℕ) → length m ≡ S.n * dim S → i < S.n → i * d + d ≤ length m
  row_inside m i size l = rw (e, size) (row_fits S.n (dim S) i l)

  pub part-inside : (g : List ℕ) → length g ≡ dim S → 0 * d + d ≤ length g
  part-inside g size = omega (arith, e, size)

  module _ (v : ℕ) where
    pub is-pair-value : (g : List ℕ) (i : ℕ) → v ≡ dot d (entry d g 0) (entry d S.M i) % S.p → v ≡ pair_value S g i
    unfolding pair_value
    is-pair-value g i h = h ∙ rw e (ap (λ n. n % S.p) (dot-same (dim S) _ _ _ _ (λ k l. first-row (dim S) g k) (λ k l. refl)))

    pub is-due : (h : List ℕ) (j : ℕ) → v ≡ dot d (entry d S.M j) (entry d h 0) % S.p → v ≡ expected S h j
    unfolding expected
    is-due h j q = q ∙ rw e (ap (λ n. n % S.p) (dot-same (dim S) _ _ _ _ (λ k l. refl) (λ k l. first-row (dim S) h k)))

    pub is-pair-value-of : (gs : List ℕ) (j i : ℕ) → v ≡ dot d (entry d gs j) (entry d S.M i) % S.p → v ≡ pair_value S (part S gs j) i
    unfolding pair_value
    is-pair-value-of gs j i h = h ∙ rw e (ap (λ n. n % S.p) (dot-same (dim S) _ _ _ _ (λ k l. part_at S gs j k l) (λ k l. refl)))

    pub is-due-of : (hs : List ℕ) (i j : ℕ) → v ≡ dot d (entry d S.M j) (entry d hs i) % S.p → v ≡ expected S (part S hs i) j
    unfolding expected
    is-due-of hs i j q = q ∙ rw e (ap (λ n. n % S.p) (dot-same (dim S) _ _ _ _ (λ k l. refl) (λ k l. part_at S hs i k l)))
