-- A matrix by columns in halves: the halves are small, and joined they are its entries.
-- columns_of: the seven columns of a matrix of sixteen rows, each as sixteen remainders by 16 and sixteen quotients by 16
use Prim.Native.Nat.{ℕ, ◌+◌, ◌-◌, ◌/◌, ◌%◌, ◌<◌}
use mathlib.Core.Path.{◌≡◌}
use mathlib.Core.Bool.{Bool, true, false}
use mathlib.Core.List.{List, []}
use native.Mathlib.Omega.{arith}
use borrow.Author.Tests.{lt-ltb, le-ltb}
use lib.Dec.{ltb}
use lib.ListN.{get_or}
use Rattle.base.specs.Choice.{pick}
use Rattle.base.specs.Fill.{tab}
use Rattle.base.specs.Matrix.{entry, Below}
use Rattle.base.proofs.Fill.{get_d-tab}
use Rattle.base.proofs.Matrix.{below-tab}
use Rattle.key_parts.specs.Inner.{Halves, matrix_entry}

unfoldable pub half : List ℕ → ℕ → ℕ → ℕ
half m k j = pick (ltb j 16) (entry 7 m j k % 16) (entry 7 m (j - 16) k / 16)

unfoldable pub columns_of : List ℕ → List (List ℕ)
columns_of m = tab 7 (λ k. tab 32 (half m k))

half-small : (m : List ℕ) → Below 257 m → (k j : ℕ) → half m k j < 17
unfolding half
half-small m b k j = go (ltb j 16) _ _ (b _) (b _)
  where
    go : (t : Bool) (x y : ℕ) → x < 257 → y < 257 → pick t (x % 16) (y / 16) < 17
    go true x y h g = omega arith
    go false x y h g = omega arith

module _ (m : List ℕ) (columns : List (List ℕ)) (are : columns ≡ columns_of m) where
  column : (k : ℕ) → k < 7 → get_or columns k [] ≡ tab 32 (half m k)
  unfolding columns_of
  column k l = rw are (get_d-tab 7 (λ k. tab 32 (half m k)) [] k l)

  pub halves_are : Below 257 m → Halves columns
  halves_are b = record { small = λ k l. rw (column k l) (below-tab 17 32 (half m k) (omega arith) (λ j h. half-small m b k j)) }

  pub matrix-is : (i k : ℕ) → i < 16 → k < 7 → matrix_entry columns i k ≡ entry 7 m i k
  unfolding matrix_entry half
  matrix-is i k h l =
      let q : 16 + i - 16 ≡ i = omega arith in
      rw (column k l, get_d-tab 32 (half m k) 0 i (omega arith), get_d-tab 32 (half m k) 0 (16 + i) (omega arith), lt-ltb i 16 h, le-ltb (16 + i) 16 (omega arith), q)
      (omega arith)
