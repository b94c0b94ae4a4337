-- What is read off a buffer is what is read off the matrix that it shows: the two agree inside the range.
use mathlib.Core.Path.{◌≡◌, refl, ap}
use mathlib.Core.Bool.{Bool, true, false, ◌&&◌}
use Prim.Native.Nat.{ℕ, ◌≤◌, ◌<◌}
use native.Mathlib.Omega.{arith}
use lib.Dec.{leb, ltb}
use borrow.Author.Tests.{ltb-true}
use Rattle.base.specs.Choice.{pick}
use Rattle.base.proofs.Search.{first-ext}
use Rattle.gauss.specs.Gauss.{elsewhere, State}
use Rattle.elimination.specs.Elimination.{Flat, view, Shows}
use Rattle.elimination.proofs.Flat.{pivot-shows}
use Rattle.read_off.specs.ReadOff.{pivot_row, shown, unsolved, alone, fixes, flat_shown, flat_unsolved, flat_fixes}

module _ (R : ℕ) (s t : State) (marks : (i : ℕ) → i < R → s.used i ≡ t.used i) where
  pivot-row-agrees : (q : ℕ) → pivot_row R s.used q ≡ pivot_row R t.used q
  unfolding pivot_row
  pivot-row-agrees q = first-ext _ _ R (λ i m. rw (marks i m) refl)

  shown-agrees : (b : ℕ) → ((i : ℕ) → i < R → s.mat i b ≡ t.mat i b) → (j : ℕ) → shown R b s j ≡ shown R b t j
  unfolding shown
  shown-agrees b h j = rw (pivot-row-agrees j) (go (pivot_row R t.used j) (ltb (pivot_row R t.used j) R) refl)
    where
      go : (r : ℕ) (x : Bool) → ltb r R ≡ x → pick x (s.mat r b) 0 ≡ pick x (t.mat r b) 0
      go r true e = h r (ltb-true r R e)
      go r false e = refl

  fixes-agrees : (C : ℕ) → ((i j : ℕ) → i < R → j < C → s.mat i j ≡ t.mat i j) → (q : ℕ) → fixes R C s q ≡ fixes R C t q
  unfolding fixes alone elsewhere
  fixes-agrees C h q = rw (pivot-row-agrees q) (go (pivot_row R t.used q) (ltb (pivot_row R t.used q) R) refl)
    where
      go : (r : ℕ) (x : Bool) → ltb r R ≡ x → (x && alone C (s.mat r) q) ≡ (x && alone C (t.mat r) q)
      go r true e = ap (leb C) (first-ext (elsewhere q (s.mat r)) (elsewhere q (t.mat r)) C (λ j m. rw (h r j (ltb-true r R e) m) refl))
      go r false e = refl

module _ (p R W : ℕ) (s : Flat) (t : State) (S : Shows p R W s t) where
  pub unsolved-shows : (b : ℕ) → b < W → flat_unsolved R W b s ≡ unsolved R b t
  unsolved-shows = pivot-shows p R W s t S

  pub shown-shows : (b : ℕ) → b < W → (j : ℕ) → flat_shown R W b s j ≡ shown R b t j
  unfolding flat_shown
  shown-shows b l = shown-agrees R (view W s) t S.rows b (λ i m. S.entries i b m l)

  pub fixes-shows : (C : ℕ) → C ≤ W → (q : ℕ) → flat_fixes R W C s q ≡ fixes R C t q
  unfolding flat_fixes
  fixes-shows C l = fixes-agrees R (view W s) t S.rows C (λ i j m n. S.entries i j m (omega arith))
