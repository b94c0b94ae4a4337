-- A set keeps the reconstruction rows of every set inside it: the coefficients move to their holders' places.
use mathlib.Core.Path.{◌≡◌, ap, ◌∙◌}
use mathlib.Core.Bool.{Bool, true}
use Prim.Native.Nat.{ℕ, ◌*◌, ◌%◌, ◌<◌}
use native.Mathlib.Omega.{arith}
use borrow.Author.Tests.{eqb-true, eqb-false}
use lib.Dec.{eqb}
use lib.ListN.{length}
use Rattle.base.specs.Sum.{sum, unit}
use Rattle.base.specs.Search.{first, First, found, missing}
use Rattle.base.proofs.Sum.{sum-ext, sum-swap, sum-scale, sum-unit}
use Rattle.base.proofs.Search.{first-is}
use Rattle.field.specs.Dot.{at, dot, RowFor}
use Rattle.scheme.specs.Setup.{Setup, dim, row}
use Rattle.scheme.specs.Sets.{members, row_at, has_row}
use Rattle.scheme.proofs.Members.{member-at, place_of}
use Rattle.scheme.proofs.Sets.{the_row, the_row-is}
use Rattle.scheme.proofs.Certificates.{row-in-hand}

-- the rows of A stand among those of B, at the places f: their coefficients move there
row-moves : (p k m d : ℕ) (A B : ℕ → ℕ → ℕ) (q : ℕ) (r f : ℕ → ℕ) → ((a : ℕ) → a < k → f a < m) → ((a c : ℕ) → a < k → B (f a) c ≡ A a c)
    → RowFor p k d A q r → RowFor p m d B q (λ b. sum k (λ a. unit (f a) b * r a))
unfolding dot
row-moves p k m d A B q r f low same R = record { gives = λ c l. ap (λ z. z % p) (total c) ∙ R.gives c l }
  where
    total : (c : ℕ) → sum m (λ b. sum k (λ a. unit (f a) b * r a) * B b c) ≡ sum k (λ a. r a * A a c)
    total c =
        sum-ext m _ (λ b. sum k (λ a. r a * (unit (f a) b * B b c)))
        (λ b l. turn b ∙ sum-ext k _ _ (λ a o. omega arith))
        ∙ sum-swap m k (λ b a. r a * (unit (f a) b * B b c))
        ∙ sum-ext k _ _ (λ a o. sum-scale m (r a) (λ b. unit (f a) b * B b c) ∙ ap (λ z. r a * z) (sum-unit m (f a) (λ b. B b c) (low a o) ∙ same a c o))
      where
        turn : (b : ℕ) → sum k (λ a. unit (f a) b * r a) * B b c ≡ sum k (λ a. B b c * (unit (f a) b * r a))
        turn b = omega (arith, sum-scale k (B b c) (λ a. unit (f a) b * r a))

-- a set keeps the row of a set inside it
pub row-grows : (S : Setup) (X Y : ℕ → Bool) (q : ℕ) → 1 < S.p → ((i : ℕ) → i < S.n → X i ≡ true → Y i ≡ true) → has_row S X q ≡ true → has_row S Y q ≡ true
row-grows S X Y q big sub t =
    row-in-hand S Y q big _
    (row-moves S.p (length (members S.n X)) (length (members S.n Y)) (dim S) (row_at S (members S.n X)) (row_at S (members S.n Y)) q (at (the_row S X q))
    place (λ a l. (at_place a l).0) (λ a c l. ap (λ j. row S j c) (at_place a l).1) (the_row-is S X q t))
  where
    sought : ℕ → ℕ → Bool
    sought a b = eqb (at (members S.n Y) b) (at (members S.n X) a)

    place : ℕ → ℕ
    place a = first (sought a) (length (members S.n Y))

    at_place : (a : ℕ) → a < length (members S.n X) → (place a < length (members S.n Y)) × (at (members S.n Y) (place a) ≡ at (members S.n X) a)
    at_place a l = go (place a) (first-is (sought a) (length (members S.n Y)))
      where
        go : (b : ℕ) → First (sought a) (length (members S.n Y)) b → (b < length (members S.n Y)) × (at (members S.n Y) b ≡ at (members S.n X) a)
        go b (found o e h) = (o, eqb-true _ _ e)
        go b (missing e h) =
            let m = member-at S.n X a l in
            let w = place_of S.n Y (at (members S.n X) a) m.0 (sub _ m.0 m.1) in
            absurd (eqb-false _ _ (h w.0 w.1) w.2)
