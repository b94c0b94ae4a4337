-- Cases on tests: equal or not, the two parts of a conjunction, and what is picked.
use mathlib.Core.Path.{◌≡◌, refl}
use mathlib.Core.Bool.{Bool, true, false, ◌&&◌, false≢true}
use mathlib.Core.Logic.{◌⊎◌, inl, inr}
use Prim.Native.Nat.{ℕ, suc, ◌≤◌, ◌<◌}
use native.Mathlib.Omega.{arith}
use lib.Dec.{eqb, ltb, T}
use borrow.Author.Tests.{eqb-true, eqb-false, ltb-true, ltb-false}
use Rattle.base.specs.Choice.{pick}

pub either : (i j : ℕ) (Z : Type 0) → (i ≡ j → Z) → ((i ≡ j → ⊥) → Z) → Z
either i j Z f g = go (eqb i j) refl
  where
    go : (t : Bool) → eqb i j ≡ t → Z
    go true e = f (eqb-true i j e)
    go false e = g (eqb-false i j e)

-- a number below n + 1 is below n or is n
pub below_suc : (i n : ℕ) → i < suc n → (i < n) ⊎ (i ≡ n)
below_suc i n h = go (ltb i n) refl
  where
    go : (t : Bool) → ltb i n ≡ t → (i < n) ⊎ (i ≡ n)
    go true e = inl (ltb-true i n e)
    go false e = inr (omega (arith, ltb-false i n e))

pub and_left : (a b : Bool) → (a && b) ≡ true → a ≡ true
and_left true b t = refl
and_left false b t = t

pub and_right : (a b : Bool) → (a && b) ≡ true → b ≡ true
and_right true b t = t
and_right false b t = absurd (false≢true t)

pub and_both : (a b : Bool) → a ≡ true → b ≡ true → (a && b) ≡ true
and_both true b s t = t
and_both false b s t = s

pub T-left : (a b : Bool) → T (a && b) → T a
T-left true b h = tt
T-left false b h = h

pub T-right : (a b : Bool) → T (a && b) → T b
T-right true b h = h
T-right false b h = absurd h

pub T-both : (a b : Bool) → T a → T b → T (a && b)
T-both true b h k = k
T-both false b h k = h

-- what holds of both holds of the one picked
pub picked : {A : Type 0} (P : A → Type 0) (b : Bool) (x y : A) → P x → P y → P (pick b x y)
picked P true x y h k = h
picked P false x y h k = k

-- and by a test for less, what holds on each side
pub picked-below : {A : Type 0} (P : A → Type 0) (i n : ℕ) (x y : A) → (i < n → P x) → (n ≤ i → P y) → P (pick (ltb i n) x y)
picked-below P i n x y f g = go (ltb i n) refl
  where
    go : (t : Bool) → ltb i n ≡ t → P (pick t x y)
    go true e = f (ltb-true i n e)
    go false e = g (ltb-false i n e)
