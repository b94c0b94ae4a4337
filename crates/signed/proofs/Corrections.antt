-- The laws of corrections and residues: what the two tests of a range say of a correction, what it is held as, and that the two ways undo each other.
use mathlib.Core.Path.{◌≡◌, refl, sym, ap, ◌∙◌}
use mathlib.Core.Bool.{Bool, true, false, false≢true}
use Prim.Native.Nat.{ℕ, suc, ◌+◌, ◌-◌, ◌%◌, ◌≤◌, ◌<◌}
use native.Mathlib.Nat.{mod-eq_of_lt}
use native.Mathlib.Omega.{arith}
use lib.Dec.{leb}
use lib.IntN.{ℤ, pos, negsuc, ◌+ℤ◌, ◌-ℤ◌}
use lib.Signed.{lt_z, le_z}
use borrow.Author.Tests.{ltb-true, ltb-false, lt-ltb, le-ltb, leb-true, leb-false, lt-leb, le-leb}
use mir.Syntax.{w32}
use mir.Val.{SFits, to_z, of_z}
use mir.Facts.{to_z-of_z}
use Rattle.field.proofs.Congruence.{cong-by}
use Rattle.signed.specs.Integers.{remainder}
use Rattle.signed.specs.Corrections.{in_range, residue, correction}

-- THE RANGE
pub too-low : (z : ℤ) → lt_z z (negsuc 32759) ≡ true → false ≡ in_range z
too-low (pos n) e = absurd (false≢true e)
too-low (negsuc n) e = let h = ltb-true 32759 n e in sym (lt-leb (suc n) 32760 (omega arith))

pub low-enough : (z : ℤ) → lt_z z (negsuc 32759) ≡ false → le_z z (pos 32760) ≡ in_range z
low-enough (pos n) e = refl
low-enough (negsuc n) e = let h = ltb-false 32759 n e in sym (le-leb (suc n) 32760 (omega arith))

-- HELD
pub residue-pos : (n : ℕ) → n < 65521 → residue (pos n) ≡ n
unfolding residue remainder
residue-pos n h = mod-eq_of_lt h

pub residue-neg : (n : ℕ) → n < 65521 → residue (negsuc n) ≡ 65520 - n
unfolding residue remainder
residue-neg n h = rw (mod-eq_of_lt h) (omega arith)

-- a correction and 65521 together, which the code reduces
pub record Lifted (z : ℤ) : Type 0 where
  pub number : ℕ
  pub is : z +ℤ pos 65521 ≡ pos number
  pub small : number < 131072
  pub rest : number % 65521 ≡ residue z

pub lifted : (z : ℤ) → in_range z ≡ true → Lifted z
unfolding residue remainder
lifted (pos n) e =
    let h = leb-true n 32760 e in
    record { number = n + 65521; is = refl; small = omega arith; rest = cong-by 65521 1 (n + 65521) n (omega arith) }
lifted (negsuc n) e =
    let h = leb-true (suc n) 32760 e in
    let low : 65521 - suc n < 65521 = omega arith in
    record {
      number = 65521 - suc n;
      is = rw (le-ltb 65521 (suc n) (omega arith)) refl;
      small = omega arith;
      rest = mod-eq_of_lt low ∙ sym (residue-neg n (omega arith) ∙ omega arith);
    }

-- so as the code has the correction, which fits an i32
pub lifted-code : (z : ℤ) → SFits w32 z → (e : in_range z ≡ true) → to_z w32 (of_z w32 z) +ℤ pos 65521 ≡ pos (lifted z e).number
lifted-code z fits e = rw (to_z-of_z fits) (lifted z e).is

-- READ BACK
pub correction-low : (r : ℕ) → r ≤ 32760 → correction r ≡ pos r
unfolding correction
correction-low r h = rw (le-leb r 32760 h) refl

pub less : (r : ℕ) → r < 65521 → pos r -ℤ pos 65521 ≡ negsuc (65520 - r)
less r l = let s : 65521 - suc r ≡ 65520 - r = omega arith in rw (lt-ltb r 65521 l, s) refl

pub correction-high : (r : ℕ) → 32760 < r → r < 65521 → correction r ≡ negsuc (65520 - r)
unfolding correction
correction-high r h l = rw (lt-leb r 32760 h) (less r l)

-- THERE AND BACK
pub in-range : (r : ℕ) → r < 65521 → in_range (correction r) ≡ true
in-range r l = go (leb r 32760) refl
  where
    go : (b : Bool) → leb r 32760 ≡ b → in_range (correction r) ≡ true
    go true e = rw (correction-low r (leb-true r 32760 e)) e
    go false e =
        let h = leb-false r 32760 e in
        rw (correction-high r h l) (le-leb (suc (65520 - r)) 32760 (omega arith))

pub held-again : (r : ℕ) → r < 65521 → residue (correction r) ≡ r
held-again r l = go (leb r 32760) refl
  where
    go : (b : Bool) → leb r 32760 ≡ b → residue (correction r) ≡ r
    go true e = rw (correction-low r (leb-true r 32760 e)) (residue-pos r l)
    go false e =
        let h = leb-false r 32760 e in
        rw (correction-high r h l) (residue-neg (65520 - r) (omega arith) ∙ omega arith)

pub back-again : (z : ℤ) → in_range z ≡ true → correction (residue z) ≡ z
back-again (pos n) e = let h = leb-true n 32760 e in rw (residue-pos n (omega arith)) (correction-low n h)
back-again (negsuc n) e =
    let h = leb-true (suc n) 32760 e in
    let s : 65520 - (65520 - n) ≡ n = omega arith in
    rw (residue-neg n (omega arith)) (correction-high (65520 - n) (omega arith) (omega arith) ∙ ap negsuc s)
