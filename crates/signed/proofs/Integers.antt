-- Integers modulo p: the remainder of a sum and of a product is that of the remainders.
-- up, down: an integer as a difference of two naturals, one of them 0
-- sum-balance, product-balance: what a sum and a product of differences is, without a subtraction
-- Congℤ: the integer z and the natural r have the same remainder modulo p
use mathlib.Core.Path.{◌≡◌, refl, sym, ap, ◌∙◌}
use mathlib.Core.Bool.{Bool, true, false, cond}
use Prim.Native.Nat.{ℕ, zero, suc, ◌+◌, ◌-◌, ◌*◌, ◌/◌, ◌%◌, ◌<◌}
use native.Mathlib.Nat.{mod-mod, mod-lt, mod-eq_of_lt, mod-add-div'}
use native.Mathlib.Omega.{arith}
use lib.Dec.{ltb}
use lib.IntN.{ℤ, pos, negsuc, neg_ℤ, sub_ℕ, ◌+ℤ◌, ◌*ℤ◌}
use borrow.Author.Tests.{ltb-true, ltb-false}
use Rattle.base.specs.Sum.{sum}
use Rattle.field.proofs.Congruence.{cong-by, cong-add, cong-mul}
use Rattle.signed.specs.Integers.{total, remainder}

abbrev pub up : ℤ → ℕ
up (pos n) = n
up (negsuc n) = 0

abbrev pub down : ℤ → ℕ
down (pos n) = 0
down (negsuc n) = suc n

-- z is a − b
Is : ℤ → ℕ → ℕ → Type 0
Is z a b = up z + b ≡ a + down z

sub_is : (a b : ℕ) → Is (sub_ℕ a b) a b
unfolding Is
sub_is a b = go (ltb a b) refl
  where
    go : (t : Bool) → ltb a b ≡ t → Is (cond t (negsuc (b - suc a)) (pos (a - b))) a b
    go true e = omega (arith, ltb-true a b e)
    go false e = omega (arith, ltb-false a b e)

neg_is : (n : ℕ) → Is (neg_ℤ (pos n)) 0 n
unfolding Is
neg_is zero = refl
neg_is (suc n) = refl

pub sum-balance : (a b : ℤ) → up (a +ℤ b) + (down a + down b) ≡ (up a + up b) + down (a +ℤ b)
unfolding Is
sum-balance (pos a) (pos b) = omega arith
sum-balance (pos a) (negsuc b) = omega (arith, sub_is a (suc b))
sum-balance (negsuc a) (pos b) = omega (arith, sub_is b (suc a))
sum-balance (negsuc a) (negsuc b) = omega arith

pub product-balance : (a b : ℤ) → up (a *ℤ b) + (up a * down b + down a * up b) ≡ (up a * up b + down a * down b) + down (a *ℤ b)
unfolding Is
product-balance (pos a) (pos b) = omega arith
product-balance (pos a) (negsuc b) = omega (arith, neg_is (a * suc b))
product-balance (negsuc a) (pos b) = omega (arith, neg_is (suc a * b))
product-balance (negsuc a) (negsuc b) = omega arith

pub record Congℤ (p : ℕ) (z : ℤ) (r : ℕ) : Type 0 where
  pub eq : up z % p ≡ (r + down z) % p

module _ (p : ℕ) (pos-p : 0 < p) where
  -- what is added on both sides may go
  cancel : (x y c : ℕ) → (x + c) % p ≡ (y + c) % p → x % p ≡ y % p
  cancel x y c h = sym (round x) ∙ cong-add p (x + c) (y + c) ((p - 1) * c) ((p - 1) * c) h refl ∙ round y
    where
      whole : (m z : ℕ) → m + 1 ≡ p → z + c + m * c ≡ z + c * p
      whole m z e = rw (← e) (omega arith)

      round : (z : ℕ) → (z + c + (p - 1) * c) % p ≡ z % p
      round z = cong-by p c _ z (whole (p - 1) z (omega arith))

  pub cong-sum : (a b : ℤ) (r s : ℕ) → Congℤ p a r → Congℤ p b s → Congℤ p (a +ℤ b) (r + s)
  cong-sum a b r s h k =
      let e : (r + down a) + (s + down b) + down (a +ℤ b) ≡ (r + s + down (a +ℤ b)) + (down a + down b) = omega arith in
      record {
        eq =
            cancel _ _ (down a + down b)
            (ap (λ x. x % p) (sum-balance a b)
            ∙ cong-add p (up a + up b) ((r + down a) + (s + down b)) _ _ (cong-add p _ _ _ _ h.eq k.eq) refl
            ∙ ap (λ x. x % p) e);
      }

  pub cong-product : (a b : ℤ) (r s : ℕ) → Congℤ p a r → Congℤ p b s → Congℤ p (a *ℤ b) (r * s)
  cong-product a b r s h k =
      record {
        eq =
            cancel _ _ (up a * down b + down a * up b)
            (ap (λ x. x % p) (product-balance a b)
            ∙ cong-add p (up a * up b + down a * down b) ((r + down a) * (s + down b) + down a * down b) _ _
            (cong-add p _ _ _ _ (cong-mul p (up a) (r + down a) (up b) (s + down b) h.eq k.eq) refl) refl
            ∙ ap (λ x. x % p) (spread (down a) (down b) (down (a *ℤ b)))
            ∙ cong-add p (r * s + down (a *ℤ b)) (r * s + down (a *ℤ b)) ((r + down a) * down b + down a * (s + down b)) (up a * down b + down a * up b) refl
            (sym (cong-add p _ _ _ _ (cong-mul p (up a) (r + down a) _ _ h.eq refl) (cong-mul p (down a) (down a) (up b) (s + down b) refl k.eq))));
      }
    where
      spread : (x y z : ℕ) → ((r + x) * (s + y) + x * y) + z ≡ (r * s + z) + ((r + x) * y + x * (s + y))
      spread x y z = omega arith

  pub cong-total : (n : ℕ) (f : ℕ → ℤ) (g : ℕ → ℕ) → ((i : ℕ) → i < n → Congℤ p (f i) (g i)) → Congℤ p (total n f) (sum n g)
  unfolding total sum
  cong-total zero f g h = record { eq = refl }
  cong-total (suc n) f g h = cong-sum (total n f) (f n) (sum n g) (g n) (cong-total n f g (λ i l. h i (omega arith))) (h n (omega arith))

  -- the remainder is below p, and is the only number there that is as z modulo p
  pub remainder-lt : (z : ℤ) → remainder p z < p
  unfolding remainder
  remainder-lt (pos n) = mod-lt n pos-p
  remainder-lt (negsuc n) = omega (arith, pos-p)

  pub remainder-cong : (z : ℤ) → Congℤ p z (remainder p z)
  unfolding remainder
  remainder-cong (pos n) = record { eq = sym (ap (λ x. x % p) (omega arith) ∙ mod-mod n p) }
  remainder-cong (negsuc n) = record { eq = sym (cong-by p (n / p + 1) _ 0 (whole (n % p) (n / p) (mod-lt n pos-p) (mod-add-div' n p))) }
    where
      whole : (r q : ℕ) → r < p → r + q * p ≡ n → p - suc r + suc n ≡ 0 + (q + 1) * p
      whole r q l e = omega (arith, l, e)

  pub remainder-only : (z : ℤ) (r : ℕ) → r < p → Congℤ p z r → r ≡ remainder p z
  remainder-only z r l h =
      sym (mod-eq_of_lt l) ∙ cancel r (remainder p z) (down z) (sym h.eq ∙ (remainder-cong z).eq) ∙ mod-eq_of_lt (remainder-lt z)
