-- Congruence modulo p: what may be added, multiplied and taken out of a remainder.
-- cong-by, cong-two: a congruence from an equation with multiples of p, which omega proves
-- Cong: congruence as a record, so that `grw (under, ..)` rewrites inside sums and products
use mathlib.Core.Path.{◌≡◌, refl, sym, ap, ◌∙◌}
use Prim.Native.Nat.{ℕ, zero, suc, ◌+◌, ◌*◌, ◌/◌, ◌%◌, ◌<◌}
use native.Mathlib.Omega.{arith}
use native.Mathlib.Nat.{mod-mod, add-mod, add-mul-mod_self_right, mod-add-div', mul_comm}
use Rattle.base.specs.Sum.{sum}

pub cong-by : (p k x y : ℕ) → x ≡ y + k * p → x % p ≡ y % p
cong-by p k x y e = rw e (add-mul-mod_self_right y k p)

pub cong-two : (p m k x y : ℕ) → x + m * p ≡ y + k * p → x % p ≡ y % p
cong-two p m k x y e = sym (add-mul-mod_self_right x m p) ∙ ap (λ z. z % p) e ∙ add-mul-mod_self_right y k p

pub mul-mod-mod : (a b p : ℕ) → (a * (b % p)) % p ≡ (a * b) % p
mul-mod-mod a b p = sym (cong-by p (a * (b / p)) (a * b) (a * (b % p)) (lemma (b / p) (b % p) (sym (mod-add-div' b p))))
  where
    lemma : (q r : ℕ) → b ≡ r + q * p → a * b ≡ a * r + a * q * p
    lemma q r e = rw e (omega arith)

pub mod-mul-mod : (a b p : ℕ) → ((a % p) * b) % p ≡ (a * b) % p
mod-mul-mod a b p = rw (mul_comm (a % p) b, mul_comm a b) (mul-mod-mod b a p)

pub cong-add : (p a b c d : ℕ) → a % p ≡ b % p → c % p ≡ d % p → (a + c) % p ≡ (b + d) % p
cong-add p a b c d e f = rw (add-mod a c p, add-mod b d p, e, f)

pub cong-mul : (p a b c d : ℕ) → a % p ≡ b % p → c % p ≡ d % p → (a * c) % p ≡ (b * d) % p
cong-mul p a b c d e f = rw (← mod-mul-mod a c p, ← mod-mul-mod b d p, ← mul-mod-mod (a % p) c p, ← mul-mod-mod (b % p) d p, e, f)

pub cong-comb : (p a b x y u v : ℕ) → x % p ≡ u % p → y % p ≡ v % p → (a * x + b * y) % p ≡ (a * u + b * v) % p
cong-comb p a b x y u v d e = cong-add p _ _ _ _ (cong-mul p a a x u refl d) (cong-mul p b b y v refl e)

-- sums of congruent summands
pub sum-mod : (p n : ℕ) (f g : ℕ → ℕ) → ((i : ℕ) → i < n → f i % p ≡ g i % p) → sum n f % p ≡ sum n g % p
unfolding sum
sum-mod p zero f g h = refl
sum-mod p (suc n) f g h = cong-add p _ _ _ _ (sum-mod p n f g (λ i l. h i (omega arith))) (h n (omega arith))

pub record Cong (p a b : ℕ) : Type 0 where
  pub eq : a % p ≡ b % p

pub ~refl : (p a : ℕ) → Cong p a a
~refl p a = record { eq = refl }

pub ~of : (p : ℕ) {a b : ℕ} → a ≡ b → Cong p a b
~of p e = record { eq = ap (λ x. x % p) e }

pub ~sym : {p a b : ℕ} → Cong p a b → Cong p b a
~sym h = record { eq = sym h.eq }

pub ~trans : {p a b c : ℕ} → Cong p a b → Cong p b c → Cong p a c
~trans h k = record { eq = h.eq ∙ k.eq }

pub ~add : {p a b c d : ℕ} → Cong p a b → Cong p c d → Cong p (a + c) (b + d)
~add {p} {a} {b} {c} {d} h k = record { eq = cong-add p a b c d h.eq k.eq }

pub ~mul : {p a b c d : ℕ} → Cong p a b → Cong p c d → Cong p (a * c) (b * d)
~mul {p} {a} {b} {c} {d} h k = record { eq = cong-mul p a b c d h.eq k.eq }

pub ~mod : (p a : ℕ) → Cong p (a % p) a
~mod p a = record { eq = mod-mod a p }

pub ruleset under = (~refl, ~trans, ~add, ~mul)
