-- Why the high half of a product by the reciprocal serves as the quotient: it is right, or one too small where the product is a multiple of p; the smaller of
-- what is left and of that less p ends it.
use Prim.Native.Nat.{ℕ, min, ◌+◌, ◌-◌, ◌*◌, ◌/◌, ◌%◌, ◌≤◌, ◌<◌}
use mathlib.Core.Path.{◌≡◌, sym, ap, ◌∙◌}
use native.Mathlib.Nat.{mod-eq_of_lt, add-mul, div-mul-le_self, add-mul-mod_self_right, mul-le-mul, mul-le-mul_left, mul-le-mul_right, lt-div-mul-add}
use native.Mathlib.Decide.{dec_lt}
use native.Mathlib.Omega.{arith}
use Rattle.row_steps.specs.Rows.{Reciprocal}

-- what is left of x is x modulo p, or p more
rest : (x q p : ℕ) → q * p ≤ x → (x - q * p) % p ≡ x % p
rest x q p h = sym (add-mul-mod_self_right (x - q * p) q p) ∙ ap (λ (n : ℕ). n % p) (omega arith)

rest-one : (x q p : ℕ) → q * p ≤ x → x - q * p < p → x - q * p ≡ x % p
rest-one x q p h l = sym (mod-eq_of_lt l) ∙ rest x q p h

rest-two : (x q p : ℕ) → q * p + p ≤ x → x - q * p - p < p → x - q * p - p ≡ x % p
rest-two x q p h l = sym (mod-eq_of_lt l) ∙ ap (λ (n : ℕ). n % p) e ∙ rest x (q + 1) p f
  where
    m : (q + 1) * p ≡ q * p + p
    m = omega (arith, add-mul q 1 p)

    f : (q + 1) * p ≤ x
    f = omega arith

    e : x - q * p - p ≡ x - (q + 1) * p
    e = omega arith

-- a difference comes out of the low halves
in_halves : (y a b p : ℕ) → a ≤ 65536 → b ≤ a → a ≤ b + p → y < p → p ≤ 257 → (y + a % 65536 + 65536 - b % 65536) % 65536 ≡ y + a - b
in_halves y a b p h i j k l = omega arith

-- a sum that has wrapped around already leaves the same
wrapping : (u b : ℕ) → b < 65536 → (u % 65536 + (65536 - b)) % 65536 ≡ (u + 65536 - b) % 65536
wrapping u b l = omega arith

-- of what is left and what is left less p, in 16 bits, the smaller is the remainder
smaller : (x q p v : ℕ) → v ≡ x - q * p → q * p ≤ x → v < p + p → p ≤ 257 → min v ((v + (65536 - p)) % 65536) ≡ x % p
smaller x q p v e h l m = go (dec_lt v p)
  where
    go : Dec (v < p) → min v ((v + (65536 - p)) % 65536) ≡ x % p
    go (yes b) = let s : min v ((v + (65536 - p)) % 65536) ≡ x - q * p = omega arith in s ∙ rest-one x q p h (omega arith)
    go (no b) = let s : min v ((v + (65536 - p)) % 65536) ≡ x - q * p - p = omega arith in s ∙ rest-two x q p (omega arith) (omega arith)

module _ {p h r : ℕ} (e : Reciprocal p h r) (x y : ℕ) (lx : x < p) (ly : y < p) where
  pub product : x * h ≤ 65536
  product = omega (arith, mul-le-mul lx256 lh256)
    where
      lx256 : x ≤ 256
      lx256 = omega (arith, e.small)

      lh256 : h ≤ 256
      lh256 = omega (arith, e.small, e.less)

  pub under : x * r / 65536 * p ≤ x * h
  under = rw e.is (omega (arith, mul-le-mul_right p (div-mul-le_self (x * (h * 65536 / p)) 65536), mul-le-mul_left x (div-mul-le_self (h * 65536) p)))

  pub over : x * h ≤ x * r / 65536 * p + p
  over =
      rw e.is
      (omega (
        arith,
        mul-le-mul_left x (lt-div-mul-add {a = h * 65536} {b = p} e.pos),
        mul-le-mul_right p (lt-div-mul-add {a = x * (h * 65536 / p)} {b = 65536} (omega arith)),
        mul-le-mul_left x e.small,
      ))

  -- in 16 bits nothing is lost
  pub same : (y + x * h % 65536 + 65536 - x * r / 65536 * p % 65536) % 65536 ≡ y + x * h - x * r / 65536 * p
  same = in_halves y (x * h) (x * r / 65536 * p) p product under over ly e.small

  same-wrapping : ((y + x * h % 65536) % 65536 + (65536 - x * r / 65536 * p % 65536)) % 65536 ≡ y + x * h - x * r / 65536 * p
  same-wrapping = wrapping (y + x * h % 65536) (x * r / 65536 * p % 65536) (omega arith) ∙ same

  pub narrow : (v : ℕ) → v ≡ ((y + x * h % 65536) % 65536 + (65536 - x * r / 65536 * p % 65536)) % 65536 → min v ((v + (65536 - p)) % 65536) ≡ (y + h * x) % p
  narrow v s =
      smaller (y + x * h) (x * r / 65536) p v (s ∙ same-wrapping) (omega (arith, under)) (omega (arith, s, same-wrapping, over)) e.small
      ∙ ap (λ (n : ℕ). n % p) (omega arith)
