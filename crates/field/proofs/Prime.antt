-- Facts shared by the fields, for every prime p: inverses exist and are unique, no product of two nonzero residues is 0; and the five primes,
-- by trial division. An inverse is worked out by a -> p % a, which ends at 1 because p is prime.
use mathlib.Core.Path.{◌≡◌, refl, sym, ap, ◌∙◌, ◌≡⟨◌⟩◌, ◌∎}
use mathlib.Core.Logic.{◌≢◌}
use mathlib.Core.Bool.{Bool, true, false}
use Prim.Native.Nat.{ℕ, zero, suc, ◌+◌, ◌-◌, ◌*◌, ◌/◌, ◌%◌, ◌≤◌, ◌<◌}
use native.Mathlib.Omega.{arith}
use native.Mathlib.Nat.{mod-add-div', mod-lt, mod-eq_of_lt, mul-mod_right, mul-le-mul, zero-mod, one-mul, mul_comm, mul_assoc, mul-sub, suc-mul, div-add-mod', add-mul-mod_self_right}
use lib.Dec.{eqb, leb, ltb, T, lit<}
use borrow.Author.Tests.{eqb-true, eqb-false, leb-true, leb-false, lt-ltb, le-ltb}
use Rattle.base.specs.Choice.{pick}
use Rattle.base.specs.Search.{first, First, found, missing}
use Rattle.base.proofs.Search.{first-is}
use Rattle.base.proofs.Choice.{either}
use Rattle.field.specs.Prime.{Prime, inverse_of, Inverse}
use Rattle.field.proofs.Congruence.{cong-two, mul-mod-mod, mod-mul-mod}

-- THE FIVE PRIMES
-- trial: none of 2 .. n + 1 divides p
unfoldable pub trial : ℕ → ℕ → Bool
trial p zero = true
trial p (suc n) = elim (eqb (p % suc (suc n)) 0) [ true ↦ false | false ↦ trial p n ]

trial-step : (p n : ℕ) → T (trial p (suc n)) → (p % suc (suc n) ≢ 0) × T (trial p n)
unfolding trial
trial-step p n = go (eqb (p % suc (suc n)) 0) refl
  where
    go : (b : Bool) → eqb (p % suc (suc n)) 0 ≡ b → T (elim b [ true ↦ false | false ↦ trial p n ]) → (p % suc (suc n) ≢ 0) × T (trial p n)
    go true e t = absurd t
    go false e t = (eqb-false (p % suc (suc n)) 0 e, t)

trial-at : (p n : ℕ) → T (trial p n) → (a : ℕ) → 1 < a → a ≤ suc n → p % a ≢ 0
trial-at p zero t a l m e = omega arith
trial-at p (suc n) t a l m e = go (trial-at p n (trial-step p n t).1 a l)
  where
    go : (a ≤ suc n → p % a ≢ 0) → ⊥
    go ih = either a (suc (suc n)) ⊥ (λ d. (trial-step p n t).0 (rw (← d) e)) (λ d. ih (omega (arith, d)) e)

-- trial division by 2 .. n + 1 is enough where (n + 2) * (n + 2) is above p
pub prime-by : (p n : ℕ) → 1 < p → p < (n + 2) * (n + 2) → T (trial p n) → Prime p
prime-by p n l m t = record { big = l; indivisible = go }
  where
    far : (a q : ℕ) → 1 < a → a < p → suc n < a → p ≡ q * a → ⊥
    far a q l₁ l₂ l₃ e = small (leb q (suc n)) refl
      where
        two : (k : ℕ) → p ≡ k * a → 1 < k
        two zero d = omega arith
        two (suc zero) d = omega arith
        two (suc (suc k)) d = omega arith

        small : (b : Bool) → leb q (suc n) ≡ b → ⊥
        small true d = trial-at p n t q (two q e) (leb-true q (suc n) d) (rw e (mul-mod_right q a))
        small false d = let h = leb-false q (suc n) d in omega (arith, mul-le-mul {n₁ = n + 2} {m₁ = n + 2} {n₂ = q} {m₂ = a} (omega arith) (omega arith))

    go : (a : ℕ) → 1 < a → a < p → p % a ≢ 0
    go a l₁ l₂ e = pick-it (leb a (suc n)) refl
      where
        pick-it : (b : Bool) → leb a (suc n) ≡ b → ⊥
        pick-it true d = trial-at p n t a l₁ (leb-true a (suc n) d) e
        pick-it false d = far a (p / a) l₁ l₂ (leb-false a (suc n) d) (omega (arith, mod-add-div' p a))

pub prime-2 : Prime 2
unfolding trial
prime-2 = prime-by 2 0 (lit< tt) (lit< tt) tt

pub prime-7 : Prime 7
unfolding trial
prime-7 = prime-by 7 1 (lit< tt) (lit< tt) tt

pub prime-251 : Prime 251
unfolding trial
prime-251 = prime-by 251 14 (lit< tt) (lit< tt) tt

pub prime-257 : Prime 257
unfolding trial
prime-257 = prime-by 257 15 (lit< tt) (lit< tt) tt

pub prime-65521 : Prime 65521
unfolding trial
prime-65521 = prime-by 65521 254 (lit< tt) (lit< tt) tt

-- INVERSES
-- the step: p = r + q a, and i an inverse of r
euclid-step : (p a q r i : ℕ) → i < p → p ≡ r + q * a → (r * i) % p ≡ 1 → (a * ((q * (p - i)) % p)) % p ≡ 1
euclid-step p a q r i l e h = mul-mod-mod a (q * (p - i)) p ∙ go (p - i) (omega arith) ∙ h
  where
    go : (k : ℕ) → i + k ≡ p → (a * (q * k)) % p ≡ (r * i) % p
    go k d = cong-two p r k (a * (q * k)) (r * i) (omega (arith, ap (λ x. k * x) e, ap (λ x. r * x) d))

-- there is one, by recursion on a bound f of a
exists : (p : ℕ) → Prime p → (f a : ℕ) → a ≤ f → 0 < a → a < p → (r : ℕ) × (r < p) × ((a * r) % p ≡ 1)
exists p P zero a l₀ l₁ l₂ = absurd (omega arith)
exists p P (suc f) a l₀ l₁ l₂ = go (exists p P f (p % a)) (leb a 1) refl
  where
    go : (p % a ≤ f → 0 < p % a → p % a < p → (r : ℕ) × (r < p) × ((p % a * r) % p ≡ 1)) → (b : Bool) → leb a 1 ≡ b → (r : ℕ) × (r < p) × ((a * r) % p ≡ 1)
    go ih true e = let h : a ≡ 1 = omega (arith, leb-true a 1 e) in (1, P.big, rw h (mod-eq_of_lt P.big))
    go ih false e =
        let big : 1 < a = leb-false a 1 e in
        let low : p % a < a = mod-lt p l₁ in
        let pos : p % a ≢ 0 = P.indivisible a big l₂ in
        let i = ih (omega arith) (omega arith) (omega arith) in
        ((p / a * (p - i.0)) % p, mod-lt (p / a * (p - i.0)) (omega (arith, P.big)), euclid-step p a (p / a) (p % a) i.0 i.1 (sym (mod-add-div' p a)) i.2)

pub inverse-right : (p : ℕ) → Prime p → (a : ℕ) → 0 < a → a < p → (a * inverse_of p a) % p ≡ 1
unfolding inverse_of
inverse-right p P a l m = go (first (λ r. eqb (a * r % p) 1) p) (first-is (λ r. eqb (a * r % p) 1) p)
  where
    go : (r : ℕ) → First (λ r. eqb (a * r % p) 1) p r → (a * pick (ltb r p) r 0) % p ≡ 1
    go r (found h e n) = rw (lt-ltb r p h) (eqb-true (a * r % p) 1 e)
    go r (missing h n) = let i = exists p P a a (omega arith) l m in absurd (eqb-false (a * i.0 % p) 1 (n i.0 i.1) i.2)

pub inverse-below : (p a : ℕ) → 0 < p → inverse_of p a < p
unfolding inverse_of
inverse-below p a pos = go (first (λ r. eqb (a * r % p) 1) p) (first-is (λ r. eqb (a * r % p) 1) p)
  where
    go : (r : ℕ) → First (λ r. eqb (a * r % p) 1) p r → pick (ltb r p) r 0 < p
    go r (found h e n) = rw (lt-ltb r p h) h
    go r (missing h n) = rw (le-ltb r p (omega arith)) pos

pub inverse-zero : (p : ℕ) → 1 < p → inverse_of p 0 ≡ 0
unfolding inverse_of
inverse-zero p big = go (first (λ r. eqb (0 * r % p) 1) p) (first-is (λ r. eqb (0 * r % p) 1) p)
  where
    go : (r : ℕ) → First (λ r. eqb (0 * r % p) 1) p r → pick (ltb r p) r 0 ≡ 0
    go r (found h e n) = absurd (omega (arith, sym (ap (λ z. z % p) (omega arith) ∙ zero-mod p) ∙ eqb-true (0 * r % p) 1 e))
    go r (missing h n) = rw (le-ltb r p (omega arith))

-- and it is the only one
pub inverse-only : (p : ℕ) → Prime p → (a r : ℕ) → 0 < a → a < p → r < p → a * r % p ≡ 1 → r ≡ inverse_of p a
inverse-only p P a r pos lt hr er =
    let i = inverse_of p a in
    r ≡⟨ sym (mod-eq_of_lt hr) ⟩
    r % p ≡⟨ ap (λ n. n % p) (sym (one-mul r)) ⟩
    (1 * r) % p ≡⟨ ap (λ n. n * r % p) (sym (inverse-right p P a pos lt)) ⟩
    (a * i % p * r) % p ≡⟨ mod-mul-mod (a * i) r p ⟩
    (a * i * r) % p ≡⟨ ap (λ n. n % p) (omega arith) ⟩
    (a * r * i) % p ≡⟨ sym (mod-mul-mod (a * r) i p) ⟩
    (a * r % p * i) % p ≡⟨ ap (λ n. n * i % p) er ⟩
    (1 * i) % p ≡⟨ ap (λ n. n % p) (one-mul i) ⟩
    i % p ≡⟨ mod-eq_of_lt (inverse-below p a (omega (arith, P.big))) ⟩
    i ∎

-- what the code promises, from a product
pub inverse-by : (p : ℕ) → Prime p → (a r : ℕ) → 0 < a → a < p → r < p → a * r % p ≡ 1 → Inverse p a r
inverse-by p P a r pos lt hr er =
    record { is = inverse-only p P a r pos lt hr er; below = hr; product = λ n. er; zero = λ z. absurd (omega arith) }

pub inverse-of-zero : (p : ℕ) → Prime p → (a : ℕ) → a ≡ 0 → Inverse p a 0
inverse-of-zero p P a e =
    record { is = rw e (sym (inverse-zero p P.big)); below = omega (arith, P.big); product = λ n. absurd (n e); zero = λ z. refl }

-- no product of two nonzero residues is 0
pub zero-product : (p : ℕ) → Prime p → (a b : ℕ) → (a * b) % p ≡ 0 → a % p ≢ 0 → b % p ≡ 0
zero-product p P a b e h =
    let low : a % p < p = mod-lt a (omega (arith, P.big)) in
    let i = inverse_of p (a % p) in
    let one : (a * i) % p ≡ 1 = sym (mod-mul-mod a i p) ∙ inverse-right p P (a % p) (omega arith) low in
    b % p ≡⟨ ap (λ x. x % p) (omega arith) ⟩
    (1 * b) % p ≡⟨ ap (λ x. (x * b) % p) (sym one) ⟩
    ((a * i) % p * b) % p ≡⟨ mod-mul-mod (a * i) b p ⟩
    (a * i * b) % p ≡⟨ ap (λ x. x % p) (omega arith) ⟩
    (i * (a * b)) % p ≡⟨ sym (mul-mod-mod i (a * b) p) ⟩
    (i * ((a * b) % p)) % p ≡⟨ ap (λ x. (i * x) % p) e ⟩
    (i * 0) % p ≡⟨ ap (λ x. x % p) (omega arith) ⟩
    0 % p ≡⟨ zero-mod p ⟩
    0 ∎

-- one turn of the code's loop: a acc = cur becomes a (acc (p - p / cur)) = p % cur
turn : (p cur : ℕ) → 0 < cur → cur < p → cur * (p - p / cur) % p ≡ p % cur
turn p cur pos lt = ap (λ n. n % p) e ∙ add-mul-mod_self_right (p % cur) (cur - 1) p ∙ mod-eq_of_lt (omega (arith, mod-lt p pos))
  where
    e : cur * (p - p / cur) ≡ p % cur + (cur - 1) * p
    e = let one : suc (cur - 1) ≡ cur = omega arith in
        omega (arith, mul-sub cur p (p / cur), mul_comm cur (p / cur), div-add-mod' p cur, suc-mul (cur - 1) p, ap (λ n. n * p) one)

pub inverse-turn : (p a acc cur : ℕ) → 0 < cur → cur < p → a * acc % p ≡ cur → a * (acc * (p - p / cur) % p) % p ≡ p % cur
inverse-turn p a acc cur pos lt inv =
    mul-mod-mod a (acc * (p - p / cur)) p
    ∙ ap (λ n. n % p) (sym (mul_assoc a acc (p - p / cur)))
    ∙ sym (mod-mul-mod (a * acc) (p - p / cur) p)
    ∙ ap (λ n. n * (p - p / cur) % p) inv
    ∙ turn p cur pos lt
