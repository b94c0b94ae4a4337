-- The laws of polynomials modulo p: which functions are polynomials, and, where p is prime, that d values fix one with d coefficients.
use mathlib.Core.Path.{◌≡◌, refl, sym, ap, ◌∙◌, ◌≡⟨◌⟩◌, ◌∎}
use Prim.Native.Nat.{ℕ, zero, suc, ◌+◌, ◌-◌, ◌*◌, ◌%◌, ◌^◌, ◌≤◌, ◌<◌}
use native.Mathlib.Omega.{arith}
use native.Mathlib.Nat.{zero-mod, pow-zero, pow-succ'}
use Rattle.base.specs.Sum.{sum, unit}
use Rattle.field.specs.Prime.{Prime}
use Rattle.field.proofs.Congruence.{cong-by, cong-add, cong-mul, cong-comb, Cong, ~refl, ~of, ~sym, ~trans, ~add, under}
use Rattle.field.proofs.Prime.{zero-product}
use Rattle.field.specs.Dot.{dot}
use Rattle.polynomial.specs.Polynomial.{eval, Poly, minus}
use Rattle.field.proofs.Dot.{dot-comm, dot-comb, dot-mod, dot-mod-right, dot-unit, dot-none, dot-assoc}

-- the first d of a differ modulo p
abbrev pub Distinct : (p d : ℕ) → (ℕ → ℕ) → Type 0
Distinct p d a = (i j : ℕ) → i < d → j < d → (i ≡ j → ⊥) → Cong p (a i) (a j) → ⊥

-- the d coefficients of (c (x) - c (a)) / (x - a), for c of d + 1 coefficients
unfoldable quotient : ℕ → ℕ → (ℕ → ℕ) → ℕ → ℕ
quotient a d c zero = eval d (λ t. c (suc t)) a
quotient a zero c (suc k) = 0
quotient a (suc d) c (suc k) = quotient a d (λ t. c (suc t)) k

-- VALUES BY POWERS
eval-last : (d : ℕ) (c : ℕ → ℕ) (x : ℕ) → eval (suc d) c x ≡ eval d c x + c d * x ^ d
unfolding eval
eval-last zero c x = rw (pow-zero x) (omega arith)
eval-last (suc d) c x = rw (eval-last d (λ t. c (suc t)) x, pow-succ' x d) (omega arith)

pub eval-powers : (d : ℕ) (c : ℕ → ℕ) (x : ℕ) → eval d c x ≡ dot d c (λ t. x ^ t)
unfolding dot sum
eval-powers zero c x = unfold eval in refl
eval-powers (suc d) c x = eval-last d c x ∙ rw (eval-powers d c x) refl

module _ (p : ℕ) where
  pub poly-powers : {d : ℕ} {f : ℕ → ℕ} (F : Poly p d f) (x : ℕ) → f x % p ≡ dot d F.coef (λ t. x ^ t) % p
  poly-powers {d} F x = F.is x ∙ ap (λ z. z % p) (eval-powers d F.coef x)

  -- a row that gives the value at y of the powers gives that of every polynomial
  pub powers-suffice : {d : ℕ} {f : ℕ → ℕ} (a r : ℕ → ℕ) (y : ℕ) → ((t : ℕ) → t < d → dot d r (λ j. a j ^ t) % p ≡ y ^ t % p)
      → Poly p d f → dot d r (λ j. f (a j)) % p ≡ f y % p
  powers-suffice {d} {f} a r y h F =
      dot d r (λ j. f (a j)) % p ≡⟨ dot-mod-right p d r _ _ (λ j l. poly-powers F (a j) ∙ ap (λ z. z % p) (dot-comm d _ _)) ⟩
      dot d r (λ j. dot d (λ t. a j ^ t) F.coef) % p ≡⟨ ap (λ z. z % p) (dot-assoc d d r F.coef (λ j t. a j ^ t)) ⟩
      dot d (λ t. dot d r (λ j. a j ^ t)) F.coef % p ≡⟨ dot-mod p d _ _ F.coef h ⟩
      dot d (λ t. y ^ t) F.coef % p ≡⟨ ap (λ z. z % p) (dot-comm d _ _) ∙ sym (poly-powers F y) ⟩
      f y % p ∎

  -- WHICH FUNCTIONS ARE POLYNOMIALS
  pub poly-resp : {d : ℕ} {f g : ℕ → ℕ} → ((x : ℕ) → Cong p (g x) (f x)) → Poly p d f → Poly p d g
  poly-resp h F = record { coef = F.coef; is = λ x. (h x).eq ∙ F.is x }

  pub power-poly : {t d : ℕ} → t < d → Poly p d (λ x. x ^ t)
  power-poly {t} {d} l = record { coef = unit t; is = λ x. ap (λ z. z % p) (sym (eval-powers d (unit t) x ∙ dot-unit d t (λ i. x ^ i) l)) }

  pub poly-comb : {d : ℕ} {f g : ℕ → ℕ} (a b : ℕ) → Poly p d f → Poly p d g → Poly p d (λ x. a * f x + b * g x)
  poly-comb {d} a b F G = record {
    coef = λ t. a * F.coef t + b * G.coef t;
    is = λ x. cong-comb p a b _ _ _ _ (poly-powers F x) (poly-powers G x)
        ∙ ap (λ z. z % p) (sym (eval-powers d _ x ∙ dot-comb d a b F.coef G.coef (λ t. x ^ t)));
  }

  pub poly-minus : {d : ℕ} {f g : ℕ → ℕ} → Poly p d f → Poly p d g → Poly p d (λ x. minus p (f x) (g x))
  unfolding minus
  poly-minus F G = poly-resp (λ x. ~of p (omega arith)) (poly-comb 1 (p - 1) F G)

  pub poly-sum : {d : ℕ} (n : ℕ) (w : ℕ → ℕ) (f : ℕ → ℕ → ℕ) → ((j : ℕ) → j < n → Poly p d (f j)) → Poly p d (λ x. dot n w (λ j. f j x))
  unfolding dot sum
  poly-sum {d} zero w f F =
      record { coef = λ t. 0; is = λ x. ap (λ z. z % p) (sym (eval-powers d (λ t. 0) x ∙ dot-none d (λ t. 0) (λ t. x ^ t) (λ t l. refl))) }
  poly-sum (suc n) w f F =
      poly-resp (λ x. ~of p (omega arith)) (poly-comb 1 (w n) (poly-sum n w f (λ j m. F j (omega arith))) (F n (omega arith)))

  pub poly-raise : {d e : ℕ} {f : ℕ → ℕ} → d ≤ e → Poly p d f → Poly p e f
  poly-raise {d} l F = poly-resp (λ x. record { eq = poly-powers F x }) (poly-sum d F.coef (λ t x. x ^ t) (λ t m. power-poly (omega arith)))

  pub poly-x : {d : ℕ} {f : ℕ → ℕ} → Poly p d f → Poly p (suc d) (λ x. x * f x)
  unfolding eval
  poly-x F = record {
    coef = λ t. elim t [ zero ↦ 0 | suc k ↦ F.coef k ];
    is = λ x. cong-mul p x x _ _ refl (F.is x) ∙ ap (λ z. z % p) (omega arith);
  }

  -- times x - b
  pub poly-linear : {d : ℕ} {f : ℕ → ℕ} (b : ℕ) → Poly p d f → Poly p (suc d) (λ x. f x * minus p x b)
  unfolding minus
  poly-linear b F = poly-resp (λ x. ~of p (omega arith)) (poly-comb 1 ((p - 1) * b) (poly-x F) (poly-raise (omega arith) F))

module _ (p : ℕ) (P : Prime p) where
  -- DIFFERENCES
  minus_is : (x a : ℕ) → a + minus p x a ≡ x + a * p
  unfolding minus
  minus_is x a = let e : p - 1 + 1 ≡ p = omega (arith, P.big) in omega (arith, ap (λ z. a * z) e)

  -- x - a is 0 exactly where x is a
  pub minus-zero : {x a : ℕ} → Cong p x a → Cong p (minus p x a) 0
  unfolding minus
  minus-zero {x} {a} h = ~trans (~add h (~refl p _)) (record { eq = cong-by p a _ 0 (omega (arith, minus_is a a)) })

  pub minus-same : {x a : ℕ} → Cong p (minus p x a) 0 → Cong p x a
  minus-same {x} {a} h = ~trans {b = a + minus p x a} (record { eq = sym (cong-by p a _ x (minus_is x a)) }) (grw (under, h) (~of p (omega arith)))

  pub zero-factor : {a b : ℕ} → Cong p (a * b) 0 → (Cong p a 0 → ⊥) → Cong p b 0
  zero-factor {a} {b} h k =
      record { eq = zero-product p P a b (h.eq ∙ zero-mod p) (λ e. k (record { eq = e ∙ sym (zero-mod p) })) ∙ sym (zero-mod p) }

  -- DIVISION AND ROOTS
  divides : (a d : ℕ) (c : ℕ → ℕ) (x : ℕ) → Cong p (eval (suc d) c x) (eval (suc d) c a + minus p x a * eval d (quotient a d c) x)
  unfolding eval quotient
  divides a zero c x = ~of p (omega arith)
  divides a (suc d) c x =
      let A = eval (suc d) (λ t. c (suc t)) a in
      grw (under, divides a d (λ t. c (suc t)) x) (record { eq = sym (cong-by p (a * A) _ _ (omega (arith, ap (λ z. z * A) (minus_is x a)))) })

  -- the remainder of f by x - a is f a
  pub divide : {d : ℕ} {f : ℕ → ℕ} (a : ℕ) → Poly p (suc d) f
      → (g : ℕ → ℕ) × Poly p d g × ((x : ℕ) → Cong p (f x) (f a + minus p x a * g x))
  divide {d} a F =
      let q = quotient a d F.coef in (
        eval d q,
        record { coef = q; is = λ x. refl },
        λ x. record { eq = F.is x ∙ (divides a d F.coef x).eq ∙ cong-add p _ _ _ _ (sym (F.is a)) refl },
      )

  -- d distinct roots leave a polynomial with d coefficients 0 everywhere: each root takes one factor away
  pub roots : (d : ℕ) {f : ℕ → ℕ} (a : ℕ → ℕ) → Distinct p d a → Poly p d f
      → ((i : ℕ) → i < d → Cong p (f (a i)) 0) → (x : ℕ) → Cong p (f x) 0
  roots zero a far F h x = unfold eval in record { eq = F.is x }
  roots (suc d) {f} a far F h x =
      let (g, G, is) = divide (a d) F in
      let factor : (x : ℕ) → Cong p (f x) (minus p x (a d) * g x) = λ x. ~trans (is x) (grw (under, h d (omega arith)) (~of p (omega arith))) in
      let apart : (i : ℕ) → i < d → Cong p (minus p (a i) (a d)) 0 → ⊥ = λ i l e. far i d (omega arith) (omega arith) (λ q. omega arith) (minus-same e) in
      let rest : (i : ℕ) → i < d → Cong p (g (a i)) 0 = λ i l. zero-factor (~trans (~sym (factor (a i))) (h i (omega arith))) (apart i l) in
      grw (under, factor x, roots d a (λ i j l m. far i j (omega arith) (omega arith)) G rest x) (~of p (omega arith))

  -- so two that agree at d distinct points agree everywhere
  pub agree : {d : ℕ} {f g : ℕ → ℕ} (a : ℕ → ℕ) → Distinct p d a → Poly p d f → Poly p d g
      → ((i : ℕ) → i < d → Cong p (f (a i)) (g (a i))) → (x : ℕ) → Cong p (f x) (g x)
  agree {d} a far F G h x = minus-same (roots d a far (poly-minus p F G) (λ i l. minus-zero (h i l)) x)
