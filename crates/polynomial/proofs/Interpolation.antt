-- Interpolation modulo a prime: Lagrange's row gives the value of every polynomial, and no other row does so even for the powers; so for the points
-- matrix, whose nodes are 0, .., d - 1.
use mathlib.Core.Path.{◌≡◌, refl, sym, ap, ◌∙◌, ◌≡⟨◌⟩◌, ◌∎}
use mathlib.Core.Bool.{Bool, true, false}
use mathlib.Core.List.{[], ◌∷◌}
use Prim.Native.Nat.{ℕ, zero, suc, ◌+◌, ◌*◌, ◌%◌, ◌^◌, ◌≤◌, ◌<◌}
use native.Mathlib.Omega.{arith}
use native.Mathlib.Nat.{mod-lt, mod-mod, mod-eq_of_lt, zero-mod, pow-zero}
use lib.Dec.{ltb}
use borrow.Author.Tests.{eq-eqb, ne_eqb, ltb-true, ltb-false}
use Rattle.base.specs.Fill.{tab, tab_from}
use Rattle.base.specs.Search.{first, first_from}
use Rattle.base.specs.Sum.{unit}
use Rattle.base.proofs.Choice.{either}
use Rattle.base.proofs.Sum.{sum-ext, unit-same, unit-other}
use Rattle.field.specs.Prime.{Prime, inverse_of}
use Rattle.field.proofs.Congruence.{mod-mul-mod, Cong, ~of, ~sym, under}
use Rattle.field.proofs.Prime.{inverse-right}
use Rattle.field.specs.Dot.{dot}
use Rattle.polynomial.specs.Polynomial.{Poly, minus, basis, lagrange, point}
use Rattle.field.proofs.Dot.{dot-comm, dot-mod, dot-mod-right, dot-unit}
use Rattle.polynomial.proofs.Polynomial.{powers-suffice, poly-resp, power-poly, poly-sum, poly-linear, Distinct, minus-zero, minus-same, zero-factor, agree}

module _ (p : ℕ) (P : Prime p) (a : ℕ → ℕ) where
  -- THE BASIS
  factor-other : (n j x : ℕ) → (n ≡ j → ⊥) → basis p (suc n) j a x ≡ basis p n j a x * minus p x (a n)
  unfolding basis
  factor-other n j x h = rw (ne_eqb n j h)

  factor-same : (n j x : ℕ) → n ≡ j → basis p (suc n) j a x ≡ basis p n j a x
  unfolding basis
  factor-same n j x e = rw (eq-eqb n j e) (omega arith)

  -- up to the node that is left out each factor adds a coefficient; leaving it out keeps n factors to n coefficients
  basis-before : (n j : ℕ) → n ≤ j → Poly p (suc n) (basis p n j a)
  basis-before zero j l = unfold basis in poly-resp p (λ x. ~of p (sym (pow-zero x))) (power-poly p {t = 0} (omega arith))
  basis-before (suc n) j l = poly-resp p (λ x. ~of p (factor-other n j x (λ e. omega arith))) (poly-linear p (a n) (basis-before n j (omega arith)))

  pub basis-poly : (n j : ℕ) → j < n → Poly p n (basis p n j a)
  basis-poly zero j l = absurd (omega arith)
  basis-poly (suc n) j l =
      either n j _
      (λ e. poly-resp p (λ x. ~of p (factor-same n j x e)) (basis-before n j (omega arith)))
      (λ h. poly-resp p (λ x. ~of p (factor-other n j x h)) (poly-linear p (a n) (basis-poly n j (omega (arith, h)))))

  pub basis-zero : (n j i : ℕ) → i < n → (i ≡ j → ⊥) → Cong p (basis p n j a (a i)) 0
  unfolding basis
  basis-zero zero j i l h = absurd (omega arith)
  basis-zero (suc n) j i l h =
      either i n _
      (λ e. rw (ne_eqb n j (λ q. h (e ∙ q))) (grw (under, minus-zero p P (~of p (ap a e))) (~of p (omega arith))))
      (λ k. grw (under, basis-zero n j i (omega (arith, k)) h) (~of p (omega arith)))

  pub basis-nonzero : (n j x : ℕ) → ((t : ℕ) → t < n → (t ≡ j → ⊥) → Cong p x (a t) → ⊥) → Cong p (basis p n j a x) 0 → ⊥
  basis-nonzero zero j x h e = unfold basis in omega (arith, mod-eq_of_lt P.big, e.eq, zero-mod p)
  basis-nonzero (suc n) j x h e =
      let before = basis-nonzero n j x (λ t l. h t (omega arith)) in
      either n j ⊥
      (λ q. before (rw (factor-same n j x q) at e))
      (λ q. h n (omega arith) q (minus-same p P (zero-factor p P (rw (factor-other n j x q) at e) before)))

  -- LAGRANGE'S ROW
  module _ (d : ℕ) (far : Distinct p d a) where
    -- at a node the row is a unit vector
    pub own-node : (j : ℕ) → j < d → Cong p (lagrange p a d (a j) j) 1
    unfolding lagrange
    own-node j l =
        let B = basis p d j a (a j) in
        let z : B % p ≡ 0 → ⊥ = λ e. basis-nonzero d j (a j) (λ t m h c. far t j m l h (~sym c)) (record { eq = e ∙ sym (zero-mod p) }) in
        let inverse = inverse-right p P (B % p) (omega (arith, z)) (mod-lt B (omega (arith, P.big))) in
        record { eq = ap (λ z. z % p) (omega arith) ∙ sym (mod-mul-mod B (inverse_of p (B % p)) p) ∙ inverse ∙ sym (mod-eq_of_lt P.big) }

    node_row : (i j : ℕ) → i < d → j < d → Cong p (lagrange p a d (a i) j) (unit i j)
    node_row i j l m =
        either i j _
        (λ e. rw (← e, unit-same i) (own-node i l))
        (λ h. rw (unit-other i j h) (unfold lagrange in grw (under, basis-zero d j i l h) (~of p (omega arith))))

    -- of any d values v the row makes a polynomial, and it has them at the nodes
    pub lagrange-poly : (v : ℕ → ℕ) → Poly p d (λ x. dot d (lagrange p a d x) v)
    unfolding dot lagrange
    lagrange-poly v =
        poly-resp p (λ x. ~of p (sum-ext d _ _ (λ j l. omega arith)))
        (poly-sum p d (λ j. inverse_of p (basis p d j a (a j) % p) * v j) (λ j. basis p d j a) (basis-poly d))

    pub lagrange-node : (v : ℕ → ℕ) (i : ℕ) → i < d → dot d (lagrange p a d (a i)) v % p ≡ v i % p
    lagrange-node v i l = dot-mod p d _ (unit i) v (λ j m. (node_row i j l m).eq) ∙ ap (λ z. z % p) (dot-unit d i v l)

    pub interpolates : {f : ℕ → ℕ} → Poly p d f → (x : ℕ) → dot d (lagrange p a d x) (λ j. f (a j)) % p ≡ f x % p
    interpolates F x = (agree p P a far (lagrange-poly _) F (λ i l. record { eq = lagrange-node _ i l }) x).eq

    -- and it is the only row that is right on the powers
    pub lagrange-only : (r : ℕ → ℕ) (x : ℕ) → ((t : ℕ) → t < d → dot d r (λ j. a j ^ t) % p ≡ x ^ t % p)
        → (j : ℕ) → j < d → r j % p ≡ lagrange p a d x j % p
    lagrange-only r x h j l =
        r j % p ≡⟨ ap (λ z. z % p) (sym (dot-unit d j r l) ∙ dot-comm d _ _) ⟩
        dot d r (unit j) % p ≡⟨ dot-mod-right p d r _ _ (λ i m. sym (lagrange-node (unit j) i m)) ⟩
        dot d r (λ i. dot d (lagrange p a d (a i)) (unit j)) % p ≡⟨ powers-suffice p a r x h (lagrange-poly (unit j)) ⟩
        dot d (lagrange p a d x) (unit j) % p ≡⟨ ap (λ z. z % p) (dot-comm d _ _ ∙ dot-unit d j _ l) ⟩
        lagrange p a d x j % p ∎

-- NODES BELOW p
-- numbers below p that differ are not congruent
pub differ : {p i j : ℕ} → i < p → j < p → (i ≡ j → ⊥) → Cong p i j → ⊥
differ l m h c = h (sym (mod-eq_of_lt l) ∙ c.eq ∙ mod-eq_of_lt m)

-- so nodes that rise are distinct
pub rising : {p d : ℕ} (a : ℕ → ℕ) → ((i : ℕ) → i < d → a i < p) → ((i j : ℕ) → i < j → j < d → a i < a j) → Distinct p d a
rising a low up i j l m h = differ (low i l) (low j m) (λ e. go e (ltb i j) refl)
  where
    go : a i ≡ a j → (b : Bool) → ltb i j ≡ b → ⊥
    go e true t = omega (arith, up i j (ltb-true i j t) m)
    go e false t = omega (arith, up j i (omega (arith, ltb-false i j t, h)) l)

-- THE POINTS MATRIX

pub point-below : (p d i j : ℕ) → 0 < p → point p d i j < p
unfolding point
point-below p d i j pos = mod-lt _ pos

module _ (p : ℕ) (P : Prime p) (d i : ℕ) (fits : d ≤ p) where
  nodes : Distinct p d (λ t. t)
  nodes s t l m = differ (omega arith) (omega arith)

  pub point-values : {f : ℕ → ℕ} → Poly p d f → dot d (point p d i) f % p ≡ f (d + i) % p
  unfolding point
  point-values F = dot-mod p d _ _ _ (λ j l. mod-mod _ p) ∙ interpolates p P (λ t. t) d nodes F (d + i)

  pub point-powers : (t : ℕ) → t < d → dot d (point p d i) (λ j. j ^ t) % p ≡ (d + i) ^ t % p
  point-powers t l = point-values (power-poly p l)

  pub point-only : (r : ℕ → ℕ) → ((t : ℕ) → t < d → dot d r (λ j. j ^ t) % p ≡ (d + i) ^ t % p)
      → (j : ℕ) → j < d → r j % p ≡ point p d i j
  unfolding point
  point-only r h = lagrange-only p P (λ t. t) d nodes r (d + i) h

-- the rows of three holders over p 7 and d 2
table : tab 3 (λ i. tab 2 (point 7 2 i)) ≡ (6 ∷ 2 ∷ []) ∷ (5 ∷ 3 ∷ []) ∷ (4 ∷ 4 ∷ []) ∷ []
unfolding tab tab_from point lagrange basis minus inverse_of first first_from
table = refl
