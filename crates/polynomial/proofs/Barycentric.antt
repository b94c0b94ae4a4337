-- The barycentric form of Lagrange's row: one product over all nodes, and one inverse for each node, in place of a product for each; and the inverses
-- of these products from the inverses of their factors.
-- whole: the product of x - a t over all t below n
use mathlib.Core.Path.{◌≡◌, refl, sym, ap, ◌∙◌}
use Prim.Native.Nat.{ℕ, zero, suc, ◌*◌, ◌%◌, ◌≤◌, ◌<◌}
use native.Mathlib.Omega.{arith}
use borrow.Author.Tests.{eq-eqb, ne_eqb}
use Rattle.base.proofs.Choice.{either}
use Rattle.base.proofs.Sum.{sum-scale}
use Rattle.field.specs.Prime.{Prime, inverse_of}
use Rattle.field.specs.Dot.{dot}
use Rattle.field.proofs.Congruence.{sum-mod, Cong, ~refl, ~of, ~sym, ~trans, ~mul}
use Rattle.polynomial.specs.Polynomial.{Poly, minus, basis, lagrange, prod}
use Rattle.polynomial.proofs.Polynomial.{Distinct}
use Rattle.polynomial.proofs.Interpolation.{own-node, interpolates}

unfoldable pub whole : ℕ → ℕ → (ℕ → ℕ) → ℕ → ℕ
whole p zero a x = 1
whole p (suc n) a x = whole p n a x * minus p x (a n)

-- THE PRODUCT OVER ALL NODES
module _ (p : ℕ) (a : ℕ → ℕ) (x : ℕ) where
  -- up to the node that is left out the two products are one
  whole_before : (n j : ℕ) → n ≤ j → basis p n j a x ≡ whole p n a x
  unfolding basis whole
  whole_before zero j l = refl
  whole_before (suc n) j l = rw (ne_eqb n j (λ e. omega arith), whole_before n j (omega arith)) refl

  pub basis-whole : (n j : ℕ) → j < n → basis p n j a x * minus p x (a j) ≡ whole p n a x
  unfolding basis whole
  basis-whole zero j l = absurd (omega arith)
  basis-whole (suc n) j l =
      either n j _
      (λ e. rw (eq-eqb n j e, whole_before n j (omega arith), e) (omega arith))
      (λ h. rw (ne_eqb n j h) (omega (arith, ap (λ z. z * minus p x (a n)) (basis-whole n j (omega (arith, h))))))

  -- INVERSES OF PRODUCTS
  pub inverse-whole : (n : ℕ) (u : ℕ → ℕ) → ((t : ℕ) → t < n → Cong p (u t * minus p x (a t)) 1) → Cong p (prod n u * whole p n a x) 1
  unfolding prod whole
  inverse-whole zero u h = ~of p refl
  inverse-whole (suc n) u h =
      ~trans {b = (prod n u * whole p n a x) * (u n * minus p x (a n))} (~of p (omega arith))
      (~trans (~mul (inverse-whole n u (λ t l. h t (omega arith))) (h n (omega arith))) (~of p (omega arith)))

  pub inverse-basis : (n j : ℕ) (u : ℕ → ℕ) → ((t : ℕ) → t < n → (t ≡ j → ⊥) → Cong p (u t * minus p x (a t)) 1) → u j ≡ 1
      → Cong p (prod n u * basis p n j a x) 1
  unfolding prod basis
  inverse-basis zero j u h e = ~of p refl
  inverse-basis (suc n) j u h e =
      let before = inverse-basis n j u (λ t l. h t (omega arith)) e in
      either n j _
      (λ q. rw (eq-eqb n j q, ap u q ∙ e) (~trans (~of p (omega arith)) before))
      (λ q. rw (ne_eqb n j q)
      (~trans {b = (prod n u * basis p n j a x) * (u n * minus p x (a n))} (~of p (omega arith))
      (~trans (~mul before (h n (omega arith) q)) (~of p (omega arith)))))

-- THE BARYCENTRIC FORM
module _ (p : ℕ) (P : Prime p) (a : ℕ → ℕ) (d : ℕ) (far : Distinct p d a) where
  -- an entry of Lagrange's row, by an inverse w of the basis at its own node and an inverse u of x - a j
  entry_whole : (x j w u : ℕ) → j < d → Cong p (w * basis p d j a (a j)) 1 → Cong p (u * minus p x (a j)) 1
      → Cong p (lagrange p a d x j) (whole p d a x * (w * u))
  unfolding lagrange
  entry_whole x j w u l hw hu =
      let B = basis p d j a (a j) in
      let i = inverse_of p (B % p) in
      let b = basis p d j a x in
      let m = minus p x (a j) in
      ~trans {b = i * b * (1 * 1)} (~of p (omega arith))
      (~trans {b = i * b * (w * B * (u * m))} (~mul (~refl p _) (~sym (~mul hw hu)))
      (~trans {b = i * B * (b * m * (w * u))} (~of p (omega arith))
      (~trans (~mul (own-node p P a d far j l) (~of p (ap (λ z. z * (w * u)) (basis-whole p a x d j l)))) (~of p (omega arith)))))

  pub barycentric : {f : ℕ → ℕ} → Poly p d f → (x : ℕ) (w u : ℕ → ℕ) → ((j : ℕ) → j < d → Cong p (w j * basis p d j a (a j)) 1)
      → ((j : ℕ) → j < d → Cong p (u j * minus p x (a j)) 1) → Cong p (f x) (whole p d a x * dot d (λ j. f (a j) * w j) u)
  unfolding dot
  barycentric {f} F x w u hw hu =
      record {
        eq = sym (interpolates p P a d far F x)
            ∙ sum-mod p d _ (λ j. whole p d a x * (f (a j) * w j * u j))
            (λ j l. (~trans (~mul (entry_whole x j (w j) (u j) l (hw j l) (hu j l)) (~refl p (f (a j)))) (~of p (omega arith))).eq)
            ∙ ap (λ z. z % p) (sum-scale d (whole p d a x) _);
      }
