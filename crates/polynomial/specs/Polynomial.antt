-- Polynomials modulo p, as functions of their argument, and the points matrix.
-- eval: c 0 + c 1 x + .. + c (d - 1) x^(d - 1), by Horner's rule
-- Poly: f is a polynomial of degree below d modulo p: some d coefficients give it
-- minus: x - a modulo p, as x + (p - 1) a, since numbers end at 0
-- basis: the product of x - a t over the t below n other than j: modulo p it is 0 at each of these nodes
-- lagrange: entry j of the row that gives, from the values of a polynomial of degree below d at the nodes a 0, .., a (d - 1), its value at x;
--   the quotient of the basis at x and at its own node
-- prod: f 0 f 1 .. f (n - 1), the product of n numbers
-- point: entry j of row i of the points matrix (document 01: "Points matrix (packed Shamir, after Franklin and Yung 1992): row i gives, from
--   the values of a polynomial of degree below d at 0, 1, .., d − 1, its value at d + i.")
use Rattle.std.specs.Prelude.{◌≡◌, ℕ, zero, suc, ◌+◌, ◌-◌, ◌*◌, ◌%◌, eqb}
use Rattle.base.specs.Choice.{pick}
use Rattle.field.specs.Prime.{inverse_of}

unfoldable pub eval : ℕ → (ℕ → ℕ) → ℕ → ℕ
eval zero c x = 0
eval (suc d) c x = c 0 + x * eval d (λ t. c (suc t)) x

pub record Poly (p d : ℕ) (f : ℕ → ℕ) : Type 0 where
  pub coef : ℕ → ℕ
  pub is : (x : ℕ) → f x % p ≡ eval d coef x % p

unfoldable pub minus : ℕ → ℕ → ℕ → ℕ
minus p x a = x + (p - 1) * a

unfoldable pub basis : ℕ → ℕ → ℕ → (ℕ → ℕ) → ℕ → ℕ
basis p zero j a x = 1
basis p (suc n) j a x = basis p n j a x * pick (eqb n j) 1 (minus p x (a n))

unfoldable pub lagrange : ℕ → (ℕ → ℕ) → ℕ → ℕ → ℕ → ℕ
lagrange p a d x j = inverse_of p (basis p d j a (a j) % p) * basis p d j a x

unfoldable pub prod : ℕ → (ℕ → ℕ) → ℕ
prod zero f = 1
prod (suc n) f = prod n f * f n

unfoldable pub point : ℕ → ℕ → ℕ → ℕ → ℕ
point p d i j = lagrange p (λ t. t) d (d + i) j % p
