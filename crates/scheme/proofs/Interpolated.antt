-- Openings on a points matrix by interpolation: the shares of the first d members fix one polynomial; if the further shares lie on it, its values at
-- 0, .., ℓ - 1 are the secrets, and if one is off it, no vector gives all the shares.
-- curve: the polynomial through the shares of the first d members
use mathlib.Core.Path.{◌≡◌, refl, sym, ap, ◌∙◌}
use mathlib.Core.Bool.{Bool, true, false}
use mathlib.Core.List.{List}
use Prim.Native.Nat.{ℕ, ◌%◌, ◌≤◌, ◌<◌}
use native.Mathlib.Nat.{mod-eq_of_lt}
use native.Mathlib.Omega.{arith}
use lib.Dec.{ltb}
use borrow.Author.Tests.{ltb-true, ltb-false}
use Rattle.base.specs.Rules.{given}
use Rattle.base.specs.Search.{Vec}
use Rattle.base.specs.Fill.{tab}
use Rattle.base.proofs.Search.{first_vec-none}
use Rattle.field.specs.Dot.{at, dot}
use Rattle.polynomial.specs.Polynomial.{Poly, lagrange}
use Rattle.polynomial.proofs.Polynomial.{agree}
use Rattle.polynomial.proofs.Interpolation.{lagrange-poly, lagrange-node}
use Rattle.scheme.specs.Setup.{Setup, dim}
use Rattle.scheme.specs.Answers.{inconsistent}
use Rattle.scheme.specs.Sets.{members}
use Rattle.scheme.specs.Opening.{gives, opened_by, opening}
use Rattle.scheme.specs.PointSets.{OnPoints}
use Rattle.scheme.proofs.Sets.{count}
use Rattle.scheme.proofs.Certificates.{gives_at, by-search, opened-by}
use Rattle.scheme.proofs.PointSets.{node, poly_of, poly_of-poly, first-differ, member-value, vector-value, enough-determine}

abbrev pub curve : Setup → (ℕ → Bool) → List ℕ → ℕ → ℕ
curve S X xs x = dot (dim S) (lagrange S.p (node S X) (dim S) x) (at xs)

module _ (S : Setup) (on : OnPoints S) (X : ℕ → Bool) (many : dim S ≤ count S X) (xs : List ℕ) (ok : Vec S.p (count S X) xs) where
  pub curve-poly : Poly S.p (dim S) (curve S X xs)
  curve-poly = lagrange-poly S.p on.prime (node S X) (dim S) (first-differ S on X many) (at xs)

  pub curve-at : (a : ℕ) → a < dim S → curve S X xs (node S X a) % S.p ≡ at xs a
  curve-at a l =
      lagrange-node S.p on.prime (node S X) (dim S) (first-differ S on X many) (at xs) a l ∙ mod-eq_of_lt (ok.small a (omega arith))

  -- the further shares lie on it
  pub through : ((a : ℕ) → dim S ≤ a → a < count S X → curve S X xs (node S X a) % S.p ≡ at xs a)
      → opening S X xs ≡ given (tab S.l (λ q. curve S X xs q % S.p))
  through on-it =
      opened-by S X xs (omega (arith, on.prime.big)) (enough-determine S on X many) (curve S X xs)
      (λ a l. member-value S on X a l curve-poly ∙ each a l (ltb a (dim S)) refl)
    where
      each : (a : ℕ) → a < count S X → (b : Bool) → ltb a (dim S) ≡ b → curve S X xs (node S X a) % S.p ≡ at xs a
      each a l true e = curve-at a (ltb-true a (dim S) e)
      each a l false e = on-it a (ltb-false a (dim S) e) l

  -- one is off it: the polynomial of a vector that gave all the shares would be the same
  pub off : (a : ℕ) → dim S ≤ a → a < count S X → (curve S X xs (node S X a) % S.p ≡ at xs a → ⊥) → opening S X xs ≡ inconsistent
  off a h l ne =
      by-search S X xs (enough-determine S on X many)
      ∙ ap (opened_by S.l) (first_vec-none S.p (dim S) (gives S (members S.n X) xs) (λ v _ g. ne (meets v g)))
    where
      value : (v : List ℕ) → gives S (members S.n X) xs v ≡ true → (b : ℕ) → b < count S X → poly_of S (at v) (node S X b) % S.p ≡ at xs b
      value v g b m = sym (vector-value S on X b m (at v)) ∙ gives_at S X xs v g b m

      meets : (v : List ℕ) → gives S (members S.n X) xs v ≡ true → curve S X xs (node S X a) % S.p ≡ at xs a
      meets v g =
          (agree S.p on.prime (node S X) (first-differ S on X many) curve-poly (poly_of-poly S on (at v))
          (λ i m. record { eq = curve-at i m ∙ sym (value v g i (omega arith)) }) (node S X a)).eq
          ∙ value v g a l
