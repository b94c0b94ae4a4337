-- The five are primes, and what the constructor's answer says.
use mathlib.Core.Path.{◌≡◌, refl, ap, sym, ◌∙◌}
use mathlib.Core.Bool.{Bool, true, false, false≢true}
use mathlib.Core.List.{[], ◌∷◌}
use mathlib.Core.Logic.{◌⊎◌, inl, inr, ⊎_elim}
use Prim.Native.Nat.{ℕ}
use native.Mathlib.Omega.{arith}
use lib.Dec.{eqb}
use lib.ListN.{get_or}
use borrow.Author.Tests.{eqb-true, ne_eqb}
use Rattle.base.specs.Choice.{pick}
use Rattle.base.specs.Rules.{Answer, refused, given}
use Rattle.field.specs.Prime.{Prime}
use Rattle.field.specs.Fields.{is_field, field_answer, paper}
use Rattle.base.specs.declared.Refusal.{Refusal}
use Rattle.base.specs.Refusals.{number}
use Rattle.std.specs.Prelude.{Err}
use Rattle.field.proofs.Prime.{prime-2, prime-7, prime-251, prime-257, prime-65521}

-- one of the five, as a proposition
abbrev pub Five : ℕ → Type 0
Five p = (p ≡ 2) ⊎ ((p ≡ 7) ⊎ ((p ≡ 251) ⊎ ((p ≡ 257) ⊎ (p ≡ 65521))))

-- by cases on the five
pub five-elim : (p : ℕ) (Z : ℕ → Type 0) → Z 2 → Z 7 → Z 251 → Z 257 → Z 65521 → Five p → Z p
five-elim p Z a b c d e =
    ⊎_elim (λ q. rw q a) (⊎_elim (λ q. rw q b) (⊎_elim (λ q. rw q c) (⊎_elim (λ q. rw q d) (λ q. rw q e))))

pub is_field_lem : (p : ℕ) → Five p → is_field p ≡ true
unfolding is_field
is_field_lem p f = five-elim p (λ p. is_field p ≡ true) refl refl refl refl refl f

pub not-field : (p : ℕ) → (Five p → ⊥) → is_field p ≡ false
unfolding is_field
not-field p n =
    simp (
      ne_eqb p 2 (λ e. n (inl e)),
      ne_eqb p 7 (λ e. n (inr (inl e))),
      ne_eqb p 251 (λ e. n (inr (inr (inl e)))),
      ne_eqb p 257 (λ e. n (inr (inr (inr (inl e))))),
      ne_eqb p 65521 (λ e. n (inr (inr (inr (inr e))))),
    )

pub field-five : (p : ℕ) → is_field p ≡ true → Five p
unfolding is_field
field-five p = go (eqb p 2) refl (eqb p 7) refl (eqb p 251) refl (eqb p 257) refl (eqb p 65521) refl
  where
    go : (a : Bool) → eqb p 2 ≡ a → (b : Bool) → eqb p 7 ≡ b → (c : Bool) → eqb p 251 ≡ c → (d : Bool) → eqb p 257 ≡ d → (e : Bool) → eqb p 65521 ≡ e
        → is_field p ≡ true → Five p
    go true h b i c j d k e l t = inl (eqb-true p 2 h)
    go false h true i c j d k e l t = inr (inl (eqb-true p 7 i))
    go false h false i true j d k e l t = inr (inr (inl (eqb-true p 251 j)))
    go false h false i false j true k e l t = inr (inr (inr (inl (eqb-true p 257 k))))
    go false h false i false j false k true l t = inr (inr (inr (inr (eqb-true p 65521 l))))
    go false h false i false j false k false l t = absurd (false≢true (sym (simp (h, i, j, k, l) refl) ∙ t))

pub field-prime : (p : ℕ) → is_field p ≡ true → Prime p
field-prime p t = five-elim p Prime prime-2 prime-7 prime-251 prime-257 prime-65521 (field-five p t)

-- the field that the constructor gives is the one asked for, and one of the five; it gives none exactly where p is none of them
pub chosen_of : (p q : ℕ) → given (q ∷ []) ≡ field_answer p → (is_field p ≡ true) × (q ≡ p)
chosen_of p q = go (is_field p)
  where
    go : (b : Bool) → given (q ∷ []) ≡ pick b (given (p ∷ [])) (refused 1) → (b ≡ true) × (q ≡ p)
    go true e = (refl, ap (λ (a : Answer). get_or a.values 0 0) e)
    go false e = absurd (let z : ◌≡◌ {A = ℕ} 0 1 = ap (λ (a : Answer). a.number) e in omega arith)

pub refused-of : (p : ℕ) (k : Refusal) → paper (Err k) ≡ field_answer p → is_field p ≡ false
refused-of p k = go (is_field p)
  where
    go : (b : Bool) → refused (number k) ≡ pick b (given (p ∷ [])) (refused 1) → b ≡ false
    go true e = absurd (false≢true (ap (λ (a : Answer). a.answered) e))
    go false e = refl
