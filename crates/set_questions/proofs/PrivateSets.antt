-- Why no set is both private and determining: at one position a reconstruction row and a sweeping vector exclude each other. Where there is one position
-- it has one of the two: what the members' rows do not determine they do not see, and a vector that they do not see, scaled to 1 there, is a sweeping one.
use mathlib.Core.Path.{◌≡◌, refl, sym, ap, ◌∙◌}
use mathlib.Core.Bool.{Bool, true, false, not}
use mathlib.Core.Logic.{◌⊎◌, inl, inr}
use Prim.Native.Nat.{ℕ, ◌*◌, ◌%◌, ◌≤◌, ◌<◌}
use native.Mathlib.Nat.{mod-lt, mod-eq_of_lt, mul-zero, mul_comm, zero-mod}
use native.Mathlib.Omega.{arith}
use Rattle.base.specs.Rules.{refusal}
use Rattle.base.specs.Search.{every}
use Rattle.base.specs.Sum.{unit}
use Rattle.base.proofs.Search.{every-at}
use Rattle.base.proofs.Sum.{unit-same}
use Rattle.field.specs.Prime.{Prime, inverse_of}
use Rattle.field.specs.Dot.{dot}
use Rattle.field.proofs.Congruence.{mod-mul-mod, mul-mod-mod}
use Rattle.field.proofs.Dot.{dot-scale}
use Rattle.field.proofs.Prime.{inverse-right, prime-7}
use Rattle.read_off.specs.ReadOff.{Unseen, Position, fixed, free}
use Rattle.read_off.proofs.Reduced.{determined}
use Rattle.scheme.specs.Setup.{Setup, dim}
use Rattle.scheme.specs.Answers.{yes, no}
use Rattle.scheme.specs.Sets.{holds, has_row, has_sweep, determines, is_private}
use Rattle.scheme.specs.Calls.{set_rules, determines_call, private_call}
use Rattle.scheme.proofs.Calls.{set-ok, decided-ok, limits-prime}
use Rattle.scheme.proofs.Cases.{ex}
use Rattle.scheme.proofs.Certificates.{is_false, row-in-hand, no_row, sweep-in-hand, never_both}
use Rattle.scheme.proofs.Sets.{count, rows}
use Rattle.set_questions.specs.PrivateSets.{PrivateSets}

module _ (S : Setup) (X : ℕ → Bool) (P : Prime S.p) where
  apart : 1 ≤ S.l → is_private S X ≡ true → determines S X ≡ true → ⊥
  unfolding is_private determines
  apart l h d = never_both S X 0 P.big l (every-at S.l (has_row S X) d 0 l) (every-at S.l (has_sweep S X) h 0 l)

  module _ (one : S.l ≡ 1) where
    -- a vector that the members do not see, scaled
    swept : (t : ℕ → ℕ) → Unseen S.p (count S X) (dim S) (rows S X) 0 t → has_sweep S X 0 ≡ true
    swept t u = sweep-in-hand S X 0 P.big (λ j. c * t j) zeros begins
      where
        c : ℕ
        c = inverse_of S.p (t 0 % S.p)

        zeros : (a : ℕ) → a < count S X → dot (dim S) (rows S X a) (λ j. c * t j) % S.p ≡ 0
        zeros a l =
            ap (λ x. x % S.p) (dot-scale (dim S) c (rows S X a) t)
            ∙ sym (mul-mod-mod c (dot (dim S) (rows S X a) t) S.p)
            ∙ ap (λ x. c * x % S.p) (u.zeros a l)
            ∙ ap (λ x. x % S.p) (mul-zero c)
            ∙ zero-mod S.p

        scaled : c * t 0 % S.p ≡ 1
        scaled =
            ap (λ x. x % S.p) (mul_comm c (t 0))
            ∙ sym (mod-mul-mod (t 0) c S.p)
            ∙ inverse-right S.p P (t 0 % S.p) (omega (arith, u.there)) (mod-lt (t 0) (omega (arith, P.big)))

        begins : (j : ℕ) → j < S.l → c * t j % S.p ≡ unit 0 j % S.p
        begins j l =
            let z : j ≡ 0 = omega (arith, one) in
            rw (z, unit-same 0) (scaled ∙ sym (mod-eq_of_lt P.big))

    opposite : has_sweep S X 0 ≡ not (has_row S X 0)
    opposite = go (determined S.p P (count S X) (dim S) (rows S X) 0 (omega (arith, one)))
      where
        go : {b : Bool} → Position S.p (count S X) (dim S) (rows S X) 0 b → has_sweep S X 0 ≡ not (has_row S X 0)
        go (fixed r h) =
            let has = row-in-hand S X 0 P.big r h in
            is_false (has_sweep S X 0) (never_both S X 0 P.big (omega (arith, one)) has) ∙ ap not (sym has)
        go (free t u) = swept t u ∙ ap not (sym (no_row S X 0 t (omega (arith, one)) u.zeros u.there))

    alternative : is_private S X ≡ not (determines S X)
    unfolding is_private determines every
    alternative = ap (λ n. every n (has_sweep S X)) one ∙ opposite ∙ ap (λ n. not (every n (has_row S X))) (sym one)

-- THE CALLS
yes_or_no : (S : Setup) (s : ℕ) → is_private S (holds s) ≡ not (determines S (holds s)) → refusal (set_rules S s) ≡ 0
    → ((private_call S s ≡ yes) × (determines_call S s ≡ no)) ⊎ ((private_call S s ≡ no) × (determines_call S s ≡ yes))
yes_or_no S s e z = go (determines S (holds s)) refl
  where
    go : (b : Bool) → determines S (holds s) ≡ b
        → ((private_call S s ≡ yes) × (determines_call S s ≡ no)) ⊎ ((private_call S s ≡ no) × (determines_call S s ≡ yes))
    go true d = inr (rw (z, e, d) refl, rw (z, d) refl)
    go false d = inl (rw (z, e, d) refl, rw (z, d) refl)

pub private-sets : PrivateSets
private-sets = record {
  not-both = apart;
  one-position = alternative;
  not-both-yes = λ S s h d.
      let r = decided-ok S s (is_private S (holds s)) h in
      apart S (holds s) (limits-prime S r.0.setup.limits) r.0.setup.limits.secret.0 r.1 (decided-ok S s (determines S (holds s)) d).1;
  one-yes = λ S s one z. yes_or_no S s (alternative S (holds s) (limits-prime S (set-ok S s z).setup.limits) one) z;
}

-- document 01's example has one position
example : (X : ℕ → Bool) → is_private ex X ≡ not (determines ex X)
example X = private-sets.one-position ex X prime-7 refl
