-- Private and determining sets beside each other (document 02, A5), for every prime p and every matrix, and for any set; proofs/PrivateSets.antt proves it.
-- PrivateSets: no set is both private and determining; where there is one position, every set is one of the two
use Rattle.std.specs.Prelude.{◌≡◌, Bool, true, not, ◌⊎◌, ℕ, ◌≤◌}
use Rattle.base.specs.Rules.{refusal}
use Rattle.field.specs.Prime.{Prime}
use Rattle.scheme.specs.Setup.{Setup}
use Rattle.scheme.specs.Answers.{yes, no}
use Rattle.scheme.specs.Sets.{determines, is_private}
use Rattle.scheme.specs.Calls.{set_rules, determines_call, private_call}

pub record PrivateSets : Type 0 where
  pub not-both : (S : Setup) (X : ℕ → Bool) → Prime S.p → 1 ≤ S.l → is_private S X ≡ true → determines S X ≡ true → ⊥
  pub one-position : (S : Setup) (X : ℕ → Bool) → Prime S.p → S.l ≡ 1 → is_private S X ≡ not (determines S X)
  -- the same of the calls, whatever they are handed
  pub not-both-yes : (S : Setup) (s : ℕ) → private_call S s ≡ yes → determines_call S s ≡ yes → ⊥
  pub one-yes : (S : Setup) (s : ℕ) → S.l ≡ 1 → refusal (set_rules S s) ≡ 0
      → ((private_call S s ≡ yes) × (determines_call S s ≡ no)) ⊎ ((private_call S s ≡ no) × (determines_call S s ≡ yes))
