-- The rehearsal's search over the pairs (i, j) in their order, as two nested loops go through it: the search from place i * n + j on is the search of
-- the whole.
use mathlib.Core.Path.{◌≡◌, refl, sym, ap, ◌∙◌}
use mathlib.Core.Bool.{Bool, not}
use mathlib.Core.List.{List}
use Prim.Native.Nat.{ℕ, ◌+◌, ◌-◌, ◌*◌, ◌<◌, ◌≤◌}
use native.Mathlib.Nat.{add_assoc, le_antisymm, sub-zero}
use native.Mathlib.Omega.{arith}
use lib.Arith.{digits_lt, digits_div, digits_mod}
use borrow.Author.Tests.{eq-eqb, ne_eqb, lt-ltb, le-ltb}
use Rattle.base.specs.Search.{first, first_from}
use Rattle.base.specs.Matrix.{flat}
use Rattle.base.proofs.Search.{first-stop, first_step, first-end}
use Rattle.base.proofs.Fill.{flat-at}
use Rattle.scheme.specs.Setup.{Setup}
use Rattle.scheme.specs.Answers.{fair, disagree}
use Rattle.scheme.specs.Dealing.{pair_value, expected, part, disagrees, rehearse}

abbrev pairs : Setup → ℕ
pairs S = S.n * S.n

abbrev test : Setup → List ℕ → List ℕ → ℕ → Bool
test S gs hs = flat S.n (disagrees S gs hs)

-- no pair before place t disagrees: the search from t on gives what the search of the whole gives
pub record Ahead (S : Setup) (gs hs : List ℕ) (t : ℕ) : Type 0 where
  pub same : first (test S gs hs) (pairs S) ≡ first_from (test S gs hs) t (pairs S - t)

module _ (S : Setup) (gs hs : List ℕ) where
  moved : (t u : ℕ) → t ≡ u → Ahead S gs hs t → Ahead S gs hs u
  moved t u e a = record { same = rw (← e) a.same }

  pub pairs-begin : Ahead S gs hs (0 * S.n)
  unfolding first
  pairs-begin = moved 0 (0 * S.n) (omega arith) (record { same = rw sub-zero })

  module _ (i j : ℕ) (hi : i < S.n) (hj : j < S.n) where
    pub pair-agrees : pair_value S (part S gs j) i ≡ expected S (part S hs i) j → Ahead S gs hs (i * S.n + j) → Ahead S gs hs (i * S.n + (j + 1))
    unfolding disagrees
    pair-agrees e a =
        moved (i * S.n + j + 1) _ (add_assoc (i * S.n) j 1) (record {
          same = a.same ∙ first_step (test S gs hs) (i * S.n + j) (pairs S) (digits_lt hi hj)
              (sym (flat-at S.n (disagrees S gs hs) i j hj) ∙ ap not (eq-eqb _ _ e));
        })

    pub pair-differs : (pair_value S (part S gs j) i ≡ expected S (part S hs i) j → ⊥) → Ahead S gs hs (i * S.n + j) → disagree i j ≡ rehearse S gs hs
    unfolding disagrees rehearse
    pair-differs ne a =
        let t : first (test S gs hs) (pairs S) ≡ i * S.n + j =
        a.same ∙ first-stop (test S gs hs) (i * S.n + j) (pairs S) (digits_lt hi hj)
        (sym (flat-at S.n (disagrees S gs hs) i j hj) ∙ ap not (ne_eqb _ _ ne)) in
        rw (t, lt-ltb (i * S.n + j) (pairs S) (digits_lt hi hj), digits_div i hj, digits_mod i hj)

  pub pairs_end : (i : ℕ) → i ≤ S.n → S.n ≤ i → Ahead S gs hs (i * S.n) → fair ≡ rehearse S gs hs
  unfolding rehearse
  pairs_end i h l a =
      let t : first (test S gs hs) (pairs S) ≡ pairs S =
      (moved _ (pairs S) (rw (le_antisymm h l) refl) a).same ∙ first-end (test S gs hs) (pairs S) (pairs S) (omega arith) in
      rw (t, le-ltb (pairs S) (pairs S) (omega arith))
