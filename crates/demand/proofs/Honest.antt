-- Honest runs exist: whatever setup, secrets and random entries are within the limits, there is the dealing in which all follow the rules and
-- every message arrives, and a family of them over any index. So demand 3's hypotheses are met by every group that determines the secrets.
use mathlib.Core.Path.{◌≡◌, refl, sym, ap}
use mathlib.Core.List.{List, [], ◌∷◌}
use Prim.Native.Nat.{ℕ, ◌-◌, ◌<◌}
use native.Mathlib.Nat.{mod-lt}
use lib.ListN.{replicate, length-replicate}
use Rattle.base.specs.Rules.{refusal, given}
use Rattle.base.specs.Search.{Vec}
use Rattle.base.specs.Fill.{tab}
use Rattle.base.proofs.Fill.{length-tab, get_d-tab, tab-vec}
use Rattle.field.specs.Dot.{at}
use Rattle.scheme.specs.Setup.{Setup, dim}
use Rattle.scheme.specs.Answers.{yes}
use Rattle.scheme.specs.Dealing.{part_g, pair_value}
use Rattle.scheme.specs.Calls.{deal_rules, deal_left_g, deal_left_h, judge_call, outcome_left, determines_call}
use Rattle.demand.specs.Demand.{Dealing, Done, Honest, FamilyFound}
use Rattle.scheme.proofs.Calls.{limits-pos, DealOk, deal-accepts, pair_value-accepts}
use Rattle.demand.proofs.Demand.{demand3}

module _ (S : Setup) (secrets random : List ℕ) (ok : DealOk S secrets random) where
  zeros : List ℕ
  zeros = replicate (dim S) 0

  g : ℕ → List ℕ
  g i = deal_left_g S secrets random i zeros zeros

  h : ℕ → List ℕ
  h i = deal_left_h S secrets random i zeros zeros

  values : ℕ → List ℕ
  values i = tab S.n (λ j. pair_value S (g j) i)

  verdicts : ℕ → List ℕ
  verdicts i = tab S.n (λ j. at (judge_call S (h j) (values j)).values 0)

  pub run : Dealing
  run =
      record {
        g = g;
        h = h;
        values = values;
        verdicts = verdicts;
        shares = λ i. outcome_left S (g i) (verdicts i) (replicate S.l 0);
      }

  not-declined : (i : ℕ) → i < S.n → refusal (deal_rules S secrets random i zeros zeros) ≡ 0
  unfolding zeros
  not-declined i l =
      let z = length-replicate {A = ℕ} (dim S) 0 in
      deal-accepts S secrets random i zeros zeros ok z z l

  part-ok : (i : ℕ) → i < S.n → Vec S.p (dim S) (g i)
  unfolding g
  part-ok i l = rw (not-declined i l) (unfold part_g in tab-vec S.p (dim S) _ (λ k m. mod-lt _ (limits-pos S ok.setup.limits)))

  pub run-honest : Honest S secrets random run
  unfolding run
  run-honest =
      record {
        lent_g = zeros;
        lent_h = zeros;
        lent = replicate S.l 0;
        room = length-replicate {A = ℕ} S.l 0;
        dealing = λ i l. rw (not-declined i l) refl;
        part-g = λ i l. unfold g in refl;
        part-h = λ i l. unfold h in refl;
        received = λ i l. unfold values in length-tab S.n _;
        arrived = λ i j l m.
            rw (pair_value-accepts S (g j) i (record { setup = ok.setup; part = part-ok j m; to = l }))
            (ap (λ x. given (x ∷ [])) (unfold values in sym (get_d-tab S.n (λ j. pair_value S (g j) i) 0 j m)));
        heard = λ i l. unfold verdicts in length-tab S.n _;
        said = λ i j l m. unfold verdicts in get_d-tab S.n (λ j. at (judge_call S (h j) (values j)).values 0) 0 j m;
        share = λ i l. refl;
      }

  pub run-done : (group : ℕ) → determines_call S group ≡ yes → Done S group (λ (t : Unit {0}). run)
  run-done group e = (demand3.honest S secrets random run run-honest).done group e

-- any family of them, in every round
pub runs-found : (S : Setup) {I J : Type 0} (secrets random : I → List ℕ) (ok : (t : I) → DealOk S (secrets t) (random t)) (Z : J → Dealing)
    → FamilyFound S secrets random (λ t. run S (secrets t) (random t) (ok t)) Z
runs-found S secrets random ok Z =
    demand3.families S secrets random (λ t. run S (secrets t) (random t) (ok t)) Z (λ t. run-honest S (secrets t) (random t) (ok t))
