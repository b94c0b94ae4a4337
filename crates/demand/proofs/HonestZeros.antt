-- Zero dealings where all follow the rules: with the unsent zeros put back, the parts are those of one F whose first ℓ rows are 0, so everyone accepts. Such
-- runs exist, whatever inputs are within the limits. And zero dealings, all of it.
-- zero_run: the zero dealing in which all follow the rules
use mathlib.Core.Path.{◌≡◌, refl, ap, sym, ◌∙◌}
use mathlib.Core.Bool.{Bool, true, false}
use mathlib.Core.List.{List, [], ◌∷◌}
use Prim.Native.Nat.{ℕ, ◌+◌, ◌-◌, ◌*◌, ◌<◌}
use native.Mathlib.Nat.{mod-lt}
use lib.Dec.{ltb}
use lib.Arith.{digits_lt}
use lib.ListN.{replicate, length-replicate}
use Rattle.base.specs.Choice.{pick}
use Rattle.base.specs.Rules.{Answer, refusal, given}
use Rattle.base.specs.Search.{Vec}
use Rattle.base.specs.Fill.{tab}
use Rattle.base.specs.Matrix.{entry, flat}
use Rattle.base.proofs.Rules.{not-refused}
use Rattle.base.proofs.Fill.{length-tab, get_d-tab, tab-vec, flat-at}
use Rattle.field.specs.Dot.{at}
use Rattle.scheme.specs.Setup.{Setup, dim}
use Rattle.scheme.specs.Answers.{accepts, yes, paper_judgement}
use Rattle.scheme.specs.Dealing.{part_g, part_h, pair_value, zero_entry, dealt_zero, part_zero_h}
use Rattle.scheme.specs.Calls.{deal_zero_rules, deal_zero_left_g, deal_zero_left_h, judge_zero_call, outcome_left, determines_call}
use Rattle.scheme.proofs.Calls.{limits-pos, below-vec, DealZeroOk, deal_zero-ok, deal_zero-accepts, judge_zero-accepts, pair_value-accepts}
use Rattle.scheme.proofs.Verdicts.{accept-when}
use Rattle.scheme.proofs.Zero.{padded, padded-judgement, part-padded}
use Rattle.demand.specs.Demand.{Dealing, KeepsZero, DoneZero}
use Rattle.demand.specs.Zeros.{HonestZero, HonestZeroFound, ZeroDealings}
use Rattle.demand.proofs.Zeros.{whole, zero-found}
use Rattle.demand.proofs.Demand.{From, judge-fits, pair-right, settles}

-- an entry of F is a lent one, or 0
entry-small : (S : Setup) (random : List ℕ) → DealZeroOk S random → (k b : ℕ) → k < dim S → b < dim S → entry (dim S) (dealt_zero S random) k b < S.p
unfolding dealt_zero zero_entry
entry-small S random ok k b hk hb =
    rw (get_d-tab (dim S * dim S) (flat (dim S) (zero_entry S random)) 0 (k * dim S + b) (digits_lt hk hb), ← flat-at (dim S) (zero_entry S random) k b hb)
    (go (ltb k S.l))
  where
    pos : 0 < S.p
    pos = limits-pos S ok.setup.limits

    go : (t : Bool) → pick t 0 (at random ((k - S.l) * dim S + b)) < S.p
    go true = pos
    go false = below-vec S.p _ random pos ok.entries ((k - S.l) * dim S + b)

module _ (S : Setup) (random : List ℕ) (Z : Dealing) (hon : HonestZero S random Z) where
  abbrev F : List ℕ
  F = dealt_zero S random

  module _ (i : ℕ) (l : i < S.n) where
    not-declined : refusal (deal_zero_rules S random i hon.lent_g hon.lent_h) ≡ 0
    not-declined = (not-refused (refusal (deal_zero_rules S random i hon.lent_g hon.lent_h)) (given []) [] (hon.dealing i l)).0

    inputs : DealZeroOk S random
    inputs = (deal_zero-ok S random i hon.lent_g hon.lent_h not-declined).0

    h-is : Z.h i ≡ part_zero_h S F i
    h-is = sym (hon.part-h i l) ∙ rw not-declined refl

    -- it has e field elements
    column-vec : Vec S.p S.e (Z.h i)
    column-vec =
        rw h-is (unfold part_zero_h in tab-vec S.p S.e _ (λ k m.
        below-vec S.p (dim S) (part_h S F i) pos (unfold part_h in tab-vec S.p (dim S) _ (λ c o. mod-lt _ pos)) (S.l + k)))
      where
        pos : 0 < S.p
        pos = limits-pos S inputs.setup.limits

  -- with any holder the inputs are known to be in order
  whole_from : (i : ℕ) → i < S.n → From S F (whole S Z)
  whole_from i l =
      record {
        setup = (inputs i l).setup;
        small = entry-small S random (inputs i l);
        part-g = λ j m. sym (hon.part-g j m) ∙ rw (not-declined j m) refl;
        part-h = λ j m. ap (padded S) (h-is j m) ∙ part-padded S random j;
        received = hon.received;
        arrived = hon.arrived;
      }

  accepted : (i : ℕ) → i < S.n → judge_zero_call S (Z.h i) (Z.values i) ≡ accepts
  accepted i l =
      let fits = judge-fits S F (whole S Z) (whole_from i l) i l in
      rw (judge_zero-accepts S (Z.h i) (Z.values i) (record { setup = fits.setup; part = column-vec i l; received = fits.received }))
      (ap paper_judgement (sym (padded-judgement S (Z.h i) (Z.values i))
      ∙ accept-when S (padded S (Z.h i)) (Z.values i) (pair-right S F (whole S Z) (whole_from i l) i l)))

  all_said : (i j : ℕ) → i < S.n → j < S.n → at (Z.verdicts i) j ≡ 1
  all_said i j l m = hon.said i j l m ∙ ap (λ (a : Answer). at a.values 0) (accepted j m)

  keep' : (i : ℕ) → i < S.n → KeepsZero S Z i
  keep' i l =
      record {
        judged = accepted i l;
        lent = hon.lent;
        settled = settles S F (whole S Z) (whole_from i l) i l hon.lent hon.room (hon.heard i l) (λ j m. all_said i j l m);
        share = hon.share i l;
      }

  honest-zero : HonestZeroFound S Z
  honest-zero = record { accept = accepted; keep = keep' }

honest-zeros : (S : Setup) {J : Type 0} (random : J → List ℕ) (Z : J → Dealing) → ((j : J) → HonestZero S (random j) (Z j))
    → (group : ℕ) → determines_call S group ≡ yes → DoneZero S group Z
honest-zeros S random Z hon group e =
    record {
      determined = e;
      keepers = λ j i m. keep' S (random j) (Z j) (hon j) i m.0;
      delivered = λ j i k mi mk. (hon j).arrived i k mi.0 mk.0;
    }

-- SUCH RUNS EXIST
module _ (S : Setup) (random : List ℕ) (ok : DealZeroOk S random) where
  lent_g : List ℕ
  lent_g = replicate (dim S) 0

  lent_h : List ℕ
  lent_h = replicate S.e 0

  g : ℕ → List ℕ
  g i = deal_zero_left_g S random i lent_g lent_h

  h : ℕ → List ℕ
  h i = deal_zero_left_h S random i lent_g lent_h

  values : ℕ → List ℕ
  values i = tab S.n (λ j. pair_value S (g j) i)

  verdicts : ℕ → List ℕ
  verdicts i = tab S.n (λ j. at (judge_zero_call S (h j) (values j)).values 0)

  pub zero_run : Dealing
  zero_run =
      record {
        g = g;
        h = h;
        values = values;
        verdicts = verdicts;
        shares = λ i. outcome_left S (g i) (verdicts i) (replicate S.l 0);
      }

  fine : (i : ℕ) → i < S.n → refusal (deal_zero_rules S random i lent_g lent_h) ≡ 0
  unfolding lent_g lent_h
  fine i l = deal_zero-accepts S random i lent_g lent_h ok (length-replicate {A = ℕ} (dim S) 0) (length-replicate {A = ℕ} S.e 0) l

  part-ok : (i : ℕ) → i < S.n → Vec S.p (dim S) (g i)
  unfolding g
  part-ok i l = rw (fine i l) (unfold part_g in tab-vec S.p (dim S) _ (λ k m. mod-lt _ (limits-pos S ok.setup.limits)))

  pub zero_run-honest : HonestZero S random zero_run
  unfolding zero_run
  zero_run-honest =
      record {
        lent_g = lent_g;
        lent_h = lent_h;
        lent = replicate S.l 0;
        room = length-replicate {A = ℕ} S.l 0;
        dealing = λ i l. rw (fine i l) refl;
        part-g = λ i l. unfold g in refl;
        part-h = λ i l. unfold h in refl;
        received = λ i l. unfold values in length-tab S.n _;
        arrived = λ i j l m.
            rw (pair_value-accepts S (g j) i (record { setup = ok.setup; part = part-ok j m; to = l }))
            (ap (λ x. given (x ∷ [])) (unfold values in sym (get_d-tab S.n (λ j. pair_value S (g j) i) 0 j m)));
        heard = λ i l. unfold verdicts in length-tab S.n _;
        said = λ i j l m. unfold verdicts in get_d-tab S.n (λ j. at (judge_zero_call S (h j) (values j)).values 0) 0 j m;
        share = λ i l. refl;
      }

pub zero-dealings : ZeroDealings
zero-dealings =
    record {
      lemma8 = zero-found;
      honest = honest-zero;
      families = honest-zeros;
      run = λ S random setup entries. let ok : DealZeroOk S random = record { setup = setup; entries = entries } in (zero_run S random ok, zero_run-honest S random ok);
    }
