-- Demand 3 in rounds on numbers, on document 01's example setup: holders 0 and 1 are the group, holder 2 stands outside. A dealing of the secret 3 at round 0,
-- and two zero dealings. What demand 3 asks is met, by computation. Refreshed once by both members, or twice in different orders, the column opens to 3 with
-- the outsider's share of that round; its old share is refused by 19, and by 7 where it claims the new round. A member that lags behind is refused by 19.
use mathlib.Core.Path.{◌≡◌, refl, sym, ◌∙◌}
use mathlib.Core.Bool.{Bool, true, false, false≢true}
use mathlib.Core.List.{List, [], ◌∷◌}
use Prim.Native.Nat.{ℕ, zero, suc, ◌<◌}
use native.Mathlib.Omega.{arith}
use lib.ListN.{get_or}
use Rattle.base.specs.Rules.{refused, given}
use Rattle.base.specs.Sum.{sum, bit, unit}
use Rattle.base.specs.Search.{every, first, first_from, first_of, first_vec, Vec}
use Rattle.base.specs.Fill.{tab, tab_from}
use Rattle.base.specs.Matrix.{all_below, all_are}
use Rattle.field.specs.Fields.{is_field}
use Rattle.field.specs.Dot.{at, dot}
use Rattle.scheme.specs.Setup.{IsSetup}
use Rattle.scheme.specs.Answers.{yes, inconsistent}
use Rattle.scheme.specs.Dealing.{pair_value, expected, differs, judgement_of, expected_zero, differs_zero, judgement_zero, said_reject, is_kept, fate_of}
use Rattle.scheme.specs.Sets.{members, members_from, is_row, find_row, has_row, determines}
use Rattle.scheme.specs.Opening.{gives, opening, combine, refresh}
use Rattle.scheme.specs.Calls.{pair_value_call, determines_call, open_call, open_left}
use Rattle.scheme.proofs.Calls.{vec_of, DealOk}
use Rattle.scheme.proofs.Cases.{ex}
use Rattle.demand.specs.Demand.{Dealing, Member, Keeps, Done, KeepsZero, DoneZero, Slip, at_first, then_by, none, keep, swap, Refreshed, Reordered, Applied, Terms, InLimits, one_column, Handed, values_by, rounds_by, column, Opens, Found}
use Rattle.demand.proofs.Demand.{demand3}
use Rattle.demand.proofs.Honest.{run, run-honest}
use Rattle.demand.proofs.HonestZeros.{zero-dealings}
use Rattle.demand.proofs.Maps.{opened-to}

-- what holders 0 and 1 have; of holder 2 nothing is said
abbrev two : List ℕ → List ℕ → ℕ → List ℕ
two a b i = get_or (a ∷ b ∷ []) i []

abbrev all-accept : ℕ → List ℕ
all-accept i = 1 ∷ 1 ∷ 1 ∷ []

-- from F rows (3,1), (5,2)
abbrev pub dealing : Unit {0} → Dealing
dealing t =
    record {
      g = two (0 ∷ 3 ∷ []) (2 ∷ 4 ∷ []);
      h = two (6 ∷ 6 ∷ []) (4 ∷ 3 ∷ []);
      values = two (6 ∷ 6 ∷ 6 ∷ []) (2 ∷ 1 ∷ 0 ∷ []);
      verdicts = all-accept;
      shares = two (0 ∷ []) (2 ∷ []);
    }

-- from F rows (0,0), (3,5), and from F rows (0,0), (1,0)
abbrev pub zero_dealing : Bool → Dealing
zero_dealing false =
    record {
      g = two (6 ∷ 3 ∷ []) (2 ∷ 1 ∷ []);
      h = two (0 ∷ []) (2 ∷ []);
      values = two (0 ∷ 0 ∷ 0 ∷ []) (4 ∷ 6 ∷ 1 ∷ []);
      verdicts = all-accept;
      shares = two (6 ∷ []) (2 ∷ []);
    }
zero_dealing true =
    record {
      g = two (2 ∷ 0 ∷ []) (3 ∷ 0 ∷ []);
      h = two (6 ∷ []) (5 ∷ []);
      values = two (5 ∷ 4 ∷ 3 ∷ []) (3 ∷ 1 ∷ 6 ∷ []);
      verdicts = all-accept;
      shares = two (2 ∷ []) (3 ∷ []);
    }

-- what holds of the two members, of the one column and of one term
of-group : (P : ℕ → Type 0) → P 0 → P 1 → (i : ℕ) → Member ex 3 i → P i
of-group P a b zero m = a
of-group P a b (suc zero) m = b
of-group P a b (suc (suc zero)) m = absurd (false≢true m.1)
of-group P a b (suc (suc (suc i))) m = absurd (omega (arith, m.0))

of_one : (P : ℕ → Type 0) → P 0 → (b : ℕ) → b < 1 → P b
of_one P x zero l = x
of_one P x (suc b) l = absurd (omega arith)

-- WHAT IS ASKED OF THE DEALINGS
abbrev Sent : Dealing → ℕ → ℕ → Type 0
Sent D i k = pair_value_call ex (D.g k) i ≡ given (at (D.values i) k ∷ [])

pub done : Done ex 3 dealing
unfolding sum bit unit every first first_from first_of first_vec tab tab_from all_below is_field dot pair_value expected differs judgement_of said_reject is_kept fate_of members members_from is_row find_row has_row determines
done =
    record {
      determined = refl;
      keepers = λ t.
          of-group (Keeps ex (dealing t))
          (record { judged = refl; lent = 0 ∷ []; settled = refl; share = refl })
          (record { judged = refl; lent = 0 ∷ []; settled = refl; share = refl });
      delivered = λ t i k mi mk.
          of-group (λ i. (k : ℕ) → Member ex 3 k → Sent (dealing t) i k)
          (of-group (Sent (dealing t) 0) refl refl) (of-group (Sent (dealing t) 1) refl refl) i mi k mk;
    }

pub zero-done : DoneZero ex 3 zero_dealing
unfolding sum bit unit every first first_from first_of first_vec tab tab_from all_below is_field dot pair_value expected_zero differs_zero judgement_zero said_reject is_kept fate_of members members_from is_row find_row has_row determines
zero-done = record { determined = refl; keepers = kept; delivered = λ j i k mi mk. sent j i mi k mk }
  where
    kept : (j : Bool) (i : ℕ) → Member ex 3 i → KeepsZero ex (zero_dealing j) i
    kept false =
        of-group (KeepsZero ex (zero_dealing false))
        (record { judged = refl; lent = 0 ∷ []; settled = refl; share = refl })
        (record { judged = refl; lent = 0 ∷ []; settled = refl; share = refl })
    kept true =
        of-group (KeepsZero ex (zero_dealing true))
        (record { judged = refl; lent = 0 ∷ []; settled = refl; share = refl })
        (record { judged = refl; lent = 0 ∷ []; settled = refl; share = refl })

    sent : (j : Bool) (i : ℕ) → Member ex 3 i → (k : ℕ) → Member ex 3 k → Sent (zero_dealing j) i k
    sent false =
        of-group (λ i. (k : ℕ) → Member ex 3 k → Sent (zero_dealing false) i k)
        (of-group (Sent (zero_dealing false) 0) refl refl) (of-group (Sent (zero_dealing false) 1) refl refl)
    sent true =
        of-group (λ i. (k : ℕ) → Member ex 3 k → Sent (zero_dealing true) i k)
        (of-group (Sent (zero_dealing true) 0) refl refl) (of-group (Sent (zero_dealing true) 1) refl refl)

-- WHAT IS APPLIED: by member 0 the zero dealings js, which led to the slip x, and by member 1 the zero dealings ks, which led to y
abbrev pub slip : ℕ → ℕ → Slip
slip x r = record { value = x; round = r }

abbrev pub slips : Slip → Slip → ℕ → Slip
slips x y i = get_or (x ∷ y ∷ []) i (slip 0 0)

abbrev pub lists : List Bool → List Bool → ℕ → List Bool
lists js ks i = get_or (js ∷ ks ∷ []) i []

pub itself : (js : List Bool) → Reordered js js
itself [] = none
itself (j ∷ js) = keep j js js (itself js)

module _ (js ks : List Bool) (x y : Slip) where
  pub refreshed' : Refreshed ex zero_dealing 0 0 (slip 0 0) js x → Refreshed ex zero_dealing 0 1 (slip 2 0) ks y → (b : ℕ) → b < 1 → (i : ℕ) → Member ex 3 i
      → Refreshed ex zero_dealing b i (slip (at ((dealing tt).shares i) b) 0) (lists js ks i) (slips x y i)
  refreshed' p q = of_one _ (of-group _ p q)

  pub same' : (x.round ≡ y.round → Reordered js ks × Reordered ks js) → (i : ℕ) → Member ex 3 i → (k : ℕ) → Member ex 3 k
      → (slips x y i).round ≡ (slips x y k).round → Reordered (lists js ks i) (lists js ks k)
  same' r =
      of-group _
      (of-group (λ k. (slips x y 0).round ≡ (slips x y k).round → Reordered js (lists js ks k)) (λ e. itself js) (λ e. (r e).0))
      (of-group (λ k. (slips x y 1).round ≡ (slips x y k).round → Reordered ks (lists js ks k)) (λ e. (r (sym e)).1) (λ e. itself ks))

  abbrev pub have : Refreshed ex zero_dealing 0 0 (slip 0 0) js x → Refreshed ex zero_dealing 0 1 (slip 2 0) ks y
      → (x.round ≡ y.round → Reordered js ks × Reordered ks js) → Applied ex 3 dealing zero_dealing
  have p q r =
      record {
        first = λ t. 0;
        order = λ t b. lists js ks;
        slip = λ t b. slips x y;
        refreshed = λ t b i l m. refreshed' p q b l i m;
        same = λ t b i k l m n e. same' r i m k n e;
      }

pub six : Refreshed ex zero_dealing 0 0 (slip 0 0) (false ∷ []) (slip 6 1)
unfolding is_field refresh
six = then_by [] false (slip 0 0) (slip 6 1) at_first refl

pub four : Refreshed ex zero_dealing 0 1 (slip 2 0) (false ∷ []) (slip 4 1)
unfolding is_field refresh
four = then_by [] false (slip 2 0) (slip 4 1) at_first refl

pub five : Refreshed ex zero_dealing 0 1 (slip 2 0) (true ∷ []) (slip 5 1)
unfolding is_field refresh
five = then_by [] true (slip 2 0) (slip 5 1) at_first refl

-- the first zero dealing by both: 6 and 4 at round 1
abbrev pub once : Applied ex 3 dealing zero_dealing
once = have (false ∷ []) (false ∷ []) (slip 6 1) (slip 4 1) six four (λ e. (itself (false ∷ []), itself (false ∷ [])))

-- both zero dealings by both, in different orders: 1 and 0 at round 2
pub one-by-both : Refreshed ex zero_dealing 0 0 (slip 0 0) (true ∷ false ∷ []) (slip 1 2)
unfolding is_field refresh
one-by-both = then_by (false ∷ []) true (slip 6 1) (slip 1 2) six refl

pub zero-by-both : Refreshed ex zero_dealing 0 1 (slip 2 0) (false ∷ true ∷ []) (slip 0 2)
unfolding is_field refresh
zero-by-both = then_by (true ∷ []) false (slip 5 1) (slip 0 2) five refl

abbrev pub twice : Applied ex 3 dealing zero_dealing
twice = have (true ∷ false ∷ []) (false ∷ true ∷ []) (slip 1 2) (slip 0 2) one-by-both zero-by-both (λ e. (swap true false [], swap false true []))

-- member 1 lags behind: 6 at round 1, and still 2 at round 0
abbrev pub lagging : Applied ex 3 dealing zero_dealing
lagging = have (false ∷ []) [] (slip 6 1) (slip 2 0) six at_first (λ e. absurd (omega (arith, e)))

-- WHAT IS FOUND
abbrev column0 : Terms (Unit {0})
column0 = one_column tt 0

limits : InLimits ex column0
limits = record { few = omega arith; columns = λ t l. omega arith; constants = λ t l. omega arith }

pub found : Found ex 3 dealing zero_dealing
found = demand3.found ex 3 dealing zero_dealing done zero-done

-- ONCE REFRESHED: holders 0 and 1 hand in what they have, and holder 2 any number x at any round r
pub handed-once : (x r : ℕ) → Handed ex 3 once.slip (one_column tt 0) 7 (6 ∷ 4 ∷ x ∷ []) (1 ∷ 1 ∷ r ∷ [])
unfolding sum bit unit every first_of first_vec tab tab_from dot members members_from is_row find_row has_row determines combine
handed-once x r = demand3.met ex 3 dealing zero_dealing done zero-done once column0 limits 7 (omega arith) refl (λ i m n t u l o. refl) (λ i. slip x r)

-- with 2 at round 1, which its own refresh gives, the old secret
pub opened-once : Opens ex 7 (6 ∷ 4 ∷ 2 ∷ []) (1 ∷ 1 ∷ 1 ∷ []) (0 ∷ []) (3 ∷ [])
unfolding sum bit unit every first first_from first_of first_vec tab tab_from all_below all_are is_field dot members members_from is_row find_row has_row gives opening
opened-once = record { answer = refl; buffer = refl }

pub found-secret : column (found.array tt) 0 ≡ 3 ∷ []
found-secret =
    sym (found.one-column tt 0 (omega arith))
    ∙ sym (opened-to ex 3 dealing zero_dealing found once column0 7 (6 ∷ 4 ∷ 2 ∷ []) (1 ∷ 1 ∷ 1 ∷ []) (0 ∷ []) (handed-once 2 1) refl opened-once.answer)
    ∙ opened-once.buffer

-- with the old 4 at round 0 it is 19, and with 4 said to stand at round 1 it is 7; the buffer stays
pub old-and-new : (open_call ex 7 (6 ∷ 4 ∷ 4 ∷ []) (1 ∷ 1 ∷ 0 ∷ []) (0 ∷ []) ≡ refused 19) × (open_left ex 7 (6 ∷ 4 ∷ 4 ∷ []) (1 ∷ 1 ∷ 0 ∷ []) (0 ∷ []) ≡ 0 ∷ [])
unfolding sum bit unit every first first_from first_of first_vec tab tab_from all_below all_are is_field dot members members_from is_row find_row has_row gives opening
old-and-new = (refl, refl)

pub old-as-new : (open_call ex 7 (6 ∷ 4 ∷ 4 ∷ []) (1 ∷ 1 ∷ 1 ∷ []) (0 ∷ []) ≡ inconsistent) × (open_left ex 7 (6 ∷ 4 ∷ 4 ∷ []) (1 ∷ 1 ∷ 1 ∷ []) (0 ∷ []) ≡ 0 ∷ [])
unfolding sum bit unit every first first_from first_of first_vec tab tab_from all_below all_are is_field dot members members_from is_row find_row has_row gives opening
old-as-new = (refl, refl)

-- TWICE REFRESHED, in different orders: the same secret
pub handed-twice : (x r : ℕ) → Handed ex 3 twice.slip (one_column tt 0) 7 (1 ∷ 0 ∷ x ∷ []) (2 ∷ 2 ∷ r ∷ [])
unfolding sum bit unit every first_of first_vec tab tab_from dot members members_from is_row find_row has_row determines combine
handed-twice x r = demand3.met ex 3 dealing zero_dealing done zero-done twice column0 limits 7 (omega arith) refl (λ i m n t u l o. refl) (λ i. slip x r)

pub opened-twice : Opens ex 7 (1 ∷ 0 ∷ 6 ∷ []) (2 ∷ 2 ∷ 2 ∷ []) (0 ∷ []) (3 ∷ [])
unfolding sum bit unit every first first_from first_of first_vec tab tab_from all_below all_are is_field dot members members_from is_row find_row has_row gives opening
opened-twice = record { answer = refl; buffer = refl }

-- ONE LAGS BEHIND: both members open, and it is 19
pub handed-lagging : Handed ex 3 lagging.slip (one_column tt 0) 3 (6 ∷ 2 ∷ []) (1 ∷ 0 ∷ [])
unfolding sum bit unit every first_of first_vec tab tab_from dot members members_from is_row find_row has_row determines combine
handed-lagging = demand3.met ex 3 dealing zero_dealing done zero-done lagging column0 limits 3 (omega arith) refl (λ i m n t u l o. refl) (λ i. slip 0 0)

pub refused-lagging : (open_call ex 3 (6 ∷ 2 ∷ []) (1 ∷ 0 ∷ []) (0 ∷ []) ≡ refused 19) × (open_left ex 3 (6 ∷ 2 ∷ []) (1 ∷ 0 ∷ []) (0 ∷ []) ≡ 0 ∷ [])
refused-lagging =
    (found.now lagging).lagging column0 3 (6 ∷ 2 ∷ []) (1 ∷ 0 ∷ []) (0 ∷ []) handed-lagging refl (λ i m. m) 0 0 1 (omega arith)
    (omega arith, refl) (omega arith, refl) (λ e. omega (arith, e))

-- WHY THE SAME ZERO DEALINGS: member 1 took its 2 to round 1 by the other zero dealing, and the two open to 1
pub other-zero-dealing : Opens ex 3 (6 ∷ 5 ∷ []) (1 ∷ 1 ∷ []) (0 ∷ []) (1 ∷ [])
unfolding sum bit unit every first first_from first_of first_vec tab tab_from all_below all_are is_field dot members members_from is_row find_row has_row gives opening
other-zero-dealing = record { answer = refl; buffer = refl }

-- WHERE ALL FOLLOW THE RULES: the secret 3 dealt at round 65534 and refreshed once by an honest zero dealing comes back from all three, at the last round
pub setup : IsSetup ex
unfolding every all_below is_field
setup =
    record {
      limits = record { field = refl; secret = (omega arith, omega arith); random = (omega arith, omega arith); holders = (omega arith, omega arith) };
      matrix = vec_of 7 6 ex.M (omega arith) refl refl;
    }

pub inputs : DealOk ex (3 ∷ []) (1 ∷ 5 ∷ 2 ∷ [])
unfolding every all_below
inputs = record { setup = setup; vectors = vec_of 7 1 (3 ∷ []) (omega arith) refl refl; entries = vec_of 7 3 (1 ∷ 5 ∷ 2 ∷ []) (omega arith) refl refl }

pub entries : Vec 7 2 (3 ∷ 5 ∷ [])
unfolding every all_below
entries = vec_of 7 2 (3 ∷ 5 ∷ []) (omega arith) refl refl

abbrev pub honest : Unit {0} → Dealing
honest t = run ex (3 ∷ []) (1 ∷ 5 ∷ 2 ∷ []) inputs

abbrev pub honest_zero : Unit {0} → Dealing
honest_zero j = (zero-dealings.run ex (3 ∷ 5 ∷ []) setup entries).0

pub all_three : determines_call ex 7 ≡ yes
unfolding sum bit unit every first_of first_vec all_below is_field dot members members_from is_row find_row has_row determines
all_three = refl

pub comes_back : (A : Applied ex 7 honest honest_zero)
    × ((i : ℕ) → Member ex 7 i → (A.slip tt 0 i).round ≡ 65535)
    × Opens ex 7 (values_by ex 7 (A.slip tt 0)) (rounds_by ex 7 (A.slip tt 0)) (0 ∷ []) (3 ∷ [])
unfolding tab tab_from
comes_back =
    let zero-done = zero-dealings.families ex (λ (j : Unit {0}). 3 ∷ 5 ∷ []) honest_zero (λ j. (zero-dealings.run ex (3 ∷ 5 ∷ []) setup entries).1) 7 all_three in
    let hon = run-honest ex (3 ∷ []) (1 ∷ 5 ∷ 2 ∷ []) inputs in
    let done = (demand3.honest ex (3 ∷ []) (1 ∷ 5 ∷ 2 ∷ []) (honest tt) hon).done 7 all_three in
    let ap = demand3.applied ex 7 honest honest_zero done zero-done (λ t. 65534) (λ t b i. tt ∷ []) (λ t b i l m. omega arith) (λ t b i k l m n e. keep tt [] [] none) in
    let last : (i : ℕ) → Member ex 7 i → (ap.0.slip tt 0 i).round ≡ 65535 = λ i m.
    ((demand3.found ex 7 honest honest_zero done zero-done).now ap.0).stands tt 0 i (omega arith) m
    ∙ rw (ap.1, ap.2) refl in (
      ap.0,
      last,
      demand3.back ex (3 ∷ []) (1 ∷ 5 ∷ 2 ∷ []) (honest tt) hon 7 all_three honest_zero zero-done ap.0 0 (omega arith)
          (λ t i k l m n. last i m ∙ sym (last k n)) (0 ∷ []) refl,
    )
