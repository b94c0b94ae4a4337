-- Demand 3 on numbers, for a list of three terms: two dealings on one setup with two columns, both at round 3 and not refreshed, a group of three holders, and
-- one outsider among the openers. What demand 3 asks is met, by computation. The opening gives the combination of the secrets where the outsider hands in what fits, and is
-- refused by 7 where it does not.
use mathlib.Core.Path.{◌≡◌, refl, sym, ap, ◌∙◌}
use mathlib.Core.Bool.{Bool, true, false, false≢true}
use mathlib.Core.List.{List, [], ◌∷◌}
use mathlib.Core.Logic.{◌⊎◌, inl, inr}
use Prim.Native.Nat.{ℕ, zero, suc, ◌<◌}
use native.Mathlib.Omega.{arith}
use borrow.Author.Tests.{eqb-false}
use lib.ListN.{length, get_or}
use Rattle.base.specs.Rules.{Answer, given}
use Rattle.base.specs.Sum.{sum, bit, unit}
use Rattle.base.specs.Search.{every, first, first_from, first_of, first_vec, Vec}
use Rattle.base.specs.Fill.{tab, tab_from}
use Rattle.base.specs.Matrix.{all_below, all_are}
use Rattle.field.specs.Fields.{is_field}
use Rattle.field.specs.Dot.{at, dot}
use Rattle.scheme.specs.Setup.{Setup, Limits}
use Rattle.scheme.specs.Answers.{inconsistent}
use Rattle.scheme.specs.Dealing.{place, dealt_entry, dealt, pair_value, expected, differs, judgement_of, said_reject, is_kept, fate_of}
use Rattle.scheme.specs.Sets.{members, members_from, is_row, find_row, has_row, determines}
use Rattle.scheme.specs.Opening.{gives, opening, combine}
use Rattle.scheme.specs.Calls.{pair_value_call, open_call, open_left}
use Rattle.demand.specs.Demand.{Dealing, Member, Keeps, Done, DoneZero, Applied, unrefreshed, Terms, InLimits, Handed, hands_in, values_by, rounds_by, Array, secrets_over, Opens, Refused, by-four, by-nineteen, by-seven, Found, FamilyFound}
use Rattle.scheme.proofs.Calls.{vec_of, DealOk}
use Rattle.demand.proofs.Demand.{demand3}
use Rattle.demand.proofs.Honest.{run, runs-found}

-- p 7, ℓ 2, e 1, n 4, the points matrix
abbrev pub four : Setup
four = record { p = 7; l = 2; e = 1; n = 4; M = 1 ∷ 4 ∷ 3 ∷ 3 ∷ 6 ∷ 6 ∷ 6 ∷ 6 ∷ 3 ∷ 3 ∷ 4 ∷ 1 ∷ [] }

-- what holders 0, 1 and 2 have; of holder 3 nothing is said
abbrev pub three : List ℕ → List ℕ → List ℕ → ℕ → List ℕ
three a b c i = get_or (a ∷ b ∷ c ∷ []) i []

abbrev pub accepted : ℕ → List ℕ
accepted i = 1 ∷ 1 ∷ 1 ∷ 1 ∷ []

-- from F rows (3,1,4), (5,2,6), (0,5,1), and from F rows (6,2,1), (4,0,3), (5,1,2)
abbrev pub dealings : Bool → Dealing
dealings false =
    record {
      g = three (2 ∷ 3 ∷ 3 ∷ []) (4 ∷ 3 ∷ 5 ∷ []) (6 ∷ 5 ∷ 0 ∷ []);
      h = three (5 ∷ 3 ∷ 2 ∷ []) (4 ∷ 0 ∷ 1 ∷ []) (1 ∷ 4 ∷ 5 ∷ []);
      values = three (2 ∷ 3 ∷ 5 ∷ 1 ∷ []) (0 ∷ 4 ∷ 6 ∷ 6 ∷ []) (4 ∷ 1 ∷ 3 ∷ 3 ∷ []);
      verdicts = accepted;
      shares = three (2 ∷ 3 ∷ []) (4 ∷ 3 ∷ []) (6 ∷ 5 ∷ []);
    }
dealings true =
    record {
      g = three (2 ∷ 5 ∷ 5 ∷ []) (2 ∷ 5 ∷ 5 ∷ []) (5 ∷ 1 ∷ 2 ∷ []);
      h = three (3 ∷ 6 ∷ 1 ∷ []) (1 ∷ 2 ∷ 5 ∷ []) (2 ∷ 5 ∷ 0 ∷ []);
      values = three (2 ∷ 2 ∷ 1 ∷ 6 ∷ []) (3 ∷ 3 ∷ 5 ∷ 2 ∷ []) (1 ∷ 1 ∷ 0 ∷ 5 ∷ []);
      verdicts = accepted;
      shares = three (2 ∷ 5 ∷ []) (2 ∷ 5 ∷ []) (5 ∷ 1 ∷ []);
    }

-- the secrets dealt, by columns
abbrev pub arrays : Bool → Array
arrays false = (3 ∷ 5 ∷ []) ∷ (1 ∷ 2 ∷ []) ∷ []
arrays true = (6 ∷ 4 ∷ []) ∷ (2 ∷ 0 ∷ []) ∷ []

-- 3 times column 1 of the first dealing, 2 times column 0 of the second, 6 times column 0 of the first
abbrev pub terms : Terms Bool
terms =
    record {
      count = 3;
      constant = at (3 ∷ 2 ∷ 6 ∷ []);
      dealing = λ t. get_or (false ∷ true ∷ false ∷ []) t false;
      column = at (1 ∷ 0 ∷ 0 ∷ []);
    }

-- what holds of the three holders of the group, and of the three terms
pub of-group : (P : ℕ → Type 0) → P 0 → P 1 → P 2 → (i : ℕ) → Member four 7 i → P i
of-group P a b c zero m = a
of-group P a b c (suc zero) m = b
of-group P a b c (suc (suc zero)) m = c
of-group P a b c (suc (suc (suc zero))) m = absurd (false≢true m.1)
of-group P a b c (suc (suc (suc (suc i)))) m = absurd (omega (arith, m.0))

of-terms : (P : ℕ → Type 0) → P 0 → P 1 → P 2 → (t : ℕ) → t < 3 → P t
of-terms P a b c zero m = a
of-terms P a b c (suc zero) m = b
of-terms P a b c (suc (suc zero)) m = c
of-terms P a b c (suc (suc (suc t))) m = absurd (omega arith)

-- WHAT DEMAND 3 ASKS
Sent : Bool → ℕ → ℕ → Type 0
Sent t i j = pair_value_call four ((dealings t).g j) i ≡ given (at ((dealings t).values i) j ∷ [])

pub done : Done four 7 dealings
unfolding sum bit unit every first first_from first_of first_vec tab tab_from all_below all_are is_field dot pair_value expected differs judgement_of said_reject is_kept fate_of members members_from is_row find_row has_row determines Sent
done = record { determined = refl; keepers = keep; delivered = λ t i j mi mj. sent t i mi j mj }
  where
    keep : (t : Bool) (i : ℕ) → Member four 7 i → Keeps four (dealings t) i
    keep false =
        of-group (Keeps four (dealings false))
        (record { judged = refl; lent = 0 ∷ 0 ∷ []; settled = refl; share = refl })
        (record { judged = refl; lent = 0 ∷ 0 ∷ []; settled = refl; share = refl })
        (record { judged = refl; lent = 0 ∷ 0 ∷ []; settled = refl; share = refl })
    keep true =
        of-group (Keeps four (dealings true))
        (record { judged = refl; lent = 0 ∷ 0 ∷ []; settled = refl; share = refl })
        (record { judged = refl; lent = 0 ∷ 0 ∷ []; settled = refl; share = refl })
        (record { judged = refl; lent = 0 ∷ 0 ∷ []; settled = refl; share = refl })

    sent : (t : Bool) (i : ℕ) → Member four 7 i → (j : ℕ) → Member four 7 j → Sent t i j
    sent false =
        of-group (λ i. (j : ℕ) → Member four 7 j → Sent false i j)
        (of-group (Sent false 0) refl refl refl) (of-group (Sent false 1) refl refl refl) (of-group (Sent false 2) refl refl refl)
    sent true =
        of-group (λ i. (j : ℕ) → Member four 7 j → Sent true i j)
        (of-group (Sent true 0) refl refl refl) (of-group (Sent true 1) refl refl refl) (of-group (Sent true 2) refl refl refl)

pub limits : InLimits four terms
limits =
    record {
      few = omega arith;
      columns = of-terms (λ t. terms.column t < 2) (omega arith) (omega arith) (omega arith);
      constants = of-terms (λ t. terms.constant t < 7) (omega arith) (omega arith) (omega arith);
    }

-- NOTHING IS REFRESHED: there is no zero dealing, and every share stands at round 3
abbrev pub nothing : ⊥ → Dealing
nothing j = absurd j

pub none_done : DoneZero four 7 nothing
none_done = demand3.none_yet four 7 done.determined

abbrev pub kept-at-three : Applied four 7 dealings nothing
kept-at-three = unrefreshed four 7 dealings nothing (λ t. 3)

-- holders 0, 1 and 2 hand in 4, 2 and 5 at that round, and holder 3 any number x at any round r
pub handed : (x r : ℕ) → Handed four 7 kept-at-three.slip terms 15 (4 ∷ 2 ∷ 5 ∷ x ∷ []) (3 ∷ 3 ∷ 3 ∷ r ∷ [])
unfolding sum bit unit every first_of first_vec tab tab_from dot members members_from is_row find_row has_row determines combine
handed x r =
    demand3.met four 7 dealings nothing done none_done kept-at-three terms limits 15 (omega arith) refl (λ i m n t u l o. refl)
    (λ i. record { value = x; round = r })

-- WHAT IS FOUND
-- with 6 at round 3, which fits, the combination of the secrets dealt: 5 and 2
pub opened : Opens four 15 (4 ∷ 2 ∷ 5 ∷ 6 ∷ []) (3 ∷ 3 ∷ 3 ∷ 3 ∷ []) (0 ∷ 0 ∷ []) (5 ∷ 2 ∷ [])
unfolding sum bit unit every first first_from first_of first_vec tab tab_from all_below all_are is_field dot members members_from is_row find_row has_row gives opening
opened = record { answer = refl; buffer = refl }

pub combination : secrets_over four arrays terms ≡ 5 ∷ 2 ∷ []
unfolding sum tab tab_from dot combine
combination = refl

-- with 3 a refusal by 7, and the buffer stays
pub refused-by-seven : (open_call four 15 (4 ∷ 2 ∷ 5 ∷ 3 ∷ []) (3 ∷ 3 ∷ 3 ∷ 3 ∷ []) (0 ∷ 0 ∷ []) ≡ inconsistent)
    × (open_left four 15 (4 ∷ 2 ∷ 5 ∷ 3 ∷ []) (3 ∷ 3 ∷ 3 ∷ 3 ∷ []) (0 ∷ 0 ∷ []) ≡ 0 ∷ 0 ∷ [])
unfolding sum bit unit every first first_from first_of first_vec tab tab_from all_below all_are is_field dot members members_from is_row find_row has_row gives opening
refused-by-seven = (refl, refl)

-- so the arrays that demand 3 finds have this combination
pub found : Found four 7 dealings nothing
found = demand3.found four 7 dealings nothing done none_done

pub found-combination : secrets_over four found.array terms ≡ 5 ∷ 2 ∷ []
found-combination = go ((found.now kept-at-three).opens terms 15 (4 ∷ 2 ∷ 5 ∷ 6 ∷ []) (3 ∷ 3 ∷ 3 ∷ 3 ∷ []) (0 ∷ 0 ∷ []) (handed 6 3) refl)
  where
    answered : (a : Answer) → open_call four 15 (4 ∷ 2 ∷ 5 ∷ 6 ∷ []) (3 ∷ 3 ∷ 3 ∷ 3 ∷ []) (0 ∷ 0 ∷ []) ≡ a → a.number ≡ 0
    answered a e = ap (λ (x : Answer). x.number) (sym e ∙ opened.answer)

    go : (Opens four 15 (4 ∷ 2 ∷ 5 ∷ 6 ∷ []) (3 ∷ 3 ∷ 3 ∷ 3 ∷ []) (0 ∷ 0 ∷ []) (secrets_over four found.array terms)
        ⊎ Refused four 15 (4 ∷ 2 ∷ 5 ∷ 6 ∷ []) (3 ∷ 3 ∷ 3 ∷ 3 ∷ []) (0 ∷ 0 ∷ []))
        → secrets_over four found.array terms ≡ 5 ∷ 2 ∷ []
    go (inl r) = sym r.buffer ∙ opened.buffer
    go (inr (by-four e k)) = absurd (eqb-false 4 0 refl (answered _ e))
    go (inr (by-nineteen d e k)) = absurd (eqb-false 19 0 refl (answered _ e))
    go (inr (by-seven e k)) = absurd (eqb-false 7 0 refl (answered _ e))

-- WHERE ALL FOLLOW THE RULES: two dealings from the same secrets and random entries, and the same list, opened by the group
abbrev pub secrets : Bool → List ℕ
secrets false = 3 ∷ 5 ∷ 1 ∷ 2 ∷ []
secrets true = 6 ∷ 4 ∷ 2 ∷ 0 ∷ []

abbrev pub random : Bool → List ℕ
random false = 4 ∷ 6 ∷ 0 ∷ 5 ∷ 1 ∷ []
random true = 1 ∷ 3 ∷ 5 ∷ 1 ∷ 2 ∷ []

pub inputs : (t : Bool) → DealOk four (secrets t) (random t)
unfolding every all_below is_field
inputs t = record { setup = record { limits = within; matrix = vec_of 7 12 four.M (omega arith) refl refl }; vectors = vectors t; entries = entries t }
  where
    within : Limits four
    within = record { field = refl; secret = (omega arith, omega arith); random = (omega arith, omega arith); holders = (omega arith, omega arith) }

    vectors : (t : Bool) → Vec 7 4 (secrets t)
    vectors false = vec_of 7 4 (secrets false) (omega arith) refl refl
    vectors true = vec_of 7 4 (secrets true) (omega arith) refl refl

    entries : (t : Bool) → Vec 7 5 (random t)
    entries false = vec_of 7 5 (random false) (omega arith) refl refl
    entries true = vec_of 7 5 (random true) (omega arith) refl refl

abbrev pub runs : Bool → Dealing
runs t = run four (secrets t) (random t) (inputs t)

pub family : FamilyFound four secrets random runs nothing
family = runs-found four secrets random inputs nothing

abbrev runs-at-three : Applied four 7 runs nothing
runs-at-three = unrefreshed four 7 runs nothing (λ t. 3)

pub honest-opened : Opens four 7 (values_by four 7 (hands_in four 7 runs-at-three.slip terms (λ i. record { value = 0; round = 0 })))
    (rounds_by four 7 (hands_in four 7 runs-at-three.slip terms (λ i. record { value = 0; round = 0 }))) (0 ∷ 0 ∷ []) (5 ∷ 2 ∷ [])
unfolding sum bit unit every first_of first_vec tab tab_from all_below is_field dot place dealt_entry dealt members members_from is_row find_row has_row determines combine
honest-opened =
    family.opens 7 refl none_done runs-at-three terms 7 _ _ (0 ∷ 0 ∷ [])
    (demand3.met four 7 runs nothing (family.done 7 refl) none_done runs-at-three terms limits 7 (omega arith) refl (λ i m n t u l o. refl)
    (λ i. record { value = 0; round = 0 })) refl (λ i m. m) (λ t i k l m n. refl)

-- THE LIMITS OF A LIST: 64 terms and none are within them, 65 are not
abbrev pub many : ℕ → Terms Bool
many k = record { count = k; constant = λ t. 6; dealing = λ t. true; column = λ t. 1 }

pub sixty-four : InLimits four (many 64)
sixty-four = record { few = omega arith; columns = λ t l. omega arith; constants = λ t l. omega arith }

pub sixty-five : InLimits four (many 65) → ⊥
sixty-five k = omega (arith, k.few)

pub no-terms : InLimits four (many 0)
no-terms = record { few = omega arith; columns = λ t l. omega arith; constants = λ t l. omega arith }

-- THE SUM OF NO COLUMNS: holders 0, 1 and 2 hand in 0 at round 0, and holder 3 any number x at any round r. It opens to zeros, or is refused.
pub handed-none : (x r : ℕ) → Handed four 7 kept-at-three.slip (many 0) 15 (0 ∷ 0 ∷ 0 ∷ x ∷ []) (0 ∷ 0 ∷ 0 ∷ r ∷ [])
unfolding sum bit unit every first_of first_vec tab tab_from dot members members_from is_row find_row has_row determines combine
handed-none x r =
    demand3.met four 7 dealings nothing done none_done kept-at-three (many 0) no-terms 15 (omega arith) refl (λ i m n t u l o. refl)
    (λ i. record { value = x; round = r })

pub opened-none : (x r : ℕ) (out : List ℕ) → length out ≡ 2
    → Opens four 15 (0 ∷ 0 ∷ 0 ∷ x ∷ []) (0 ∷ 0 ∷ 0 ∷ r ∷ []) out (0 ∷ 0 ∷ []) ⊎ Refused four 15 (0 ∷ 0 ∷ 0 ∷ x ∷ []) (0 ∷ 0 ∷ 0 ∷ r ∷ []) out
opened-none x r out room =
    rw (found.no-columns (many 0) refl) at ((found.now kept-at-three).opens (many 0) 15 (0 ∷ 0 ∷ 0 ∷ x ∷ []) (0 ∷ 0 ∷ 0 ∷ r ∷ []) out (handed-none x r) room)
