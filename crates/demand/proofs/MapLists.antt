-- Demand 3 with maps on numbers: on the setup and with the first dealing of Lists.antt, the group of holders 0, 1 and 2, and φ with rows (1,2), (3,4). What
-- is asked is met, by computation; column 0 of the first dealing opens to the secret dealt and that of the second to its map, with the outsider among
-- the openers, the first at round 3 and the second at round 5.
use mathlib.Core.Path.{◌≡◌, refl, sym, ◌∙◌}
use mathlib.Core.Bool.{Bool, false}
use mathlib.Core.List.{List, [], ◌∷◌}
use Prim.Native.Nat.{ℕ}
use native.Mathlib.Omega.{arith}
use Rattle.base.specs.Rules.{given}
use Rattle.base.specs.Sum.{sum, bit, unit}
use Rattle.base.specs.Search.{every, first, first_from, first_of, first_vec}
use Rattle.base.specs.Fill.{tab, tab_from}
use Rattle.base.specs.Matrix.{all_below, all_are}
use Rattle.field.specs.Fields.{is_field}
use Rattle.field.specs.Dot.{at, dot}
use Rattle.scheme.specs.Dealing.{image_at, image, pair_value, expected, differs, differs_in, map_holds, judgement_mapped, said_reject, is_kept, fate_of}
use Rattle.scheme.specs.Sets.{members, members_from, is_row, find_row, has_row, determines}
use Rattle.scheme.specs.Opening.{gives, opening, combine}
use Rattle.scheme.specs.Calls.{pair_value_call}
use Rattle.demand.specs.Demand.{Dealing, Member, Applied, unrefreshed, one_column, column, InLimits, Handed, Opens}
use Rattle.demand.specs.Maps as maps
use Rattle.demand.specs.Maps.{MappedDealing, Which, together, KeepsMapped, DoneWithMaps, FoundWithMaps}
use Rattle.demand.proofs.Lists.{four, three, accepted, dealings, of-group, nothing, none_done}
use Rattle.demand.proofs.Lists as lists
use Rattle.demand.proofs.HonestMaps.{demand3-with-maps}

abbrev pub phi : List ℕ
phi = 1 ∷ 2 ∷ 3 ∷ 4 ∷ []

-- from F rows (3,1,4), (5,2,6), (0,5,1) and so F_φ rows (6,5,2), (1,4,1), and last (2,6,4)
abbrev pub mapped : MappedDealing
mapped =
    record {
      g = (dealings false).g;
      h = (dealings false).h;
      values = (dealings false).values;
      g2 = three (2 ∷ 4 ∷ 4 ∷ []) (1 ∷ 5 ∷ 1 ∷ []) (6 ∷ 2 ∷ 2 ∷ []);
      h2 = three (4 ∷ 6 ∷ 3 ∷ []) (4 ∷ 5 ∷ 3 ∷ []) (2 ∷ 5 ∷ 4 ∷ []);
      phi = λ i. phi;
      values2 = three (2 ∷ 3 ∷ 6 ∷ 4 ∷ []) (5 ∷ 4 ∷ 0 ∷ 0 ∷ []) (6 ∷ 4 ∷ 5 ∷ 2 ∷ []);
      verdicts = accepted;
      shares = (dealings false).shares;
      shares2 = three (2 ∷ 4 ∷ []) (1 ∷ 5 ∷ []) (6 ∷ 2 ∷ []);
    }

-- together with the two plain dealings of Lists.antt
abbrev pub all : Which Bool (Unit {0}) → Dealing
all = together dealings (λ t. mapped)

-- WHAT IS ASKED
Sent : ℕ → ℕ → Type 0
Sent i j = pair_value_call four (mapped.g j) i ≡ given (at (mapped.values i) j ∷ [])

Sent2 : ℕ → ℕ → Type 0
Sent2 i j = pair_value_call four (mapped.g2 j) i ≡ given (at (mapped.values2 i) j ∷ [])

pub done : DoneWithMaps four 7 dealings (λ (t : Unit {0}). phi) (λ t. mapped)
unfolding sum bit unit every first first_from first_of first_vec tab tab_from all_below all_are is_field dot image_at pair_value expected differs differs_in map_holds judgement_mapped said_reject is_kept fate_of Sent Sent2
done =
    record {
      plainly = lists.done;
      one_map = λ t i m. refl;
      keepers = λ t.
          of-group (KeepsMapped four mapped)
          (record { judged = refl; lent = 0 ∷ 0 ∷ []; settled = refl; share = refl; lent2 = 0 ∷ 0 ∷ []; settled2 = refl; share2 = refl })
          (record { judged = refl; lent = 0 ∷ 0 ∷ []; settled = refl; share = refl; lent2 = 0 ∷ 0 ∷ []; settled2 = refl; share2 = refl })
          (record { judged = refl; lent = 0 ∷ 0 ∷ []; settled = refl; share = refl; lent2 = 0 ∷ 0 ∷ []; settled2 = refl; share2 = refl });
      delivered = λ t i j mi mj.
          of-group (λ i. (j : ℕ) → Member four 7 j → Sent i j)
          (of-group (Sent 0) refl refl refl) (of-group (Sent 1) refl refl refl) (of-group (Sent 2) refl refl refl) i mi j mj;
      delivered2 = λ t i j mi mj.
          of-group (λ i. (j : ℕ) → Member four 7 j → Sent2 i j)
          (of-group (Sent2 0) refl refl refl) (of-group (Sent2 1) refl refl refl) (of-group (Sent2 2) refl refl refl) i mi j mj;
    }

-- WHAT IS FOUND: holders 0, 1 and 2 hand in their shares of column 0, and holder 3 any number x
limits : (c : Which Bool (Unit {0})) → InLimits four (one_column c 0)
limits c = record { few = omega arith; columns = λ t l. omega arith; constants = λ t l. omega arith }

-- the second dealing at round 5, all others at round 3, and none refreshed
abbrev pub rounds : Which Bool (Unit {0}) → ℕ
rounds (maps.second t) = 5
rounds (maps.first t) = 3
rounds (maps.plain t) = 3

abbrev pub kept : Applied four 7 all nothing
kept = unrefreshed four 7 all nothing rounds

pub handed : (x r : ℕ) → Handed four 7 kept.slip (one_column (maps.first tt) 0) 15 (2 ∷ 4 ∷ 6 ∷ x ∷ []) (3 ∷ 3 ∷ 3 ∷ r ∷ [])
unfolding sum bit unit every first_of first_vec tab tab_from dot members members_from is_row find_row has_row determines combine
handed x r =
    demand3-with-maps.met four 7 dealings (λ t. phi) (λ t. mapped) nothing done none_done kept (one_column (maps.first tt) 0) (limits (maps.first tt))
    15 (omega arith) refl (λ i m n t u l o. refl) (λ i. record { value = x; round = r })

pub handed2 : (x r : ℕ) → Handed four 7 kept.slip (one_column (maps.second tt) 0) 15 (2 ∷ 1 ∷ 6 ∷ x ∷ []) (5 ∷ 5 ∷ 5 ∷ r ∷ [])
unfolding sum bit unit every first_of first_vec tab tab_from dot members members_from is_row find_row has_row determines combine
handed2 x r =
    demand3-with-maps.met four 7 dealings (λ t. phi) (λ t. mapped) nothing done none_done kept (one_column (maps.second tt) 0) (limits (maps.second tt))
    15 (omega arith) refl (λ i m n t u l o. refl) (λ i. record { value = x; round = r })

-- with 1 and with 3, which fit, the secret 3, 5 and its map 6, 1: 3 + 2 · 5 and 3 · 3 + 4 · 5 modulo 7
pub opened : Opens four 15 (2 ∷ 4 ∷ 6 ∷ 1 ∷ []) (3 ∷ 3 ∷ 3 ∷ 3 ∷ []) (0 ∷ 0 ∷ []) (3 ∷ 5 ∷ [])
unfolding sum bit unit every first first_from first_of first_vec tab tab_from all_below all_are is_field dot members members_from is_row find_row has_row gives opening
opened = record { answer = refl; buffer = refl }

pub opened2 : Opens four 15 (2 ∷ 1 ∷ 6 ∷ 3 ∷ []) (5 ∷ 5 ∷ 5 ∷ 5 ∷ []) (0 ∷ 0 ∷ []) (6 ∷ 1 ∷ [])
unfolding sum bit unit every first first_from first_of first_vec tab tab_from all_below all_are is_field dot members members_from is_row find_row has_row gives opening
opened2 = record { answer = refl; buffer = refl }

pub mapped-secret : image four phi (3 ∷ 5 ∷ []) ≡ 6 ∷ 1 ∷ []
unfolding sum tab tab_from dot image_at
mapped-secret = refl

-- so the array that is found has that column
pub found : FoundWithMaps four 7 dealings (λ (t : Unit {0}). phi) (λ t. mapped) nothing
found = demand3-with-maps.found four 7 dealings (λ t. phi) (λ t. mapped) nothing done none_done

pub found-column : column (found.dealings.array (maps.first tt)) 0 ≡ 3 ∷ 5 ∷ []
found-column =
    let r = found.opened tt 0 kept kept 15 (2 ∷ 4 ∷ 6 ∷ 1 ∷ []) (3 ∷ 3 ∷ 3 ∷ 3 ∷ []) (0 ∷ 0 ∷ []) (handed 1 3) refl
    15 (2 ∷ 1 ∷ 6 ∷ 3 ∷ []) (5 ∷ 5 ∷ 5 ∷ 5 ∷ []) (0 ∷ 0 ∷ []) (handed2 3 5) refl opened.answer opened2.answer in
    sym r.secret ∙ opened.buffer
