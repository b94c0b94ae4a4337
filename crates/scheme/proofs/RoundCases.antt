-- Zero dealings and rounds, on numbers (document 02, A8): the lines of one table, proved together from the definitions. On document 01's example setup the zero dealing has the lent
-- entries 3, 5, so F has the rows (0, 0), (3, 5). On the second setup, p 7, ℓ 1, e 2, two holders with the rows (1, 2, 3) and (4, 5, 6), it has the lent entries 1 to 6, so F has the
-- rows (0, 0, 0), (1, 2, 3), (4, 5, 6).
use mathlib.Core.Path.{◌≡◌, refl}
use mathlib.Core.List.{List, [], ◌∷◌, ◌++◌, map}
use Prim.Native.Nat.{ℕ}
use Rattle.base.specs.Sum.{sum, bit, unit}
use Rattle.base.specs.Search.{every, first, first_from, first_of, first_vec}
use Rattle.base.specs.Fill.{tab, tab_from}
use Rattle.base.specs.Matrix.{all_below, all_are}
use Rattle.field.specs.Fields.{is_field}
use Rattle.field.specs.Dot.{dot}
use Rattle.scheme.specs.Setup.{Setup}
use Rattle.scheme.specs.Dealing.{part_g, part_h, pair_value, zero_entry, dealt_zero, part_zero_h, expected_zero, differs_zero, judgement_zero}
use Rattle.scheme.specs.Sets.{members, members_from, is_row, find_row, has_row}
use Rattle.scheme.specs.Opening.{gives, opening, combine, refresh}
use Rattle.scheme.specs.Calls.{deal_zero_call, deal_zero_left_g, deal_zero_left_h, deal_zero_all_left_g, deal_zero_all_left_h, pair_value_call, judge_zero_call, open_call, open_left, combine_call, refresh_call}
use Rattle.scheme.proofs.Cases.{ex, line, Case, ◌is◌}

abbrev wide : Setup
wide = record { p = 7; l = 1; e = 2; n = 2; M = 1 ∷ 2 ∷ 3 ∷ 4 ∷ 5 ∷ 6 ∷ [] }

-- two holders with one row: they do not determine the secret
abbrev same : Setup
same = record { p = 7; l = 1; e = 1; n = 2; M = 1 ∷ 1 ∷ 1 ∷ 1 ∷ [] }

abbrev two : List ℕ
two = 0 ∷ 0 ∷ []

abbrev three : List ℕ
three = 0 ∷ 0 ∷ 0 ∷ []

-- a holder's part
abbrev g : ℕ → List ℕ
g i = deal_zero_left_g ex (3 ∷ 5 ∷ []) i two (0 ∷ [])

abbrev h : ℕ → List ℕ
h i = deal_zero_left_h ex (3 ∷ 5 ∷ []) i two (0 ∷ [])

abbrev lent : List ℕ
lent = 1 ∷ 2 ∷ 3 ∷ 4 ∷ 5 ∷ 6 ∷ []

abbrev wide_g : ℕ → List ℕ
wide_g i = deal_zero_left_g wide lent i three two

abbrev wide_h : ℕ → List ℕ
wide_h i = deal_zero_left_h wide lent i three two

abbrev six : List ℕ
six = 0 ∷ 0 ∷ 0 ∷ 0 ∷ 0 ∷ 0 ∷ []

abbrev four : List ℕ
four = 0 ∷ 0 ∷ 0 ∷ 0 ∷ []

-- the answer of an opening and the buffer, which holds 0 before
abbrev opens : Setup → ℕ → (xs rs : List ℕ) → List ℕ
opens S s xs rs = line (open_call S s xs rs (0 ∷ [])) ++ open_left S s xs rs (0 ∷ [])

abbrev table : List Case
table =
    -- the parts, and the pair values for holder 1
    (g 0 is 6 ∷ 3 ∷ []) ∷ (g 1 is 2 ∷ 1 ∷ []) ∷ (g 2 is 5 ∷ 6 ∷ [])
    ∷ (h 0 is 0 ∷ []) ∷ (h 1 is 2 ∷ []) ∷ (h 2 is 4 ∷ [])
    ∷ (line (pair_value_call ex (g 0) 1) is 1 ∷ 0 ∷ 4 ∷ []) ∷ (line (pair_value_call ex (g 1) 1) is 1 ∷ 0 ∷ 6 ∷ []) ∷ (line (pair_value_call ex (g 2) 1) is 1 ∷ 0 ∷ 1 ∷ [])
    ∷ (wide_g 0 is 0 ∷ 5 ∷ 3 ∷ []) ∷ (wide_g 1 is 1 ∷ 5 ∷ 2 ∷ []) ∷ (wide_h 0 is 0 ∷ 4 ∷ []) ∷ (wide_h 1 is 4 ∷ 0 ∷ [])
    ∷ (deal_zero_all_left_g wide lent six four is 0 ∷ 5 ∷ 3 ∷ 1 ∷ 5 ∷ 2 ∷ []) ∷ (deal_zero_all_left_h wide lent six four is 0 ∷ 4 ∷ 4 ∷ 0 ∷ [])
    ∷ (line (pair_value_call wide (wide_g 0) 1) is 1 ∷ 0 ∷ 1 ∷ []) ∷ (line (pair_value_call wide (wide_g 1) 1) is 1 ∷ 0 ∷ 6 ∷ [])
    -- refused: holder n, an h of d entries, an entry out of the field
    ∷ (line (deal_zero_call ex (3 ∷ 5 ∷ []) 3 two (0 ∷ [])) is 0 ∷ 5 ∷ []) ∷ (line (deal_zero_call ex (3 ∷ 5 ∷ []) 2 two two) is 0 ∷ 3 ∷ [])
    ∷ (line (deal_zero_call ex (3 ∷ 7 ∷ []) 3 two (0 ∷ [])) is 0 ∷ 4 ∷ [])
    -- accept; the lowest that differs is named; refused
    ∷ (line (judge_zero_call ex (h 1) (4 ∷ 6 ∷ 1 ∷ [])) is 1 ∷ 0 ∷ 1 ∷ [])
    ∷ (line (judge_zero_call ex (h 1) (4 ∷ 5 ∷ 2 ∷ [])) is 1 ∷ 0 ∷ 0 ∷ 1 ∷ [])
    ∷ (line (judge_zero_call wide (wide_h 1) (1 ∷ 6 ∷ [])) is 1 ∷ 0 ∷ 1 ∷ [])
    ∷ (line (judge_zero_call wide (wide_h 1) (2 ∷ 0 ∷ [])) is 1 ∷ 0 ∷ 0 ∷ 0 ∷ [])
    ∷ (line (judge_zero_call wide (0 ∷ 4 ∷ 0 ∷ []) (1 ∷ 6 ∷ [])) is 0 ∷ 3 ∷ []) ∷ (line (judge_zero_call wide (4 ∷ 7 ∷ []) (1 ∷ 6 ∷ [])) is 0 ∷ 4 ∷ [])
    -- the shares 0, 2, 4 of round 0 become 6, 4, 2 of round 1
    ∷ (line (refresh_call 7 0 0 6) is 1 ∷ 0 ∷ 6 ∷ 1 ∷ []) ∷ (line (refresh_call 7 2 0 2) is 1 ∷ 0 ∷ 4 ∷ 1 ∷ []) ∷ (line (refresh_call 7 4 0 5) is 1 ∷ 0 ∷ 2 ∷ 1 ∷ [])
    -- the last round; 4 before 18, and 1 before 4
    ∷ (line (refresh_call 7 4 65534 5) is 1 ∷ 0 ∷ 2 ∷ 65535 ∷ []) ∷ (line (refresh_call 7 4 65535 5) is 0 ∷ 18 ∷ [])
    ∷ (line (refresh_call 7 7 65535 5) is 0 ∷ 4 ∷ []) ∷ (line (refresh_call 7 4 65535 7) is 0 ∷ 4 ∷ []) ∷ (line (refresh_call 8 8 65535 5) is 0 ∷ 1 ∷ [])
    -- combinations: the round of the shares, and 0 of none; 3 before 4, 4 before 19, 19 last
    ∷ (line (combine_call 7 (1 ∷ 2 ∷ []) (6 ∷ 5 ∷ []) (3 ∷ 3 ∷ [])) is 1 ∷ 0 ∷ 2 ∷ 3 ∷ []) ∷ (line (combine_call 7 [] [] []) is 1 ∷ 0 ∷ 0 ∷ 0 ∷ [])
    ∷ (line (combine_call 7 (1 ∷ 2 ∷ []) (6 ∷ 5 ∷ []) (1 ∷ 0 ∷ [])) is 0 ∷ 19 ∷ []) ∷ (line (combine_call 7 (1 ∷ 2 ∷ []) (6 ∷ 7 ∷ []) (1 ∷ 0 ∷ [])) is 0 ∷ 4 ∷ [])
    ∷ (line (combine_call 7 (1 ∷ 2 ∷ []) (6 ∷ []) (1 ∷ 0 ∷ [])) is 0 ∷ 3 ∷ []) ∷ (line (combine_call 7 (1 ∷ 2 ∷ []) (6 ∷ 7 ∷ []) (1 ∷ [])) is 0 ∷ 3 ∷ [])
    -- the old secret in the next round
    ∷ (opens ex 7 (6 ∷ 4 ∷ 2 ∷ []) (1 ∷ 1 ∷ 1 ∷ []) is 1 ∷ 0 ∷ 3 ∷ []) ∷ (opens ex 5 (6 ∷ 2 ∷ []) (1 ∷ 1 ∷ []) is 1 ∷ 0 ∷ 3 ∷ [])
    -- a share of round 0 beside one of round 1, where the set determines the secret and where it does not, and beside shares that no vector gives: 19
    ∷ (opens ex 5 (0 ∷ 2 ∷ []) (0 ∷ 1 ∷ []) is 0 ∷ 19 ∷ 0 ∷ [])
    ∷ (opens same 3 (1 ∷ 1 ∷ []) (0 ∷ 1 ∷ []) is 0 ∷ 19 ∷ 0 ∷ []) ∷ (opens same 3 (1 ∷ 1 ∷ []) (1 ∷ 1 ∷ []) is 0 ∷ 6 ∷ 0 ∷ 0 ∷ [])
    ∷ (opens ex 7 (0 ∷ 4 ∷ 2 ∷ []) (0 ∷ 1 ∷ 1 ∷ []) is 0 ∷ 19 ∷ 0 ∷ []) ∷ (opens ex 7 (0 ∷ 4 ∷ 2 ∷ []) (1 ∷ 1 ∷ 1 ∷ []) is 0 ∷ 7 ∷ 0 ∷ [])
    -- before 19 come 3, 4 and 5
    ∷ (opens ex 5 (0 ∷ 2 ∷ []) (0 ∷ 1 ∷ 1 ∷ []) is 0 ∷ 3 ∷ 0 ∷ []) ∷ (opens ex 5 (7 ∷ 2 ∷ []) (0 ∷ 1 ∷ []) is 0 ∷ 4 ∷ 0 ∷ [])
    ∷ (opens ex 9 (0 ∷ 2 ∷ []) (0 ∷ 1 ∷ []) is 0 ∷ 5 ∷ 0 ∷ [])
    ∷ []

cases : map (λ (c : Case). c.gives) table ≡ map (λ (c : Case). c.wanted) table
unfolding sum bit unit every first first_from first_of first_vec tab tab_from all_below all_are is_field dot part_g part_h pair_value zero_entry dealt_zero part_zero_h expected_zero differs_zero judgement_zero members members_from is_row find_row has_row gives opening combine refresh
cases = refl
