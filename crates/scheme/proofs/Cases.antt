-- The cases that document 01 marks ● ("The holder program on paper"), on its example setup: the lines of one table, proved together from the
-- definitions.
use mathlib.Core.Path.{◌≡◌, refl}
use mathlib.Core.List.{List, [], ◌∷◌, ◌++◌, map}
use mathlib.Core.Option.{get_or}
use Prim.Native.Nat.{ℕ}
use lib.ListN.{length, replicate}
use Rattle.base.specs.Choice.{pick}
use Rattle.base.specs.Rules.{Answer}
use Rattle.base.specs.Sum.{sum, bit, unit}
use Rattle.base.specs.Search.{every, first, first_from, first_of, first_vec}
use Rattle.base.specs.Fill.{tab, tab_from}
use Rattle.base.specs.Matrix.{all_below, all_are}
use Rattle.field.specs.Prime.{inverse_of}
use Rattle.field.specs.Fields.{is_field}
use Rattle.field.specs.Dot.{dot}
use Rattle.polynomial.specs.Polynomial.{point, lagrange, basis, minus}
use Rattle.scheme.specs.Setup.{Setup}
use Rattle.scheme.specs.Points.{points_matrix}
use Rattle.scheme.specs.Dealing.{place, dealt_entry, dealt, part_g, part_h, pair_value, expected}
use Rattle.scheme.specs.Sets.{holds, members, members_from, is_row, find_row, has_row, dependent, is_one_row, one_row, is_sweep, find_sweep, determines}
use Rattle.scheme.specs.Opening.{gives, opening, combine}
use Rattle.scheme.specs.Calls.{points_left, deal_left_g, deal_left_h, pair_value_call, open_call, open_left}

-- "p 7, ℓ 1, e 1, n 3, points rows (6,2), (5,3), (4,4), F rows (3,1), (5,2)"
abbrev pub ex : Setup
ex = record { p = 7; l = 1; e = 1; n = 3; M = 6 ∷ 2 ∷ 5 ∷ 3 ∷ 4 ∷ 4 ∷ [] }

-- F's secret is 3, its lent entries are 1, 5, 2
abbrev pub g : ℕ → List ℕ
g i = deal_left_g ex (3 ∷ []) (1 ∷ 5 ∷ 2 ∷ []) i (0 ∷ 0 ∷ []) (0 ∷ 0 ∷ [])

abbrev pub h : ℕ → List ℕ
h i = deal_left_h ex (3 ∷ []) (1 ∷ 5 ∷ 2 ∷ []) i (0 ∷ 0 ∷ []) (0 ∷ 0 ∷ [])

-- a call's answer: 1 where it answered and 0 where it was refused, its number, its values; of an opening also the buffer, which holds 0 before
abbrev pub line : Answer → List ℕ
line a = pick a.answered 1 0 ∷ a.number ∷ a.values

-- the shares at round 0 all
abbrev pub opens : ℕ → List ℕ → List ℕ
opens s xs = let rs : List ℕ = replicate {A = ℕ} (length xs) 0 in line (open_call ex s xs rs (0 ∷ [])) ++ open_left ex s xs rs (0 ∷ [])

pub record Case : Type 0 where
  pub gives : List ℕ
  pub wanted : List ℕ

infix 20 ◌is◌
abbrev pub ◌is◌ : List ℕ → List ℕ → Case
a is b = record { gives = a; wanted = b }

abbrev pub table : List Case
table =
    (points_left (record { p = 7; l = 1; e = 1; n = 3; M = 0 ∷ 0 ∷ 0 ∷ 0 ∷ 0 ∷ 0 ∷ [] }) is 6 ∷ 2 ∷ 5 ∷ 3 ∷ 4 ∷ 4 ∷ [])
    ∷ (g 0 is 0 ∷ 3 ∷ []) ∷ (g 1 is 2 ∷ 4 ∷ []) ∷ (g 2 is 4 ∷ 5 ∷ [])
    ∷ (h 0 is 6 ∷ 6 ∷ []) ∷ (h 1 is 4 ∷ 3 ∷ []) ∷ (h 2 is 2 ∷ 0 ∷ [])
    ∷ (line (pair_value_call ex (g 0) 1) is 1 ∷ 0 ∷ 2 ∷ []) ∷ (line (pair_value_call ex (g 1) 1) is 1 ∷ 0 ∷ 1 ∷ []) ∷ (line (pair_value_call ex (g 2) 1) is 1 ∷ 0 ∷ 0 ∷ [])
    ∷ (opens 5 (0 ∷ 4 ∷ []) is 1 ∷ 0 ∷ 3 ∷ [])
    ∷ (get_or (one_row ex (holds 5) 0) [] is 2 ∷ 6 ∷ [])
    ∷ (opens 7 (0 ∷ 2 ∷ 4 ∷ []) is 1 ∷ 0 ∷ 3 ∷ [])
    ∷ (opens 7 (0 ∷ 2 ∷ 5 ∷ []) is 0 ∷ 7 ∷ 0 ∷ [])
    ∷ (opens 1 (0 ∷ []) is 0 ∷ 6 ∷ 0 ∷ 0 ∷ [])
    ∷ (get_or (find_sweep ex (holds 1) 0) [] is 1 ∷ 4 ∷ [])
    ∷ (opens 0 [] is 0 ∷ 6 ∷ 0 ∷ 0 ∷ [])
    ∷ (opens 7 (0 ∷ 4 ∷ 1 ∷ []) is 1 ∷ 0 ∷ 6 ∷ [])
    ∷ []

pub cases : map (λ (c : Case). c.gives) table ≡ map (λ (c : Case). c.wanted) table
unfolding sum bit unit every first first_from first_of first_vec tab tab_from all_below all_are inverse_of is_field dot point lagrange basis minus points_matrix place dealt_entry dealt part_g part_h pair_value expected members members_from is_row find_row has_row dependent is_one_row one_row is_sweep find_sweep determines gives opening combine
cases = refl
