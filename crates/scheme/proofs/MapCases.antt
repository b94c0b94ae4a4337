-- Two dealings tied by a map, on numbers (document 02, A7): p 7, ℓ 2, e 1, two holders with the rows (1, 2, 3) and (4, 5, 6), F with the rows (1, 3, 5), (2, 4, 6), (0, 1, 2), and φ with
-- the rows (1, 2), (3, 4), which is not its own transpose. The lines of one table, proved together from the definitions.
use mathlib.Core.Path.{◌≡◌, refl}
use mathlib.Core.List.{List, [], ◌∷◌, map}
use Prim.Native.Nat.{ℕ}
use Rattle.base.specs.Sum.{sum}
use Rattle.base.specs.Search.{every, first, first_from}
use Rattle.base.specs.Fill.{tab, tab_from}
use Rattle.base.specs.Matrix.{all_below}
use Rattle.field.specs.Fields.{is_field}
use Rattle.field.specs.Dot.{dot}
use Rattle.scheme.specs.Setup.{Setup}
use Rattle.scheme.specs.Dealing.{place, dealt_entry, dealt, part_g, part_h, expected, differs, image_at, image, mapped_entry, dealt_mapped, differs_in, map_holds, judgement_mapped}
use Rattle.scheme.specs.Calls.{Buffers, buffers, second_dealt, deal_mapped_left, judge_mapped_call}
use Rattle.scheme.proofs.Cases.{line, Case, ◌is◌}

abbrev S : Setup
S = record { p = 7; l = 2; e = 1; n = 2; M = 1 ∷ 2 ∷ 3 ∷ 4 ∷ 5 ∷ 6 ∷ [] }

-- the secret vectors (1, 2) and (3, 4), the lent entries, φ, and the second lent entries
abbrev secrets : List ℕ
secrets = 1 ∷ 2 ∷ 3 ∷ 4 ∷ []

abbrev random : List ℕ
random = 5 ∷ 6 ∷ 0 ∷ 1 ∷ 2 ∷ []

abbrev phi : List ℕ
phi = 1 ∷ 2 ∷ 3 ∷ 4 ∷ []

abbrev random2 : List ℕ
random2 = 6 ∷ 5 ∷ 4 ∷ []

-- both parts of a holder
abbrev parts : ℕ → Buffers
parts i = let z : List ℕ = 0 ∷ 0 ∷ 0 ∷ [] in deal_mapped_left S secrets random phi random2 i (buffers z z z z)

-- holder 0's judgement on values of both dealings and a map
abbrev judged : (values phi values2 : List ℕ) → List ℕ
judged values phi values2 = line (judge_mapped_call S (parts 0).h values phi (parts 0).h2 values2)

abbrev table : List Case
table =
    (second_dealt S secrets random phi random2 is 5 ∷ 4 ∷ 3 ∷ 4 ∷ 4 ∷ 4 ∷ 6 ∷ 5 ∷ 4 ∷ [])
    ∷ (image S phi (1 ∷ 2 ∷ []) is 5 ∷ 4 ∷ []) ∷ (image S phi (3 ∷ 4 ∷ []) is 4 ∷ 4 ∷ [])
    ∷ ((parts 0).h is 1 ∷ 0 ∷ 1 ∷ []) ∷ ((parts 0).h2 is 1 ∷ 3 ∷ 0 ∷ []) ∷ ((parts 0).g2 is 3 ∷ 6 ∷ 2 ∷ [])
    -- accept; a wrong value in the second alone; the lowest sender wrong in either
    ∷ (judged (4 ∷ 3 ∷ []) phi (0 ∷ 5 ∷ []) is 1 ∷ 0 ∷ 1 ∷ [])
    ∷ (judged (4 ∷ 3 ∷ []) phi (0 ∷ 6 ∷ []) is 1 ∷ 0 ∷ 0 ∷ 1 ∷ [])
    ∷ (judged (4 ∷ 2 ∷ []) phi (1 ∷ 5 ∷ []) is 1 ∷ 0 ∷ 0 ∷ 0 ∷ [])
    -- `reject map`, with the transpose of φ too; a pair that fails beside the map is named
    ∷ (judged (4 ∷ 3 ∷ []) (2 ∷ 2 ∷ 3 ∷ 4 ∷ []) (0 ∷ 5 ∷ []) is 1 ∷ 0 ∷ 0 ∷ [])
    ∷ (judged (4 ∷ 3 ∷ []) (1 ∷ 3 ∷ 2 ∷ 4 ∷ []) (0 ∷ 5 ∷ []) is 1 ∷ 0 ∷ 0 ∷ [])
    ∷ (judged (4 ∷ 2 ∷ []) (2 ∷ 2 ∷ 3 ∷ 4 ∷ []) (0 ∷ 5 ∷ []) is 1 ∷ 0 ∷ 0 ∷ 1 ∷ [])
    -- refused
    ∷ (judged (4 ∷ 3 ∷ []) (1 ∷ 2 ∷ 3 ∷ 7 ∷ []) (0 ∷ 5 ∷ []) is 0 ∷ 4 ∷ [])
    ∷ (judged (4 ∷ 3 ∷ []) (1 ∷ 2 ∷ 3 ∷ []) (0 ∷ 7 ∷ []) is 0 ∷ 3 ∷ [])
    ∷ []

cases : map (λ (c : Case). c.gives) table ≡ map (λ (c : Case). c.wanted) table
unfolding sum every first first_from tab tab_from all_below is_field dot place dealt_entry dealt part_g part_h expected differs image_at mapped_entry dealt_mapped differs_in map_holds judgement_mapped
cases = refl
