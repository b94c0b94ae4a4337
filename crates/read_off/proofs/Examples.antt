-- Small systems modulo 7, computed: what is read off the reduced matrix, and the run on a flat buffer beside the run on the matrix.
use mathlib.Core.Path.{◌≡◌, refl}
use mathlib.Core.List.{List, [], ◌∷◌}
use Prim.Native.Nat.{ℕ}
use lib.ListN.{get_or}
use Rattle.base.specs.Fill.{tab, tab_from, laid}
use Rattle.base.specs.Matrix.{flat}
use Rattle.base.specs.Search.{every, first, first_from}
use Rattle.base.specs.Sum.{bit}
use Rattle.field.specs.Prime.{inverse_of}
use Rattle.row_steps.specs.Rows.{add_row, scale_row}
use Rattle.read_off.specs.ReadOff.{pivot_row, shown, unsolved, all_solved, alone, fixes, flat_shown, flat_unsolved, flat_fixes}
use Rattle.gauss.specs.Gauss.{elsewhere, State, scaled, clear, usable, pivot_of, use_row, column, gauss, start, reduced}
use Rattle.elimination.specs.Elimination.{clear_row, clear_to, Flat, flat_pivot, flat_use, flat_column, flat_reduce}
use Rattle.elimination.specs.Inner.{buffers}

abbrev rows : List (List ℕ) → ℕ → ℕ → ℕ
rows m i j = get_or (get_or m i []) j 0

-- a system's equations, of two unknowns each, with the right side in column 2, and its reduced form
abbrev system : List ℕ → List ℕ → ℕ → ℕ → ℕ
system u v = rows (u ∷ v ∷ [])

abbrev after : List ℕ → List ℕ → State
after u v = reduced 7 2 2 (system u v)

abbrev run : List ℕ → Flat
run a = flat_reduce 7 2 3 2 (buffers a (0 ∷ 0 ∷ []))

table :
    -- the rows (6, 2) and (4, 4) of holders 0 and 2, as columns beside e_0: the row for position 0
    (tab 2 (shown 2 2 (after (6 ∷ 4 ∷ 1 ∷ []) (2 ∷ 4 ∷ 0 ∷ [])))
    -- x + 2 y = 3, 2 x + 4 y = 5: row 1 has no solution; with 6 for 5 there is one
    ∷ (unsolved 2 2 (after (1 ∷ 2 ∷ 3 ∷ []) (2 ∷ 4 ∷ 5 ∷ [])) ∷ unsolved 2 2 (after (1 ∷ 2 ∷ 3 ∷ []) (2 ∷ 4 ∷ 6 ∷ [])) ∷ [])
    -- the same as a question of all right sides
    ∷ (bit (all_solved 2 2 1 (after (1 ∷ 2 ∷ 3 ∷ []) (2 ∷ 4 ∷ 5 ∷ []))) ∷ bit (all_solved 2 2 1 (after (1 ∷ 2 ∷ 3 ∷ []) (2 ∷ 4 ∷ 6 ∷ []))) ∷ [])
    -- 3 x = 5 and 6 x = 3: position 0 is determined, 1 is not
    ∷ tab 2 (λ q. bit (fixes 2 2 (after (3 ∷ 0 ∷ 5 ∷ []) (6 ∷ 0 ∷ 3 ∷ [])) q))
    -- x + 2 y = 3 alone determines neither
    ∷ tab 2 (λ q. bit (fixes 2 2 (after (1 ∷ 2 ∷ 3 ∷ []) (2 ∷ 4 ∷ 6 ∷ [])) q))
    -- the first system's matrix, and the same on a buffer, with its marks and what is read off it
    ∷ tab 6 (flat 3 (after (6 ∷ 4 ∷ 1 ∷ []) (2 ∷ 4 ∷ 0 ∷ [])).mat)
    ∷ (run (6 ∷ 4 ∷ 1 ∷ 2 ∷ 4 ∷ 0 ∷ [])).mat
    ∷ (run (6 ∷ 4 ∷ 1 ∷ 2 ∷ 4 ∷ 0 ∷ [])).used
    ∷ tab 2 (flat_shown 2 3 2 (run (6 ∷ 4 ∷ 1 ∷ 2 ∷ 4 ∷ 0 ∷ [])))
    ∷ (flat_unsolved 2 3 2 (run (1 ∷ 2 ∷ 3 ∷ 2 ∷ 4 ∷ 5 ∷ [])) ∷ [])
    ∷ tab 2 (λ q. bit (flat_fixes 2 3 2 (run (3 ∷ 0 ∷ 5 ∷ 6 ∷ 0 ∷ 3 ∷ [])) q))
    ∷ [])
    ≡ ((2 ∷ 6 ∷ [])
    ∷ (1 ∷ 2 ∷ [])
    ∷ (0 ∷ 1 ∷ [])
    ∷ (1 ∷ 0 ∷ [])
    ∷ (0 ∷ 0 ∷ [])
    ∷ (1 ∷ 0 ∷ 2 ∷ 0 ∷ 1 ∷ 6 ∷ [])
    ∷ (1 ∷ 0 ∷ 2 ∷ 0 ∷ 1 ∷ 6 ∷ [])
    ∷ (1 ∷ 2 ∷ [])
    ∷ (2 ∷ 6 ∷ [])
    ∷ (1 ∷ [])
    ∷ (1 ∷ 0 ∷ [])
    ∷ [])
unfolding tab tab_from laid first first_from bit inverse_of scaled clear usable pivot_of use_row column gauss start reduced pivot_row shown every all_solved elsewhere alone fixes add_row scale_row clear_row clear_to flat_pivot flat_use flat_column flat_reduce flat_shown flat_fixes
table = refl
