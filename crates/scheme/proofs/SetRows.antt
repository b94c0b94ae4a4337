-- The rows of sets and their row steps (document 02, A6), computed: what the judgement of a set gives, and the row.
-- tied: the row of holder 2 is that of holder 0 less that of holder 1, and the row of holder 3 is twice that of holder 0
use mathlib.Core.Path.{◌≡◌, refl}
use mathlib.Core.List.{[], ◌∷◌}
use mathlib.Core.Option.{some}
use Prim.Native.Nat.{ℕ}
use lib.ListN.{replicate}
use Rattle.base.specs.Rules.{Answer}
use Rattle.base.specs.Sum.{sum, bit, unit}
use Rattle.base.specs.Search.{every, first, first_from, first_of, first_vec}
use Rattle.base.specs.Matrix.{all_below}
use Rattle.field.specs.Prime.{inverse_of}
use Rattle.field.specs.Fields.{is_field}
use Rattle.field.specs.Dot.{dot}
use Rattle.gauss.specs.Gauss.{scaled, clear, usable, pivot_of, use_row, column, gauss, start, elsewhere, others, column_steps, steps}
use Rattle.scheme.specs.Setup.{Setup}
use Rattle.scheme.specs.Answers.{is_a_row, is_a_vector, is_neither}
use Rattle.scheme.specs.Sets.{holds, members, members_from, is_row, find_row, has_row, dependent, is_one_row, one_row, is_sweep, find_sweep, has_sweep, across, row_steps, kind}
use Rattle.scheme.specs.Calls.{judge_set_call}
use Rattle.scheme.proofs.Cases.{ex}
use Rattle.scheme.proofs.Supplier.{between}

abbrev tied : Setup
tied = record { p = 7; l = 1; e = 1; n = 4; M = 1 ∷ 1 ∷ 0 ∷ 1 ∷ 1 ∷ 0 ∷ 2 ∷ 2 ∷ [] }

abbrev judged : Setup → ℕ → Answer
judged S s = judge_set_call S s 0 (replicate 32 0)

-- a row for holders 0, 1, 2, a vector for holders 0 and 3, whose own elimination takes a row step too, and neither for the row (1, 1, 0)
kinds : (judged tied 7 ∷ judged tied 9 ∷ judged between 1 ∷ []) ≡ (is_a_row 1 ∷ is_a_vector 1 ∷ is_neither 1 ∷ [])
unfolding sum bit unit every first first_from first_of first_vec all_below inverse_of is_field dot scaled clear usable pivot_of use_row column gauss start elsewhere others column_steps steps members members_from is_row find_row has_row is_sweep find_sweep has_sweep across row_steps kind
kinds = refl

-- holder 2 has no weight beside holders 0 and 1, nor on document 01's example; beside holder 1 alone it has all
weights : (one_row tied (holds 7) 0 ∷ one_row tied (holds 6) 0 ∷ one_row ex (holds 7) 0 ∷ []) ≡ (some (1 ∷ 6 ∷ 0 ∷ []) ∷ some (0 ∷ 1 ∷ []) ∷ some (3 ∷ 5 ∷ 0 ∷ []) ∷ [])
unfolding sum bit unit every first_of first_vec dot members members_from is_row dependent is_one_row one_row
weights = refl
