-- Matrices from a supplier (document 02, A5), computed: whether a set is private depends on its members' rows and not on their number.
-- supplier: e is 3, and holder 0 has the row (1, 0, .., 0): "a single depot reads position 0, though e is 3"; holder 1 has an entry in every column
-- between: ℓ is 2 and e is 1; the row (1, 1, 0) shows the sum of the two positions and neither of them
use mathlib.Core.Path.{◌≡◌, refl}
use mathlib.Core.List.{[], ◌∷◌}
use Rattle.base.specs.Sum.{sum, bit, unit}
use Rattle.base.specs.Search.{every, first_of, first_vec}
use Rattle.base.specs.Matrix.{all_below}
use Rattle.field.specs.Fields.{is_field}
use Rattle.field.specs.Dot.{dot}
use Rattle.scheme.specs.Setup.{Setup}
use Rattle.scheme.specs.Answers.{yes, no}
use Rattle.scheme.specs.Sets.{members, members_from, is_row, find_row, has_row, is_sweep, find_sweep, has_sweep, determines, is_private}
use Rattle.scheme.specs.Calls.{private_call, determines_call}

abbrev supplier : Setup
supplier = record { p = 7; l = 2; e = 3; n = 2; M = 1 ∷ 0 ∷ 0 ∷ 0 ∷ 0 ∷ 6 ∷ 2 ∷ 5 ∷ 3 ∷ 4 ∷ [] }

abbrev pub between : Setup
between = record { p = 7; l = 2; e = 1; n = 1; M = 1 ∷ 1 ∷ 0 ∷ [] }

-- holder 0 alone is not private, holder 1 alone is
alone : (private_call supplier 1 ∷ private_call supplier 2 ∷ []) ≡ (no ∷ yes ∷ [])
unfolding sum bit unit every first_of first_vec all_below is_field dot members members_from is_sweep find_sweep has_sweep is_private
alone = refl

-- neither private nor determining
neither : (private_call between 1 ∷ determines_call between 1 ∷ []) ≡ (no ∷ no ∷ [])
unfolding sum bit unit every first_of first_vec all_below is_field dot members members_from is_row find_row has_row is_sweep find_sweep has_sweep determines is_private
neither = refl
