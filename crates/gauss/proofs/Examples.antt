-- The elimination of the rows (1, 1), (0, 1), (1, 0) written as columns, modulo 7, computed: the matrix that it leaves, the marks of its rows, and its one row
-- step. With the pivot from below there would be two, with the columns from right to left none, with entries that are 0 counted two, and with the
-- scalings three.
use mathlib.Core.Path.{◌≡◌, refl}
use mathlib.Core.List.{[], ◌∷◌}
use Prim.Native.Nat.{ℕ}
use lib.ListN.{get_or}
use Rattle.base.specs.Fill.{tab, tab_from}
use Rattle.base.specs.Search.{first, first_from}
use Rattle.base.specs.Sum.{sum, bit}
use Rattle.field.specs.Prime.{inverse_of}
use Rattle.gauss.specs.Gauss.{scaled, clear, usable, pivot_of, use_row, column, gauss, start, reduced, elsewhere, others, column_steps, steps}

abbrev system : ℕ → ℕ → ℕ
system i j = get_or (get_or ((1 ∷ 0 ∷ 1 ∷ []) ∷ (1 ∷ 1 ∷ 0 ∷ []) ∷ []) i []) j 0

example :
    (tab 3 ((reduced 7 2 3 system).mat 0) ∷ tab 3 ((reduced 7 2 3 system).mat 1) ∷ tab 2 (reduced 7 2 3 system).used ∷ tab 4 (λ c. steps 7 2 c (start 7 system)) ∷ [])
    ≡ ((1 ∷ 0 ∷ 1 ∷ []) ∷ (0 ∷ 1 ∷ 6 ∷ []) ∷ (1 ∷ 2 ∷ []) ∷ (0 ∷ 1 ∷ 1 ∷ 1 ∷ []) ∷ [])
unfolding tab tab_from first first_from sum bit inverse_of scaled clear usable pivot_of use_row column gauss start reduced elsewhere others column_steps steps
example = refl
