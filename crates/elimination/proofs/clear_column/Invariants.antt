-- The loop clears row by row, as the definition does, where t is the start of row r.
use Prim.Native.Nat.{ℕ, ◌-◌, ◌*◌, ◌≤◌}
use mathlib.Core.Path.{◌≡◌}
use Rattle.elimination.specs.Inner.{ColumnCleared}
use Rattle.elimination.proofs.clear_column.Given as goal

abbrev pub invariant-loop-t : goal.invariant-loop-t
invariant-loop-t l =
    (r : ℕ) × record { within : r ≤ l.rows; there : l.t ≡ r * l.width; cleared : ColumnCleared l.p r l.width l.k l.col l.initial.a l.a l.steps }

abbrev pub decreases-loop-t : goal.decreases-loop-t
decreases-loop-t l = l.end - l.t
