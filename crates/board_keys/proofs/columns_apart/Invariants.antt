-- The rounds of every column passed agree.
use Prim.Native.Nat.{ℕ, ◌<◌}
use mathlib.Core.Path.{◌≡◌}
use mathlib.Core.Bool.{true}
use Rattle.base.specs.Fill.{tab}
use Rattle.base.specs.Matrix.{entry}
use Rattle.scheme.specs.Opening.{agree}
use Rattle.board_keys.proofs.columns_apart.Given as goal

abbrev pub invariant-loop-b : goal.invariant-loop-b
invariant-loop-b l = (j : ℕ) → j < l.b → agree (tab l.k (entry l.k l.rounds j)) ≡ true
