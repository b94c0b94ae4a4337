-- The columns passed so far are solved; the first that is not ends the loop.
use Prim.Native.Nat.{ℕ, ◌+◌}
use mathlib.Core.Path.{◌≡◌}
use mathlib.Core.Bool.{Bool, true}
use mathlib.Core.List.{List}
use lib.Dec.{leb}
use Rattle.elimination.specs.Inner.{buffers}
use Rattle.read_off.specs.ReadOff.{flat_unsolved}
use Rattle.base.specs.Search.{every}
use Rattle.read_off.proofs.all_solved.Given as goal

-- column k behind the pivot columns is solved
abbrev pub solved : (rows width pivots : ℕ) → List ℕ → List ℕ → ℕ → Bool
solved rows width pivots a used k = leb rows (flat_unsolved rows width (pivots + k) (buffers a used))

abbrev pub invariant-loop-q : goal.invariant-loop-q
invariant-loop-q l = every l.q (solved l.rows l.width l.pivots l.a l.used) ≡ true
