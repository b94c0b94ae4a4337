-- The entries passed are what the residues are read back to.
use Prim.Native.Nat.{ℕ, ◌<◌}
use mathlib.Core.Path.{◌≡◌}
use lib.ListN.{length}
use Rattle.field.specs.Dot.{at}
use Rattle.signed.specs.Integers.{integer_at}
use Rattle.signed.specs.Corrections.{correction}
use Rattle.signed.proofs.read_all.Given as goal

abbrev pub invariant-loop-i : goal.invariant-loop-i
invariant-loop-i l = (length l.integers ≡ length l.initial.integers) × ((k : ℕ) → k < l.i → integer_at l.integers k ≡ correction (at l.held k))
