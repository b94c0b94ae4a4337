-- The entries passed are the corrections' residues.
use Prim.Native.Nat.{ℕ, ◌<◌}
use mathlib.Core.Path.{◌≡◌}
use lib.ListN.{length}
use Rattle.field.specs.Dot.{at}
use Rattle.signed.specs.Integers.{integer_at}
use Rattle.signed.specs.Corrections.{residue}
use Rattle.signed.proofs.hold_all.Given as goal

abbrev pub invariant-loop-i : goal.invariant-loop-i
invariant-loop-i l = (length l.held ≡ length l.initial.held) × ((k : ℕ) → k < l.i → at l.held k ≡ residue (integer_at l.integers k))
