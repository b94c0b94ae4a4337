-- The first i bytes are written.
use Prim.Native.Nat.{ℕ, ◌<◌}
use mathlib.Core.Path.{◌≡◌}
use lib.ListN.{length}
use Rattle.field.specs.Dot.{at}
use Rattle.board_keys.proofs.write_bytes.Given as goal

abbrev pub invariant-loop-i : goal.invariant-loop-i
invariant-loop-i l = (length l.key ≡ 16) × ((k : ℕ) → k < l.i → at l.key k ≡ at l.values k)
