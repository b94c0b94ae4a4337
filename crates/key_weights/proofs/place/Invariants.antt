-- The first b columns are placed.
use Prim.Native.Nat.{ℕ, ◌*◌, ◌<◌}
use mathlib.Core.Path.{◌≡◌}
use mathlib.Core.List.{[]}
use lib.ListN.{length, get_or}
use Rattle.key_weights.specs.Inner.{placed_at}
use Rattle.key_weights.proofs.place.Given as goal

abbrev pub invariant-loop-b : goal.invariant-loop-b
invariant-loop-b l = (length l.r ≡ 4) × ((k : ℕ) → k < l.b → get_or l.r k [] ≡ placed_at l.members l.shares (k * l.k))
