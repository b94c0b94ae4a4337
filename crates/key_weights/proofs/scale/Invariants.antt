-- The first b columns are multiplied.
use Prim.Native.Nat.{ℕ, ◌<◌}
use mathlib.Core.Path.{◌≡◌}
use mathlib.Core.List.{[]}
use lib.ListN.{length, get_or}
use Rattle.key_weights.specs.Inner.{scaled_at}
use Rattle.key_weights.proofs.scale.Given as goal

abbrev pub invariant-loop-b : goal.invariant-loop-b
invariant-loop-b l = (length l.r ≡ 4) × ((k : ℕ) → k < l.b → get_or l.r k [] ≡ scaled_at l.members l.shares l.k l.weights k)
