-- The first c lanes are written.
use Prim.Native.Nat.{ℕ, ◌<◌}
use mathlib.Core.Path.{◌≡◌}
use lib.ListN.{length}
use Rattle.field.specs.Dot.{at}
use Rattle.key_weights.specs.Inner.{behind}
use Rattle.key_weights.proofs.behind.Given as goal

abbrev pub invariant-loop-c : goal.invariant-loop-c
invariant-loop-c l = (length l.r ≡ 16) × ((k : ℕ) → k < l.c → at l.r k ≡ behind l.j k)
