-- The first c sums are written.
use Prim.Native.Nat.{ℕ, ◌/◌, ◌%◌, ◌<◌}
use mathlib.Core.Path.{◌≡◌}
use mathlib.Core.List.{[]}
use lib.ListN.{length, get_or}
use Rattle.field.specs.Dot.{at}
use Rattle.key_values.specs.Inner.{shown}
use Rattle.key_values.proofs.sums.Given as goal

abbrev pub invariant-loop-c : goal.invariant-loop-c
invariant-loop-c l = (length l.r ≡ 16) × ((k : ℕ) → k < l.c → at l.r k ≡ shown (get_or l.scaled (k / 4) []) l.v (k % 4))
