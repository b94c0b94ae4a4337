-- The shares before place x are those expected.
use Prim.Native.Nat.{ℕ, ◌≤◌, ◌<◌}
use mathlib.Core.Bool.{true}
use mathlib.Core.Path.{◌≡◌}
use Rattle.key_values.specs.Inner.{agrees}
use Rattle.key_values.proofs.agree.Given as goal

abbrev pub invariant-loop-x : goal.invariant-loop-x
invariant-loop-x l = (y : ℕ) → 7 ≤ y → y < l.x → agrees l.expected l.weights l.shares l.start l.members y ≡ true
