-- The first a shares stand at their places.
use Prim.Native.Nat.{◌+◌}
use mathlib.Core.Path.{◌≡◌}
use Rattle.base.specs.Fill.{tab}
use Rattle.field.specs.Dot.{at}
use Rattle.key_weights.specs.Inner.{spread}
use Rattle.key_weights.proofs.placed.Given as goal

abbrev pub invariant-loop-a : goal.invariant-loop-a
invariant-loop-a l = l.r ≡ tab 16 (spread l.members l.a (λ a. at l.shares (l.start + a)))
