-- The first t lanes are reduced.
use Prim.Native.Nat.{◌%◌}
use mathlib.Core.Path.{◌≡◌}
use lib.ListN.{get_or}
use Rattle.base.specs.Fill.{filled}
use Rattle.parts.proofs.remainders8.Given as goal

abbrev pub invariant-loop-t : goal.invariant-loop-t
invariant-loop-t l = l.r ≡ filled (λ t. get_or l.sums t 0 % l.p) l.t l.initial.r
