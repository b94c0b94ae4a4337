-- The search from here is the search of the whole, and it ends early at an entry elsewhere.
use Prim.Native.Nat.{◌+◌, ◌-◌}
use mathlib.Core.Path.{◌≡◌}
use lib.ListN.{get_or}
use Rattle.base.specs.Search.{first_from, first}
use Rattle.gauss.specs.Gauss.{elsewhere}
use Rattle.read_off.proofs.alone.Given as goal

abbrev pub invariant-loop-j : goal.invariant-loop-j
invariant-loop-j l = first_from (elsewhere l.q (λ k. get_or l.a (l.t + k) 0)) l.j (l.pivots - l.j) ≡ first (elsewhere l.q (λ k. get_or l.a (l.t + k) 0)) l.pivots
