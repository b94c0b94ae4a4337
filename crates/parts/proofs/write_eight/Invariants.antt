-- The first j entries of every lane are written.
use Prim.Native.Nat.{ℕ, ◌*◌}
use mathlib.Core.Path.{◌≡◌}
use lib.ListN.{get_or}
use Rattle.base.proofs.Fill.{Outside}
use Rattle.base.proofs.Rows.{Begun}
use Rattle.parts.specs.Inner.{lane_entry}
use Rattle.parts.proofs.write_eight.Given as goal

abbrev pub invariant-loop-j : goal.invariant-loop-j
invariant-loop-j l = Begun l.d l.count l.at (lane_entry l.p l.d l.columns l.f l.apart l.step) l.j l.out
    × ((k : ℕ) → Outside l.at (l.count * l.d) k → get_or l.out k 0 ≡ get_or l.initial.out k 0)
