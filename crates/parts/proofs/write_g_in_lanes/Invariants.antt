-- The first b entries are written; each is lane b of the rows of F times row i.
use Prim.Native.Nat.{◌-◌, ◌%◌, ◌≤◌, ◌<◌}
use mathlib.Core.Path.{◌≡◌}
use Rattle.base.specs.Fill.{laid}
use Rattle.parts.specs.Inner.{entry_g}
use Rattle.parts.proofs.write_g_in_lanes.Given as goal

abbrev pub invariant-loop-b : goal.invariant-loop-b
invariant-loop-b l = (l.b ≤ l.d) × (l.b < l.d → l.b % 8 ≡ 0) × (l.out ≡ laid (entry_g l.p l.d l.matrix l.f l.i) l.at l.b l.initial.out)

abbrev pub decreases-loop-b : goal.decreases-loop-b
decreases-loop-b l = l.d - l.b
