-- The loop writes the system row by row.
use Prim.Native.Nat.{◌+◌, ◌*◌}
use mathlib.Core.Path.{◌≡◌}
use Rattle.base.specs.Matrix.{flat}
use Rattle.base.specs.Fill.{filled}
use Rattle.set_systems.specs.Inner.{beside}
use Rattle.set_systems.proofs.load_beside.Given as goal

abbrev pub invariant-loop-i : goal.invariant-loop-i
invariant-loop-i l = l.a ≡ filled (flat (l.d + 1) (beside l.d l.matrix l.members l.shares)) (l.i * (l.d + 1)) l.initial.a
