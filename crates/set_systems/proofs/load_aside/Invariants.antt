-- The loop writes the system row by row.
use Prim.Native.Nat.{◌+◌, ◌*◌}
use mathlib.Core.Path.{◌≡◌}
use Rattle.base.specs.Matrix.{flat}
use Rattle.base.specs.Fill.{filled}
use Rattle.set_systems.specs.Inner.{aside}
use Rattle.set_systems.proofs.load_aside.Given as goal

abbrev pub invariant-loop-i : goal.invariant-loop-i
invariant-loop-i l = l.a ≡ filled (flat (l.l + l.e) (aside l.l l.e l.matrix l.members)) (l.i * (l.l + l.e)) l.initial.a
