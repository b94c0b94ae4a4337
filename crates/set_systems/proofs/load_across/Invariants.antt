-- The loop writes the system equation by equation.
use Prim.Native.Nat.{◌+◌, ◌*◌}
use mathlib.Core.Path.{◌≡◌}
use lib.ListN.{length}
use Rattle.base.specs.Matrix.{flat}
use Rattle.base.specs.Fill.{filled}
use Rattle.scheme.specs.Sets.{across}
use Rattle.set_systems.proofs.load_across.Given as goal

abbrev pub invariant-loop-c : goal.invariant-loop-c
invariant-loop-c l = l.a ≡ filled (flat (length l.members + 1) (across l.d l.matrix l.members l.q)) (l.c * (length l.members + 1)) l.initial.a
