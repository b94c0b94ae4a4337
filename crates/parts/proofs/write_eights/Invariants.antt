-- The parts of the first i holders are written, each as a row of a flat matrix.
use Prim.Native.Nat.{◌-◌, ◌*◌, ◌≤◌}
use mathlib.Core.Path.{◌≡◌}
use Rattle.base.specs.Fill.{filled}
use Rattle.base.specs.Matrix.{flat}
use Rattle.parts.specs.Inner.{entry_h, entry_g}
use Rattle.parts.proofs.write_eights.Given as goal

abbrev pub invariant-loop-i : goal.invariant-loop-i
invariant-loop-i l = (l.i ≤ l.n)
    × (l.gs ≡ filled (flat l.d (entry_g l.p l.d l.matrix l.f)) (l.i * l.d) l.initial.gs) × (l.hs ≡ filled (flat l.d (entry_h l.p l.d l.matrix l.f)) (l.i * l.d) l.initial.hs)

abbrev pub decreases-loop-i : goal.decreases-loop-i
decreases-loop-i l = l.n - l.i
