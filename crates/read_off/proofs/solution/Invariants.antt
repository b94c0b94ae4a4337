-- The loop fills the vector in order.
use mathlib.Core.Path.{◌≡◌}
use Rattle.base.specs.Fill.{filled}
use Rattle.read_off.specs.ReadOff.{flat_shown}
use Rattle.elimination.specs.Inner.{buffers}
use Rattle.read_off.proofs.solution.Given as goal

abbrev pub invariant-loop-place : goal.invariant-loop-place
invariant-loop-place l = l.x ≡ filled (flat_shown l.rows l.width l.b (buffers l.a l.used)) l.place l.initial.x
