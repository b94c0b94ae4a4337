-- The loop fills the vector in order.
use mathlib.Core.Path.{◌≡◌}
use lib.ListN.{length}
use Rattle.base.specs.Fill.{filled}
use Rattle.elimination.specs.Inner.{buffers}
use Rattle.set_questions.specs.Inner.{negated}
use Rattle.set_questions.proofs.write_sweep.Given as goal

abbrev pub invariant-loop-place : goal.invariant-loop-place
invariant-loop-place l = l.out ≡ filled (negated l.s.p l.rows (length l.initial.out) l.s.l l.s.e l.q (buffers l.a l.used)) l.place l.initial.out
