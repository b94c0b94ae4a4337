-- By whether the entry stands among the first ℓ.
use Prim.Native.Nat.{◌+◌, ◌-◌, ◌%◌, ◌<◌}
use mathlib.Core.Path.{ap, ◌∙◌}
use native.Mathlib.Omega.{arith}
use borrow.Author.Tests.{lt-ltb, le-ltb}
use Rattle.elimination.specs.Inner.{buffers}
use Rattle.set_questions.specs.Inner.{negated}
use Rattle.set_questions.proofs.Judge.{shown-below}
use Rattle.set_questions.proofs.sweep_entry.Goals as goal

pub returns-then-j-l : goal.returns-then-j-l
unfolding negated
returns-then-j-l c = rw (lt-ltb _ _ c.if-j-l.true) c.unit.ensures

pub negative-requires : goal.negative-requires
negative-requires c =
    let x = c.args in
    let l : 0 < x.s.p = omega (arith, c.requires.below 0) in
    (l, omega (arith, c.shown-x.ensures, shown-below x.s.p x.rows x.width (x.s.e + x.q) (buffers x.a.now x.used.now) l c.requires.below (x.j - x.s.l)))

pub returns : goal.returns
unfolding negated
returns c =
    let x = c.args in
    rw (le-ltb _ _ c.if-j-l.false) (c.negative.ensures ∙ ap (λ z. (x.s.p - z) % x.s.p) c.shown-x.ensures)
