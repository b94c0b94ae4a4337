-- The search from holder i on is the search of the whole.
use mathlib.Core.Bool.{not}
use mathlib.Core.Path.{◌≡◌, sym, ap, ◌∙◌}
use native.Mathlib.Nat.{sub-zero}
use native.Mathlib.Omega.{arith}
use borrow.Author.Tests.{eq-eqb, ne_eqb}
use Rattle.base.specs.Search.{first}
use Rattle.base.proofs.Search.{first-stop, first_step, first-end}
use Rattle.scheme.specs.Dealing.{said_reject}
use Rattle.outcomes.proofs.lowest_reject.Goals as goal

pub loop-i-init : goal.loop-i-init
unfolding first
loop-i-init c = rw sub-zero

pub returns-then-verdicts-i-ne1 : goal.returns-then-verdicts-i-ne1
unfolding said_reject
returns-then-verdicts-i-ne1 c =
    let l = c.loop-i in
    sym (l.invariant ∙ first-stop _ _ _ c.loop-i-test.true (ap not (ne_eqb _ _ c.if-verdicts-i-ne1.true)))

pub loop-i-preserved : goal.loop-i-preserved
unfolding said_reject
loop-i-preserved c =
    let l = c.loop-i in
    l.invariant ∙ first_step _ _ _ c.loop-i-test.true (ap not (eq-eqb _ _ c.if-verdicts-i-ne1.false))

pub returns : goal.returns
returns c =
    let e : c.loop-i.i ≡ c.args.n = omega arith in
    sym (c.loop-i.invariant ∙ first-end _ _ _ c.loop-i-test.false ∙ e)
