-- The columns before b agree.
use mathlib.Core.Bool.{not}
use mathlib.Core.Path.{ap}
use native.Mathlib.Omega.{arith}
use Rattle.base.proofs.Choice.{either}
use Rattle.key_values.specs.Inner.{all, differs}
use Rattle.key_values.proofs.Laws.{agreed-no, agreed-yes}
use Rattle.key_values.proofs.all_agree.Goals as goal

pub returns-then-k-eq7 : goal.returns-then-k-eq7
returns-then-k-eq7 c = all (λ b x l m n. absurd (omega (arith, m, n)))

pub returns-then-not-agree : goal.returns-then-not-agree
returns-then-not-agree c =
    let (x, l, m, h) = agreed-no _ _ _ (rw c.expected-wanted.ensures at c.agree.ensures) (ap not c.if-not-agree.true) in
    differs c.loop-b.b x (omega arith) l m h

pub loop-b-preserved : goal.loop-b-preserved
loop-b-preserved c =
    λ d x m n o. either d c.loop-b.b _
    (λ e. rw e (rw c.expected-wanted.ensures at (agreed-yes _ _ _ c.agree.ensures (ap not c.if-not-agree.false) x n o)))
    (λ h. c.loop-b.invariant d x (omega (arith, m, h)) n o)

pub returns : goal.returns
returns c = all (λ b x l m n. c.loop-b.invariant b x (omega arith) m n)
