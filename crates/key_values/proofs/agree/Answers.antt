-- The shares before place x are those expected.
use mathlib.Core.Path.{◌∙◌}
use native.Mathlib.Omega.{arith}
use borrow.Author.Tests.{ne_eqb}
use Rattle.key_values.specs.Inner.{all, differs}
use Rattle.key_values.proofs.agree.Goals as goal

pub returns-then-times-expected : goal.returns-then-times-expected
returns-then-times-expected c =
    differs c.loop-x.x (omega arith) c.loop-x-test.true (rw (← c.from-i.ensures) (ne_eqb _ _ (λ e. c.if-times-expected.true (c.times.ensures ∙ e))))

pub returns : goal.returns
returns c = all (λ y l m. c.loop-x.invariant y l (omega arith))
