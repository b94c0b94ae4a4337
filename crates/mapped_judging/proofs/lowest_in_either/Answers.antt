-- The lower of the lowest of each dealing is the lowest of both.
use mathlib.Core.Path.{◌∙◌}
use native.Mathlib.Omega.{arith}
use Rattle.scheme.specs.Setup.{setup_of}
use Rattle.scheme.specs.Dealing.{differs, differs_in}
use Rattle.base.proofs.Search.{first-or-left, first-or-right}
use Rattle.mapped_judging.proofs.lowest_in_either.Goals as goal

pub returns-then-i-j : goal.returns-then-i-j
unfolding differs_in
returns-then-i-j c =
    let i = c.lowest_that_differs-i.ensures in
    let j = c.lowest_that_differs-j.ensures in
    i ∙ first-or-left _ _ _ (omega (arith, i, j))

pub returns : goal.returns
unfolding differs_in
returns c =
    let x = c.args in
    let S = setup_of x.s x.matrix.now in
    let i = c.lowest_that_differs-i.ensures in
    let j = c.lowest_that_differs-j.ensures in
    j ∙ first-or-right (differs S x.h.now x.values.now) _ _ (omega (arith, i, j))
