-- The search from holder j on is the search of the whole, and the product is the value due.
use mathlib.Core.Bool.{not}
use mathlib.Core.Path.{◌≡◌, sym, ap, ◌∙◌}
use native.Mathlib.Nat.{sub-zero}
use native.Mathlib.Omega.{arith}
use borrow.Author.Tests.{eq-eqb, ne_eqb}
use Rattle.base.specs.Search.{first}
use Rattle.base.proofs.Search.{first-stop, first_step, first-end}
use Rattle.scheme.specs.Setup.{setup_of}
use Rattle.scheme.specs.Dealing.{differs}
use Rattle.scheme.proofs.Calls.{judge-ok, limits-pos}
use Rattle.judging.proofs.Products.{row_inside, part-inside, is-due}
use Rattle.judging.proofs.lowest_that_differs.Goals as goal

pub loop-j-init : goal.loop-j-init
unfolding first
loop-j-init c = rw sub-zero

pub rows_product-due-requires : goal.rows_product-due-requires
rows_product-due-requires c =
    let x = c.args in
    let S = setup_of x.s x.matrix.now in
    let ok = judge-ok S x.h.now x.values.now c.requires in
    let e = c.dim-d.ensures.0 in (
      limits-pos S ok.setup.limits,
      omega (arith, c.dim-d.ensures.1, ok.setup.limits.secret, ok.setup.limits.random),
      row_inside S _ e x.matrix.now _ ok.setup.matrix.size c.loop-j-test.true,
      part-inside S _ e x.h.now ok.part.size,
    )

pub returns-then-values-j : goal.returns-then-values-j
unfolding differs
returns-then-values-j c =
    let l = c.loop-j in
    let x = c.args in
    let S = setup_of x.s x.matrix.now in
    let due = is-due S _ c.dim-d.ensures.0 _ x.h.now l.j c.rows_product-due.ensures in
    sym (l.invariant ∙ first-stop _ _ _ c.loop-j-test.true (ap not (ne_eqb _ _ (λ q. c.if-values-j.true (q ∙ sym due)))))

pub loop-j-preserved : goal.loop-j-preserved
unfolding differs
loop-j-preserved c =
    let l = c.loop-j in
    let x = c.args in
    let S = setup_of x.s x.matrix.now in
    let due = is-due S _ c.dim-d.ensures.0 _ x.h.now l.j c.rows_product-due.ensures in
    l.invariant ∙ first_step _ _ _ c.loop-j-test.true (ap not (eq-eqb _ _ (c.if-values-j.false ∙ due)))

pub returns : goal.returns
returns c =
    let e : c.loop-j.j ≡ c.args.s.n = omega arith in
    sym (c.loop-j.invariant ∙ first-end _ _ _ c.loop-j-test.false ∙ e)
