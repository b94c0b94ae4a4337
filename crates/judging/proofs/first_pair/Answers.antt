-- The loops go through the pairs in their order: what the search gives from the place i * n + j on is what it gives of the whole, and the two products
-- are the pair value and the value due.
use mathlib.Core.Path.{refl, sym, ap, ◌∙◌}
use native.Mathlib.Omega.{arith}
use Rattle.scheme.specs.Setup.{setup_of}
use Rattle.scheme.proofs.Calls.{rehearse-ok, limits-pos}
use Rattle.judging.proofs.Products.{row_inside, is-pair-value-of, is-due-of}
use Rattle.judging.proofs.Pairs.{pairs-begin, pair-agrees, pair-differs, pairs_end}
use Rattle.judging.proofs.first_pair.Goals as goal
use Rattle.scheme.specs.Answers.{paper_rehearsed}

pub holders-init : goal.holders-init
holders-init c = (refl, pairs-begin _ _ _)

pub rows_product-sent-requires : goal.rows_product-sent-requires
rows_product-sent-requires c =
    let x = c.args in
    let S = setup_of x.s x.matrix.now in
    let ok = rehearse-ok S x.gs.now x.hs.now c.requires in
    let e = c.dim-d.ensures in (
      limits-pos S ok.setup.limits,
      omega (arith, ok.setup.limits.secret, ok.setup.limits.random, e.0),
      row_inside S _ e.0 x.gs.now _ ok.rows.size (omega arith),
      row_inside S _ e.0 x.matrix.now _ ok.setup.matrix.size (omega arith),
    )

pub rows_product-due-requires : goal.rows_product-due-requires
rows_product-due-requires c =
    let x = c.args in
    let S = setup_of x.s x.matrix.now in
    let ok = rehearse-ok S x.gs.now x.hs.now c.requires in
    let e = c.dim-d.ensures in (
      limits-pos S ok.setup.limits,
      omega (arith, ok.setup.limits.secret, ok.setup.limits.random, e.0),
      row_inside S _ e.0 x.matrix.now _ ok.setup.matrix.size (omega arith),
      row_inside S _ e.0 x.hs.now _ ok.columns.size (omega arith),
    )

pub loop-j-preserved : goal.loop-j-preserved
loop-j-preserved c =
    let l = c.loop-j in
    let i = c.holders.i in
    let x = c.args in
    let S = setup_of x.s x.matrix.now in
    let sent = is-pair-value-of S _ c.dim-d.ensures.0 _ x.gs.now l.j i c.rows_product-sent.ensures in
    let due = is-due-of S _ c.dim-d.ensures.0 _ x.hs.now i l.j c.rows_product-due.ensures in
    (l.invariant.0, pair-agrees S _ _ i l.j (omega arith) (omega arith) (sym sent ∙ c.if-sent-due.false ∙ due) l.invariant.1)

pub returns-after-holders : goal.returns-after-holders
returns-after-holders c =
    let h = c.holders in
    ap paper_rehearsed h.invariant.0 ∙ pairs_end _ _ _ h.i h.auto.i-end c.holders-test.false h.invariant.1

pub returns-then-sent-due : goal.returns-then-sent-due
returns-then-sent-due c =
    let l = c.loop-j in
    let i = c.holders.i in
    let x = c.args in
    let S = setup_of x.s x.matrix.now in
    let sent = is-pair-value-of S _ c.dim-d.ensures.0 _ x.gs.now l.j i c.rows_product-sent.ensures in
    let due = is-due-of S _ c.dim-d.ensures.0 _ x.hs.now i l.j c.rows_product-due.ensures in
    pair-differs S _ _ i l.j (omega arith) (omega arith) (λ e. c.if-sent-due.true (sent ∙ e ∙ sym due)) l.invariant.1
