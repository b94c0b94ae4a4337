-- The first c entries of every part are written.
use mathlib.Core.Path.{◌≡◌, ◌∙◌}
use native.Mathlib.Omega.{arith}
use Rattle.base.proofs.Rows.{begun-put}
use Rattle.key_parts.proofs.Parts.{entry_of, parts_all}
use Rattle.key_parts.proofs.write_products.Goals as goal

pub loop-c-preserved : goal.loop-c-preserved
loop-c-preserved c =
    let l = c.loop-c in
    (c.put.ensures.size ∙ l.invariant.0, begun-put _ _ _ _ _ _ _ _ _ (omega arith) (omega arith) l.invariant.1 c.put.ensures (entry_of _ _ c.products.ensures))

pub returns : goal.returns
returns c =
    let l = c.loop-c in
    let e : l.c ≡ 7 = omega arith in
    parts_all _ _ l.invariant.0 (rw e at l.invariant.1)
