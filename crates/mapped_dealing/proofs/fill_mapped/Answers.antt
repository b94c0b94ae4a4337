-- The first k rows of F_φ are written, each by products; the rest is the second random entries in order.
use mathlib.Core.Path.{◌≡◌, ◌∙◌}
use native.Mathlib.Nat.{zero-mul}
use native.Mathlib.Omega.{arith}
use Rattle.base.proofs.Fill.{filled_none}
use Rattle.mapped_dealing.proofs.Parts.{row-mapped, mapped-ended}
use Rattle.mapped_dealing.proofs.fill_mapped.Goals as goal

pub loop-k-init : goal.loop-k-init
loop-k-init c = simp zero-mul (filled_none _ _)

pub loop-k-preserved : goal.loop-k-preserved
loop-k-preserved c = c.map_row.ensures ∙ row-mapped _ _ _ _ c.args.random2.now _ _ _ c.loop-k.k c.loop-k-test.true c.loop-k.invariant

pub returns : goal.returns
returns c =
    let x = c.args in
    let e : c.loop-k.k ≡ x.s.l = omega arith in
    c.copy.ensures ∙ mapped-ended _ _ _ x.phi.now _ x.f.now _ _ (rw e at c.loop-k.invariant)
