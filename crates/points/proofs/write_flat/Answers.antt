-- The first i rows stand in the matrix, one after the other.
use mathlib.Core.Path.{ap, ◌∙◌}
use native.Mathlib.Nat.{zero-mul, zero-add}
use Rattle.base.proofs.Fill.{filled_none, laid-ext, laid-row}
use Rattle.points.specs.Inner.{row_entry}
use Rattle.points.proofs.write_flat.Goals as goal

pub loop-i-init : goal.loop-i-init
loop-i-init c = simp zero-mul (filled_none _ _)

pub loop-i-preserved : goal.loop-i-preserved
loop-i-preserved c =
    let l = c.loop-i in
    c.copy.ensures
    ∙ laid-ext _ (row_entry c.args.rows.now l.i) _ _ _ (λ j h. ap (λ k. row_entry c.args.rows.now l.i k) (zero-add j))
    ∙ laid-row c.args.d (row_entry c.args.rows.now) l.i _ _ l.invariant
