-- The parts of the holders from `first` to i are written, each at its place.
use Prim.Native.Nat.{◌*◌}
use mathlib.Core.Path.{◌≡◌, ◌∙◌}
use Rattle.base.specs.Fill.{laid}
use Rattle.parts.specs.Inner.{entry_h, entry_g}
use Rattle.parts.proofs.Parts.{past-none, past_row}
use Rattle.parts.proofs.write_each.Goals as goal
use Rattle.parts.proofs.write_each.Goals.{then-p-gt257, else-p-gt257}

pub loop-i-init : goal.loop-i-init
loop-i-init c = (past-none _ _ _ _, past-none _ _ _ _)

pub loop-i-preserved : goal.loop-i-preserved
loop-i-preserved c =
    let x = c.args in
    let l = c.loop-i in
    let g : c.if-p-gt257.gs ≡ laid (entry_g x.p x.d x.matrix.now x.f.now l.i) (l.i * x.d) x.d l.gs = elim c.if-p-gt257.branch [
      | then-p-gt257 w ↦ w.gs-is ∙ w.write_one-then-p-gt257.ensures
      | else-p-gt257 w ↦ w.gs-is ∙ w.write_g_in_lanes.ensures
    ] in (
      g ∙ past_row _ (entry_g _ _ _ _) _ _ _ _ l.auto.i l.invariant.0,
      c.write_one.ensures ∙ past_row _ (entry_h _ _ _ _) _ _ _ _ l.auto.i l.invariant.1,
    )
