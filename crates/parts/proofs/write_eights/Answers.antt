-- The parts of the first i holders are written, each as a row of a flat matrix.
use mathlib.Core.Path.{◌∙◌}
use native.Mathlib.Nat.{zero-mul}
use native.Mathlib.Omega.{arith}
use borrow.Author.Rules.{rules}
use Rattle.base.proofs.Fill.{filled_none}
use Rattle.base.proofs.Matrix.{below-zeros}
use Rattle.parts.specs.Inner.{entry_h, entry_g}
use Rattle.parts.proofs.Parts.{lines-inside, past-filled, eight_room, more_rows}
use Rattle.parts.proofs.write_eights.Goals as goal

pub loop-i-init : goal.loop-i-init
loop-i-init c = (search rules, simp zero-mul (filled_none _ _), simp zero-mul (filled_none _ _))

pub fill_columns-requires-clause-below_2 : goal.fill_columns-requires-clause-below_2
fill_columns-requires-clause-below_2 c = below-zeros 257 128 (omega arith)

pub write_eight-requires : goal.write_eight-requires
write_eight-requires c =
    let r = c.requires.all_room in
    eight_room _ _ _ _ _ _ _ _ _ _ _ _ _ r c.requires.below_2 c.fill_columns.ensures (omega arith) (omega arith) (c.loop-i.auto.hs ∙ r.fits.1)
    (λ j k m q. (lines-inside _ r.small j k m q).0)

pub write_eight-requires-in-loop-i : goal.write_eight-requires-in-loop-i
write_eight-requires-in-loop-i c =
    let r = c.requires.all_room in
    eight_room _ _ _ _ _ _ _ _ _ _ _ _ _ r c.requires.below_2 c.fill_columns.ensures (omega arith) (omega arith) (c.loop-i.auto.gs ∙ r.fits.0)
    (λ j k m q. (lines-inside _ r.small j k m q).1)

pub loop-i-preserved : goal.loop-i-preserved
loop-i-preserved c =
    let x = c.args in
    let l = c.loop-i in
    let held = c.fill_columns.ensures in (
      omega arith,
      c.write_eight-in-loop-i.ensures ∙ more_rows x.p x.d x.matrix.now x.f.now l.i _ _ held 1 x.d _ _ l.invariant.1,
      c.write_eight.ensures ∙ more_rows x.p x.d x.matrix.now x.f.now l.i _ _ held x.d 1 _ _ l.invariant.2,
    )

pub returns : goal.returns
returns c =
    let l = c.loop-i in
    let w = c.write_each.ensures in record { gs_after = w.gs_after ∙ past-filled _ (entry_g _ _ _ _) l.i _ _ _ l.invariant.0 l.invariant.1; hs_after = w.hs_after ∙ past-filled _ (entry_h _ _ _ _) l.i _ _ _ l.invariant.0 l.invariant.2 }
