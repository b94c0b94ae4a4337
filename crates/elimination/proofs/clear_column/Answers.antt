-- The loop clears row by row, as the definition does; entries stay below p, and a row is counted as it was before the column.
use Prim.Native.Nat.{ℕ, ◌+◌}
use mathlib.Core.Path.{refl, ◌∙◌, subst}
use native.Mathlib.Omega.{arith}
use Rattle.base.specs.Matrix.{entry}
use Rattle.base.specs.Sum.{sum}
use Rattle.base.proofs.Matrix.{row_inside, row-past}
use Rattle.gauss.specs.Gauss.{others}
use Rattle.gauss.proofs.Steps.{others-le}
use Rattle.elimination.specs.Inner.{ColumnCleared}
use Rattle.elimination.proofs.Flat.{clear-start, row_passed, row_taken, other-below, rows-below}
use Rattle.elimination.proofs.clear_column.Goals as goal
use Rattle.elimination.proofs.clear_column.Goals.{then-f-ne0, else-f-ne0}

pub loop-t-init : goal.loop-t-init
unfolding others sum
loop-t-init c = (0, record { within = omega arith; there = omega arith; cleared = record { matrix = clear-start _ _ _ _ _; steps = refl } })

pub overflow_add-steps : goal.overflow_add-steps
overflow_add-steps c =
    let x = c.args in
    let i = c.loop-t.invariant in
    let within = row_inside x.rows x.width i.0 _ i.1.there (omega arith) in
    omega (arith, within, i.1.cleared.steps, others-le i.0 x.k (λ j. entry x.width x.a.now j x.col))

pub overflow_sub-p : goal.overflow_sub-p
overflow_sub-p c =
    let x = c.args in
    let l = c.loop-t in
    let below = rows-below x.p x.width x.k x.col l.invariant.0 x.a.now l.a l.invariant.1.cleared.matrix c.requires.a_len.3 c.requires.below in
    omega (arith, other-below x.p x.width x.k x.col l.t _ l.a c.other_entry-f.ensures c.requires.a_len.3 below)

pub add_row-requires-clause-below : goal.add_row-requires-clause-below
add_row-requires-clause-below c =
    let x = c.args in
    let l = c.loop-t in rows-below x.p x.width x.k x.col l.invariant.0 x.a.now l.a l.invariant.1.cleared.matrix c.requires.a_len.3 c.requires.below

pub loop-t-preserved : goal.loop-t-preserved
loop-t-preserved c =
    let x = c.args in
    let l = c.loop-t in
    let i = l.invariant in (
      i.0 + 1,
      record {
        within = let m = row_inside x.rows x.width i.0 _ i.1.there (omega arith) in omega (arith, m);
        there = omega (arith, i.1.there);
        cleared = elim c.if-f-ne0.branch [
          | then-f-ne0 w ↦
              row_taken x.p x.width x.k x.col l.t i.0 _ l.steps _ x.a.now l.a _ (omega arith) i.1.there c.other_entry-f.ensures i.1.cleared w.if-f-ne0.true
              (w.a-is ∙ w.add_row.ensures) w.steps-is
          | else-f-ne0 w ↦
              row_passed x.p x.width x.k x.col l.t i.0 _ l.steps _ x.a.now l.a _ (omega arith) i.1.there c.other_entry-f.ensures i.1.cleared w.if-f-ne0.false
              w.a-is w.steps-is
        ];
      },
    )

pub returns : goal.returns
returns c =
    let x = c.args in
    let i = c.loop-t.invariant in
    let e = row-past x.rows x.width i.0 _ i.1.there (omega arith) i.1.within (omega arith) in
    subst (λ (n : ℕ). ColumnCleared x.p n x.width x.k x.col x.a.now c.loop-t.a c.loop-t.steps) e i.1.cleared
