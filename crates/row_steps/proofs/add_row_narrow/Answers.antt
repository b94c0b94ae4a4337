-- The loops write the row from left to right, the first by eights; every entry stays below p.
use Prim.Native.Nat.{ℕ, ◌+◌, ◌-◌, ◌%◌}
use mathlib.Core.Path.{◌≡◌, ap, ◌∙◌}
use native.Mathlib.Omega.{arith}
use borrow.Author.Rules.{rules}
use Rattle.row_steps.specs.Rows.{add_row}
use Rattle.row_steps.proofs.Rows.{add_none, below-add, add_parts, add_step}
use Rattle.row_steps.proofs.add_row_narrow.Goals as goal
use Rattle.row_steps.proofs.add_row_narrow.Goals.{else-loop-c-test, then-loop-c-test+else-whole-c-gt8}

pub loop-c-init : goal.loop-c-init
loop-c-init c = record { eights = search rules; within = search rules; written = add_none _ _ _ _ _ }

pub add_eight-requires-clause-below : goal.add_eight-requires-clause-below
add_eight-requires-clause-below c =
    let x = c.args in rw c.loop-c.invariant.written (below-add x.p x.h x.t x.q c.loop-c.c x.a.now c.requires.reciprocal.pos c.requires.below)

pub loop-c-preserved : goal.loop-c-preserved
loop-c-preserved c =
    let x = c.args in
    let l = c.loop-c in record {
      eights = omega arith;
      within = omega arith;
      written = add_parts x.p x.h x.t x.q x.width l.c 8 c.requires.kept (omega arith) x.a.now l.a _ l.invariant.written c.add_eight.ensures;
    }

pub loop-c-2-init : goal.loop-c-2-init
loop-c-2-init c =
    let x = c.args in
    let l = c.loop-c in
    let whole = x.width - x.width % 8 in
    let until = λ (n : ℕ). add_row x.p x.h x.t x.q n x.a.now in elim c.loop-c-test.branch [
      | else-loop-c-test w ↦ let e : l.c ≡ whole = omega arith in w.a-is ∙ l.invariant.written ∙ ap until e
      | then-loop-c-test+else-whole-c-gt8 w ↦
          let e : l.c + 8 ≡ whole = omega arith in
          add_parts x.p x.h x.t x.q x.width l.c 8 c.requires.kept (omega arith) x.a.now l.a _ l.invariant.written (w.a-is ∙ w.add_eight.ensures) ∙ ap until e
    ]

pub add_narrow-requires-clause-y_lt_p : goal.add_narrow-requires-clause-y_lt_p
add_narrow-requires-clause-y_lt_p c =
    let x = c.args in
    let l = c.loop-c-2 in
    let small = below-add x.p x.h x.t x.q l.c x.a.now c.requires.reciprocal.pos c.requires.below in (rw l.invariant (small (x.t + l.c)), rw l.invariant (small (x.q + l.c)))

pub loop-c-2-preserved : goal.loop-c-2-preserved
loop-c-2-preserved c =
    let x = c.args in
    let l = c.loop-c-2 in add_step x.p x.h x.t x.q x.width l.c c.requires.kept (omega arith) x.a.now l.a _ l.invariant c.add_narrow.ensures
