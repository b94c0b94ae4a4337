-- All the rounds are one number, or the rounds of every column passed agree.
use mathlib.Core.Path.{sym, ap, ◌∙◌}
use mathlib.Core.Bool.{not}
use borrow.Author.Count.{below_more}
use native.Mathlib.Omega.{arith}
use Rattle.base.specs.Fill.{tab}
use Rattle.base.specs.Matrix.{entry, all_are}
use Rattle.scheme.specs.Opening.{agree}
use Rattle.base.proofs.Search.{every-all, every-fails}
use Rattle.board_keys.proofs.Rounds.{one-round, column-agrees}
use Rattle.board_keys.proofs.columns_apart.Goals as goal

pub returns-then-all_are : goal.returns-then-all_are
returns-then-all_are c =
    let x = c.args in
    let one = ap (λ r. all_are r x.rounds.now) (sym c.round_of.ensures) ∙ sym c.all_are.ensures ∙ c.if-all_are.true in
    sym (ap not (one-round x.k x.rounds.now c.requires.0 one))

pub returns-then-not-all_are : goal.returns-then-not-all_are
returns-then-not-all_are c =
    let x = c.args in
    let b = c.loop-b.b in
    let e = column-agrees x.k b x.rounds.now _ _ c.requires.0 c.loop-b-test.true c.round_of-in-loop-b.ensures c.all_are-in-loop-b.ensures in
    sym (ap not (every-fails 4 (λ b. agree (tab x.k (entry x.k x.rounds.now b))) b c.loop-b-test.true (sym e ∙ c.if-not-all_are.true)))

pub loop-b-preserved : goal.loop-b-preserved
loop-b-preserved c =
    let x = c.args in
    let b = c.loop-b.b in
    let e = column-agrees x.k b x.rounds.now _ _ c.requires.0 c.loop-b-test.true c.round_of-in-loop-b.ensures c.all_are-in-loop-b.ensures in
    below_more _ _ c.loop-b.invariant (sym e ∙ c.if-not-all_are.false)

pub returns : goal.returns
returns c =
    let x = c.args in
    sym (ap not (every-all 4 (λ b. agree (tab x.k (entry x.k x.rounds.now b))) (λ b l. c.loop-b.invariant b (omega arith))))
