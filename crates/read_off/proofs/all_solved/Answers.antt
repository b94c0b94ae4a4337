-- The columns passed so far are solved; the first that is not ends the loop.
-- column k behind the pivot columns is solved
use Prim.Native.Nat.{ℕ}
use mathlib.Core.Path.{refl, sym, ◌∙◌}
use mathlib.Core.Bool.{Bool}
use native.Mathlib.Omega.{arith}
use borrow.Author.Rules.{rules}
use borrow.Author.Tests.{le-leb, lt-leb}
use Rattle.base.specs.Search.{every}
use Rattle.base.proofs.Choice.{and_both}
use Rattle.base.proofs.Search.{every-step, every-at, every-all, every-fails}
use Rattle.elimination.specs.Elimination.{flat_pivot}
use Rattle.read_off.specs.ReadOff.{all_solved, flat_all_solved}
use Rattle.read_off.proofs.all_solved.Invariants.{solved}
use Rattle.read_off.proofs.all_solved.Goals as goal

pub loop-q-init : goal.loop-q-init
unfolding every
loop-q-init c = refl

pub returns-then-unsolved-rows : goal.returns-then-unsolved-rows
unfolding flat_all_solved all_solved flat_pivot
returns-then-unsolved-rows c =
    let x = c.args in
    let l = c.loop-q in
    sym (every-fails x.sides (solved x.rows x.width x.pivots x.a.now x.used.now) l.q (search rules) (lt-leb _ _ (rw c.unsolved.ensures at c.if-unsolved-rows.true)))

pub loop-q-preserved : goal.loop-q-preserved
loop-q-preserved c =
    let x = c.args in
    let l = c.loop-q in
    let t : ℕ → Bool = solved x.rows x.width x.pivots x.a.now x.used.now in
    every-step l.q t ∙ and_both (every l.q t) (t l.q) l.invariant (le-leb _ _ (rw c.unsolved.ensures at c.if-unsolved-rows.false))

pub returns : goal.returns
unfolding flat_all_solved all_solved flat_pivot
returns c =
    let x = c.args in
    let l = c.loop-q in
    let t : ℕ → Bool = solved x.rows x.width x.pivots x.a.now x.used.now in
    sym (every-all x.sides t (λ i m. every-at l.q t l.invariant i (omega arith)))
