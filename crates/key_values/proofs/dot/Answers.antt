-- The sum over the first i lanes.
use Prim.Native.Nat.{◌+◌, ◌*◌}
use mathlib.Core.Path.{refl, ◌∙◌}
use native.Mathlib.Omega.{arith}
use Rattle.base.specs.Sum.{sum}
use Rattle.field.specs.Dot.{at, dot}
use Rattle.key_values.proofs.Laws.{below-dot, dot-next}
use Rattle.key_values.proofs.dot.Goals as goal

pub loop-i-init : goal.loop-i-init
unfolding dot sum
loop-i-init c = refl

pub plus-sum-requires : goal.plus-sum-requires
plus-sum-requires c =
    let l = c.loop-i in
    (rw l.invariant (below-dot l.i _ _ (omega arith) (λ k m. c.requires.below k) (λ k m. c.requires.below_2 _)), c.requires.below _, c.requires.below_2 _)

pub loop-i-preserved : goal.loop-i-preserved
loop-i-preserved c =
    let l = c.loop-i in
    c.plus-sum.ensures ∙ dot-next l.i (at c.args.scaled) (λ k. at c.args.v.now (16 * c.args.q + k)) _ _ l.invariant refl
