-- The factors of the members so far are multiplied.
use mathlib.Core.Path.{ap, ◌∙◌}
use native.Mathlib.Omega.{arith}
use Rattle.base.proofs.Matrix.{below-tab}
use Rattle.base.specs.Fill.{tab}
use Rattle.field.specs.Dot.{at}
use Rattle.key_weights.specs.Inner.{away, behind}
use Rattle.key_weights.proofs.Lanes.{factors-none, factors-next, lanes-below, among}
use Rattle.key_weights.proofs.weigh.Goals as goal

pub loop-j-init : goal.loop-j-init
loop-j-init c = (factors-none (λ a. away c.args.inverses.now (at c.args.members.now a)), factors-none (λ a. behind (at c.args.members.now a)))

pub times16-next_x-requires : goal.times16-next_x-requires
times16-next_x-requires c = record { below = lanes-below _ _ c.loop-j.invariant.0; below_2 = rw c.away_from.ensures (below-tab 257 16 _ (omega arith) (λ i l. c.requires.below _)) }

pub times16-next_y-requires : goal.times16-next_y-requires
times16-next_y-requires c = record { below = lanes-below _ _ c.loop-j.invariant.1; below_2 = rw c.behind.ensures (below-tab 257 16 _ (omega arith) (λ i l. omega arith)) }

pub loop-j-preserved : goal.loop-j-preserved
loop-j-preserved c =
    let ms = c.args.members.now in
    let t = c.args.inverses.now in
    let l = c.loop-j in
    let e = among ms l.j-index c.loop-j-test.true in (
      c.times16-next_x.ensures ∙ factors-next l.j-index (λ a. away t (at ms a)) _ _ l.invariant.0 (c.away_from.ensures ∙ ap (λ z. tab 16 (away t z)) (c.from.ensures ∙ e)),
      c.times16-next_y.ensures ∙ factors-next l.j-index (λ a. behind (at ms a)) _ _ l.invariant.1 (c.behind.ensures ∙ ap (λ z. tab 16 (behind z)) e),
    )
