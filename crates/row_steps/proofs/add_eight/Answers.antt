-- The sums of the entries that stand there are written in their place.
use Prim.Native.Nat.{◌+◌}
use Rattle.base.proofs.Matrix.{below-tab}
use Rattle.row_steps.proofs.Rows.{add-sums}
use Rattle.row_steps.proofs.add_eight.Goals as goal

pub sums-v-requires : goal.sums-v-requires
sums-v-requires c =
    let x = c.args in
    let pos = c.requires.reciprocal.pos in record { below = rw c.eight.ensures (below-tab x.p 8 _ pos (λ k l. c.requires.below (x.t + k))); below_2 = rw c.eight-2.ensures (below-tab x.p 8 _ pos (λ k l. c.requires.below (x.q + k))); reciprocal = c.requires.reciprocal }

pub returns : goal.returns
returns c =
    add-sums _ _ _ _ _ _ _ _ _ c.eight.ensures
    c.eight-2.ensures
    c.sums-v.ensures
    c.copy.ensures
