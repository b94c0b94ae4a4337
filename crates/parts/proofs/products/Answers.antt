-- After k rows of the table each lane is the product of its first k entries and those of the line.
use Prim.Native.Nat.{◌+◌, ◌*◌}
use mathlib.Core.Path.{refl}
use native.Mathlib.Omega.{arith}
use Rattle.base.specs.Sum.{sum}
use Rattle.base.specs.Fill.{tab, tab_from}
use Rattle.field.specs.Dot.{dot, along}
use Rattle.parts.proofs.Parts.{lanes-below, lanes_step}
use Rattle.parts.proofs.products.Goals as goal

pub loop-k-init : goal.loop-k-init
unfolding tab tab_from dot sum
loop-k-init c = refl

pub add8-next-requires-clause-below : goal.add8-next-requires-clause-below
add8-next-requires-clause-below c =
    let x = c.args in
    lanes-below x.table.now x.at x.wide (along x.x.now x.start x.step) c.loop-k.k _ c.requires.below (λ j. c.requires.below_2 (x.start + j * x.step))
    (omega (arith, c.requires.d_bound)) c.loop-k.invariant

pub loop-k-preserved : goal.loop-k-preserved
loop-k-preserved c =
    let x = c.args in
    lanes_step x.table.now x.at x.wide (along x.x.now x.start x.step) c.loop-k.k c.loop-k.sums _ c.loop-k.invariant c.add8-next.ensures
