-- After k columns each lane is the product of its first k halves with x; the lanes are then joined by twos.
use mathlib.Core.Path.{◌≡◌, refl, ◌∙◌}
use native.Mathlib.Omega.{arith}
use Rattle.base.specs.Sum.{sum}
use Rattle.base.specs.Fill.{tab, tab_from}
use Rattle.field.specs.Dot.{dot}
use Rattle.key_parts.proofs.Parts.{lanes-below, lanes_step, lanes-joined}
use Rattle.key_parts.proofs.products.Goals as goal

pub loop-k-init : goal.loop-k-init
unfolding tab tab_from dot sum
loop-k-init c = refl

pub add32-next-requires-clause-below : goal.add32-next-requires-clause-below
add32-next-requires-clause-below c = lanes-below _ c.args.x.now _ _ c.requires.halves c.requires.below (omega arith) c.loop-k.invariant

pub loop-k-preserved : goal.loop-k-preserved
loop-k-preserved c =
    let l = c.loop-k in
    let x = c.args in
    lanes_step x.columns.now x.x.now l.k l.sums _ l.invariant c.add32-next.ensures

pub joined16-requires : goal.joined16-requires
joined16-requires c = lanes-below _ c.args.x.now _ _ c.requires.halves c.requires.below (omega arith) c.loop-k.invariant

pub returns : goal.returns
returns c =
    let l = c.loop-k in
    let x = c.args in
    let e : l.k ≡ 7 = omega arith in
    c.joined16.ensures ∙ lanes-joined x.columns.now x.x.now l.sums (rw e at l.invariant)
