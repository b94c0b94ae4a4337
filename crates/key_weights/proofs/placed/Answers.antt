-- The first a shares stand at their places.
use mathlib.Core.Path.{◌∙◌}
use native.Mathlib.Omega.{arith}
use lib.ListN.{length-take}
use Rattle.key_weights.proofs.Lanes.{place_none, place-next, among}
use Rattle.key_weights.proofs.placed.Goals as goal

pub loop-a-init : goal.loop-a-init
loop-a-init c = place_none _ _

pub loop-a-preserved : goal.loop-a-preserved
loop-a-preserved c =
    let ms = c.args.members.now in
    let l = c.loop-a in
    let e = c.from.ensures ∙ among ms l.a c.loop-a-test.true in
    rw e (place-next ms c.requires.depots _ l.a l.r (omega (arith, c.loop-a-test.true, length-take 7 ms)) l.invariant)
