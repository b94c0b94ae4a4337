-- The first b columns are multiplied.
use mathlib.Core.Path.{◌∙◌}
use native.Mathlib.Omega.{arith}
use Rattle.std.proofs.lemmas.Grind.{common_steps}
use Rattle.key_weights.proofs.Lanes.{placed_below, scaled-column}
use Rattle.key_weights.proofs.scale.Goals as goal

pub times16-requires : goal.times16-requires
times16-requires c =
    let x = c.args in record { below = placed_below x.members.now x.shares.now x.k c.requires.depots c.requires.below c.place-placed.ensures _ c.loop-b-test.true; below_2 = c.requires.below_2 }

pub loop-b-preserved : goal.loop-b-preserved
loop-b-preserved c =
    let x = c.args in
    let e = c.times16.ensures ∙ scaled-column x.members.now x.shares.now x.k c.requires.depots c.requires.below c.place-placed.ensures _ c.loop-b-test.true x.weights in grind (arith, common_steps, e)
