-- The members are at least seven rising depots, so the weights and what they give are those of the polynomials.
use Rattle.key_weights.proofs.Lanes.{lanes-below}
use Rattle.key_values.proofs.Laws.{columns-below}
use Rattle.key_values.proofs.Values.{interpolates}
use Rattle.key_values.proofs.interpolate_by.Goals as goal

pub scale-scaled-requires-clause-below_2 : goal.scale-scaled-requires-clause-below_2
scale-scaled-requires-clause-below_2 c = lanes-below _ _ c.weigh-w.ensures.inverses_value

pub read-values-requires-clause-columns : goal.read-values-requires-clause-columns
read-values-requires-clause-columns c = columns-below _ _ c.scale-scaled.ensures

pub read-values-requires-clause-below_2 : goal.read-values-requires-clause-below_2
read-values-requires-clause-below_2 c = lanes-below _ _ c.weigh-w.ensures.products_value

pub all_agree-requires-clause-below_2 : goal.all_agree-requires-clause-below_2
all_agree-requires-clause-below_2 c = lanes-below _ _ c.weigh-w.ensures.inverses_value

pub all_agree-requires-clause-columns : goal.all_agree-requires-clause-columns
all_agree-requires-clause-columns c = columns-below _ _ c.scale-scaled.ensures

pub returns-then-all_agree : goal.returns-then-all_agree
returns-then-all_agree c =
    let p = c.requires in
    let found = interpolates p.tables p.ready c.weigh-w.ensures.inverses_value c.weigh-w.ensures.products_value c.scale-scaled.ensures c.read-values.ensures c.all_agree.ensures in
    rw c.if-all_agree.true at found

pub returns-else-all_agree : goal.returns-else-all_agree
returns-else-all_agree c =
    let p = c.requires in
    let found = interpolates p.tables p.ready c.weigh-w.ensures.inverses_value c.weigh-w.ensures.products_value c.scale-scaled.ensures c.read-values.ensures c.all_agree.ensures in
    rw c.if-all_agree.false at found
