-- The tables are right, and the walk lists the depots.
use mathlib.Core.Path.{refl}
use Rattle.base.specs.Search.{every}
use Rattle.base.specs.Matrix.{all_below}
use Rattle.key_values.proofs.Tables.{tables, ready}
use Rattle.key_values.proofs.interpolate.Goals as goal

pub interpolate_by-requires-clause-tables : goal.interpolate_by-requires-clause-tables
unfolding every all_below
interpolate_by-requires-clause-tables c = tables _ _ refl refl refl refl refl

pub interpolate_by-requires-clause-ready : goal.interpolate_by-requires-clause-ready
interpolate_by-requires-clause-ready c =
    let p = c.requires in rw c.walk-k.ensures.list (ready _ _ p.set_bound p.in_bounds.0 p.in_bounds.1 p.below)
