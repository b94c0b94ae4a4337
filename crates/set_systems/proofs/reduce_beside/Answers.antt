-- The buffer is loaded with the members' rows beside the shares; reduced, it shows which positions have a row.
-- the places: `walk` and the start from where the load is asked, the load from where the reduction is asked
use native.Mathlib.Omega.{arith}
use Rattle.set_systems.proofs.Systems.{beside-asks, beside-loading}
use Rattle.set_systems.proofs.reduce_beside.Goals as goal

pub load_beside-requires : goal.load_beside-requires
load_beside-requires c = let both = beside-asks c.requires.set_taken c.walk-k.ensures c.dim-d.ensures.0 c.requires.vec c.requires.fresh in record { d_bound = both.0; lie = both.1 }

pub reduce-requires : goal.reduce-requires
reduce-requires c = record { ready = (beside-loading c.requires.set_taken c.walk-k.ensures c.dim-d.ensures.0 c.requires.vec c.requires.fresh).ready c.load_beside.ensures; pivots_le_width = omega arith }

pub returns : goal.returns
returns c =
    (beside-loading c.requires.set_taken c.walk-k.ensures c.dim-d.ensures.0 c.requires.vec c.requires.fresh).done c.load_beside.ensures c.reduce.ensures c.lacking.result c.lacking.ensures
