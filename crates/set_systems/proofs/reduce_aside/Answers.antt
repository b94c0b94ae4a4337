-- The buffer is loaded with the members' rows, the last e columns first, and reduced by those.
-- the places: `walk` and the start from where the load is asked, the load from where the reduction is asked
use native.Mathlib.Omega.{arith}
use Rattle.set_systems.proofs.Systems.{aside-asks, aside-loading}
use Rattle.set_systems.proofs.reduce_aside.Goals as goal

pub load_aside-requires : goal.load_aside-requires
load_aside-requires c = let both = aside-asks c.requires.set_taken c.walk-k.ensures c.requires.fresh in record { e_bound = both.0; lie = both.1 }

pub reduce-requires : goal.reduce-requires
reduce-requires c = record { ready = (aside-loading c.requires.set_taken c.walk-k.ensures c.requires.fresh).ready c.load_aside.ensures; pivots_le_width = omega arith }

pub returns : goal.returns
returns c =
    (aside-loading c.requires.set_taken c.walk-k.ensures c.requires.fresh).done c.load_aside.ensures c.reduce.ensures
