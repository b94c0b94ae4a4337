-- The buffer is loaded with the members' rows as columns beside e_q, and reduced. The row steps are at most the columns times the rows.
-- the places: `walk` and the start from where the load is asked, the load from where the reduction is asked
use native.Mathlib.Omega.{arith}
use Rattle.elimination.proofs.Flat.{counted-le}
use Rattle.set_systems.proofs.Members.{room}
use Rattle.set_systems.proofs.Systems.{across-asks, across-loading}
use Rattle.set_systems.proofs.reduce_across.Goals as goal

pub load_across-requires : goal.load_across-requires
load_across-requires c = let both = across-asks c.requires.set_taken c.walk-k.ensures c.dim-d.ensures.0 c.args.q c.requires.fresh in record { d_bound = both.0; lie = both.1 }

pub reduce-requires : goal.reduce-requires
reduce-requires c = record { ready = (across-loading c.requires.set_taken c.walk-k.ensures c.dim-d.ensures.0 c.args.q c.requires.fresh).ready c.load_across.ensures; pivots_le_width = omega arith }

pub overflow_cast-result : goal.overflow_cast-result
overflow_cast-result c =
    let d = c.dim-d in let k = c.walk-k in
    omega (arith, counted-le c.reduce.ensures, (room c.requires.set_taken k.ensures.count d.ensures.0).aside)

pub returns : goal.returns
returns c =
    (across-loading c.requires.set_taken c.walk-k.ensures c.dim-d.ensures.0 c.args.q c.requires.fresh).done c.load_across.ensures c.reduce.ensures
