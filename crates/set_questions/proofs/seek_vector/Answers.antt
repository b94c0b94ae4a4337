-- The reduced system shows a sweeping vector, or an equation that proves that there is none.
-- the places: the start from `size`, `size` from the elimination, the elimination from the sum e + q, that from the test
use mathlib.Core.Path.{refl}
use lib.ListN.{length}
use Rattle.set_systems.proofs.Members.{Room, room, fresh}
use Rattle.set_questions.proofs.Judge.{vector-found, vector-none}
use Rattle.set_questions.proofs.seek_vector.Goals as goal

pub reduce_aside-requires : goal.reduce_aside-requires
reduce_aside-requires c =
    let has_room : Room c.size-k.result (length c.args.out.now) = room c.requires.set_taken c.size-k.ensures.0 c.requires.q_lt_l.1 in record { set_taken = c.requires.set_taken; fresh = rw (← c.size-k.ensures.0, ← c.requires.q_lt_l.1) (fresh c.size-k.result (length c.args.out.now) 512 32 has_room.aside has_room.members) }

pub returns-then-unsolved-k : goal.returns-then-unsolved-k
returns-then-unsolved-k c =
    vector-none c.requires.set_taken c.requires.q_lt_l.0 c.reduce_aside.ensures c.size-k.ensures.0 c.requires.q_lt_l.1 c.unsolved.ensures c.if-unsolved-k.true c.args.out.now

pub returns : goal.returns
returns c =
    vector-found c.requires.set_taken c.requires.q_lt_l.0 c.reduce_aside.ensures c.size-k.ensures.0 c.requires.q_lt_l.1 c.unsolved.ensures c.if-unsolved-k.false c.args.out.now refl c.write_sweep.ensures
