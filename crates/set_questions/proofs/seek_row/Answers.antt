-- The reduced system shows a row, or an equation that proves that there is none.
-- the places: the start from `dim`, `dim` from the elimination, the elimination from the test
use Prim.Native.Nat.{◌+◌}
use mathlib.Core.Path.{refl}
use native.Mathlib.Omega.{arith}
use lib.ListN.{length}
use Rattle.elimination.specs.Inner.{Fits}
use Rattle.set_systems.proofs.Members.{Room, room, part-size, fresh}
use Rattle.set_questions.proofs.Judge.{row_fits, row-found, row-none}
use Rattle.set_questions.proofs.seek_row.Goals as goal

pub overflow_mul-end : goal.overflow_mul-end
overflow_mul-end c =
    let has_room : Room (length c.args.out.now) c.dim-d.result = room c.requires.set_taken c.requires.q_lt_l.1 c.dim-d.ensures.0 in
    omega (arith, has_room.across)

pub slice_bounds-buffer-end : goal.slice_bounds-buffer-end
slice_bounds-buffer-end c =
    let has_room : Room (length c.args.out.now) c.dim-d.result = room c.requires.set_taken c.requires.q_lt_l.1 c.dim-d.ensures.0 in
    has_room.across

pub slice_bounds-a-end : goal.slice_bounds-a-end
slice_bounds-a-end c =
    let has_room : Room (length c.args.out.now) c.dim-d.result = room c.requires.set_taken c.requires.q_lt_l.1 c.dim-d.ensures.0 in
    part-size _ 528 has_room.across

pub reduce_across-steps-requires : goal.reduce_across-steps-requires
reduce_across-steps-requires c =
    let has_room : Room (length c.args.out.now) c.dim-d.result = room c.requires.set_taken c.requires.q_lt_l.1 c.dim-d.ensures.0 in record { set_taken = c.requires.set_taken; fresh = rw (← c.requires.q_lt_l.1, ← c.dim-d.ensures.0) (fresh c.dim-d.result (length c.args.out.now + 1) 528 16 has_room.across has_room.entries) }

pub unsolved-requires : goal.unsolved-requires
unsolved-requires c =
    let fits : Fits c.dim-d.result (length c.args.out.now + 1) c.reduce_across-steps.new.a c.reduce_across-steps.new.used = row_fits c.requires.set_taken c.requires.q_lt_l.0 c.reduce_across-steps.ensures c.requires.q_lt_l.1 c.dim-d.ensures.0 in record { fits = fits; b_lt_width = omega arith }

pub returns-then-unsolved-d : goal.returns-then-unsolved-d
returns-then-unsolved-d c =
    row-none c.requires.set_taken c.requires.q_lt_l.0 c.reduce_across-steps.ensures c.requires.q_lt_l.1 c.dim-d.ensures.0 c.unsolved.ensures c.if-unsolved-d.true c.args.out.now

pub solution-requires : goal.solution-requires
solution-requires c =
    let fits : Fits c.dim-d.result (length c.args.out.now + 1) c.reduce_across-steps.new.a c.reduce_across-steps.new.used = row_fits c.requires.set_taken c.requires.q_lt_l.0 c.reduce_across-steps.ensures c.requires.q_lt_l.1 c.dim-d.ensures.0 in
    let has_room : Room (length c.args.out.now) c.dim-d.result = room c.requires.set_taken c.requires.q_lt_l.1 c.dim-d.ensures.0 in record { fits = fits; b_lt_width = (omega arith, omega (arith, has_room.members)) }

pub returns : goal.returns
returns c =
    row-found c.requires.set_taken c.requires.q_lt_l.0 c.reduce_across-steps.ensures c.requires.q_lt_l.1 c.dim-d.ensures.0 c.unsolved.ensures c.if-unsolved-d.false c.args.out.now refl c.solution.ensures
