-- Where nothing is refused, the buffers have room for 32 rows of 17 entries, and what is opened from inputs in order is the opening.
-- the places: the start from where nothing is refused, `dim`, right behind that, from where the opening is asked
use Prim.Native.Nat.{◌+◌}
use mathlib.Core.Path.{◌≡◌, sym, ◌∙◌}
use native.Mathlib.Omega.{arith}
use lib.ListN.{length}
use Rattle.base.specs.Rules.{refusal}
use Rattle.base.proofs.Rules.{declined, unchanged}
use Rattle.scheme.specs.Setup.{setup_of}
use Rattle.scheme.specs.Calls.{open_rules}
use Rattle.scheme.proofs.Calls.{OpenOk, open-ok}
use Rattle.set_systems.proofs.Members.{Room, room, part-size, fresh}
use Rattle.opening.proofs.Answer.{open-taken}
use Rattle.opening.proofs.open.Goals as goal

pub overflow_mul-end : goal.overflow_mul-end
overflow_mul-end c =
    let none : let x = c.args in refusal (open_rules (setup_of x.s x.matrix.now) x.set x.shares.now x.rounds.now x.secrets.now) ≡ 0 = sym c.in_ok-check_open.ensures in
    let ok : let x = c.args in OpenOk (setup_of x.s x.matrix.now) x.set x.shares.now x.rounds.now x.secrets.now = open-ok _ _ _ _ _ none in
    let has_room : Room (length c.args.shares.now) c.dim.result = let o = ok in room (open-taken o).set o.shares.size c.dim.ensures.0 in
    omega (arith, has_room.beside)

pub slice_bounds-buffer-end : goal.slice_bounds-buffer-end
slice_bounds-buffer-end c =
    let none : let x = c.args in refusal (open_rules (setup_of x.s x.matrix.now) x.set x.shares.now x.rounds.now x.secrets.now) ≡ 0 = sym c.in_ok-check_open.ensures in
    let ok : let x = c.args in OpenOk (setup_of x.s x.matrix.now) x.set x.shares.now x.rounds.now x.secrets.now = open-ok _ _ _ _ _ none in
    let has_room : Room (length c.args.shares.now) c.dim.result = let o = ok in room (open-taken o).set o.shares.size c.dim.ensures.0 in
    has_room.beside

pub slice_bounds-open_by-end : goal.slice_bounds-open_by-end
slice_bounds-open_by-end c =
    let none : let x = c.args in refusal (open_rules (setup_of x.s x.matrix.now) x.set x.shares.now x.rounds.now x.secrets.now) ≡ 0 = sym c.in_ok-check_open.ensures in
    let ok : let x = c.args in OpenOk (setup_of x.s x.matrix.now) x.set x.shares.now x.rounds.now x.secrets.now = open-ok _ _ _ _ _ none in
    let has_room : Room (length c.args.shares.now) c.dim.result = let o = ok in room (open-taken o).set o.shares.size c.dim.ensures.0 in
    part-size _ 544 has_room.beside

pub slice_bounds-marks-end : goal.slice_bounds-marks-end
slice_bounds-marks-end c =
    let none : let x = c.args in refusal (open_rules (setup_of x.s x.matrix.now) x.set x.shares.now x.rounds.now x.secrets.now) ≡ 0 = sym c.in_ok-check_open.ensures in
    let ok : let x = c.args in OpenOk (setup_of x.s x.matrix.now) x.set x.shares.now x.rounds.now x.secrets.now = open-ok _ _ _ _ _ none in
    let has_room : Room (length c.args.shares.now) c.dim.result = let o = ok in room (open-taken o).set o.shares.size c.dim.ensures.0 in
    has_room.members

pub slice_bounds-open_by-end-2 : goal.slice_bounds-open_by-end-2
slice_bounds-open_by-end-2 c =
    let none : let x = c.args in refusal (open_rules (setup_of x.s x.matrix.now) x.set x.shares.now x.rounds.now x.secrets.now) ≡ 0 = sym c.in_ok-check_open.ensures in
    let ok : let x = c.args in OpenOk (setup_of x.s x.matrix.now) x.set x.shares.now x.rounds.now x.secrets.now = open-ok _ _ _ _ _ none in
    let has_room : Room (length c.args.shares.now) c.dim.result = let o = ok in room (open-taken o).set o.shares.size c.dim.ensures.0 in
    part-size _ 32 has_room.members

pub open_by-requires : goal.open_by-requires
open_by-requires c =
    let none : let x = c.args in refusal (open_rules (setup_of x.s x.matrix.now) x.set x.shares.now x.rounds.now x.secrets.now) ≡ 0 = sym c.in_ok-check_open.ensures in
    let ok : let x = c.args in OpenOk (setup_of x.s x.matrix.now) x.set x.shares.now x.rounds.now x.secrets.now = open-ok _ _ _ _ _ none in
    let has_room : Room (length c.args.shares.now) c.dim.result = let o = ok in room (open-taken o).set o.shares.size c.dim.ensures.0 in
    let h = has_room in record { open_taken = open-taken ok; fresh = rw (← ok.shares.size, ← c.dim.ensures.0) (fresh (length c.args.shares.now) (c.dim.result + 1) 544 32 h.beside h.members) }

pub returns : goal.returns
returns c =
    let none : let x = c.args in refusal (open_rules (setup_of x.s x.matrix.now) x.set x.shares.now x.rounds.now x.secrets.now) ≡ 0 = sym c.in_ok-check_open.ensures in
    let z = none in record { result_value = rw z c.open_by.ensures.answers; secrets_after = rw z c.open_by.ensures.buffer }
