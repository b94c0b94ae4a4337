-- Every position has a row exactly where the elimination finds none that lacks one; the shares beside the rows play no part, so they are zeros.
use Prim.Native.Nat.{◌+◌}
use mathlib.Core.Path.{sym}
use native.Mathlib.Omega.{arith}
use Rattle.scheme.specs.Setup.{setup_of}
use Rattle.set_systems.specs.Inner.{SetTaken}
use Rattle.set_systems.proofs.Members.{prime-of, Room, room, fresh}
use Rattle.set_questions.proofs.Judge.{zeros-vec, decided, determines-is}
use Rattle.set_questions.proofs.determines.Goals as goal

pub reduce_beside-q-requires-clause-vec : goal.reduce_beside-q-requires-clause-vec
reduce_beside-q-requires-clause-vec c =
    let taken : let x = c.args in SetTaken (setup_of x.s x.matrix.now) x.set = record { accepted = sym c.in_ok-check_set.ensures } in
    let has_room : Room c.size-k.result c.dim.result = room taken c.size-k.ensures.0 c.dim.ensures.0 in
    rw (← c.size-k.ensures.0) (zeros-vec _ c.size-k.result 32 (omega (arith, (prime-of taken).big)) has_room.members)

pub reduce_beside-q-requires-clause-fresh : goal.reduce_beside-q-requires-clause-fresh
reduce_beside-q-requires-clause-fresh c =
    let taken : let x = c.args in SetTaken (setup_of x.s x.matrix.now) x.set = record { accepted = sym c.in_ok-check_set.ensures } in
    let has_room : Room c.size-k.result c.dim.result = room taken c.size-k.ensures.0 c.dim.ensures.0 in
    rw (← c.size-k.ensures.0, ← c.dim.ensures.0) (fresh c.size-k.result (c.dim.result + 1) 544 32 has_room.beside has_room.members)

pub returns : goal.returns
returns c =
    let taken : let x = c.args in SetTaken (setup_of x.s x.matrix.now) x.set = record { accepted = sym c.in_ok-check_set.ensures } in
    rw (taken.accepted, determines-is _ _ c.reduce_beside-q.result c.reduce_beside-q.ensures.lowest) (decided _)
