-- Every position has a sweeping vector exactly where no unused row of the reduced system has an entry in a secret column.
use mathlib.Core.Path.{◌≡◌, sym, ◌∙◌}
use Rattle.scheme.specs.Setup.{setup_of}
use Rattle.scheme.specs.Sets.{holds, is_private}
use Rattle.set_systems.specs.Inner.{SetTaken}
use Rattle.set_systems.proofs.Members.{Room, room, fresh}
use Rattle.set_questions.proofs.Judge.{decided, private-is}
use Rattle.set_questions.proofs.private.Goals as goal

pub reduce_aside-requires-clause-fresh : goal.reduce_aside-requires-clause-fresh
reduce_aside-requires-clause-fresh c =
    let taken : let x = c.args in SetTaken (setup_of x.s x.matrix.now) x.set = record { accepted = sym c.in_ok-check_set.ensures } in
    let has_room : Room c.size-k.result c.dim-d.result = room taken c.size-k.ensures.0 c.dim-d.ensures.0 in
    rw (← c.size-k.ensures.0, ← c.dim-d.ensures.0) (fresh c.size-k.result c.dim-d.result 512 32 has_room.aside has_room.members)

pub returns : goal.returns
returns c =
    let taken : let x = c.args in SetTaken (setup_of x.s x.matrix.now) x.set = record { accepted = sym c.in_ok-check_set.ensures } in
    let private-by : let x = c.args in c.all_solved.result ≡ is_private (setup_of x.s x.matrix.now) (holds x.set) = c.all_solved.ensures ∙ private-is taken c.reduce_aside.ensures c.size-k.ensures.0 c.dim-d.ensures.0 in
    rw (taken.accepted, private-by) (decided _)
