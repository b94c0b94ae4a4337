-- The elimination says which positions have a row; where all have, a row without a pivot that has a right side refutes the shares, and else the right sides are the secrets.
-- the places: the start from the elimination, the elimination from the test of its answer, `dim` from the second test
use Prim.Native.Nat.{◌+◌}
use native.Mathlib.Omega.{arith}
use lib.ListN.{length}
use Rattle.elimination.specs.Inner.{Fits}
use Rattle.scheme.specs.Setup.{setup_of}
use Rattle.set_systems.proofs.Systems.{beside-fits, eliminated-le}
use Rattle.opening.specs.Inner.{OpenTaken}
use Rattle.opening.proofs.Answer.{secrets-few, opens-lacking, opens-unsolved, opens-solved}
use Rattle.opening.proofs.open_by.Goals as goal

pub reduce_beside-q-requires : goal.reduce_beside-q-requires
reduce_beside-q-requires c =
    let ok : OpenTaken (setup_of c.args.s c.args.matrix.now) c.args.set c.args.shares.now c.args.secrets.now = c.requires.open_taken in
    let o = ok in record { set_taken = o.set; vec = o.shares; fresh = c.requires.fresh }

pub overflow_cast-position : goal.overflow_cast-position
overflow_cast-position c =
    let ok : OpenTaken (setup_of c.args.s c.args.matrix.now) c.args.set c.args.shares.now c.args.secrets.now = c.requires.open_taken in
    omega (arith, secrets-few ok, eliminated-le c.reduce_beside-q.ensures)

pub returns-then-q-s : goal.returns-then-q-s
returns-then-q-s c =
    let ok : OpenTaken (setup_of c.args.s c.args.matrix.now) c.args.set c.args.shares.now c.args.secrets.now = c.requires.open_taken in
    opens-lacking ok.set c.reduce_beside-q.ensures c.args.secrets.now c.if-q-s.true

pub unsolved-requires : goal.unsolved-requires
unsolved-requires c =
    let ok : OpenTaken (setup_of c.args.s c.args.matrix.now) c.args.set c.args.shares.now c.args.secrets.now = c.requires.open_taken in
    let fits : Fits (length c.args.shares.now) (c.dim-d.result + 1) c.reduce_beside-q.new.a c.reduce_beside-q.new.used = let o = ok in
    beside-fits o.set o.shares.size c.dim-d.ensures.0 c.reduce_beside-q.ensures.system in record { fits = fits; b_lt_width = omega arith }

pub returns-then-unsolved-k : goal.returns-then-unsolved-k
returns-then-unsolved-k c =
    let ok : OpenTaken (setup_of c.args.s c.args.matrix.now) c.args.set c.args.shares.now c.args.secrets.now = c.requires.open_taken in
    let o = ok in
    opens-unsolved o.set c.reduce_beside-q.ensures o.shares.size c.dim-d.ensures.0 c.if-q-s.false c.unsolved.ensures c.args.secrets.now c.if-unsolved-k.true

pub solution-requires : goal.solution-requires
solution-requires c =
    let ok : OpenTaken (setup_of c.args.s c.args.matrix.now) c.args.set c.args.shares.now c.args.secrets.now = c.requires.open_taken in
    let fits : Fits (length c.args.shares.now) (c.dim-d.result + 1) c.reduce_beside-q.new.a c.reduce_beside-q.new.used = let o = ok in
    beside-fits o.set o.shares.size c.dim-d.ensures.0 c.reduce_beside-q.ensures.system in
    let o = ok in record { fits = fits; b_lt_width = (omega arith, omega (arith, o.room, secrets-few o)) }

pub returns : goal.returns
returns c =
    let ok : OpenTaken (setup_of c.args.s c.args.matrix.now) c.args.set c.args.shares.now c.args.secrets.now = c.requires.open_taken in
    let o = ok in
    opens-solved o.set c.reduce_beside-q.ensures o.shares.size c.dim-d.ensures.0 c.if-q-s.false c.unsolved.ensures c.args.secrets.now c.if-unsolved-k.false o.shares o.room c.solution.ensures
