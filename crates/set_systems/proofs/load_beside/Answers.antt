-- The loop writes the system row by row.
use Prim.Native.Nat.{◌+◌}
use native.Mathlib.Nat.{zero-mul}
use native.Mathlib.Omega.{arith}
use lib.ListN.{length}
use Rattle.base.proofs.Fill.{filled_none}
use Rattle.set_systems.proofs.Load.{loaded-whole}
use Rattle.set_systems.proofs.Systems.{beside-row}
use Rattle.set_systems.proofs.load_beside.Goals as goal

pub loop-i-init : goal.loop-i-init
loop-i-init c = rw zero-mul (filled_none _ _)

pub loop-i-preserved : goal.loop-i-preserved
loop-i-preserved c =
    let x = c.args in
    let l = c.loop-i in
    let from = c.row_start-from in rw c.copy.ensures (beside-row x.d x.matrix.now x.members.now x.shares.now l.i from.result x.a.now l.a from.ensures l.invariant)

pub returns : goal.returns
returns c =
    let l = c.loop-i in loaded-whole (length c.args.members.now) (c.args.d + 1) _ l.i c.args.a.now l.a c.requires.d_bound.2 (omega arith) l.invariant
