-- The loop writes the system equation by equation.
use Prim.Native.Nat.{◌+◌}
use native.Mathlib.Nat.{zero-mul}
use native.Mathlib.Omega.{arith}
use lib.ListN.{length}
use Rattle.base.proofs.Fill.{filled_none}
use Rattle.set_systems.proofs.Load.{loaded-whole}
use Rattle.set_systems.proofs.Systems.{across-row}
use Rattle.set_systems.proofs.load_across.Goals as goal

pub loop-c-init : goal.loop-c-init
loop-c-init c = rw zero-mul (filled_none _ _)

pub loop-c-preserved : goal.loop-c-preserved
loop-c-preserved c =
    let x = c.args in
    let l = c.loop-c in rw (c.gather.ensures, c.unit.ensures) (across-row x.d x.matrix.now x.members.now x.q l.c x.a.now l.a l.invariant)

pub returns : goal.returns
returns c =
    let l = c.loop-c in loaded-whole c.args.d (length c.args.members.now + 1) _ l.c c.args.a.now l.a c.requires.d_bound.2 (omega arith) l.invariant
