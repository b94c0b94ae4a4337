-- The loop writes the system row by row.
use Prim.Native.Nat.{◌+◌, ◌*◌}
use mathlib.Core.Path.{ap, ◌∙◌}
use native.Mathlib.Nat.{zero-mul}
use native.Mathlib.Omega.{arith}
use lib.ListN.{length, get_or}
use Rattle.base.specs.Fill.{laid}
use Rattle.base.proofs.Fill.{filled_none}
use Rattle.set_systems.proofs.Load.{loaded-whole}
use Rattle.set_systems.proofs.Systems.{aside-row}
use Rattle.set_systems.proofs.load_aside.Goals as goal

pub loop-i-init : goal.loop-i-init
loop-i-init c = rw zero-mul (filled_none _ _)

pub loop-i-preserved : goal.loop-i-preserved
loop-i-preserved c =
    let x = c.args in
    let l = c.loop-i in
    let from = c.row_start-from in
    c.copy-in-loop-i.ensures ∙ ap (laid (λ j. get_or x.matrix.now (from.result + j) 0) (l.i * (x.l + x.e) + x.e) x.l) c.copy.ensures
    ∙ aside-row x.l x.e x.matrix.now x.members.now l.i from.result x.a.now l.a from.ensures l.invariant

pub returns : goal.returns
returns c =
    let l = c.loop-i in loaded-whole (length c.args.members.now) (c.args.l + c.args.e) _ l.i c.args.a.now l.a c.requires.e_bound.2 (omega arith) l.invariant
