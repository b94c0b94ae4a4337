-- The loop writes the entries in order.
use Prim.Native.Nat.{◌+◌}
use mathlib.Core.Path.{ap}
use lib.ListN.{get_or}
use Rattle.base.proofs.Fill.{laid-store, laid_none}
use Rattle.set_systems.proofs.gather.Goals as goal

pub loop-i-init : goal.loop-i-init
loop-i-init c = laid_none _ _ _

pub loop-i-preserved : goal.loop-i-preserved
loop-i-preserved c = let x = c.args in laid-store _ _ _ _ _ _ c.loop-i.invariant (ap (λ from. get_or x.m.now (from + x.c) 0) c.row_start-from.ensures)
