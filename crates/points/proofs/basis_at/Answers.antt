-- The product so far is the basis over the nodes passed, reduced.
use mathlib.Core.Path.{sym}
use native.Mathlib.Nat.{mod-eq_of_lt}
use Rattle.points.proofs.Grid.{basis-none, basis-turn}
use Rattle.points.proofs.basis_at.Goals as goal

pub loop-t-init : goal.loop-t-init
loop-t-init c = rw basis-none (sym (mod-eq_of_lt c.requires.0))

pub loop-t-preserved : goal.loop-t-preserved
loop-t-preserved c = rw (← basis-turn) (cc)
