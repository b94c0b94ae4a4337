-- By whether the places are the same.
use mathlib.Core.Path.{sym}
use Rattle.base.proofs.Sum.{unit-same, unit-other}
use Rattle.set_systems.proofs.unit.Goals as goal

pub returns-then-q-j : goal.returns-then-q-j
returns-then-q-j c = rw c.if-q-j.true (sym (unit-same _))

pub returns-else-q-j : goal.returns-else-q-j
returns-else-q-j c = sym (unit-other _ _ c.if-q-j.false)
