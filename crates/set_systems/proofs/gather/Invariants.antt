-- The loop writes the entries in order.
use mathlib.Core.Path.{◌≡◌}
use lib.ListN.{get_or}
use Rattle.base.specs.Matrix.{entry}
use Rattle.base.specs.Fill.{laid}
use Rattle.set_systems.proofs.gather.Given as goal

abbrev pub invariant-loop-i : goal.invariant-loop-i
invariant-loop-i l = l.a ≡ laid (λ i. entry l.d l.m (get_or l.members i 0) l.c) l.t l.i l.initial.a
