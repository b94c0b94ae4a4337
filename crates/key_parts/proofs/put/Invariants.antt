-- The first i entries stand at place c of their parts.
use Rattle.base.specs.Fill.{Put}
use Rattle.key_parts.proofs.put.Given as goal

abbrev pub invariant-loop-i : goal.invariant-loop-i
invariant-loop-i l = Put 7 l.i l.c l.entries l.initial.out l.out
