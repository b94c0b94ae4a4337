-- The first t entries stand apart.
use Rattle.base.specs.Fill.{Put}
use Rattle.parts.proofs.put.Given as goal

abbrev pub invariant-loop-t : goal.invariant-loop-t
invariant-loop-t l = Put l.d l.t l.at l.entries l.initial.out l.out
