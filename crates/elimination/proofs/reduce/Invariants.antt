-- The loop passes column by column, by whether it has a pivot, and counts as the definition does.
use Rattle.elimination.specs.Inner.{Reduction}
use Rattle.elimination.proofs.reduce.Given as goal

abbrev pub invariant-loop-col : goal.invariant-loop-col
invariant-loop-col l = Reduction l.p l.rows l.width l.col l.initial.a l.initial.used l.a l.used l.total
