-- The first k columns hold the rows.
use Rattle.parts.specs.Inner.{Held}
use Rattle.parts.proofs.fill_columns.Given as goal

abbrev pub invariant-loop-k : goal.invariant-loop-k
invariant-loop-k l = Held l.k l.d l.matrix l.i l.count l.columns
