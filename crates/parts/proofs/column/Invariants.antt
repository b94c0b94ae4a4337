-- Of the first t lanes those below count are written.
use Rattle.field.specs.Dot.{along}
use Rattle.parts.specs.Inner.{Column}
use Rattle.parts.proofs.column.Given as goal

abbrev pub invariant-loop-t : goal.invariant-loop-t
invariant-loop-t l = Column l.t l.count (along l.matrix l.from l.d) l.at l.initial.columns l.columns
