-- The first j entries are written; each is the product of row i and line j of F.
use mathlib.Core.Path.{◌≡◌}
use Rattle.base.specs.Fill.{laid}
use Rattle.parts.specs.Inner.{line_entry}
use Rattle.parts.proofs.write_one.Given as goal

abbrev pub invariant-loop-j : goal.invariant-loop-j
invariant-loop-j l = l.out ≡ laid (line_entry l.p l.d l.matrix l.f l.apart l.step l.i) l.at l.j l.initial.out
