-- The first j entries are those of row i.
use mathlib.Core.Path.{◌≡◌}
use Rattle.base.specs.Fill.{filled}
use Rattle.polynomial.specs.Polynomial.{point}
use Rattle.points.specs.Inner.{zeros}
use Rattle.points.proofs.row.Given as goal

abbrev pub invariant-loop-j : goal.invariant-loop-j
invariant-loop-j l = l.entries ≡ filled (point l.p l.d l.i) l.j zeros
