-- No bit is set exactly while every place passed is even.
use mathlib.Core.Path.{◌≡◌}
use lib.Dec.{eqb}
use Rattle.base.specs.Search.{every}
use Rattle.combining.specs.Inner.{even}
use Rattle.combining.proofs.odd.Given as goal

abbrev pub invariant-loop-i : goal.invariant-loop-i
invariant-loop-i l = eqb l.odd 0 ≡ every l.i (even l.most l.u l.v l.rounds l.round)
