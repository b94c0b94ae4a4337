-- The first j entries are the weights of the first j nodes.
use mathlib.Core.Path.{◌≡◌}
use Rattle.base.specs.Fill.{filled}
use Rattle.points.specs.Inner.{zeros, weight_of}
use Rattle.points.proofs.weights.Given as goal

abbrev pub invariant-loop-j : goal.invariant-loop-j
invariant-loop-j l = l.entries ≡ filled (weight_of l.p l.d) l.j zeros
