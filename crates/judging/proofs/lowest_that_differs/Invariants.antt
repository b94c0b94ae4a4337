-- The search from holder j on is the search of the whole, and the product is the value due.
use Prim.Native.Nat.{◌-◌}
use mathlib.Core.Path.{◌≡◌}
use Rattle.base.specs.Search.{first, first_from}
use Rattle.scheme.specs.Setup.{setup_of}
use Rattle.scheme.specs.Dealing.{differs}
use Rattle.judging.proofs.lowest_that_differs.Given as goal

abbrev pub invariant-loop-j : goal.invariant-loop-j
invariant-loop-j l = first (differs (setup_of l.s l.matrix) l.h l.values) l.s.n ≡ first_from (differs (setup_of l.s l.matrix) l.h l.values) l.j (l.s.n - l.j)
