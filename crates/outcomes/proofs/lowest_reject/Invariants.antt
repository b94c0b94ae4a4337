-- The search from holder i on is the search of the whole.
use Prim.Native.Nat.{◌-◌}
use mathlib.Core.Path.{◌≡◌}
use Rattle.base.specs.Search.{first, first_from}
use Rattle.scheme.specs.Dealing.{said_reject}
use Rattle.outcomes.proofs.lowest_reject.Given as goal

abbrev pub invariant-loop-i : goal.invariant-loop-i
invariant-loop-i l = first (said_reject l.verdicts) l.n ≡ first_from (said_reject l.verdicts) l.i (l.n - l.i)
