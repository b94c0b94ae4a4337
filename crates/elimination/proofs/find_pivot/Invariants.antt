-- The search from here is the search of the whole.
use Prim.Native.Nat.{◌-◌}
use mathlib.Core.Path.{◌≡◌}
use Rattle.base.specs.Search.{first_from}
use Rattle.gauss.specs.Gauss.{usable}
use Rattle.elimination.specs.Elimination.{view, flat_pivot}
use Rattle.elimination.specs.Inner.{buffers}
use Rattle.elimination.proofs.find_pivot.Given as goal

abbrev pub invariant-loop-top : goal.invariant-loop-top
invariant-loop-top l = first_from (usable (view l.width (buffers l.a l.used)) l.col) l.top (l.rows - l.top) ≡ flat_pivot l.rows l.width l.col (buffers l.a l.used)
