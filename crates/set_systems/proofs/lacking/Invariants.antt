-- The search from here is the search of the whole.
use Prim.Native.Nat.{◌-◌}
use mathlib.Core.Bool.{not}
use mathlib.Core.Path.{◌≡◌}
use Rattle.base.specs.Search.{first_from, first}
use Rattle.elimination.specs.Inner.{buffers}
use Rattle.read_off.specs.ReadOff.{flat_fixes}
use Rattle.set_systems.proofs.lacking.Given as goal

abbrev pub invariant-loop-q : goal.invariant-loop-q
invariant-loop-q l = first_from (λ j. not (flat_fixes l.rows l.width l.d (buffers l.a l.used) j)) l.q (l.l - l.q) ≡ first (λ j. not (flat_fixes l.rows l.width l.d (buffers l.a l.used) j)) l.l
