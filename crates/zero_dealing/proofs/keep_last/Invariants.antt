-- The last entries of the first i columns are written.
use Prim.Native.Nat.{◌*◌}
use mathlib.Core.Path.{◌≡◌}
use Rattle.base.specs.Matrix.{flat}
use Rattle.base.specs.Fill.{filled}
use Rattle.zero_dealing.specs.Inner.{last_of}
use Rattle.zero_dealing.proofs.keep_last.Given as goal

abbrev pub invariant-loop-i : goal.invariant-loop-i
invariant-loop-i l = l.hs ≡ filled (flat l.e (last_of l.l l.e l.columns)) (l.i * l.e) l.initial.hs
