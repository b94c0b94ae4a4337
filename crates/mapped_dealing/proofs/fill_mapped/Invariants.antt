-- The first k rows of F_φ are written, each by products; the rest is the second random entries in order.
use Prim.Native.Nat.{◌*◌}
use mathlib.Core.Path.{◌≡◌}
use Rattle.base.specs.Matrix.{flat}
use Rattle.base.specs.Fill.{filled}
use Rattle.scheme.specs.Dealing.{mapped_entry}
use Rattle.dealing.specs.Inner.{sized}
use Rattle.mapped_dealing.proofs.fill_mapped.Given as goal

abbrev pub invariant-loop-k : goal.invariant-loop-k
invariant-loop-k l = l.f2 ≡ filled (flat l.d (mapped_entry (sized l.p l.l l.e) l.f l.phi l.random2)) (l.k * l.d) l.initial.f2
