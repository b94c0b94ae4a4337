-- The first k rows of F are written; each is begun from the secrets and ended from the random entries, and the rest is random entries in order.
use Prim.Native.Nat.{◌+◌, ◌*◌}
use mathlib.Core.Path.{◌≡◌}
use Rattle.base.specs.Matrix.{flat}
use Rattle.base.specs.Fill.{filled}
use Rattle.scheme.specs.Dealing.{dealt_entry}
use Rattle.dealing.specs.Inner.{sized}
use Rattle.dealing.proofs.fill_dealt.Given as goal

abbrev pub invariant-loop-k : goal.invariant-loop-k
invariant-loop-k l = l.f ≡ filled (flat (l.fn.s.l + l.fn.s.e) (dealt_entry (sized 0 l.fn.s.l l.fn.s.e) l.secrets l.random)) (l.k * (l.fn.s.l + l.fn.s.e)) l.initial.f
