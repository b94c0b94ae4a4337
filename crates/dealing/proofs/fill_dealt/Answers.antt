-- The first k rows of F are written; each is begun from the secrets and ended from the random entries, and the rest is random entries in order.
use mathlib.Core.Path.{◌≡◌, ◌∙◌}
use Prim.Native.Nat.{◌<◌}
use native.Mathlib.Nat.{zero-mul}
use native.Mathlib.Omega.{arith}
use Rattle.base.proofs.Fill.{filled_none}
use Rattle.dealing.proofs.Parts.{row-begun, row-ended, rest_ended}
use Rattle.dealing.proofs.fill_dealt.Goals as goal

pub loop-k-init : goal.loop-k-init
loop-k-init c = simp zero-mul (filled_none _ _)

pub loop-k-preserved : goal.loop-k-preserved
loop-k-preserved c =
    let begun = rw (c.from-l.ensures, c.from-e.ensures) at c.copy.ensures in
    let ended = rw (c.from-l.ensures, c.from-e.ensures) at c.copy-in-loop-k.ensures in
    let t : c.loop-k.k < c.args.s.l = omega arith in
    ended ∙ row-ended _ _ _ _ _ _ c.loop-k.k t (begun ∙ row-begun _ _ _ c.args.random.now _ _ c.loop-k.k t c.loop-k.invariant)

pub returns : goal.returns
returns c =
    let rest = rw (c.from-l.ensures, c.from-e.ensures) at c.copy-2.ensures in
    let e : c.loop-k.k ≡ c.args.s.l = omega arith in
    rest ∙ rest_ended _ _ _ _ _ _ (rw e at c.loop-k.invariant)
