-- No bit is set exactly while every place passed is even.
use mathlib.Core.Path.{◌≡◌, refl}
use native.Mathlib.Omega.{arith}
use lib.Bits.{bit_xor}
use lib.ListN.{length, get_or}
use Rattle.base.specs.Search.{every}
use Rattle.combining.specs.Inner.{even}
use Rattle.combining.proofs.Even.{none-above, xor-none, odd_step}
use Rattle.combining.proofs.odd.Goals as goal

pub loop-i-init : goal.loop-i-init
unfolding every
loop-i-init c = refl

pub loop-i-preserved : goal.loop-i-preserved
unfolding even
loop-i-preserved c =
    let x = c.args in
    let i = c.loop-i.i in
    let a = c.saturating_sub-a in
    let b = c.saturating_sub-b in
    let r = get_or x.rounds.now i 0 in
    odd_step (even x.most x.u.now x.v.now x.rounds.now x.round) i c.loop-i.odd a.result b.result (bit_xor r x.round) c.loop-i.invariant
    (rw (a.ensures, b.ensures, none-above (get_or x.u.now i 0) x.most, none-above (get_or x.v.now i 0) x.most, xor-none r x.round) refl)

pub returns : goal.returns
returns c =
    let e : c.loop-i.i ≡ length c.args.u.now = omega arith in
    rw (← e) c.loop-i.invariant
