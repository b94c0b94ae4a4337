-- The loop fills the vector in order.
use mathlib.Core.Path.{◌≡◌, ap, ◌∙◌}
use native.Mathlib.Omega.{arith}
use lib.ListN.{length}
use Rattle.base.specs.Fill.{filled}
use Rattle.base.proofs.Fill.{filled_none, filled-store, filled-whole}
use Rattle.read_off.specs.ReadOff.{flat_shown}
use Rattle.elimination.specs.Inner.{buffers}
use Rattle.read_off.proofs.solution.Goals as goal

pub loop-place-init : goal.loop-place-init
loop-place-init c = filled_none _ _

pub loop-place-preserved : goal.loop-place-preserved
loop-place-preserved c =
    let x = c.args in
    let l = c.loop-place in
    filled-store (flat_shown x.rows x.width x.b (buffers x.a.now x.used.now)) l.place x.x.now l.x _ l.invariant c.shown.ensures

pub returns : goal.returns
returns c =
    let x = c.args in
    let l = c.loop-place in
    let e : l.place ≡ length x.x.now = omega arith in
    l.invariant ∙ ap (λ n. filled (flat_shown x.rows x.width x.b (buffers x.a.now x.used.now)) n x.x.now) e ∙ filled-whole _ 0 x.x.now
