-- The loop fills the vector in order.
use mathlib.Core.Path.{◌≡◌, ap, ◌∙◌}
use native.Mathlib.Omega.{arith}
use lib.ListN.{length}
use Rattle.base.specs.Fill.{filled}
use Rattle.base.proofs.Fill.{filled_none, filled-store, filled-whole}
use Rattle.elimination.specs.Inner.{buffers}
use Rattle.set_questions.specs.Inner.{negated}
use Rattle.set_questions.proofs.write_sweep.Goals as goal

pub loop-place-init : goal.loop-place-init
loop-place-init c = filled_none _ _

pub sweep_entry-requires : goal.sweep_entry-requires
sweep_entry-requires c = record { fits = c.requires.fits; below = c.requires.below; q_bound = (c.requires.q_in_bounds, omega (arith, c.requires.fits.narrow)) }

pub loop-place-preserved : goal.loop-place-preserved
loop-place-preserved c =
    let x = c.args in
    let l = c.loop-place in
    filled-store (negated x.s.p x.rows (length x.out.now) x.s.l x.s.e x.q (buffers x.a.now x.used.now)) l.place x.out.now l.out _ l.invariant c.sweep_entry.ensures

pub returns : goal.returns
returns c =
    let x = c.args in
    let l = c.loop-place in
    let e : l.place ≡ length x.out.now = omega arith in
    l.invariant ∙ ap (λ n. filled (negated x.s.p x.rows (length x.out.now) x.s.l x.s.e x.q (buffers x.a.now x.used.now)) n x.out.now) e ∙ filled-whole (negated x.s.p x.rows (length x.out.now) x.s.l x.s.e x.q (buffers x.a.now x.used.now)) 0 x.out.now
