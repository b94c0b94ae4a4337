-- Whether every correction passed is in the range.
use Prim.Native.Nat.{ℕ}
use mathlib.Core.Path.{◌≡◌, refl, ap, sym, ◌∙◌}
use mathlib.Core.Bool.{Bool, ◌&&◌}
use native.Mathlib.Omega.{arith}
use borrow.Author.Rules.{rules}
use mir.Syntax.{w32}
use mir.Val.{SFits}
use mir.Facts.{to_z-of_z}
use lib.ListN.{length}
use Rattle.base.specs.Search.{every}
use Rattle.base.proofs.Search.{every-step}
use Rattle.signed.specs.Integers.{integer_at}
use Rattle.signed.specs.Corrections.{in_range, all_in_range}
use Rattle.signed.proofs.all_in_range.Goals as goal

pub loop-x-init : goal.loop-x-init
unfolding every
loop-x-init c = refl

pub loop-x-preserved : goal.loop-x-preserved
loop-x-preserved c =
    let l = c.loop-x in
    let s = c.args.s.now in
    let t : ℕ → Bool = λ k. in_range (integer_at s k) in
    let fits : SFits w32 (integer_at s l.x-index) = search rules in
    let e : c.in_range-all.result ≡ t l.x-index = rw (← to_z-of_z fits) c.in_range-all.ensures in
    ap (λ b. b && c.in_range-all.result) l.invariant ∙ ap (λ b. every l.x-index t && b) e ∙ sym (every-step l.x-index t)

pub returns : goal.returns
unfolding all_in_range
returns c =
    let e : c.loop-x.x-index ≡ length c.args.s.now = omega arith in
    rw e at c.loop-x.invariant
