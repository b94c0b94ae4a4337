-- The search from here is the search of the whole.
use Prim.Native.Nat.{ℕ}
use mathlib.Core.Bool.{Bool, not}
use mathlib.Core.Path.{◌≡◌, refl, sym, ap, ◌∙◌}
use native.Mathlib.Nat.{sub-zero}
use native.Mathlib.Omega.{arith}
use Rattle.base.specs.Search.{first}
use Rattle.base.proofs.Search.{first-stop, first_step, first-end}
use Rattle.elimination.specs.Inner.{buffers}
use Rattle.read_off.specs.ReadOff.{flat_fixes}
use Rattle.set_systems.proofs.lacking.Goals as goal

pub loop-q-init : goal.loop-q-init
unfolding first
loop-q-init c = rw sub-zero refl

pub returns-then-not-fixes : goal.returns-then-not-fixes
returns-then-not-fixes c =
    let lacks : ℕ → Bool = λ j. let x = c.args in not (flat_fixes x.rows x.width x.d (buffers x.a.now x.used.now) j) in
    sym (first-stop lacks c.loop-q.q _ (omega arith) (ap not (sym c.fixes.ensures ∙ c.if-not-fixes.true))) ∙ c.loop-q.invariant

pub loop-q-preserved : goal.loop-q-preserved
loop-q-preserved c =
    let lacks : ℕ → Bool = λ j. let x = c.args in not (flat_fixes x.rows x.width x.d (buffers x.a.now x.used.now) j) in
    sym (first_step lacks c.loop-q.q _ (omega arith) (ap not (sym c.fixes.ensures ∙ c.if-not-fixes.false))) ∙ c.loop-q.invariant

pub returns : goal.returns
returns c =
    let lacks : ℕ → Bool = λ j. let x = c.args in not (flat_fixes x.rows x.width x.d (buffers x.a.now x.used.now) j) in
    let e : c.loop-q.q ≡ c.args.l = omega arith in sym (first-end lacks c.loop-q.q _ (omega arith) ∙ e) ∙ c.loop-q.invariant
