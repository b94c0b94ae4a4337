-- The search from here is the search of the whole.
use Prim.Native.Nat.{ℕ}
use mathlib.Core.Path.{◌≡◌, refl, sym, ◌∙◌}
use mathlib.Core.Bool.{Bool}
use native.Mathlib.Omega.{arith}
use native.Mathlib.Nat.{sub-zero}
use borrow.Author.Tests.{eq-eqb, ne_eqb}
use Rattle.base.specs.Search.{first}
use Rattle.base.proofs.Search.{first-stop, first_step, first-end}
use Rattle.gauss.specs.Gauss.{usable, pivot_of}
use Rattle.elimination.specs.Elimination.{view, flat_pivot}
use Rattle.elimination.specs.Inner.{buffers}
use Rattle.elimination.proofs.find_pivot.Goals as goal
use Rattle.elimination.proofs.find_pivot.Goals.{else-used-top-eq0-via-then-used-top-eq0+else-a-top-ne0, else-used-top-eq0-via-else-used-top-eq0}

pub loop-top-init : goal.loop-top-init
unfolding flat_pivot pivot_of first
loop-top-init c = rw sub-zero refl

pub returns-then-a-top-ne0 : goal.returns-then-a-top-ne0
unfolding usable
returns-then-a-top-ne0 c =
    let x = c.args in
    let l = c.loop-top in
    let t : ℕ → Bool = usable (view x.width (buffers x.a.now x.used.now)) x.col in
    sym (first-stop t l.top x.rows (omega arith) (simp (eq-eqb _ _ c.if-used-top-eq0.true, ne_eqb _ _ c.if-a-top-ne0.true))) ∙ l.invariant

pub loop-top-preserved : goal.loop-top-preserved
unfolding usable
loop-top-preserved c =
    let x = c.args in
    let l = c.loop-top in
    let t : ℕ → Bool = usable (view x.width (buffers x.a.now x.used.now)) x.col in
    sym
    (first_step t l.top x.rows (omega arith)
    (elim c.else-used-top-eq0.branch [
      | else-used-top-eq0-via-then-used-top-eq0+else-a-top-ne0 w ↦ simp (eq-eqb _ _ w.if-used-top-eq0.true, eq-eqb _ _ w.if-a-top-ne0.false)
      | else-used-top-eq0-via-else-used-top-eq0 w ↦ simp (ne_eqb _ _ w.if-used-top-eq0.false)
    ]))
    ∙ l.invariant

pub returns : goal.returns
returns c =
    let x = c.args in
    let l = c.loop-top in
    let t : ℕ → Bool = usable (view x.width (buffers x.a.now x.used.now)) x.col in
    let e : l.top ≡ x.rows = omega arith in sym (first-end t l.top x.rows (omega arith) ∙ e) ∙ l.invariant
