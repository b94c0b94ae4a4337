-- The search from here is the search of the whole.
use Prim.Native.Nat.{ℕ, suc}
use mathlib.Core.Path.{◌≡◌, refl, sym, ◌∙◌}
use mathlib.Core.Bool.{Bool}
use native.Mathlib.Omega.{arith}
use native.Mathlib.Nat.{sub-zero}
use native.Mathlib.Numerals.{add-one}
use borrow.Author.Tests.{eq-eqb, ne_eqb}
use lib.Dec.{eqb}
use Rattle.base.specs.Search.{first}
use Rattle.base.proofs.Search.{first-stop, first_step, first-end}
use Rattle.field.specs.Dot.{at}
use Rattle.read_off.specs.ReadOff.{pivot_row}
use Rattle.read_off.proofs.pivot_row.Goals as goal

pub loop-i-init : goal.loop-i-init
unfolding pivot_row first
loop-i-init c = rw sub-zero refl

pub returns-then-used-i : goal.returns-then-used-i
returns-then-used-i c =
    let x = c.args in
    let l = c.loop-i in
    let t : ℕ → Bool = λ i. eqb (at x.used.now i) (suc x.q) in
    sym (first-stop t l.i x.rows (omega arith) (eq-eqb _ _ (c.if-used-i.true ∙ add-one x.q))) ∙ l.invariant

pub loop-i-preserved : goal.loop-i-preserved
loop-i-preserved c =
    let x = c.args in
    let l = c.loop-i in
    let t : ℕ → Bool = λ i. eqb (at x.used.now i) (suc x.q) in
    sym (first_step t l.i x.rows (omega arith) (ne_eqb _ _ (λ e. c.if-used-i.false (e ∙ sym (add-one x.q))))) ∙ l.invariant

pub returns : goal.returns
returns c =
    let x = c.args in
    let l = c.loop-i in
    let t : ℕ → Bool = λ i. eqb (at x.used.now i) (suc x.q) in
    let e : l.i ≡ x.rows = omega arith in sym (first-end t l.i x.rows (omega arith) ∙ e) ∙ l.invariant
