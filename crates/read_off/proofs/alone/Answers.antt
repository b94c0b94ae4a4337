-- The search from here is the search of the whole, and it ends early at an entry elsewhere.
use Prim.Native.Nat.{ℕ, ◌+◌}
use mathlib.Core.Path.{◌≡◌, refl, sym, ◌∙◌}
use mathlib.Core.Bool.{Bool}
use native.Mathlib.Omega.{arith}
use native.Mathlib.Nat.{sub-zero}
use borrow.Author.Tests.{eq-eqb, ne_eqb, le-leb, lt-leb}
use lib.ListN.{get_or}
use Rattle.base.specs.Search.{first}
use Rattle.base.proofs.Search.{first-stop, first_step, first-end}
use Rattle.gauss.specs.Gauss.{elsewhere}
use Rattle.read_off.specs.ReadOff.{alone}
use Rattle.read_off.proofs.alone.Goals as goal
use Rattle.read_off.proofs.alone.Goals.{else-q-j-via-then-q-j+else-a-t-ne0, else-q-j-via-else-q-j}

pub loop-j-init : goal.loop-j-init
unfolding first
loop-j-init c = rw sub-zero refl

pub returns-then-a-t-ne0 : goal.returns-then-a-t-ne0
unfolding alone elsewhere
returns-then-a-t-ne0 c =
    let x = c.args in
    let l = c.loop-j in
    let t : ℕ → Bool = elsewhere x.q (λ j. get_or x.a.now (x.t + j) 0) in
    let e : l.j ≡ first t x.pivots =
    sym (first-stop t l.j x.pivots (omega arith) (simp (ne_eqb _ _ c.if-q-j.true, ne_eqb _ _ c.if-a-t-ne0.true))) ∙ l.invariant in
    sym (lt-leb x.pivots (first t x.pivots) (omega arith))

pub loop-j-preserved : goal.loop-j-preserved
unfolding elsewhere
loop-j-preserved c =
    let x = c.args in
    let l = c.loop-j in
    let t : ℕ → Bool = elsewhere x.q (λ j. get_or x.a.now (x.t + j) 0) in
    sym
    (first_step t l.j x.pivots (omega arith)
    (elim c.else-q-j.branch [
      | else-q-j-via-then-q-j+else-a-t-ne0 w ↦ simp (ne_eqb _ _ w.if-q-j.true, eq-eqb _ _ w.if-a-t-ne0.false)
      | else-q-j-via-else-q-j w ↦ simp (eq-eqb _ _ w.if-q-j.false)
    ]))
    ∙ l.invariant

pub returns : goal.returns
unfolding alone
returns c =
    let x = c.args in
    let l = c.loop-j in
    let t : ℕ → Bool = elsewhere x.q (λ j. get_or x.a.now (x.t + j) 0) in
    let e : l.j ≡ first t x.pivots = sym (first-end t l.j x.pivots (omega arith)) ∙ l.invariant in
    sym (le-leb x.pivots (first t x.pivots) (omega arith))
