-- Every position passed is the map's, by the product of its row; the first that is not ends the loop.
use Prim.Native.Nat.{ℕ}
use mathlib.Core.Path.{refl, sym, ◌∙◌}
use mathlib.Core.Bool.{Bool}
use mathlib.Core.List.{[]}
use native.Mathlib.Omega.{arith}
use borrow.Author.Tests.{eq-eqb, ne_eqb}
use Rattle.base.specs.Search.{every}
use Rattle.base.proofs.Choice.{and_both}
use Rattle.base.proofs.Search.{every-step, every-at, every-all, every-fails}
use Rattle.scheme.specs.Setup.{setup_of}
use Rattle.scheme.specs.Dealing.{map_holds}
use Rattle.mapped_judging.proofs.Products.{is-image}
use Rattle.mapped_judging.proofs.map_holds.Invariants.{mapped}
use Rattle.mapped_judging.proofs.map_holds.Goals as goal

pub loop-k-init : goal.loop-k-init
unfolding every
loop-k-init c = refl

pub returns-then-h2-k : goal.returns-then-h2-k
unfolding map_holds
returns-then-h2-k c =
    let x = c.args in
    let S = setup_of x.s [] in
    let k = c.loop-k.k in
    let due = is-image S _ x.phi.now x.h.now k c.rows_product-due.ensures in
    sym (every-fails x.s.l (mapped S x.h.now x.phi.now x.h2.now) k (omega arith) (ne_eqb _ _ (λ q. c.if-h2-k.true (q ∙ sym due))))

pub loop-k-preserved : goal.loop-k-preserved
loop-k-preserved c =
    let x = c.args in
    let S = setup_of x.s [] in
    let l = c.loop-k in
    let t : ℕ → Bool = mapped S x.h.now x.phi.now x.h2.now in
    let due = is-image S _ x.phi.now x.h.now l.k c.rows_product-due.ensures in
    every-step l.k t ∙ and_both (every l.k t) (t l.k) l.invariant (eq-eqb _ _ (c.if-h2-k.false ∙ due))

pub returns : goal.returns
unfolding map_holds
returns c =
    let x = c.args in
    let l = c.loop-k in
    let t : ℕ → Bool = mapped (setup_of x.s []) x.h.now x.phi.now x.h2.now in
    sym (every-all x.s.l t (λ i m. every-at l.k t l.invariant i (omega arith)))
