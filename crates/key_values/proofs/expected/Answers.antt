-- The members so far are added.
use Prim.Native.Nat.{◌+◌, ◌*◌, ◌%◌}
use mathlib.Core.Path.{◌≡◌, ap, ◌∙◌}
use native.Mathlib.Omega.{arith}
use lib.ListN.{length-take, get_or}
use Rattle.base.specs.Fill.{tab}
use Rattle.base.proofs.Fill.{get_d-tab, tab-ext}
use Rattle.base.proofs.Matrix.{below-tab}
use Rattle.field.specs.Dot.{at}
use Rattle.key_weights.specs.Inner.{away}
use Rattle.key_weights.proofs.Lanes.{among}
use Rattle.key_values.proofs.Laws.{sums_none, sums_next, sums-below}
use Rattle.key_values.proofs.expected.Goals as goal

pub loop-j-init : goal.loop-j-init
loop-j-init c = sums_none (λ a. at c.args.scaled (at c.args.members.now a)) (λ a. away c.args.inverses.now (at c.args.members.now a))

pub add16-next-requires-clause-below : goal.add16-next-requires-clause-below
add16-next-requires-clause-below c =
    sums-below c.loop-j.j-index _ _ _ (omega (arith, c.loop-j-test.true, length-take 7 c.args.members.now)) (λ a. c.requires.below_2 _) (λ a i. c.requires.below _) c.loop-j.invariant

pub add16-next-requires-clause-below_2 : goal.add16-next-requires-clause-below_2
add16-next-requires-clause-below_2 c = rw c.away_from.ensures (below-tab 257 16 _ (omega arith) (λ i l. c.requires.below _))

pub loop-j-preserved : goal.loop-j-preserved
loop-j-preserved c =
    let x = c.args in
    let ms = x.members.now in
    let l = c.loop-j in
    let e = c.from-place.ensures ∙ among ms l.j-index c.loop-j-test.true in
    c.add16-next.ensures
    ∙ ap (λ z. tab 16 (λ i. at l.sums i + at x.scaled z * at c.away_from.result i)) e
    ∙ sums_next l.j-index (λ a. at x.scaled (at ms a)) (λ a. away x.inverses.now (at ms a)) _ _ l.invariant (c.away_from.ensures ∙ ap (λ z. tab 16 (away x.inverses.now z)) e)

pub folded16-requires : goal.folded16-requires
folded16-requires c =
    sums-below c.loop-j.j-index _ _ _ (omega (arith, length-take 7 c.args.members.now)) (λ a. c.requires.below_2 _) (λ a i. c.requires.below _) c.loop-j.invariant

pub returns : goal.returns
returns c =
    let l = c.loop-j in
    let e : l.j-index ≡ 7 = omega (arith, c.loop-j-test.false, c.requires.depots.fits, length-take 7 c.args.members.now) in
    c.folded16.ensures ∙ tab-ext 16 _ _ (λ i m. ap (λ z. get_or z i 0 % 257) (rw e at l.invariant) ∙ ap (λ z. z % 257) (get_d-tab 16 _ 0 i m))
