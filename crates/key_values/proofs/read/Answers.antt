-- The sums are reduced and multiplied, lane by lane.
use Prim.Native.Nat.{◌*◌, ◌%◌}
use mathlib.Core.Path.{ap, ◌∙◌}
use native.Mathlib.Omega.{arith}
use lib.ListN.{get_or}
use Rattle.base.proofs.Fill.{get_d-tab, tab-ext}
use Rattle.base.proofs.Matrix.{below-tab}
use Rattle.field.specs.Dot.{at}
use Rattle.key_weights.proofs.Lanes.{lanes-below}
use Rattle.key_values.proofs.Laws.{below-dot}
use Rattle.key_values.proofs.read.Goals as goal

pub folded16-requires : goal.folded16-requires
folded16-requires c = rw c.sums.ensures (below-tab 1048577 16 _ (omega arith) (λ i l. below-dot 16 _ _ (omega arith) (λ k m. c.requires.columns _ _) (λ k m. c.requires.below _)))

pub times16-requires-clause-below : goal.times16-requires-clause-below
times16-requires-clause-below c = lanes-below _ _ c.folded16.ensures

pub returns : goal.returns
returns c =
    c.times16.ensures
    ∙ tab-ext 16 _ _
    (λ i l. ap (λ z. z * at c.args.products i % 257)
    (ap (λ z. get_or z i 0) c.folded16.ensures ∙ get_d-tab 16 _ 0 i l ∙ ap (λ z. get_or z i 0 % 257) c.sums.ensures ∙ ap (λ z. z % 257) (get_d-tab 16 _ 0 i l)))
