-- The first j entries are those of row i.
use mathlib.Core.Path.{◌≡◌, ap, ◌∙◌}
use native.Mathlib.Omega.{arith}
use borrow.Author.Rules.{rules}
use lib.ListN.{get_or}
use Rattle.base.proofs.Fill.{filled_none, filled-store}
use Rattle.points.specs.Inner.{zeros, points_row}
use Rattle.points.proofs.Grid.{weights-at}
use Rattle.points.proofs.row.Goals as goal

pub loop-j-init : goal.loop-j-init
unfolding zeros
loop-j-init c = filled_none _ _

pub point-requires : goal.point-requires
point-requires c =
    let w = ap (λ l. get_or l c.loop-j.j 0) c.requires.3 ∙ weights-at c.args.p c.args.d _ (omega arith) (omega arith) in
    search (rules, w)

pub loop-j-preserved : goal.loop-j-preserved
loop-j-preserved c = filled-store _ _ _ _ _ c.loop-j.invariant c.point.ensures

pub returns : goal.returns
unfolding points_row
returns c = let e : c.loop-j.j ≡ c.args.d = omega arith in rw e at c.loop-j.invariant
