-- The weight times the basis at d + i, which is reduced first.
use mathlib.Core.Path.{◌∙◌}
use Rattle.points.proofs.Grid.{weighed}
use Rattle.points.proofs.point.Goals as goal

pub returns : goal.returns
returns c = c.product.ensures ∙ rw (c.requires.4, c.basis_at.ensures) (weighed _ _ _ _)
