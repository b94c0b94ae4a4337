-- The inverse of the basis at its own node, which may be reduced first.
use mathlib.Core.Path.{◌∙◌, ap}
use Rattle.field.specs.Prime.{inverse_of}
use Rattle.points.specs.Inner.{weight_of}
use Rattle.points.proofs.weight.Goals as goal

pub returns : goal.returns
unfolding weight_of
returns c = c.inverse_by.ensures.is ∙ ap (inverse_of c.args.p) c.basis_at.ensures
