-- The halves give what is left of the sum, and the smaller of it and of it less p is the remainder.
use mathlib.Core.Path.{◌∙◌, refl}
use Rattle.row_steps.proofs.Narrow.{narrow}
use Rattle.row_steps.proofs.add_narrow.Goals as goal

pub returns : goal.returns
returns c =
    let x = c.args in
    c.min.ensures ∙ narrow c.requires.reciprocal x.x x.y c.requires.y_lt_p.1 c.requires.y_lt_p.0 _ (rw (c.low.ensures, c.low-back.ensures, c.high.ensures) refl)
