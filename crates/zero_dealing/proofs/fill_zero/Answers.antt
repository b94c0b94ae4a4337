-- The rows below the zeros are the random entries in order.
use mathlib.Core.Path.{◌∙◌}
use Rattle.zero_dealing.proofs.Parts.{zero-filled}
use Rattle.zero_dealing.proofs.fill_zero.Goals as goal

pub returns : goal.returns
returns c =
    let x = c.args in
    c.copy.ensures ∙ zero-filled x.s.l x.s.e x.random.now x.f.now c.requires.zeros
