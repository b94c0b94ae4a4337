-- The sixteen lanes are a part of the table.
use mathlib.Core.Path.{◌∙◌}
use Rattle.key_weights.proofs.Lanes.{away_part}
use Rattle.key_weights.proofs.away_from.Goals as goal

pub returns : goal.returns
returns c = c.copy_from_slice.ensures.after ∙ away_part _ _ c.told-inverses c.requires
