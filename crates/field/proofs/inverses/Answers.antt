-- The rule of the table was tested over the whole table.
use mathlib.Core.Path.{refl}
use Rattle.field.proofs.Table.{inverses_right}
use Rattle.field.proofs.inverses.Goals as goal

pub returns : goal.returns
returns c = record { size = refl; right = inverses_right }
