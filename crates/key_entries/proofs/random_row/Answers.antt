-- Row 4 + k: the random entries 12 + 7k to 18 + 7k.
use mathlib.Core.Path.{◌∙◌}
use Rattle.key_entries.proofs.Entries.{row_part}
use Rattle.key_entries.proofs.random_row.Goals as goal

pub returns : goal.returns
returns c = λ key. c.copy_from_slice.ensures.after ∙ row_part key c.args.random.now c.args.k c.requires.0 c.requires.1
