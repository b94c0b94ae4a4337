-- The second words and their number stand after the first.
use native.Mathlib.Omega.{arith}
use Rattle.file_text.proofs.Text.{both, more}
use Rattle.file_text.proofs.put_line.Goals as goal

pub returns : goal.returns
returns c =
    more (both c.put_item-k.ensures c.put_last.ensures) (omega arith)
