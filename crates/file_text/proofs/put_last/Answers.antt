-- The line feed stands after the words and the number.
use native.Mathlib.Omega.{arith}
use Rattle.file_text.proofs.Text.{both, more}
use Rattle.file_text.proofs.put_last.Goals as goal

pub returns : goal.returns
returns c =
    more (both c.put_item-k.ensures c.put_text.ensures) (omega arith)
