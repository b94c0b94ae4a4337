-- The number stands after the words.
use Rattle.file_text.proofs.Text.{both}
use Rattle.file_text.proofs.put_item.Goals as goal

pub returns : goal.returns
returns c =
    both c.put_text-k.ensures c.put_number.ensures
