-- The four numbers stand one after the other, each after its words.
use Rattle.file_text.specs.Lines.{setup_line}
use Rattle.file_text.proofs.Text.{both}
use Rattle.file_text.proofs.setup_line.Goals as goal

pub returns : goal.returns
unfolding setup_line
returns c =
    both (both c.put_item-a.ensures c.put_item-b.ensures) c.put_line.ensures
