-- The lines stand one after the other from the start of the buffer, and take at most 396 bytes of it.
use native.Mathlib.Omega.{arith}
use Rattle.file_text.specs.Lines.{dealing_line}
use Rattle.file_text.proofs.Text.{both, first-bytes}
use Rattle.file_text.proofs.print_told.Goals as goal

pub returns : goal.returns
unfolding dealing_line
returns c =
    let two = both c.setup_line-a.ensures c.put_line-b.ensures in
    let four = both (both two c.verdict_line-c.ensures) c.outcome_line-d.ensures in
    first-bytes (both four c.kept_lines.ensures) (omega (arith, c.requires.2))
