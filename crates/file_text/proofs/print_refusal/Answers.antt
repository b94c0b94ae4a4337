-- The only line stands at the start of the buffer.
use native.Mathlib.Omega.{arith}
use Rattle.file_text.specs.Lines.{refused_line}
use Rattle.file_text.proofs.Text.{first-bytes}
use Rattle.file_text.proofs.print_refusal.Goals as goal

pub returns : goal.returns
unfolding refused_line
returns c = first-bytes c.put_line.ensures (omega arith)
