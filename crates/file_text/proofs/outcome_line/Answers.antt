-- Each case of the fate has its words, which the arm writes.
use native.Mathlib.Omega.{arith}
use Rattle.file_text.specs.Lines.{outcome_line}
use Rattle.file_text.proofs.Text.{more}
use Rattle.file_text.proofs.outcome_line.Goals as goal

pub returns-in-Kept : goal.returns-in-Kept
unfolding outcome_line
returns-in-Kept c =
    rw c.in-Kept.is (more c.put_text.ensures (omega arith))

pub returns-in-Aborted : goal.returns-in-Aborted
unfolding outcome_line
returns-in-Aborted c =
    rw c.in-Aborted.is c.put_last.ensures
