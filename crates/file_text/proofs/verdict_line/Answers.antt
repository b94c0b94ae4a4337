-- Each case of the judgement has its words, which the arm writes.
use native.Mathlib.Omega.{arith}
use Rattle.file_text.specs.Lines.{verdict_line}
use Rattle.file_text.proofs.Text.{more}
use Rattle.file_text.proofs.verdict_line.Goals as goal

pub returns-in-Accept : goal.returns-in-Accept
unfolding verdict_line
returns-in-Accept c =
    rw c.in-Accept.is (more c.put_text.ensures (omega arith))

pub returns-in-Reject : goal.returns-in-Reject
unfolding verdict_line
returns-in-Reject c =
    rw c.in-Reject.is c.put_last.ensures

pub returns-in-RejectMap : goal.returns-in-RejectMap
unfolding verdict_line
returns-in-RejectMap c =
    rw c.in-RejectMap.is (more c.put_text-in-RejectMap.ensures (omega arith))
