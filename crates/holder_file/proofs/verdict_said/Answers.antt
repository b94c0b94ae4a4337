-- Each case has its two numbers.
use mathlib.Core.Path.{ap}
use Rattle.holder_file.specs.Calls.{judged}
use Rattle.holder_file.proofs.verdict_said.Goals as goal

pub returns-in-Accept : goal.returns-in-Accept
returns-in-Accept c = ap judged c.in-Accept.is

pub returns-in-Reject : goal.returns-in-Reject
returns-in-Reject c = ap judged c.in-Reject.is

pub returns-in-RejectMap : goal.returns-in-RejectMap
returns-in-RejectMap c = ap judged c.in-RejectMap.is
