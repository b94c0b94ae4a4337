-- Each case has its two numbers.
use mathlib.Core.Path.{ap}
use Rattle.holder_file.specs.Calls.{settled}
use Rattle.holder_file.proofs.outcome_said.Goals as goal

pub returns-in-Kept : goal.returns-in-Kept
returns-in-Kept c = ap settled c.in-Kept.is

pub returns-in-Aborted : goal.returns-in-Aborted
returns-in-Aborted c = ap settled c.in-Aborted.is
