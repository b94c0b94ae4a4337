-- The lowest reject decides.
use Rattle.outcomes.proofs.Ends.{aborted-at, kept_at}
use Rattle.outcomes.proofs.fate.Goals as goal

pub returns-then-i-n : goal.returns-then-i-n
returns-then-i-n c = aborted-at _ _ _ c.lowest_reject-i.ensures c.if-i-n.true

pub returns : goal.returns
returns c = kept_at _ _ _ c.lowest_reject-i.ensures c.if-i-n.false
