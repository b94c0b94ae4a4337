-- The lowest value that differs decides.
use Rattle.judging.proofs.Ends.{rejects-at, accepts-at}
use Rattle.judging.proofs.judgement.Goals as goal

pub returns-then-n-j : goal.returns-then-n-j
returns-then-n-j c = accepts-at _ _ _ _ c.lowest_that_differs-j.ensures c.if-n-j.true

pub returns : goal.returns
returns c = rejects-at _ _ _ _ c.lowest_that_differs-j.ensures c.if-n-j.false
