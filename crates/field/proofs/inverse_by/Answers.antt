-- The inverse of 0 is 0.
use Rattle.field.proofs.Prime.{inverse-of-zero}
use Rattle.field.proofs.inverse_by.Goals as goal

pub returns-then-a-eq0 : goal.returns-then-a-eq0
returns-then-a-eq0 c = inverse-of-zero _ c.requires.prime _ c.if-a-eq0.true
