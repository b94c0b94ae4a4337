-- The two cases of the definition.
use native.Mathlib.Omega.{arith}
use Rattle.file_records.proofs.Reading.{pairs-mapped, pairs-plain}
use Rattle.file_records.proofs.pair_records.Goals as goal

pub returns-then-h : goal.returns-then-h
returns-then-h c = let e = pairs-mapped c.args.h c.if-h.true in (omega (arith, e), omega (arith, e))

pub returns-else-h : goal.returns-else-h
returns-else-h c = let e = pairs-plain c.args.h c.if-h.false in (omega (arith, e), omega (arith, e))
