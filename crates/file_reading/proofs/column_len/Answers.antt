-- e entries in a DZ, d in a DL.
use mathlib.Core.Path.{refl}
use native.Mathlib.Omega.{arith}
use Rattle.file_reading.proofs.column_len.Goals as goal

pub returns-then-zero : goal.returns-then-zero
returns-then-zero c = (rw c.if-zero.true refl, omega arith)

pub returns-else-zero : goal.returns-else-zero
returns-else-zero c = (rw c.if-zero.false refl, omega arith)
