-- A limit of 32 or more is above every set; below that it is a power of two that the code makes by a shift.
use Prim.Native.Nat.{◌^◌}
use mathlib.Core.Path.{sym}
use native.Mathlib.Nat.{pow-le-pow_right}
use native.Mathlib.Omega.{arith}
use borrow.Author.Tests.{lt-leb}
use Rattle.set_systems.proofs.beyond.Goals as goal

pub returns-then-n-ge32 : goal.returns-then-n-ge32
returns-then-n-ge32 c = sym (lt-leb (2 ^ c.args.n) c.args.set (omega (arith, c.ranges.set.fits, pow-le-pow_right {n = 2} (omega arith) c.if-n-ge32.true)))
