-- By whether position q has a pivot row, and then by what else that row has.
use mathlib.Core.Path.{refl}
use borrow.Author.Tests.{lt-ltb, le-ltb}
use Rattle.read_off.specs.ReadOff.{fixes, flat_fixes}
use Rattle.read_off.proofs.fixes.Goals as goal

pub returns-then-r-rows : goal.returns-then-r-rows
unfolding flat_fixes fixes
returns-then-r-rows c = rw (← c.pivot_row-r.ensures, lt-ltb _ _ c.if-r-rows.true) c.alone.ensures

pub returns-else-r-rows : goal.returns-else-r-rows
unfolding flat_fixes fixes
returns-else-r-rows c = rw (← c.pivot_row-r.ensures, le-ltb _ _ c.if-r-rows.false) refl
