-- By whether column j has a pivot row.
use mathlib.Core.Path.{refl}
use borrow.Author.Tests.{lt-ltb, le-ltb}
use Rattle.read_off.specs.ReadOff.{shown, flat_shown}
use Rattle.read_off.proofs.shown.Goals as goal

pub returns-then-r-rows : goal.returns-then-r-rows
unfolding flat_shown shown
returns-then-r-rows c = rw (← c.pivot_row-r.ensures, lt-ltb _ _ c.if-r-rows.true) refl

pub returns-else-r-rows : goal.returns-else-r-rows
unfolding flat_shown shown
returns-else-r-rows c = rw (← c.pivot_row-r.ensures, le-ltb _ _ c.if-r-rows.false) refl
