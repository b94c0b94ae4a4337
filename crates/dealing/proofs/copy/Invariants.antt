-- The first k entries are written.
use mathlib.Core.Path.{◌≡◌}
use Rattle.base.specs.Fill.{laid}
use Rattle.field.specs.Dot.{along}
use Rattle.dealing.proofs.copy.Given as goal

abbrev pub invariant-loop-k : goal.invariant-loop-k
invariant-loop-k l = l.out ≡ laid (along l.from l.start l.step) l.at l.k l.initial.out
