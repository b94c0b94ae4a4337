-- After k rows of the table each lane is the product of its first k entries and those of the line.
use mathlib.Core.Path.{◌≡◌}
use Rattle.base.specs.Fill.{tab}
use Rattle.field.specs.Dot.{dot, along}
use Rattle.parts.specs.Inner.{lane}
use Rattle.parts.proofs.products.Given as goal

abbrev pub invariant-loop-k : goal.invariant-loop-k
invariant-loop-k l = l.sums ≡ tab 8 (λ t. dot l.k (lane l.table l.at l.wide t) (along l.x l.start l.step))
