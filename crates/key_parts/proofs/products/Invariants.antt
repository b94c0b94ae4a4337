-- After k columns each lane is the product of its first k halves with x; the lanes are then joined by twos.
use mathlib.Core.Path.{◌≡◌}
use Rattle.base.specs.Fill.{tab}
use Rattle.key_parts.proofs.Parts.{lane}
use Rattle.key_parts.proofs.products.Given as goal

abbrev pub invariant-loop-k : goal.invariant-loop-k
invariant-loop-k l = l.sums ≡ tab 32 (lane l.columns l.x l.k)
