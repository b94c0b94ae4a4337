-- The sum so far is the product of the entries passed, at most 65535 * 65535 for each.
use Prim.Native.Nat.{◌*◌, ◌≤◌}
use mathlib.Core.Path.{◌≡◌}
use Rattle.field.specs.Dot.{at, dot}
use Rattle.combining.proofs.products.Given as goal

abbrev pub invariant-loop-k : goal.invariant-loop-k
invariant-loop-k l = (l.sum ≤ l.k * 4294836225) × (l.sum ≡ dot l.k (at l.constants) (at l.shares))
