-- The sum so far is the product of the entries passed, at most 65535 * 65535 for each.
use Prim.Native.Nat.{◌*◌, ◌≤◌}
use mathlib.Core.Path.{◌≡◌}
use Rattle.field.specs.Dot.{dot, along}
use Rattle.field.proofs.dot_product.Given as goal

abbrev pub invariant-loop-k : goal.invariant-loop-k
invariant-loop-k l = (l.sum ≤ l.k * 4294836225) × (l.sum ≡ dot l.k (along l.u l.u_at 1) (along l.v l.v_at l.v_step))
