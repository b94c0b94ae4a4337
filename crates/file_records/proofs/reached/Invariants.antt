-- No record before k is faulty or missing.
use Prim.Native.Nat.{ℕ, ◌<◌}
use mathlib.Core.Path.{◌≡◌}
use Rattle.file_records.specs.Received.{fault_at}
use Rattle.file_records.proofs.reached.Given as goal

abbrev pub invariant-loop-k : goal.invariant-loop-k
invariant-loop-k l = (j : ℕ) → j < l.k → fault_at l.h l.t j ≡ 0
