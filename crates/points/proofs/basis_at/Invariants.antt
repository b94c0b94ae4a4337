-- The product so far is the basis over the nodes passed, reduced.
use Prim.Native.Nat.{◌%◌}
use mathlib.Core.Path.{◌≡◌}
use Rattle.polynomial.specs.Polynomial.{basis}
use Rattle.points.proofs.basis_at.Given as goal

abbrev pub invariant-loop-t : goal.invariant-loop-t
invariant-loop-t l = l.acc ≡ basis l.p l.t l.j (λ t. t) l.x % l.p
