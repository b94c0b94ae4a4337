-- n is at most 65535 and d at most 131070, so that the product fits.
use Prim.Native.Nat.{◌*◌}
use mathlib.Core.Path.{ap}
use native.Mathlib.Nat.{mul-le-mul}
use native.Mathlib.Omega.{arith}
use Rattle.scheme.proofs.Params.matrix_len.Goals as goal

pub overflow_mul-result : goal.overflow_mul-result
overflow_mul-result c =
    omega (arith, mul-le-mul {n₁ = c.args.self.n} {m₁ = c.dim.result} {n₂ = 65535} {m₂ = 131070} (omega arith) c.dim.ensures.1)

pub returns : goal.returns
returns c = ap (λ d. c.args.self.n * d) c.dim.ensures.0
