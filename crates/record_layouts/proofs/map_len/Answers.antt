-- Two numbers of 16 bits have a product below 2^32.
use Prim.Native.Nat.{◌*◌, ◌≤◌}
use mathlib.Core.Path.{refl}
use native.Mathlib.Nat.{mul-le-mul}
use native.Mathlib.Omega.{arith}
use Rattle.record_layouts.proofs.map_len.Goals as goal

pub overflow_mul-result : goal.overflow_mul-result
overflow_mul-result c =
    let square : let l = c.args.s.l in l * l ≤ 4294836225 = let l = c.args.s.l in mul-le-mul {n₁ = l} {m₁ = l} {n₂ = 65535} {m₂ = 65535} (omega arith) (omega arith) in
    omega (arith, square)

pub returns : goal.returns
returns c =
    let square : let l = c.args.s.l in l * l ≤ 4294836225 = let l = c.args.s.l in mul-le-mul {n₁ = l} {m₁ = l} {n₂ = 65535} {m₂ = 65535} (omega arith) (omega arith) in
    (refl, square)
