-- Products of small numbers, and a factor reduced in a sum.
use Prim.Native.Nat.{ℕ, ◌+◌, ◌*◌, ◌/◌, ◌%◌, ◌≤◌, ◌<◌}
use mathlib.Core.Path.{◌≡◌, sym, ap, ◌∙◌}
use native.Mathlib.Nat.{mul-le-mul, div-add-mod', add-mul-mod_self_right}
use native.Mathlib.Omega.{arith}

pub product_le : (x y : ℕ) → x < 257 → y < 257 → x * y ≤ 65536
product_le x y hx hy = mul-le-mul {n₁ = x} {m₁ = y} {n₂ = 256} {m₂ = 256} (omega arith) (omega arith)

pub half_le : (x y : ℕ) → x < 17 → y < 257 → x * y ≤ 4096
half_le x y hx hy = mul-le-mul {n₁ = x} {m₁ = y} {n₂ = 16} {m₂ = 256} (omega arith) (omega arith)

pub joined-law : (u v : ℕ) → (v % 257 * 16 + u) % 257 ≡ (u + 16 * v) % 257
joined-law u v = sym (add-mul-mod_self_right (v % 257 * 16 + u) (v / 257 * 16) 257) ∙ ap (λ (n : ℕ). n % 257) (omega (arith, div-add-mod' v 257))
