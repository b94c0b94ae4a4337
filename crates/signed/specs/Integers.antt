-- Integers. What the code has as an i32 is in the logic an integer of lib.IntN, from -2^31 to 2^31 - 1: `pos n` is n and `negsuc n` is -(n + 1). Sums,
-- differences and products, _+ℤ_, _-ℤ_ and _*ℤ_, are lib.IntN's, by the signs.
-- integer_at: a list of integers by places, 0 past its end
-- total: f 0 + f 1 + .. + f (n - 1)
-- remainder: z modulo p, from 0 to p - 1; of -(n + 1) it is p - 1 less n modulo p
use Rattle.std.specs.Prelude.{List, ℕ, zero, suc, ◌-◌, ◌%◌, ℤ, pos, negsuc, ◌+ℤ◌, get_or}

abbrev pub integer_at : List ℤ → ℕ → ℤ
integer_at l k = get_or l k (pos 0)

unfoldable pub total : ℕ → (ℕ → ℤ) → ℤ
total zero f = pos 0
total (suc n) f = total n f +ℤ f n

unfoldable pub remainder : ℕ → ℤ → ℕ
remainder p (pos n) = n % p
remainder p (negsuc n) = p - suc (n % p)
