-- Bounded sums of functions.
-- sum: f 0 + f 1 + .. + f (n - 1)
-- bit: 1 where the test holds, else 0
-- unit: the unit vector, 1 at k and 0 elsewhere
use Rattle.std.specs.Prelude.{Bool, true, false, ℕ, zero, suc, ◌+◌, eqb}

unfoldable pub sum : ℕ → (ℕ → ℕ) → ℕ
sum zero f = 0
sum (suc n) f = sum n f + f n

unfoldable pub bit : Bool → ℕ
bit true = 1
bit false = 0

unfoldable pub unit : ℕ → ℕ → ℕ
unit k i = bit (eqb k i)
