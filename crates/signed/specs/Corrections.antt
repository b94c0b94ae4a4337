-- Corrections as field elements (document 02, A10): "With p 65521, a correction from −32,760 to 32,760 is held as its remainder, and an opened element is
-- read back into that range."
-- inRange, all_in_range: an integer, and all of a list, from -32760 to 32760
-- residue, residues: how a correction is held
-- correction, corrections: the correction that a residue is read back to: itself up to 32760, 65521 less from there on
use Rattle.std.specs.Prelude.{Bool, List, ℕ, leb, ℤ, pos, nat_abs, ◌-ℤ◌, length}
use Rattle.base.specs.Choice.{pick}
use Rattle.base.specs.Search.{every}
use Rattle.base.specs.Fill.{tab}
use Rattle.field.specs.Dot.{at}
use Rattle.signed.specs.Integers.{integer_at, remainder}

abbrev pub in_range : ℤ → Bool
in_range z = leb (nat_abs z) 32760

unfoldable pub all_in_range : List ℤ → Bool
all_in_range zs = every (length zs) (λ i. in_range (integer_at zs i))

unfoldable pub residue : ℤ → ℕ
residue z = remainder 65521 z

unfoldable pub residues : List ℤ → List ℕ
residues zs = tab (length zs) (λ i. residue (integer_at zs i))

unfoldable pub correction : ℕ → ℤ
correction r = pick (leb r 32760) (pos r) (pos r -ℤ pos 65521)

unfoldable pub corrections : List ℕ → List ℤ
corrections xs = tab (length xs) (λ i. correction (at xs i))
