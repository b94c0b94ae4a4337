-- Contracts of inner functions: what the functions behind the judgement of a set leave. Records, so that a field more moves no caller.
-- negated: entry j of the vector that a reduced system shows: e_q in the first ℓ entries, then the negatives of what column e + q shows
-- RowSought, VectorSought: by the answer, the row or a vector is written, or there is none and nothing is written; n is the number of row steps
use Rattle.std.specs.Prelude.{◌≡◌, Bool, true, false, List, ℕ, ◌+◌, ◌-◌, ◌%◌, ltb}
use Rattle.std.proofs.Math.Option.{some}
use Rattle.base.specs.Choice.{pick}
use Rattle.base.specs.Search.{Vec}
use Rattle.base.specs.Sum.{unit}
use Rattle.read_off.specs.ReadOff.{flat_shown}
use Rattle.elimination.specs.Elimination.{Flat}
use Rattle.scheme.specs.Setup.{Setup, dim}
use Rattle.scheme.specs.Sets.{holds, has_row, one_row, is_sweep, has_sweep, row_steps}
use Rattle.set_systems.specs.Inner.{members_of}

unfoldable pub negated : (p R W l e q : ℕ) → Flat → ℕ → ℕ
negated p R W l e q s j = pick (ltb j l) (unit q j) ((p - flat_shown R W (e + q) s (j - l)) % p)

pub record RowSought (S : Setup) (s q : ℕ) (out : List ℕ) (there : Bool) (n : ℕ) (left : List ℕ) : Type 0 where
  pub steps : n ≡ row_steps S (holds s) q
  pub found : there ≡ true → one_row S (holds s) q ≡ some left
  pub none : there ≡ false → (has_row S (holds s) q ≡ false) × (left ≡ out)

pub record VectorSought (S : Setup) (s q : ℕ) (out : List ℕ) (there : Bool) (left : List ℕ) : Type 0 where
  pub found : there ≡ true → Vec S.p (dim S) left × (is_sweep S (members_of S s) q left ≡ true)
  pub none : there ≡ false → (has_sweep S (holds s) q ≡ false) × (left ≡ out)
