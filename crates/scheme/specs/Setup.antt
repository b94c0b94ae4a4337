-- Setup (document 01, "Setup").
-- Setup: p, the secret length ℓ, the randomness length e, the number n of holders, and the matrix M by rows
-- dim: d = ℓ + e
-- row: m_i, the row of holder i, by columns
-- Limits: p, ℓ, e and n are within document 01's limits
-- IsSetup: so they are, and the matrix has n rows of d field elements
-- setup_of: a setup from the numbers that a call takes and the matrix lent beside them
use Rattle.std.specs.Prelude.{◌≡◌, true, List, ℕ, ◌+◌, ◌*◌, ◌≤◌}
use Rattle.base.specs.Search.{Vec}
use Rattle.base.specs.Matrix.{entry}
use Rattle.field.specs.Fields.{is_field}
use Rattle.scheme.specs.declared.Params.{Params}

pub record Setup : Type 0 where
  pub p : ℕ
  pub l : ℕ
  pub e : ℕ
  pub n : ℕ
  pub M : List ℕ

abbrev pub dim : Setup → ℕ
dim S = S.l + S.e

abbrev pub row : Setup → ℕ → ℕ → ℕ
row S i = entry (dim S) S.M i

-- "with p one of 2, 7, 251, 257, 65521"; "ℓ, the secret length, is 1 to 8. e, the randomness length, is 1 to 8. n, the holders, is 1 to 32"
pub record Limits (S : Setup) : Type 0 where
  pub field : is_field S.p ≡ true
  pub secret : (1 ≤ S.l) × (S.l ≤ 8)
  pub random : (1 ≤ S.e) × (S.e ≤ 8)
  pub holders : (1 ≤ S.n) × (S.n ≤ 32)

-- "The matrix M has n rows of d entries. Any entries of the field are allowed"
pub record IsSetup (S : Setup) : Type 0 where
  pub limits : Limits S
  pub matrix : Vec S.p (S.n * dim S) S.M

abbrev pub setup_of : Params → List ℕ → Setup
setup_of s m = record { p = s.p; l = s.l; e = s.e; n = s.n; M = m }
