-- Contracts of inner functions: what F_φ is made of.
-- RowRoom: row k of φ, ℓ entries of d lines of F and row k of F_φ lie in their lists
-- MappedRoom: φ, the lent random entries and the arrays for F and F_φ are as long as F_φ needs
use Rattle.std.specs.Prelude.{ℕ, ◌+◌, ◌*◌, ◌<◌, ◌≤◌, ◌≡◌, List, length}

pub record RowRoom (p l d : ℕ) (phi : List ℕ) (k : ℕ) (F : List ℕ) (a s : ℕ) (F2 : List ℕ) : Type 0 where
  pub above : 0 < p
  pub small : (0 < l) × (l ≤ 8)
  pub row : k * l + l ≤ length phi
  pub lines : (b c : ℕ) → b < d → c < l → b * a + c * s < length F
  pub fits : k * d + d ≤ length F2

pub record MappedRoom (p l e : ℕ) (phi random2 F F2 : List ℕ) : Type 0 where
  pub above : 0 < p
  pub small : (l ≤ 8) × (e ≤ 8)
  pub map : length phi ≡ l * l
  pub entries : length random2 ≡ e * (l + e)
  pub squares : (length F ≡ 256) × (length F2 ≡ 256)
