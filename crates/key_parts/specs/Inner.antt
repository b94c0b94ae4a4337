-- Contracts of inner functions: what every depot's part of a key is.
-- Halves: the matrix's seven columns, each as sixteen remainders by 16 and sixteen quotients by 16
-- matrix_entry: entry k of depot i's row
-- entry_g, entry_h: entry b of depot i's g = m_i F and entry k of its h = F m_i, on the matrix with rows m_i
-- parts_g, parts_h: every depot's g and every depot's h, one after the other
use Rattle.std.specs.Prelude.{List, [], ℕ, ◌+◌, ◌*◌, ◌%◌, ◌<◌, get_or}
use Rattle.base.specs.Fill.{tab}
use Rattle.base.specs.Matrix.{flat, Below}
use Rattle.field.specs.Dot.{at, dot}
use Rattle.key_entries.specs.Inner.{key_entry}

pub record Halves (columns : List (List ℕ)) : Type 0 where
  pub small : (k : ℕ) → k < 7 → Below 17 (get_or columns k [])

unfoldable pub matrix_entry : List (List ℕ) → ℕ → ℕ → ℕ
matrix_entry columns i k = at (get_or columns k []) i + 16 * at (get_or columns k []) (16 + i)

unfoldable pub entry_g : (m : ℕ → ℕ → ℕ) (key random : List ℕ) → ℕ → ℕ → ℕ
entry_g m key random i b = dot 7 (m i) (λ k. key_entry key random k b) % 257

unfoldable pub entry_h : (m : ℕ → ℕ → ℕ) (key random : List ℕ) → ℕ → ℕ → ℕ
entry_h m key random i k = dot 7 (λ b. key_entry key random k b) (m i) % 257

unfoldable pub parts_g : (m : ℕ → ℕ → ℕ) (key random : List ℕ) → List ℕ
parts_g m key random = tab 112 (flat 7 (entry_g m key random))

unfoldable pub parts_h : (m : ℕ → ℕ → ℕ) (key random : List ℕ) → List ℕ
parts_h m key random = tab 112 (flat 7 (entry_h m key random))
