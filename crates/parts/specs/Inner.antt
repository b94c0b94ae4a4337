-- Contracts of inner functions: what they write of a dealing, and what they need.
-- line_entry: the product of row i of the matrix m and line j of F, reduced; line j starts at j * a, and its entries lie s apart
-- entry_h, entry_g: entry j of holder i's h = F m_i, along row j of F, and of its g = m_i F, along column j
-- PartRoom: row i lies in m, the lines in F, and d entries from place b on in the list that is written
-- AllRoom: n rows lie in m, F is whole, and so are the lists of all g and of all h
-- past: the list l with the parts of the holders from i to n - 1, whose entries are e, each at its place
-- lane: lane t of a table, whose rows of eight lanes lie w apart from place a on
-- lane_entry: the product of lane t of the columns and line j of F, reduced
-- Column: of the first r lanes, from place a on, those below c are u's entries, and all before them is as it was
-- Held: the first r columns hold the entries of c holders' rows from holder i on
-- EightRoom: what the parts of c holders, held in the columns, need
use Rattle.std.specs.Prelude.{ℕ, ◌+◌, ◌-◌, ◌*◌, ◌%◌, ◌<◌, ◌≤◌, ◌≡◌, List, length}
use Rattle.base.specs.Fill.{laid}
use Rattle.base.specs.Matrix.{entry, flat, Below}
use Rattle.field.specs.Dot.{at, dot, along}

unfoldable pub line_entry : (p d : ℕ) (m F : List ℕ) (a s : ℕ) → ℕ → ℕ → ℕ
line_entry p d m F a s i j = dot d (along m (i * d) 1) (along F (j * a) s) % p

abbrev pub entry_h : (p d : ℕ) (m F : List ℕ) → ℕ → ℕ → ℕ
entry_h p d m F = line_entry p d m F d 1

abbrev pub entry_g : (p d : ℕ) (m F : List ℕ) → ℕ → ℕ → ℕ
entry_g p d m F = line_entry p d m F 1 d

pub record PartRoom (p d : ℕ) (m : List ℕ) (i : ℕ) (F : List ℕ) (a s : ℕ) (out : List ℕ) (b : ℕ) : Type 0 where
  pub above : 0 < p
  pub small : d ≤ 16
  pub row : i * d + d ≤ length m
  pub lines : (j k : ℕ) → j < d → k < d → j * a + k * s < length F
  pub fits : b + d ≤ length out

pub record AllRoom (p d n : ℕ) (m F gs hs : List ℕ) : Type 0 where
  pub above : 0 < p
  pub small : d ≤ 16
  pub rows : length m ≡ n * d
  pub square : length F ≡ 256
  pub fits : (length gs ≡ n * d) × (length hs ≡ n * d)

unfoldable pub past : ℕ → (ℕ → ℕ → ℕ) → ℕ → ℕ → List ℕ → List ℕ
past d e i n l = laid (λ t. flat d e (i * d + t)) (i * d) (n * d - i * d) l

abbrev pub lane : List ℕ → (a w t : ℕ) → ℕ → ℕ
lane table a w t k = at table (a + k * w + t)

unfoldable pub lane_entry : (p d : ℕ) (columns F : List ℕ) (a s : ℕ) → ℕ → ℕ → ℕ
lane_entry p d columns F a s t j = dot d (lane columns 0 8 t) (along F (j * a) s) % p

pub record Column (r c : ℕ) (u : ℕ → ℕ) (a : ℕ) (before after : List ℕ) : Type 0 where
  pub size : length after ≡ length before
  pub written : (t : ℕ) → t < r → t < c → at after (a + t) ≡ u t
  pub kept : (k : ℕ) → k < a → at after k ≡ at before k
  pub small : Below 257 before → Below 257 after

pub record Held (r d : ℕ) (m : List ℕ) (i c : ℕ) (columns : List ℕ) : Type 0 where
  pub size : length columns ≡ 128
  pub small : Below 257 columns
  pub right : (t k : ℕ) → t < c → k < r → lane columns 0 8 t k ≡ entry d m (i + t) k

pub record EightRoom (p d : ℕ) (columns : List ℕ) (c : ℕ) (F : List ℕ) (a s : ℕ) (out : List ℕ) (b : ℕ) : Type 0 where
  pub above : 0 < p
  pub few : (d ≤ 16) × (c ≤ 8)
  pub size : length columns ≡ 128
  pub small : Below 257 columns × Below 257 F
  pub lines : (j k : ℕ) → j < d → k < d → j * a + k * s < length F
  pub fits : b + c * d ≤ length out
