-- Contracts of inner functions: the weights of the first seven members, and the columns' shares times them. Depot i's point is 7 + i; ms are the members by
-- rising depot, xs the shares, column by column.
-- Depots: the first k of ms are depots, rising
-- away: 1 / (i - j) from the table of inverses
-- behind: q - 7 - j modulo 257, q the position of lane c
-- spread: the first n of x, each at its depot's place
-- placed_at, scaled_at: the lanes of a column's first seven shares, and of these times the weights
use Rattle.std.specs.Prelude.{List, ℕ, ◌+◌, ◌-◌, ◌*◌, ◌%◌, ◌<◌, ◌≤◌, length}
use Rattle.base.specs.Sum.{unit}
use Rattle.base.specs.Fill.{tab}
use Rattle.field.specs.Dot.{at, dot}

pub record Depots (k : ℕ) (ms : List ℕ) : Type 0 where
  pub fits : k ≤ length ms
  pub below : (a : ℕ) → a < k → at ms a < 16
  pub rise : (a b : ℕ) → a < b → b < k → at ms a < at ms b

-- WEIGHTS
abbrev pub away : List ℕ → ℕ → ℕ → ℕ
away t j i = at t (15 - j + i)

abbrev pub behind : ℕ → ℕ → ℕ
behind j c = 250 + c % 4 - j

-- SHARES
unfoldable pub spread : (ms : List ℕ) → ℕ → (ℕ → ℕ) → ℕ → ℕ
spread ms n x i = dot n (λ a. unit (at ms a) i) x

abbrev pub placed_at : (ms xs : List ℕ) → ℕ → List ℕ
placed_at ms xs start = tab 16 (spread ms 7 (λ a. at xs (start + a)))

abbrev pub scaled_at : (ms xs : List ℕ) (k : ℕ) (weights : List ℕ) → ℕ → List ℕ
scaled_at ms xs k weights b = tab 16 (λ i. spread ms 7 (λ a. at xs (b * k + a)) i * at weights i % 257)
