-- Contracts of inner functions: the polynomials through the first seven shares of each column, and the weights that give their values. Depot i's point
-- is 7 + i; ms are the members by rising depot, xs the shares, column by column.
-- Columns: the columns hold field elements
-- shown: the product of a column's lanes with row q of v
-- read_at: position c % 4 of column c / 4
-- expected: depot i's share times its weight, where it lies on the polynomial of the first seven; t has theirs
-- agrees: the share at place x of a column, times its depot's weight, is the one expected
-- Agreed, AllAgreed: what an answer says of the tests of one column, and of all four, from the eighth share on
-- Tables: the inverses of i - j and of q - 7 - i
-- depots: the members of the set s
-- Ready: at least seven of the sixteen depots, and four columns of their shares
-- curve: the value at z of the polynomial through column b's first seven shares
-- Interpolates: the positions are the polynomials' values at 0 to 3; consistent says whether the further shares are their values at the depots' points
-- Interpolated: so of the values in a Result, which is Ok where they are and Err where some share is not
use Rattle.std.specs.Prelude.{◌≡◌, Bool, true, false, List, [], ℕ, ◌+◌, ◌-◌, ◌*◌, ◌/◌, ◌%◌, ◌<◌, ◌≤◌, eqb, Result, Ok, Err, length, get_or}
use Rattle.base.specs.Fill.{tab}
use Rattle.base.specs.Matrix.{entry, flat, Below}
use Rattle.field.specs.Dot.{at, dot}
use Rattle.polynomial.specs.Polynomial.{lagrange}
use Rattle.scheme.specs.Sets.{holds, members}
use Rattle.key_weights.specs.Inner.{Depots, away}

abbrev pub Columns : List (List ℕ) → Type 0
Columns t = (b : ℕ) → Below 257 (get_or t b [])

-- POSITIONS
abbrev pub shown : (t v : List ℕ) → ℕ → ℕ
shown t v q = dot 16 (at t) (λ i. at v (16 * q + i))

abbrev pub read_at : List (List ℕ) → (v products : List ℕ) → ℕ → ℕ
read_at scaled v products c = shown (get_or scaled (c / 4) []) v (c % 4) % 257 * at products c % 257

-- FURTHER SHARES
abbrev pub expected : (inverses ms t : List ℕ) → ℕ → ℕ
expected inverses ms t i = dot 7 (λ a. at t (at ms a)) (λ a. away inverses (at ms a) i) % 257

abbrev pub agrees : (wanted weights xs : List ℕ) (start : ℕ) (ms : List ℕ) → ℕ → Bool
agrees wanted weights xs start ms x = eqb (at xs (start + x) * at weights (at ms x) % 257) (at wanted (at ms x))

pub data Agreed (k : ℕ) (t : ℕ → Bool) : Bool → Type 0 where
  all : ((x : ℕ) → 7 ≤ x → x < k → t x ≡ true) → Agreed k t true
  differs : (x : ℕ) → 7 ≤ x → x < k → t x ≡ false → Agreed k t false

pub data AllAgreed (k : ℕ) (t : ℕ → ℕ → Bool) : Bool → Type 0 where
  all : ((b x : ℕ) → b < 4 → 7 ≤ x → x < k → t b x ≡ true) → AllAgreed k t true
  differs : (b x : ℕ) → b < 4 → 7 ≤ x → x < k → t b x ≡ false → AllAgreed k t false

-- THE FOUR COLUMNS
pub record Tables (inverses positions : List ℕ) : Type 0 where
  pub own : at inverses 15 ≡ 1
  pub others : (c : ℕ) → c < 31 → (c ≡ 15 → ⊥) → at inverses c * (c + 242) % 257 ≡ 1
  pub behind : (q i : ℕ) → q < 4 → i < 16 → at positions (16 * q + i) * (250 + q - i) % 257 ≡ 1
  pub below : Below 257 inverses
  pub small : Below 257 positions

abbrev pub depots : ℕ → List ℕ
depots s = members 32 (holds s)

pub record Ready (ms xs : List ℕ) : Type 0 where
  pub rising : Depots (length ms) ms
  pub seven : 7 ≤ length ms
  pub sixteen : length ms ≤ 16
  pub size : length xs ≡ 4 * length ms
  pub small : Below 257 xs

unfoldable pub curve : (ms xs : List ℕ) (b z : ℕ) → ℕ
curve ms xs b z = dot 7 (lagrange 257 (λ a. 7 + at ms a) 7 z) (entry (length ms) xs b)

pub record Interpolates (ms xs : List ℕ) (consistent : Bool) (values : List ℕ) : Type 0 where
  pub positions : values ≡ tab 16 (flat 4 (λ b q. curve ms xs b q % 257))
  pub further : AllAgreed (length ms) (λ b x. eqb (curve ms xs b (7 + at ms x) % 257) (entry (length ms) xs b x)) consistent

-- the positions in both cases: Ok where every share lies on its column's polynomial, Err where one does not
abbrev pub Interpolated : (ms xs : List ℕ) → Result (List ℕ) (List ℕ) → Type 0
Interpolated ms xs (Ok values) = Interpolates ms xs true values
Interpolated ms xs (Err values) = Interpolates ms xs false values
