-- Gauss-Jordan elimination modulo a prime p on a matrix of R rows, the number of its row steps, and what it keeps. Columns go from left to right, no rows
-- are swapped, and the pivot is the topmost row that is not used yet and has an entry (an entry: one other than 0).
-- State: a matrix, and for each row 0 or one more than the column of its pivot
-- scaled: row k times the inverse of its entry in column c, so that it has 1 there
-- clear: the matrix with row k scaled and taken from each other row as often as that row's entry in column c says
-- usable: row i is unused and has an entry in column c
-- pivot_of: the topmost usable row for column c; R where there is none
-- use_row: row k becomes the pivot row of column c
-- column: one column processed
-- gauss: the first c columns processed
-- start: the matrix G modulo p, no row used
-- reduced: G with its first C columns processed
-- elsewhere: place j of v is not k, and has an entry
-- others: how many of the first R places of v but k have an entry
-- column_steps, steps: the row steps of column c; those of the first c columns
-- Solution: A x = b modulo p, in R equations with C unknowns
-- Spanned: v is a combination of the R rows of G
use Rattle.std.specs.Prelude.{◌≡◌, Bool, not, ◌&&◌, ℕ, zero, suc, ◌+◌, ◌-◌, ◌*◌, ◌%◌, ◌<◌, eqb, ltb}
use Rattle.base.specs.Choice.{pick}
use Rattle.base.specs.Search.{first}
use Rattle.base.specs.Sum.{sum, bit}
use Rattle.field.specs.Prime.{inverse_of}
use Rattle.field.specs.Dot.{dot}

pub record State : Type 0 where
  pub mat : ℕ → ℕ → ℕ
  pub used : ℕ → ℕ

unfoldable pub scaled : (p k c : ℕ) → (ℕ → ℕ → ℕ) → ℕ → ℕ
scaled p k c M j = inverse_of p (M k c) * M k j % p

unfoldable pub clear : (p k c : ℕ) → (ℕ → ℕ → ℕ) → ℕ → ℕ → ℕ
clear p k c M i j = pick (eqb i k) (scaled p k c M j) ((M i j + (p - M i c) * scaled p k c M j) % p)

unfoldable pub usable : State → ℕ → ℕ → Bool
usable s c i = eqb (s.used i) 0 && not (eqb (s.mat i c) 0)

-- document 02, A6: "the pivot being the topmost unused row with an entry other than 0"
unfoldable pub pivot_of : (R c : ℕ) → State → ℕ
pivot_of R c s = first (usable s c) R

unfoldable pub use_row : (p k c : ℕ) → State → State
use_row p k c s = record { mat = clear p k c s.mat; used = λ i. pick (eqb i k) (suc c) (s.used i) }

unfoldable pub column : (p R c : ℕ) → State → State
column p R c s = let k = pivot_of R c s in pick (ltb k R) (use_row p k c s) s

unfoldable pub gauss : (p R c : ℕ) → State → State
gauss p R zero s = s
gauss p R (suc c) s = column p R c (gauss p R c s)

unfoldable pub start : ℕ → (ℕ → ℕ → ℕ) → State
start p G = record { mat = λ i j. G i j % p; used = λ i. 0 }

unfoldable pub reduced : (p R C : ℕ) → (ℕ → ℕ → ℕ) → State
reduced p R C G = gauss p R C (start p G)

unfoldable pub elsewhere : ℕ → (ℕ → ℕ) → ℕ → Bool
elsewhere k v j = not (eqb k j) && not (eqb (v j) 0)

-- ROW STEPS
unfoldable pub others : ℕ → ℕ → (ℕ → ℕ) → ℕ
others R k v = sum R (λ j. bit (elsewhere k v j))

-- document 02, A6: "Each subtraction of a multiple of the pivot row from another row with a nonzero entry there is one row step"
unfoldable pub column_steps : (R c : ℕ) → State → ℕ
column_steps R c s = let k = pivot_of R c s in pick (ltb k R) (others R k (λ i. s.mat i c)) 0

unfoldable pub steps : (p R c : ℕ) → State → ℕ
steps p R zero s = 0
steps p R (suc c) s = steps p R c s + column_steps R c (gauss p R c s)

-- WHAT IT KEEPS
pub record Solution (p R C : ℕ) (A : ℕ → ℕ → ℕ) (b x : ℕ → ℕ) : Type 0 where
  pub solves : (i : ℕ) → i < R → dot C (A i) x % p ≡ b i % p

pub record Spanned (p R : ℕ) (G : ℕ → ℕ → ℕ) (v : ℕ → ℕ) : Type 0 where
  pub by : ℕ → ℕ
  pub gives : (j : ℕ) → v j % p ≡ dot R by (λ i. G i j) % p
