-- The elimination of `gauss` on a flat buffer of R rows of W entries, as the code computes it.
-- clear_row, clear_to: the entry of row r in column c cleared by the pivot row k; that for the first n rows
-- Flat: the buffer, and the marks of its rows as in State
-- view: a buffer as a matrix
-- flat_pivot, flat_use, flat_column, flat_reduce, flat_steps: pivot_of, use_row, column, gauss, steps on a buffer
-- Shows: the buffer s holds the matrix t, inside the range
use Rattle.std.specs.Prelude.{◌≡◌, List, ℕ, zero, suc, ◌+◌, ◌-◌, ◌*◌, ◌<◌, eqb, ltb, length, set}
use Rattle.base.specs.Choice.{pick}
use Rattle.base.specs.Matrix.{entry, Below}
use Rattle.field.specs.Prime.{inverse_of}
use Rattle.field.specs.Dot.{at}
use Rattle.gauss.specs.Gauss.{State, pivot_of, column_steps}
use Rattle.row_steps.specs.Rows.{add_row, scale_row}

-- the pivot row, and a row that has 0 there, are passed over
unfoldable pub clear_row : (p W k c r : ℕ) → List ℕ → List ℕ
clear_row p W k c r a = pick (eqb r k) a (pick (eqb (entry W a r c) 0) a (add_row p (p - entry W a r c) (r * W) (k * W) W a))

unfoldable pub clear_to : (p W k c n : ℕ) → List ℕ → List ℕ
clear_to p W k c zero a = a
clear_to p W k c (suc n) a = clear_row p W k c n (clear_to p W k c n a)

pub record Flat : Type 0 where
  pub mat : List ℕ
  pub used : List ℕ

abbrev pub view : ℕ → Flat → State
view W s = record { mat = λ i j. entry W s.mat i j; used = at s.used }

unfoldable pub flat_pivot : (R W c : ℕ) → Flat → ℕ
flat_pivot R W c s = pivot_of R c (view W s)

unfoldable pub flat_use : (p R W k c : ℕ) → Flat → Flat
flat_use p R W k c s =
    record { mat = clear_to p W k c R (scale_row p (inverse_of p (entry W s.mat k c)) (k * W) W s.mat); used = set s.used k (suc c) }

unfoldable pub flat_column : (p R W c : ℕ) → Flat → Flat
flat_column p R W c s = let k = flat_pivot R W c s in pick (ltb k R) (flat_use p R W k c s) s

unfoldable pub flat_reduce : (p R W c : ℕ) → Flat → Flat
flat_reduce p R W zero s = s
flat_reduce p R W (suc c) s = flat_column p R W c (flat_reduce p R W c s)

unfoldable pub flat_steps : (p R W c : ℕ) → Flat → ℕ
flat_steps p R W zero s = 0
flat_steps p R W (suc c) s = flat_steps p R W c s + column_steps R c (view W (flat_reduce p R W c s))

pub record Shows (p R W : ℕ) (s : Flat) (t : State) : Type 0 where
  pub size : length s.mat ≡ R * W
  pub marks : length s.used ≡ R
  pub below : Below p s.mat
  pub entries : (i j : ℕ) → i < R → j < W → entry W s.mat i j ≡ t.mat i j
  pub rows : (i : ℕ) → i < R → at s.used i ≡ t.used i
