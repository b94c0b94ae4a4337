-- Contracts of inner functions: what the functions of the elimination ask of their lent buffers and leave in them. Records, so that a field more moves no
-- caller.
-- buffers: the two lent buffers, the matrix and the marks of its rows, as one
-- other_entry: the entry in column c of the row that starts at t, and 0 of the pivot row, which starts at q
-- Fits: the buffers hold R rows of W entries, at most 64, and R marks
-- Ready: besides, p is a prime and every entry is below it
-- ColumnCleared, RowUsed, Reduction: what clear_column, use_row and reduce leave, and the number n of their subtractions
use Rattle.std.specs.Prelude.{ℕ, ◌+◌, ◌*◌, ◌≤◌, ◌≡◌, List, eqb, length}
use Rattle.base.specs.Choice.{pick}
use Rattle.base.specs.Matrix.{entry, Below}
use Rattle.field.specs.Prime.{Prime}
use Rattle.field.specs.Dot.{at}
use Rattle.gauss.specs.Gauss.{others}
use Rattle.elimination.specs.Elimination.{clear_to, Flat, flat_use, flat_reduce, flat_steps}

abbrev pub buffers : List ℕ → List ℕ → Flat
buffers a u = record { mat = a; used = u }

abbrev pub other_entry : List ℕ → (t q c : ℕ) → ℕ
other_entry a t q c = pick (eqb t q) 0 (at a (t + c))

pub record Fits (R W : ℕ) (a u : List ℕ) : Type 0 where
  pub size : length a ≡ R * W
  pub marks : length u ≡ R
  pub narrow : W ≤ 64

pub record Ready (p R W : ℕ) (a u : List ℕ) : Type 0 where
  pub fits : Fits R W a u
  pub prime : Prime p
  pub below : Below p a

pub record ColumnCleared (p R W k c : ℕ) (a b : List ℕ) (n : ℕ) : Type 0 where
  pub matrix : b ≡ clear_to p W k c R a
  pub steps : n ≡ others R k (λ i. entry W a i c)

pub record RowUsed (p R W k c : ℕ) (a u b v : List ℕ) (n : ℕ) : Type 0 where
  pub state : buffers b v ≡ flat_use p R W k c (buffers a u)
  pub steps : n ≡ others R k (λ i. entry W a i c)

pub record Reduction (p R W C : ℕ) (a u b v : List ℕ) (n : ℕ) : Type 0 where
  pub state : buffers b v ≡ flat_reduce p R W C (buffers a u)
  pub steps : n ≡ flat_steps p R W C (buffers a u)
