-- The matrix of the board keys' setup as a table of numbers, worked out by computing the definition, and what it says of the code's columns.
-- key_table: the points matrix for p 257, d 7 and n 16, by rows, two to a line
use mathlib.Core.Path.{◌≡◌, refl, ap, ◌∙◌}
use mathlib.Core.List.{List, [], ◌∷◌}
use Prim.Native.Nat.{ℕ}
use native.Mathlib.Omega.{arith}
use Rattle.base.specs.Fill.{tab, tab_from}
use Rattle.base.specs.Search.{first, first_from}
use Rattle.base.specs.Matrix.{entry}
use Rattle.field.specs.Prime.{inverse_of}
use Rattle.field.proofs.Prime.{prime-257}
use Rattle.polynomial.specs.Polynomial.{minus, basis, lagrange, point}
use Rattle.scheme.specs.Points.{points_matrix}
use Rattle.scheme.proofs.Calls.{below-vec}
use Rattle.scheme.proofs.Points.{points-vec}
use Rattle.key_parts.specs.Inner.{Halves, matrix_entry, parts_g, parts_h}
use Rattle.key_parts.proofs.Columns.{columns_of, halves_are, matrix-is}
use Rattle.key_parts.proofs.Parts.{parts-g, parts-h}

abbrev pub key_table : List ℕ
key_table =
    1 ∷ 250 ∷ 21 ∷ 222 ∷ 35 ∷ 236 ∷ 7 ∷ 7 ∷ 209 ∷ 140 ∷ 33 ∷ 210 ∷ 145 ∷ 28 ∷
    28 ∷ 68 ∷ 26 ∷ 188 ∷ 242 ∷ 136 ∷ 84 ∷ 84 ∷ 211 ∷ 33 ∷ 170 ∷ 44 ∷ 20 ∷ 210 ∷
    210 ∷ 156 ∷ 252 ∷ 136 ∷ 67 ∷ 3 ∷ 205 ∷ 205 ∷ 60 ∷ 92 ∷ 16 ∷ 115 ∷ 131 ∷ 153 ∷
    153 ∷ 162 ∷ 189 ∷ 134 ∷ 231 ∷ 243 ∷ 174 ∷ 174 ∷ 220 ∷ 218 ∷ 10 ∷ 56 ∷ 175 ∷ 176 ∷
    176 ∷ 227 ∷ 61 ∷ 226 ∷ 2 ∷ 215 ∷ 122 ∷ 122 ∷ 93 ∷ 219 ∷ 160 ∷ 127 ∷ 10 ∷ 41 ∷
    41 ∷ 92 ∷ 183 ∷ 69 ∷ 53 ∷ 37 ∷ 40 ∷ 40 ∷ 18 ∷ 161 ∷ 68 ∷ 184 ∷ 241 ∷ 60 ∷
    60 ∷ 134 ∷ 250 ∷ 117 ∷ 112 ∷ 209 ∷ 147 ∷ 147 ∷ 59 ∷ 137 ∷ 245 ∷ 122 ∷ 109 ∷ 210 ∷
    210 ∷ 219 ∷ 100 ∷ 240 ∷ 142 ∷ 81 ∷ 37 ∷ 37 ∷ 208 ∷ 225 ∷ 90 ∷ 250 ∷ 136 ∷ 83 ∷ []

pub key-table : key_table ≡ points_matrix 257 7 16
unfolding points_matrix tab tab_from point lagrange basis minus inverse_of first first_from
key-table = refl

-- columns that are the table's are the matrix's: they are small, and the parts on them are the parts on the matrix
module _ (columns : List (List ℕ)) (are : columns ≡ columns_of key_table) where
  of-matrix : columns ≡ columns_of (points_matrix 257 7 16)
  of-matrix = are ∙ ap columns_of key-table

  pub key-halves : Halves columns
  key-halves =
      halves_are (points_matrix 257 7 16) columns of-matrix
      (below-vec 257 112 (points_matrix 257 7 16) (omega arith) (points-vec 257 prime-257 7 16 (omega arith)))

  pub key-parts-g : (key random : List ℕ) → parts_g (matrix_entry columns) key random ≡ parts_g (entry 7 (points_matrix 257 7 16)) key random
  key-parts-g key random =
      parts-g (matrix_entry columns) (entry 7 (points_matrix 257 7 16)) key random (matrix-is (points_matrix 257 7 16) columns of-matrix)

  pub key-parts-h : (key random : List ℕ) → parts_h (matrix_entry columns) key random ≡ parts_h (entry 7 (points_matrix 257 7 16)) key random
  key-parts-h key random =
      parts-h (matrix_entry columns) (entry 7 (points_matrix 257 7 16)) key random (matrix-is (points_matrix 257 7 16) columns of-matrix)
