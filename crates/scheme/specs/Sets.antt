-- Sets of holders, reconstruction rows and sweeping vectors (document 01, "Sets and openings").
-- holds: holder i is in the set s, "a 32-bit number whose bit i stands for holder i"
-- members: the holders below n that pass, by rising holder
-- is_row, has_row: a reconstruction row, and whether there is one
-- dependent: the row of M of the member at place a is a combination of those of lower members
-- is_one_row, one_row: the one reconstruction row that is 0 at those members, and the search for it
-- is_sweep, has_sweep: a sweeping vector, and whether there is one
-- across: in a matrix m of rows of d entries, the rows of the members ms written as columns, with e_q beside them
-- row_steps: the row steps of the elimination on them
-- kind: the judgement of a set at a position
-- determines, is_private: the two questions
-- Sets enter as tests on holders, so that a part of a set needs no number.
use Rattle.std.specs.Prelude.{Bool, true, false, not, ◌&&◌, ◌||◌, List, [], ◌∷◌, ℕ, zero, suc, ◌/◌, ◌%◌, ◌^◌, eqb, ltb, length}
use Rattle.std.proofs.Math.Option.{Option, none, some}
use Rattle.base.specs.Choice.{pick}
use Rattle.base.specs.Rules.{Answer}
use Rattle.base.specs.Matrix.{entry}
use Rattle.base.specs.Sum.{unit}
use Rattle.base.specs.Search.{every, first_vec}
use Rattle.field.specs.Dot.{at, dot}
use Rattle.gauss.specs.Gauss.{start, steps}
use Rattle.scheme.specs.Setup.{Setup, dim, row}
use Rattle.scheme.specs.Answers.{is_a_row, is_a_vector, is_neither}

abbrev pub holds : ℕ → ℕ → Bool
holds s i = eqb (s / 2 ^ i % 2) 1

abbrev pub cons_if : Bool → ℕ → List ℕ → List ℕ
cons_if true i xs = i ∷ xs
cons_if false i xs = xs

unfoldable pub members_from : (ℕ → Bool) → ℕ → ℕ → List ℕ
members_from X i zero = []
members_from X i (suc k) = cons_if (X i) i (members_from X (suc i) k)

unfoldable pub members : ℕ → (ℕ → Bool) → List ℕ
members n X = members_from X 0 n

-- the row of M of the member at place a of the list ms
abbrev pub row_at : Setup → List ℕ → ℕ → ℕ → ℕ
row_at S ms a = row S (at ms a)

-- "A reconstruction row for a position and a set has one entry per member; applied to the members' rows of M it gives 1 at that position and 0
-- at the other d − 1"
unfoldable pub is_row : Setup → List ℕ → ℕ → List ℕ → Bool
is_row S ms q r = every (dim S) (λ c. eqb (dot (length ms) (at r) (λ a. row_at S ms a c) % S.p) (unit q c))

unfoldable pub find_row : Setup → (ℕ → Bool) → ℕ → Option (List ℕ)
find_row S X q = first_vec S.p (length (members S.n X)) (is_row S (members S.n X) q)

abbrev pub is_there : Option (List ℕ) → Bool
is_there none = false
is_there (some v) = true

unfoldable pub has_row : Setup → (ℕ → Bool) → ℕ → Bool
has_row S X q = is_there (find_row S X q)

-- document 02, A6: "each holder whose matrix row is a combination of those of lower members": some coefficients y of the members before place a give its row
unfoldable pub dependent : Setup → List ℕ → ℕ → Bool
dependent S ms a = is_there (first_vec S.p a (λ y. every (dim S) (λ c. eqb (dot a (at y) (λ b. row_at S ms b c) % S.p) (row_at S ms a c % S.p))))

-- "The row is now the one that gives 0 to each" such holder
unfoldable pub is_one_row : Setup → List ℕ → ℕ → List ℕ → Bool
is_one_row S ms q r = is_row S ms q r && every (length ms) (λ a. not (dependent S ms a) || eqb (at r a) 0)

unfoldable pub one_row : Setup → (ℕ → Bool) → ℕ → Option (List ℕ)
one_row S X q = first_vec S.p (length (members S.n X)) (is_one_row S (members S.n X) q)

-- "A sweeping vector has d entries, 0 at every member's row, and among its first ℓ entries 1 at that position and 0 elsewhere"
unfoldable pub is_sweep : Setup → List ℕ → ℕ → List ℕ → Bool
is_sweep S ms q w =
    every (length ms) (λ a. eqb (dot (dim S) (row_at S ms a) (at w) % S.p) 0)
    && every S.l (λ c. eqb (at w c) (unit q c))

unfoldable pub find_sweep : Setup → (ℕ → Bool) → ℕ → Option (List ℕ)
find_sweep S X q = first_vec S.p (dim S) (is_sweep S (members S.n X) q)

unfoldable pub has_sweep : Setup → (ℕ → Bool) → ℕ → Bool
has_sweep S X q = is_there (find_sweep S X q)

-- document 02, A6: "elimination on the members' rows written as columns: columns by rising holder"; d rows, and behind the members' columns the unit vector e_q
unfoldable pub across : ℕ → List ℕ → List ℕ → ℕ → ℕ → ℕ → ℕ
across d m ms q c a = pick (ltb a (length ms)) (entry d m (at ms a) c) (unit q c)

unfoldable pub row_steps : Setup → (ℕ → Bool) → ℕ → ℕ
row_steps S X q = let ms = members S.n X in steps S.p (dim S) (length ms) (start S.p (across (dim S) S.M ms q))

-- "The judgement of a set at a position below ℓ answers row, vector or neither, each exactly when that is the fact"; document 02, A6: "The judgement also gives
-- the number of row steps"
unfoldable pub kind : Setup → (ℕ → Bool) → ℕ → Answer
kind S X q = let k = row_steps S X q in pick (has_row S X q) (is_a_row k) (pick (has_sweep S X q) (is_a_vector k) (is_neither k))

-- "A set determines the secrets if every position below ℓ has a reconstruction row"
unfoldable pub determines : Setup → (ℕ → Bool) → Bool
determines S X = every S.l (has_row S X)

-- document 02, A5: "A set is now called private exactly if every position has a sweeping vector, as in source document 000", which has: "there exists, for
-- each position j in s, a sweeping vector"
unfoldable pub is_private : Setup → (ℕ → Bool) → Bool
is_private S X = every S.l (has_sweep S X)
