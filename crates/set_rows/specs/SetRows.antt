-- What document 02, A6, says of the row of a set and of its row steps, for every prime p and every matrix, and for any set; proofs/ proves it.
-- ExactlyOne: there is a row that is 0 at each member whose matrix row is a combination of those of lower members, it is the only one, and the search for
-- it finds it
-- Applied: position q of an opening, with the values vs, is that row applied to the shares xs
-- SetRows: all that is said
use Rattle.std.specs.Prelude.{◌≡◌, Bool, true, List, ℕ, ◌-◌, ◌*◌, ◌%◌, ◌≤◌, ◌<◌, min, length}
use Rattle.std.proofs.Math.Option.{some}
use Rattle.base.specs.Search.{Vec}
use Rattle.field.specs.Prime.{Prime}
use Rattle.field.specs.Dot.{at, dot}
use Rattle.scheme.specs.Setup.{Setup, dim}
use Rattle.scheme.specs.Sets.{holds, members, has_row, is_one_row, one_row, row_steps}
use Rattle.scheme.specs.PointSets.{OnPoints}
use Rattle.scheme.specs.Opening.{opening}
use Rattle.scheme.specs.Calls.{judge_set_call, open_call, open_left}

pub record ExactlyOne (S : Setup) (X : ℕ → Bool) (q : ℕ) : Type 0 where
  pub row : List ℕ
  pub ok : Vec S.p (length (members S.n X)) row
  pub is : is_one_row S (members S.n X) q row ≡ true
  pub only : (r : List ℕ) → Vec S.p (length (members S.n X)) r → is_one_row S (members S.n X) q r ≡ true → r ≡ row
  pub found : one_row S X q ≡ some row

pub record Applied (S : Setup) (X : ℕ → Bool) (q : ℕ) (xs vs : List ℕ) : Type 0 where
  pub row : List ℕ
  pub one : one_row S X q ≡ some row
  pub gives : at vs q ≡ dot (length (members S.n X)) (at row) (at xs) % S.p

pub record SetRows : Type 0 where
  -- "One row for one set"
  pub exactly-one : (S : Setup) (X : ℕ → Bool) (q : ℕ) → Prime S.p → q < dim S → has_row S X q ≡ true → ExactlyOne S X q
  -- "The judgement also gives the number of row steps": whatever the call finds, and whatever it is handed
  pub given : (S : Setup) (s q : ℕ) (out : List ℕ) → (judge_set_call S s q out).number ≡ 0 → at (judge_set_call S s q out).values 1 ≡ row_steps S (holds s) q
  -- "at most the smaller of k and d, times d − 1, for k members"
  pub bounded : (S : Setup) (X : ℕ → Bool) (q : ℕ) → row_steps S X q ≤ min (length (members S.n X)) (dim S) * (dim S - 1)
  -- "and a points matrix reaches that number for every set"
  pub reached : (S : Setup) → OnPoints S → (X : ℕ → Bool) (q : ℕ) → row_steps S X q ≡ min (length (members S.n X)) (dim S) * (dim S - 1)
  -- "Openings follow": of every opening that is not refused, by its definition and by the call, whatever it is handed, in every round
  pub opened : (S : Setup) (s : ℕ) (xs : List ℕ) → Prime S.p → (opening S (holds s) xs).number ≡ 0 → (q : ℕ) → q < S.l
      → Applied S (holds s) q xs (opening S (holds s) xs).values
  pub opened-call : (S : Setup) (s : ℕ) (xs rs out : List ℕ) → (open_call S s xs rs out).number ≡ 0 → (q : ℕ) → q < S.l
      → Applied S (holds s) q xs (open_left S s xs rs out)
