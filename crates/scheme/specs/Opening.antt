-- Openings and combinations (document 01, "Sets and openings"), and the rounds of shares (document 02, A8).
-- gives: the vector v gives every share, the shares by rising holder
-- opening: the secrets as values, or refusal 6 with the lowest position that has no row, or refusal 7
-- combine: the sum of the products of constants and shares
-- round_of: the round of shares that are combined; agree: their rounds are one
-- refresh: an old share and a zero share of the same column as one share
use Rattle.std.specs.Prelude.{Bool, not, List, [], ◌∷◌, ℕ, ◌+◌, ◌%◌, eqb, ltb, length, take}
use Rattle.std.proofs.Math.Option.{Option, none, some}
use Rattle.base.specs.Choice.{pick}
use Rattle.base.specs.Rules.{Answer, given}
use Rattle.base.specs.Search.{every, first, first_vec}
use Rattle.base.specs.Matrix.{all_are}
use Rattle.field.specs.Dot.{at, dot}
use Rattle.scheme.specs.Setup.{Setup, dim}
use Rattle.scheme.specs.Answers.{undetermined, inconsistent}
use Rattle.scheme.specs.Sets.{members, row_at, has_row}

unfoldable pub gives : Setup → List ℕ → List ℕ → List ℕ → Bool
gives S ms xs v = every (length ms) (λ a. eqb (dot (dim S) (row_at S ms a) (at v) % S.p) (at xs a))

-- "The ℓ secrets it writes are the first ℓ entries of any vector of d entries that gives every share"; "7: determined, but no vector gives all
-- the shares"
abbrev pub opened_by : ℕ → Option (List ℕ) → Answer
opened_by l none = inconsistent
opened_by l (some v) = given (take l v)

-- "6 and the lowest position with no row: the opening set doesn't determine the secrets"
unfoldable pub opening : Setup → (ℕ → Bool) → List ℕ → Answer
opening S X xs =
    let q = first (λ k. not (has_row S X k)) S.l in
    pick (ltb q S.l) (undetermined q) (opened_by S.l (first_vec S.p (dim S) (gives S (members S.n X) xs)))

-- "A combination takes constants and one holder's shares .. and gives the sum of their products"; the sum of none is 0
unfoldable pub combine : ℕ → List ℕ → List ℕ → ℕ
combine p cs xs = dot (length cs) (at cs) (at xs) % p

-- ROUNDS (document 02, A8). "a combination has the round of its shares, the empty one round 0"
abbrev pub round_of : List ℕ → ℕ
round_of [] = 0
round_of (r ∷ rs) = r

-- "Shares combined or opened together come with their rounds, which must agree"
abbrev pub agree : List ℕ → Bool
agree rs = all_are (round_of rs) rs

-- "Adding its column b to a dealing's column b moves those shares to the next round"
unfoldable pub refresh : ℕ → ℕ → ℕ → ℕ
refresh p x z = (x + z) % p
