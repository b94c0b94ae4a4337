-- The whole of SetRows; and its hypotheses are met by all three holders of document 01's example, of whom the last depends on the two before it.
use mathlib.Core.Path.{◌≡◌, refl}
use mathlib.Core.Bool.{true}
use mathlib.Core.List.{List, [], ◌∷◌}
use Prim.Native.Nat.{ℕ, zero, suc}
use native.Mathlib.Omega.{arith}
use Rattle.base.specs.Choice.{pick}
use Rattle.base.specs.Rules.{Answer, refusal, answer_by}
use Rattle.base.specs.Sum.{sum, bit, unit}
use Rattle.base.specs.Search.{every, first, first_from, first_of, first_vec}
use Rattle.base.specs.Fill.{tab, tab_from}
use Rattle.base.specs.Matrix.{all_below, all_are}
use Rattle.base.proofs.Choice.{picked}
use Rattle.field.specs.Prime.{inverse_of}
use Rattle.field.specs.Fields.{is_field}
use Rattle.field.specs.Dot.{at, dot}
use Rattle.field.proofs.Prime.{prime-7}
use Rattle.polynomial.specs.Polynomial.{point, lagrange, basis, minus}
use Rattle.scheme.specs.Setup.{Setup}
use Rattle.scheme.specs.Answers.{is_a_row, is_a_vector, is_neither}
use Rattle.scheme.specs.Points.{points_matrix}
use Rattle.scheme.specs.PointSets.{OnPoints}
use Rattle.scheme.specs.Sets.{holds, members, members_from, is_row, find_row, has_row, has_sweep, row_steps, kind, determines}
use Rattle.scheme.specs.Calls.{judge_set_rules, judge_set_call}
use Rattle.scheme.specs.Opening.{gives, opening}
use Rattle.scheme.proofs.Cases.{ex}
use Rattle.set_rows.specs.SetRows.{ExactlyOne, Applied, SetRows}
use Rattle.set_rows.proofs.OneRow.{exactly-one}
use Rattle.set_rows.proofs.Opened.{opening-applied, call-applied}
use Rattle.set_rows.proofs.PointSteps.{points-reach, steps-bounded}

steps-given : (S : Setup) (s q : ℕ) (out : List ℕ) → (judge_set_call S s q out).number ≡ 0 → at (judge_set_call S s q out).values 1 ≡ row_steps S (holds s) q
unfolding kind
steps-given S s q out = go (refusal (judge_set_rules S s q out))
  where
    k : ℕ
    k = row_steps S (holds s) q

    Gives : Answer → Type 0
    Gives a = at a.values 1 ≡ k

    go : (r : ℕ) → (answer_by r (kind S (holds s) q)).number ≡ 0 → Gives (answer_by r (kind S (holds s) q))
    go zero z =
        picked Gives (has_row S (holds s) q) (is_a_row k) (pick (has_sweep S (holds s) q) (is_a_vector k) (is_neither k)) refl
        (picked Gives (has_sweep S (holds s) q) (is_a_vector k) (is_neither k) refl refl)
    go (suc r) z = absurd (omega arith)

pub set-rows : SetRows
set-rows = record {
  exactly-one = λ S X q P l. exactly-one S X P q l;
  given = steps-given;
  bounded = steps-bounded;
  reached = points-reach;
  opened = opening-applied;
  opened-call = call-applied;
}

-- DOCUMENT 01'S EXAMPLE
on-points : OnPoints ex
unfolding tab tab_from inverse_of first first_from point lagrange basis minus points_matrix
on-points = record { matrix = refl; prime = prime-7; fits = omega arith }

has-row : has_row ex (holds 7) 0 ≡ true
unfolding sum bit unit every first_of first_vec dot members members_from is_row find_row has_row
has-row = refl

the_row : ExactlyOne ex (holds 7) 0
the_row = set-rows.exactly-one ex (holds 7) 0 prime-7 (omega arith) has-row

the-steps : row_steps ex (holds 7) 0 ≡ 2
unfolding members members_from
the-steps = set-rows.reached ex on-points (holds 7) 0

the-opening : Applied ex (holds 7) 0 (0 ∷ 2 ∷ 4 ∷ []) (3 ∷ [])
unfolding sum bit unit every first first_from first_of first_vec all_below all_are is_field dot members members_from is_row find_row has_row determines gives opening
the-opening = set-rows.opened-call ex 7 (0 ∷ 2 ∷ 4 ∷ []) (5 ∷ 5 ∷ 5 ∷ []) (0 ∷ []) refl 0 (omega arith)
