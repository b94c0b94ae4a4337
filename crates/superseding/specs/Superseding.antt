-- Which of two share records counts (document 02, A9: "Drawers now hold two slips for one share"), and the call's refusals, answer and part.
-- superseding_faults: what is faulty in two records that each read well
-- superseding_rules, superseding_call: the call's table, and its answer: 1 for the first record, 2 for the second
-- later: the second record has the higher round
-- superseding_part, is_second: the part that the call returns, and whether it is the second record's
-- paper_superseding: document 02's number and values for each case of the answer
use Rattle.std.specs.Prelude.{Bool, not, ◌&&◌, List, [], ◌∷◌, ◌++◌, ℕ, Result, Ok, Err, eqb, ltb, take}
use Rattle.base.specs.Choice.{pick}
use Rattle.base.specs.Rules.{Rule, ◌when◌, refusal, Answer, refused, given, answer_by, left_by}
use Rattle.base.specs.declared.Refusal.{Refusal}
use Rattle.base.specs.Refusals.{number}
use Rattle.scheme.specs.Setup.{Setup}
use Rattle.scheme.specs.Calls.{table}
use Rattle.record_layouts.specs.declared.ShareRecord.{ShareRecord}
use Rattle.record_layouts.specs.Records.{standing_rules, share_layout, share_size, share_at}
use Rattle.superseding.specs.declared.Superseding.{Superseding}
use Rattle.superseding.specs.declared.Superseding.TheVariants.{First, Second}

-- "two lent SH records of the same dealing, holder and column"; "20, equal rounds and unequal values; 21, records of different shares or of combinations,
-- before 20". A combination has dealing 0, and a record that is none is of another share
abbrev pub superseding_faults : ShareRecord → ShareRecord → List Rule
superseding_faults x y =
    (21 when not (eqb x.dealing y.dealing)) ∷ (21 when not (eqb x.holder y.holder)) ∷ (21 when not (eqb x.column y.column))
    ∷ (21 when eqb x.dealing 0) ∷ (20 when eqb x.round y.round && not (eqb x.value y.value)) ∷ []

-- "both after the reader's refusals, which come record by record as in a file"
abbrev pub superseding_rules : Setup → List ℕ → List ℕ → List Rule
superseding_rules S a b =
    table S [] (standing_rules share_layout S a ++ (standing_rules share_layout S b ++ superseding_faults (share_at a) (share_at b)))

-- "the one with the higher round supersedes"; "With equal rounds and values it is the first"
abbrev pub later : ShareRecord → ShareRecord → Bool
later x y = ltb x.round y.round

-- "a call beside it gives the number, 0 if there is none"
abbrev pub superseding_call : Setup → List ℕ → List ℕ → Answer
superseding_call S a b = answer_by (refusal (superseding_rules S a b)) (given (pick (later (share_at a) (share_at b)) 2 1 ∷ []))

-- "the answer is that record's own bytes in the caller's buffer"; "A refusal gives an empty part": of the first, where it begins
abbrev pub is_second : Setup → List ℕ → List ℕ → Bool
is_second S a b = eqb (refusal (superseding_rules S a b)) 0 && later (share_at a) (share_at b)

abbrev pub superseding_part : Setup → List ℕ → List ℕ → List ℕ
superseding_part S a b = left_by (refusal (superseding_rules S a b)) (take share_size (pick (is_second S a b) b a)) []

abbrev pub paper_superseding : Result Superseding Refusal → Answer
paper_superseding (Ok First) = given (1 ∷ [])
paper_superseding (Ok Second) = given (2 ∷ [])
paper_superseding (Err k) = refused (number k)
