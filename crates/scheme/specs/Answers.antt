-- What the calls answer, as document 01 has it: the refusal's number (0: none) and the values beside it; and for each case of each answer type
-- of the code, `paper`, the number and values that document 01 has for it.
-- accepts, rejects: a verdict as a record has it, 1 or 0, and after 0 the holder named
-- rejects_map: a rejection that names no holder, for only the check of the map fails
-- kept, aborted: an outcome in the same way
-- fair, disagree: a rehearsal in the same way, with the pair
-- is_a_row, is_a_vector, is_neither: the judgement of a set, 1, 2 or 0, then its row steps
-- yes, no: a question's answer
-- undetermined, inconsistent: refusal 6 with the lowest position that has no row, refusal 7
use Rattle.std.specs.Prelude.{false, true, Bool, [], ◌∷◌, ℕ, Result, Ok, Err}
use Rattle.base.specs.Rules.{Answer, refused, given}
use Rattle.base.specs.declared.Refusal.{Refusal}
use Rattle.base.specs.Refusals.{number, answer_of}
use Rattle.scheme.specs.declared.Share.{Share}
use Rattle.scheme.specs.declared.Judgement.{Judgement}
use Rattle.scheme.specs.declared.Judgement.TheVariants.{Accept, Reject, RejectMap}
use Rattle.scheme.specs.declared.Fate.{Fate}
use Rattle.scheme.specs.declared.Fate.TheVariants.{Kept, Aborted}
use Rattle.scheme.specs.declared.Rehearsal.{Rehearsal}
use Rattle.scheme.specs.declared.Rehearsal.TheVariants.{Fair, Disagree}
use Rattle.scheme.specs.declared.SetJudgement.{SetJudgement}
use Rattle.scheme.specs.declared.SetJudgement.TheVariants.{Row, Vector, Neither}
use Rattle.scheme.specs.declared.NotOpened.{NotOpened}
use Rattle.scheme.specs.declared.NotOpened.TheVariants as opened

abbrev pub accepts : Answer
accepts = given (1 ∷ [])

abbrev pub rejects : ℕ → Answer
rejects j = given (0 ∷ j ∷ [])

abbrev pub rejects_map : Answer
rejects_map = given (0 ∷ [])

abbrev pub kept : Answer
kept = given (1 ∷ [])

abbrev pub aborted : ℕ → Answer
aborted i = given (0 ∷ i ∷ [])

abbrev pub fair : Answer
fair = given (1 ∷ [])

abbrev pub disagree : ℕ → ℕ → Answer
disagree i j = given (0 ∷ i ∷ j ∷ [])

abbrev pub is_a_row : ℕ → Answer
is_a_row k = given (1 ∷ k ∷ [])

abbrev pub is_a_vector : ℕ → Answer
is_a_vector k = given (2 ∷ k ∷ [])

abbrev pub is_neither : ℕ → Answer
is_neither k = given (0 ∷ k ∷ [])

abbrev pub yes : Answer
yes = given (1 ∷ [])

abbrev pub no : Answer
no = given (0 ∷ [])

abbrev pub undetermined : ℕ → Answer
undetermined k = record { answered = false; number = 6; values = k ∷ [] }

abbrev pub inconsistent : Answer
inconsistent = refused 7

-- THE CASES OF THE CODE'S ANSWERS
-- a call that writes buffers only
abbrev pub paper_written : {A : Type 0} → Result A Refusal → Answer
paper_written r = answer_of (λ x. []) r

abbrev pub paper_value : Result ℕ Refusal → Answer
paper_value r = answer_of (λ x. x ∷ []) r

-- a share as its value and its round
abbrev pub paper_share : Result Share Refusal → Answer
paper_share r = answer_of (λ (x : Share). x.value ∷ x.round ∷ []) r

abbrev pub paper_judgement : Judgement → Answer
paper_judgement Accept = accepts
paper_judgement (Reject j) = rejects j
paper_judgement RejectMap = rejects_map

abbrev pub paper_judged : Result Judgement Refusal → Answer
paper_judged (Ok j) = paper_judgement j
paper_judged (Err k) = refused (number k)

abbrev pub paper_fate : Fate → Answer
paper_fate Kept = kept
paper_fate (Aborted i) = aborted i

abbrev pub paper_settled : Result Fate Refusal → Answer
paper_settled (Ok f) = paper_fate f
paper_settled (Err k) = refused (number k)

abbrev pub paper_rehearsed : Rehearsal → Answer
paper_rehearsed Fair = fair
paper_rehearsed (Disagree i j) = disagree i j

abbrev pub paper_rehearsal : Result Rehearsal Refusal → Answer
paper_rehearsal (Ok x) = paper_rehearsed x
paper_rehearsal (Err k) = refused (number k)

abbrev pub paper_set_judgement : SetJudgement → Answer
paper_set_judgement (Row k) = is_a_row k
paper_set_judgement (Vector k) = is_a_vector k
paper_set_judgement (Neither k) = is_neither k

abbrev pub paper_set_judged : Result SetJudgement Refusal → Answer
paper_set_judged (Ok x) = paper_set_judgement x
paper_set_judged (Err k) = refused (number k)

abbrev pub paper_decided : Result Bool Refusal → Answer
paper_decided (Ok true) = yes
paper_decided (Ok false) = no
paper_decided (Err k) = refused (number k)

abbrev pub paper_opened : {A : Type 0} → Result A NotOpened → Answer
paper_opened (Ok x) = given []
paper_opened (Err (opened.Undetermined k)) = undetermined k
paper_opened (Err opened.Inconsistent) = inconsistent
paper_opened (Err (opened.Refused k)) = refused (number k)
