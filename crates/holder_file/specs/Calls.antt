-- The two open calls on a holder's file of at most 4,096 bytes. A file that breaks document 01 is a refusal of its call, with the byte beside the number as 6 has its
-- position.
-- at_byte: a refusal at a byte
-- file_answer, file_left: the answer and a lent buffer by what is read
-- holderFileRules, holder_file_call, holder_file_left: the text into a lent buffer of 512 bytes; it stands at its start, and what is behind it stays
-- judged, settled: the verdict and the outcome as two numbers each, 1 and 0, or 0 and the holder named; `reject map` as 0 and 65535, which is no holder
-- kind_number: 2 for a zero dealing's file, 1 for one with a DF, 0 for one without
-- numbers: what a file tells, as 27 numbers: p, ℓ, e, n, dealing number, holder, verdict, outcome, eight shares, its kind, eight shares of the second dealing
-- fileContentsRules, file_contents_call, file_contents_left: those numbers into a lent buffer
use Rattle.std.specs.Prelude.{Bool, false, not, List, [], ◌∷◌, ◌++◌, ℕ, Result, Ok, Err, eqb, ltb, length, drop}
use Rattle.base.specs.Choice.{pick}
use Rattle.base.specs.Rules.{Rule, ◌when◌, refusal, Answer, refused, given, answer_by, left_by}
use Rattle.scheme.specs.declared.Judgement.{Judgement}
use Rattle.scheme.specs.declared.Judgement.TheVariants.{Accept, Reject, RejectMap}
use Rattle.scheme.specs.declared.Fate.{Fate}
use Rattle.scheme.specs.declared.Fate.TheVariants.{Kept, Aborted}
use Rattle.file_reading.specs.declared.Told.{Told}
use Rattle.file_reading.specs.Contents.{Contents}
use Rattle.file_reading.specs.File.{FileRead, refused_at, whole, read_file, told}
use Rattle.holder_file.specs.declared.FileRefusal.{FileRefusal}
use Rattle.holder_file.specs.declared.FileRefusal.TheVariants.{At, Lent}
use Rattle.base.specs.Refusals.{number}
use Rattle.holder_file.specs.Text.{text_of}

abbrev pub at_byte : ℕ → ℕ → Answer
at_byte k byte = record { answered = false; number = k; values = byte ∷ [] }

abbrev pub file_answer : (Contents → List ℕ) → FileRead → Answer
file_answer values (refused_at k byte) = at_byte k byte
file_answer values (whole C) = given (values C)

abbrev pub file_left : (Contents → List ℕ) → FileRead → List ℕ → List ℕ
file_left new (refused_at k byte) old = old
file_left new (whole C) old = new C

-- "3: a lent length isn't the one needed"; "It reads at most 4,096 bytes"
abbrev pub lent_file : List ℕ → List ℕ → ℕ → List Rule
lent_file s out needed = (3 when ltb 4096 (length s)) ∷ (3 when not (eqb (length out) needed)) ∷ []

-- THE TEXT
abbrev pub holder_file_call : List ℕ → List ℕ → Answer
holder_file_call s out = answer_by (refusal (lent_file s out 512)) (file_answer (λ C. length (text_of C) ∷ []) (read_file s))

abbrev pub holder_file_left : List ℕ → List ℕ → List ℕ
holder_file_left s out = left_by (refusal (lent_file s out 512)) (file_left (λ C. text_of C ++ drop (length (text_of C)) out) (read_file s) out) out

abbrev pub paper_printing : Result ℕ FileRefusal → Answer
paper_printing (Ok n) = given (n ∷ [])
paper_printing (Err (At k byte)) = at_byte (number k) byte
paper_printing (Err (Lent k)) = refused (number k)

-- THE CONTENTS
abbrev pub judged : Judgement → List ℕ
judged Accept = 1 ∷ 0 ∷ []
judged (Reject j) = 0 ∷ j ∷ []
judged RejectMap = 0 ∷ 65535 ∷ []

abbrev pub settled : Fate → List ℕ
settled Kept = 1 ∷ 0 ∷ []
settled (Aborted i) = 0 ∷ i ∷ []

abbrev pub kind_number : (mapped zero : Bool) → ℕ
kind_number mapped zero = pick zero 2 (pick mapped 1 0)

abbrev pub numbers : Told → List ℕ
numbers t =
    t.setup.p ∷ t.setup.l ∷ t.setup.e ∷ t.setup.n ∷ t.dealing ∷ t.holder
    ∷ judged t.outcome.judgement ++ (settled t.outcome.fate ++ (t.shares ++ (kind_number t.mapped t.zero ∷ t.shares2)))

abbrev pub file_contents_call : List ℕ → List ℕ → Answer
file_contents_call s out = answer_by (refusal (lent_file s out 27)) (file_answer (λ C. []) (read_file s))

abbrev pub file_contents_left : List ℕ → List ℕ → List ℕ
file_contents_left s out = left_by (refusal (lent_file s out 27)) (file_left (λ C. numbers (told C)) (read_file s) out) out

abbrev pub paper_given : {A : Type 0} → Result A FileRefusal → Answer
paper_given (Ok x) = given []
paper_given (Err (At k byte)) = at_byte (number k) byte
paper_given (Err (Lent k)) = refused (number k)
