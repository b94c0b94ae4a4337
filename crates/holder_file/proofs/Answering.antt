-- The calls on a holder's file answer where it is read to its end, and say so exactly where their number is 0: no file is refused by 0. A file on which they answer has
-- contents.
use mathlib.Core.Path.{◌≡◌, refl, sym, ap, ◌∙◌}
use mathlib.Core.Bool.{false≢true}
use mathlib.Core.List.{List, [], ◌∷◌}
use Prim.Native.Nat.{ℕ, ◌≤◌}
use borrow.Author.Tests.{ne_eqb}
use lib.ListN.{length}
use Rattle.base.specs.Rules.{refusal, Answer, given, answer_by}
use Rattle.base.proofs.Rules.{not-refused}
use Rattle.scheme.specs.Answering.{Marked, Answers}
use Rattle.scheme.proofs.Answering.{marked_by}
use Rattle.record_words.specs.Words.{Bytes}
use Rattle.record_layouts.proofs.Answering.{answers_by}
use Rattle.file_reading.specs.Contents.{Contents}
use Rattle.file_reading.specs.File.{FileRead, refused_at, whole, read_file, number_of}
use Rattle.file_reading.proofs.Steps.{not-whole}
use Rattle.file_reading.proofs.Whole.{HasContents, file-some}
use Rattle.file_reading.proofs.Sound.{follows}
use Rattle.holder_file.specs.Text.{text_of}
use Rattle.holder_file.specs.Calls.{file_answer, lent_file}
use Rattle.holder_file.specs.Answering.{FilesMarked, FilesAnswering, IsWritten, FilesWritten}
use Rattle.holder_file.proofs.Laws.{lent_ok, whole-answer}

file-marked : (values : Contents → List ℕ) (x : FileRead) → (number_of x ≡ 0 → HasContents x) → Marked (file_answer values x)
file-marked values (refused_at k byte) some = sym (ne_eqb k 0 (λ z. let h = some z in not-whole k byte h.contents h.is))
file-marked values (whole C) some = refl

pub files-marked : FilesMarked
files-marked =
    record {
      text = λ s out. marked_by (refusal (lent_file s out 512)) _ (file-marked (λ C. length (text_of C) ∷ []) (read_file s) (file-some s));
      contents = λ s out. marked_by (refusal (lent_file s out 27)) _ (file-marked (λ C. []) (read_file s) (file-some s));
    }

file-answers : (s out : List ℕ) (n : ℕ) (values : Contents → List ℕ) (C : Contents) → length s ≤ 4096 → length out ≡ n → read_file s ≡ whole C
    → Answers (answer_by (refusal (lent_file s out n)) (file_answer values (read_file s)))
file-answers s out n values C l e w =
    ap (λ (a : Answer). (answer_by (refusal (lent_file s out n)) a).answered) (sym (whole-answer values (read_file s) C w))
    ∙ answers_by (refusal (lent_file s out n)) (values C) (lent_ok s out n l e)

pub files-answering : FilesAnswering
files-answering =
    record {
      text = λ s out C l e w. file-answers s out 512 (λ C. length (text_of C) ∷ []) C l e w;
      contents = λ s out C l e w. file-answers s out 27 (λ C. []) C l e w;
    }

is_whole : (values : Contents → List ℕ) (x : FileRead) (vs : List ℕ) → file_answer values x ≡ given vs → HasContents x
is_whole values (refused_at k byte) vs e = absurd (false≢true (ap (λ (a : Answer). a.answered) e))
is_whole values (whole C) vs e = record { contents = C; is = refl }

file-written : (s out : List ℕ) (n : ℕ) (values : Contents → List ℕ) (vs : List ℕ) → Bytes s
    → answer_by (refusal (lent_file s out n)) (file_answer values (read_file s)) ≡ given vs → IsWritten s
file-written s out n values vs b e =
    let w = is_whole values (read_file s) vs (not-refused (refusal (lent_file s out n)) _ vs e).1 in
    record { contents = w.contents; read = w.is; written = follows.written s w.contents b w.is }

pub files-written : FilesWritten
files-written =
    record {
      text = λ s out vs b e. file-written s out 512 (λ C. length (text_of C) ∷ []) vs b e;
      contents = λ s out vs b e. file-written s out 27 (λ C. []) vs b e;
    }
