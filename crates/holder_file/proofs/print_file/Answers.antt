-- The call's answer decides: its text stands in the buffer already; the line of a refusal is printed from the number and the byte.
use Prim.Native.Nat.{ℕ}
use mathlib.Core.List.{List, [], ◌∷◌}
use mathlib.Core.Path.{◌≡◌, refl, sym, ap, ◌∙◌}
use native.Mathlib.Omega.{arith}
use lib.ListN.{length}
use Rattle.base.specs.Rules.{refusal}
use Rattle.file_text.specs.Lines.{refused_text}
use Rattle.file_reading.specs.File.{read_file}
use Rattle.holder_file.specs.Text.{text_of, line_of}
use Rattle.holder_file.specs.Calls.{file_answer, lent_file, paper_printing}
use Rattle.holder_file.proofs.Laws.{lent_ok, refused-left, at-answer, inside, never-plain, printed-as, printed-on, bytes-answer}
use Rattle.holder_file.proofs.print_file.Goals as goal

-- nothing that is lent is refused

pub overflow_cast-byte : goal.overflow_cast-byte
overflow_cast-byte c =
    let file : List ℕ = c.args.file.now in
    let buffer : List ℕ = c.args.out.now in
    let fair : refusal (lent_file file buffer 512) ≡ 0 = lent_ok file buffer 512 c.requires.0 c.requires.1 in
    let answered : paper_printing c.holder_file.result ≡ file_answer (λ C. length (text_of C) ∷ []) (read_file file) = c.holder_file.ensures.answer ∙ rw fair refl in
    omega (arith, c.requires.0, inside file _ _ (at-answer _ (read_file file) _ _ ((rw c.in-Err-At.field-0-is at (rw c.in-Err-At.is at answered)))))

pub returns-in-Ok : goal.returns-in-Ok
returns-in-Ok c =
    let file : List ℕ = c.args.file.now in
    let buffer : List ℕ = c.args.out.now in
    let fair : refusal (lent_file file buffer 512) ≡ 0 = lent_ok file buffer 512 c.requires.0 c.requires.1 in
    let answered : paper_printing c.holder_file.result ≡ file_answer (λ C. length (text_of C) ∷ []) (read_file file) = c.holder_file.ensures.answer ∙ rw fair refl in
    bytes-answer (read_file file) _ buffer _ (rw c.in-Ok.is at answered) (c.holder_file.ensures.buffer ∙ rw fair refl)

pub returns-in-Err-At : goal.returns-in-Err-At
returns-in-Err-At c =
    let file : List ℕ = c.args.file.now in
    let buffer : List ℕ = c.args.out.now in
    let fair : refusal (lent_file file buffer 512) ≡ 0 = lent_ok file buffer 512 c.requires.0 c.requires.1 in
    let answered : paper_printing c.holder_file.result ≡ file_answer (λ C. length (text_of C) ∷ []) (read_file file) = c.holder_file.ensures.answer ∙ rw fair refl in
    let f = at-answer _ (read_file file) _ _ ((rw c.in-Err-At.field-0-is at (rw c.in-Err-At.is at answered))) in
    printed-on (c.holder_file.ensures.buffer ∙ rw fair (sym (refused-left _ (read_file file) _ _ buffer f)))
    (printed-as (ap (λ (k : ℕ). refused_text k c.in-Err-At.byte) c.number.ensures ∙ ap line_of (sym f)) c.print_refusal.ensures)

pub returns-in-Err-Lent : goal.returns-in-Err-Lent
returns-in-Err-Lent c =
    let file : List ℕ = c.args.file.now in
    let buffer : List ℕ = c.args.out.now in
    let fair : refusal (lent_file file buffer 512) ≡ 0 = lent_ok file buffer 512 c.requires.0 c.requires.1 in
    let answered : paper_printing c.holder_file.result ≡ file_answer (λ C. length (text_of C) ∷ []) (read_file file) = c.holder_file.ensures.answer ∙ rw fair refl in
    absurd (never-plain (read_file file) _ (rw c.in-Err-Lent.field-0-is at (rw c.in-Err-Lent.is at answered)))
