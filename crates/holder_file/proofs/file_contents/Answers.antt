-- A refused file leaves the buffer; else the numbers fill it.
-- what is lent, and its refusal
use Prim.Native.Nat.{ℕ}
use mathlib.Core.List.{List, []}
use mathlib.Core.Path.{◌≡◌, refl, sym, ap, ◌∙◌}
use native.Mathlib.Omega.{arith}
use Rattle.base.specs.Rules.{refusal}
use borrow.Author.Rules.{rules}
use Rattle.base.proofs.Refusals.{above_zero}
use Rattle.base.proofs.Rules.{accepted, written}
use Rattle.file_reading.specs.File.{read_file, told}
use Rattle.holder_file.specs.Calls.{lent_file, numbers}
use Rattle.holder_file.proofs.Laws.{lent-means, lent-declined, file-declined, whole-answer, whole-left, told-fits, copied}
use Rattle.holder_file.proofs.file_contents.Goals as goal

pub returns-in_err-check_lent : goal.returns-in_err-check_lent
returns-in_err-check_lent c =
    let file : List ℕ = c.args.file.now in
    let buffer : List ℕ = c.args.contents.now in
    let both = lent-declined file buffer 27 (λ D. []) (λ D. numbers (told D)) _ (c.in_err-check_lent.ensures buffer refl) (above_zero c.in_err-check_lent.field-0.0) in
    let answer = both.0 in
    let left = both.1 in
    search rules

pub read_file-requires : goal.read_file-requires
read_file-requires c =
    let file : List ℕ = c.args.file.now in
    let buffer : List ℕ = c.args.contents.now in
    let declines : ℕ = refusal (lent_file file buffer 27) in
    let fair : declines ≡ 0 = sym (c.in_ok-check_lent.ensures buffer refl) in
    (lent-means file buffer 27 fair).0

pub returns-in_err-told : goal.returns-in_err-told
returns-in_err-told c =
    let file : List ℕ = c.args.file.now in
    let buffer : List ℕ = c.args.contents.now in
    let both = file-declined file buffer 27 (λ D. []) (λ D. numbers (told D)) _ (c.in_ok-check_lent.ensures buffer refl) c.in_err-told.ensures in
    let answer = both.0 in
    let left = both.1 in
    search rules

-- a file that was read to its end

pub tell_numbers-all-requires : goal.tell_numbers-all-requires
tell_numbers-all-requires c =
    let file : List ℕ = c.args.file.now in
    (told-fits file _ c.in_ok-told.ensures).1

pub slice_bounds-copy-end : goal.slice_bounds-copy-end
slice_bounds-copy-end c = sym c.tell_numbers-all.ensures.1

pub copy-requires : goal.copy-requires
copy-requires c =
    let file : List ℕ = c.args.file.now in
    let buffer : List ℕ = c.args.contents.now in
    let declines : ℕ = refusal (lent_file file buffer 27) in
    let fair : declines ≡ 0 = sym (c.in_ok-check_lent.ensures buffer refl) in
    (omega (arith, (lent-means file buffer 27 fair).1), omega (arith, c.tell_numbers-all.ensures.1))

pub returns : goal.returns
returns c =
    let file : List ℕ = c.args.file.now in
    let buffer : List ℕ = c.args.contents.now in
    let declines : ℕ = refusal (lent_file file buffer 27) in
    let fair : declines ≡ 0 = sym (c.in_ok-check_lent.ensures buffer refl) in
    let s = file in
    let z = fair in
    let C = c.in_ok-told.ensures in
    let n = c.tell_numbers-all in record {
      answer = whole-answer (λ D. []) (read_file s) C.contents C.is ∙ accepted declines _ z;
      buffer = written declines _ _ _ z
          (c.copy.ensures ∙ copied n.result buffer 27 n.ensures.1 (lent-means s buffer 27 z).1 ∙ n.ensures.0
          ∙ ap numbers C.same
          ∙ whole-left (λ D. numbers (told D)) (read_file s) C.contents buffer C.is);
    }
