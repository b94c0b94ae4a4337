-- A refused file leaves the buffer; else the text stands at its start and the rest of the buffer is as it was.
-- what is lent, and its refusal
use Prim.Native.Nat.{ℕ, ◌≤◌}
use mathlib.Core.List.{List, [], ◌∷◌, ◌++◌}
use mathlib.Core.Path.{◌≡◌, refl, sym, ap, ◌∙◌}
use native.Mathlib.Omega.{arith}
use lib.ListN.{length, take, drop}
use lib.Seq.{length-take-le}
use Rattle.base.specs.Rules.{refusal, given}
use borrow.Author.Rules.{rules}
use Rattle.base.proofs.Refusals.{above_zero}
use Rattle.base.proofs.Rules.{accepted, written}
use Rattle.base.proofs.Choice.{picked}
use Rattle.scheme.specs.Setup.{setup_of}
use Rattle.file_text.specs.Lines.{printed}
use Rattle.file_reading.specs.File.{read_file}
use Rattle.holder_file.specs.Text.{text_of}
use Rattle.holder_file.specs.Calls.{lent_file}
use Rattle.holder_file.proofs.Laws.{lent-means, lent-declined, file-declined, printed-left, printed-as, whole-answer, whole-left, told_text, told-fits}
use Rattle.holder_file.proofs.holder_file.Goals as goal

pub returns-in_err-check_lent : goal.returns-in_err-check_lent
returns-in_err-check_lent c =
    let file : List ℕ = c.args.file.now in
    let buffer : List ℕ = c.args.out.now in
    let both = lent-declined file buffer 512 (λ D. length (text_of D) ∷ []) (λ D. text_of D ++ drop (length (text_of D)) buffer) _ (c.in_err-check_lent.ensures buffer refl) (above_zero c.in_err-check_lent.field-0.0) in
    let answer = both.0 in
    let left = both.1 in
    search rules

pub read_file-requires : goal.read_file-requires
read_file-requires c =
    let file : List ℕ = c.args.file.now in
    let buffer : List ℕ = c.args.out.now in
    let declines : ℕ = refusal (lent_file file buffer 512) in
    let fair : declines ≡ 0 = sym (c.in_ok-check_lent.ensures buffer refl) in
    (lent-means file buffer 512 fair).0

pub returns-in_err-t : goal.returns-in_err-t
returns-in_err-t c =
    let file : List ℕ = c.args.file.now in
    let buffer : List ℕ = c.args.out.now in
    let both = file-declined file buffer 512 (λ D. length (text_of D) ∷ []) (λ D. text_of D ++ drop (length (text_of D)) buffer) _ (c.in_ok-check_lent.ensures buffer refl) c.in_err-t.ensures in
    let answer = both.0 in
    let left = both.1 in
    search rules

-- a file that was read to its end

-- how many lines the second dealing has

pub slice_bounds-shares-end : goal.slice_bounds-shares-end
slice_bounds-shares-end c =
    let file : List ℕ = c.args.file.now in
    let fits : let t = c.in_ok-t.t in (t.setup.l ≤ 8) × ((length t.shares ≡ 8) × (length t.shares2 ≡ 8)) = told-fits file _ c.in_ok-t.ensures in
    omega (arith, fits.0, fits.1.0)

pub slice_bounds-print_told-end : goal.slice_bounds-print_told-end
slice_bounds-print_told-end c =
    let file : List ℕ = c.args.file.now in
    let fits : let t = c.in_ok-t.t in (t.setup.l ≤ 8) × ((length t.shares ≡ 8) × (length t.shares2 ≡ 8)) = told-fits file _ c.in_ok-t.ensures in
    sym (length-take-le _ _ (omega (arith, fits.0, fits.1.0)))

pub slice_bounds-shares2-end : goal.slice_bounds-shares2-end
slice_bounds-shares2-end c =
    let file : List ℕ = c.args.file.now in
    let fits : let t = c.in_ok-t.t in (t.setup.l ≤ 8) × ((length t.shares ≡ 8) × (length t.shares2 ≡ 8)) = told-fits file _ c.in_ok-t.ensures in
    let few : c.mapped_lines-m.result ≤ 8 = let t = c.in_ok-t.t in
    omega (arith, c.mapped_lines-m.ensures, picked (λ k. k ≤ 8) t.mapped t.setup.l 0 fits.0 (omega arith)) in
    omega (arith, few, fits.1.1)

pub slice_bounds-print_told-end-2 : goal.slice_bounds-print_told-end-2
slice_bounds-print_told-end-2 c =
    let file : List ℕ = c.args.file.now in
    let fits : let t = c.in_ok-t.t in (t.setup.l ≤ 8) × ((length t.shares ≡ 8) × (length t.shares2 ≡ 8)) = told-fits file _ c.in_ok-t.ensures in
    let few : c.mapped_lines-m.result ≤ 8 = let t = c.in_ok-t.t in
    omega (arith, c.mapped_lines-m.ensures, picked (λ k. k ≤ 8) t.mapped t.setup.l 0 fits.0 (omega arith)) in
    sym (length-take-le _ _ (omega (arith, few, fits.1.1)))

pub print_told-count-requires : goal.print_told-count-requires
print_told-count-requires c =
    let file : List ℕ = c.args.file.now in
    let fits : let t = c.in_ok-t.t in (t.setup.l ≤ 8) × ((length t.shares ≡ 8) × (length t.shares2 ≡ 8)) = told-fits file _ c.in_ok-t.ensures in
    let few : c.mapped_lines-m.result ≤ 8 = let t = c.in_ok-t.t in
    omega (arith, c.mapped_lines-m.ensures, picked (λ k. k ≤ 8) t.mapped t.setup.l 0 fits.0 (omega arith)) in
    let buffer : List ℕ = c.args.out.now in
    let declines : ℕ = refusal (lent_file file buffer 512) in
    let fair : declines ≡ 0 = sym (c.in_ok-check_lent.ensures buffer refl) in
    let t = c.in_ok-t.t in (
      omega (arith, fits.0, length-take-le t.setup.l t.shares (omega (arith, fits.0, fits.1.0))),
      omega (arith, few, length-take-le c.mapped_lines-m.result t.shares2 (omega (arith, few, fits.1.1))),
      omega (arith, (lent-means file buffer 512 fair).1),
    )

pub returns : goal.returns
returns c =
    let file : List ℕ = c.args.file.now in
    let buffer : List ℕ = c.args.out.now in
    let declines : ℕ = refusal (lent_file file buffer 512) in
    let fair : declines ≡ 0 = sym (c.in_ok-check_lent.ensures buffer refl) in
    let s = file in
    let z = fair in
    let t = c.in_ok-t.t in
    let C = c.in_ok-t.ensures in
    let text =
    ap (λ (k : ℕ). printed (setup_of t.setup []) t.dealing t.holder t.outcome.judgement t.outcome.fate (take t.setup.l t.shares) (take k t.shares2))
    c.mapped_lines-m.ensures ∙ told_text s _ c.in_ok-t.ensures in
    let P = printed-as text c.print_told-count.ensures in record {
      answer = ap (λ (n : ℕ). given (n ∷ [])) P.count ∙ whole-answer (λ D. length (text_of D) ∷ []) (read_file s) C.contents C.is ∙ accepted declines _ z;
      buffer = written declines _ _ _ z
          (printed-left P ∙ whole-left (λ D. text_of D ++ drop (length (text_of D)) buffer) (read_file s) C.contents buffer C.is);
    }
