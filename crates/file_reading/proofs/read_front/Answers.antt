-- Each test names the fault; where there is none the fields are those of SU and of DL or DZ.
use Prim.Native.Nat.{ℕ, ◌+◌, ◌-◌, ◌*◌}
use mathlib.Core.Bool.{Bool, not, ◌&&◌}
use lib.Dec.{eqb, ltb}
use Rattle.base.specs.Refusals.{number}
use Rattle.record_words.specs.Words.{word_at}
use mathlib.Core.List.{List, []}
use mathlib.Core.Path.{◌≡◌, refl, sym, ap, ◌∙◌}
use native.Mathlib.Omega.{arith}
use lib.ListN.{length, take, drop}
use Rattle.base.proofs.Refusals.{above_zero}
use Rattle.scheme.specs.declared.Params.{Params}
use Rattle.scheme.specs.Setup.{setup_of}
use Rattle.record_layouts.specs.Records.{mark_dz, params_at, setup_at, setup_size, dealing_at}
use Rattle.record_layouts.proofs.Calls.{setup-read}
use Rattle.file_records.proofs.Reading.{part-is}
use Rattle.file_reading.specs.Contents.{columns}
use Rattle.file_reading.specs.File.{refused_at, setup_fault, has_zero, dealing_fault}
use Rattle.file_reading.specs.Inner.{part_of, zero_in}
use Rattle.file_reading.proofs.Steps.{setup-clear, part-size, file-refused, file-dealing-refused}
use Rattle.file_reading.proofs.read_front.Goals as goal

pub returns-in-Err : goal.returns-in-Err
returns-in-Err c = file-refused c.args.file.now _ c.in-Err.ensures (above_zero c.in-Err.refusal)

-- where SU ends: at the file's end or before it
end-is : (p : Params) (s : List ℕ) (m : ℕ) → p ≡ params_at s → m ≡ p.n * (p.l + p.e) → 10 + 2 * m ≡ setup_size (setup_at s)
end-is p s m e f = ap (λ (k : ℕ). 10 + 2 * k) f ∙ ap (λ (q : Params). 10 + 2 * (q.n * (q.l + q.e))) e

pub slice_bounds-t-count : goal.slice_bounds-t-count
slice_bounds-t-count c =
    let s = c.args.file.now in
    let fair : setup_fault s ≡ 0 = sym c.in_default.ensures in
    omega (arith, end-is _ s _ c.params_at-setup.ensures c.matrix_len.ensures, (setup-read s (setup-clear s fair)).1)

pub slice_bounds-t-start : goal.slice_bounds-t-start
slice_bounds-t-start c =
    let s = c.args.file.now in
    let fair : setup_fault s ≡ 0 = sym c.in_default.ensures in
    omega (arith, end-is _ s _ c.params_at-setup.ensures c.matrix_len.ensures, (setup-read s (setup-clear s fair)).1)

-- what refuses DL or DZ, by what was read of SU
same-first : (q : Params) (m t : List ℕ) → dealing_fault (setup_of q []) t ≡ dealing_fault (setup_of q m) t
unfolding dealing_fault
same-first q m t = refl

same-part : (s : List ℕ) (k : ℕ) → k ≡ setup_size (setup_at s) → take (length s - k) (drop k s) ≡ part_of s
same-part s k e = part-is s k ∙ ap (λ (j : ℕ). drop j s) e

same-fault : (s : List ℕ) (p : Params) (k : ℕ) → p ≡ params_at s → k ≡ setup_size (setup_at s)
    → dealing_fault (setup_of p []) (take (length s - k) (drop k s)) ≡ dealing_fault (setup_at s) (part_of s)
same-fault s p k e f =
    ap (λ (q : Params). dealing_fault (setup_of q []) (take (length s - k) (drop k s))) e
    ∙ same-first (params_at s) (setup_at s).M (take (length s - k) (drop k s))
    ∙ ap (dealing_fault (setup_at s)) (same-part s k f)

mark-zero : (t : List ℕ) → (not (ltb (length t) 2) && eqb (word_at t 0) mark_dz) ≡ has_zero t
unfolding has_zero
mark-zero t = refl

pub returns-in-Err-check_first : goal.returns-in-Err-check_first
returns-in-Err-check_first c =
    let s = c.args.file.now in
    let fair : setup_fault s ≡ 0 = sym c.in_default.ensures in
    let e = end-is _ s _ c.params_at-setup.ensures c.matrix_len.ensures in
    let k = number c.in-Err-check_first.refusal in
    ap (refused_at k) e
    ∙ file-dealing-refused s fair (setup_at s) refl k (c.in-Err-check_first.ensures ∙ same-fault s _ _ c.params_at-setup.ensures e) (above_zero c.in-Err-check_first.refusal)

pub returns : goal.returns
returns c =
    let s = c.args.file.now in
    let e = end-is _ s _ c.params_at-setup.ensures c.matrix_len.ensures in
    let p = c.params_at-setup.ensures in
    let part = same-part s _ e in
    let zero : c.has_mark-zero.result ≡ zero_in s = c.has_mark-zero.ensures ∙ mark-zero _ ∙ ap has_zero part in
    record {
      fair = record { setup = sym c.in_default.ensures; dealing = sym (c.in_default-check_first.ensures ∙ same-fault s _ _ p e) };
      setup = p;
      dealing = c.dealing_at-record.ensures ∙ ap dealing_at part;
      zero = zero;
      byte = omega (
        arith,
        e,
        c.dim.ensures.0,
        ap (λ (q : Params). q.l + q.e) p,
        c.column_len.ensures.0 ∙ ap (λ (z : Bool). columns z (setup_of c.params_at-setup.result [])) zero ∙ ap (λ (q : Params). columns (zero_in s) (setup_of q [])) p,
        part-size (zero_in s) (setup_at s),
      );
    }
