-- What refuses SU, DL, DZ or DF decides; where they are in order, the record reached behind them.
use mathlib.Core.Bool.{Bool}
use mathlib.Core.Path.{◌≡◌, sym, ap, subst, ◌∙◌}
use mathlib.Core.List.{List, []}
use Prim.Native.Nat.{ℕ, ◌+◌, ◌-◌, ◌≤◌}
use native.Mathlib.Omega.{arith}
use lib.ListN.{length, take, drop, length-drop}
use Rattle.base.specs.Refusals.{number, refused_by}
use Rattle.base.proofs.Refusals.{above_zero}
use Rattle.scheme.specs.declared.Params.{Params}
use Rattle.scheme.specs.Setup.{setup_of}
use Rattle.record_layouts.specs.declared.DealingRecord.{DealingRecord}
use Rattle.record_layouts.specs.Records.{setup_at, dealing_at}
use Rattle.file_records.specs.declared.Head.{Head}
use Rattle.file_records.specs.declared.Sent.{Sent}
use Rattle.file_records.specs.Inner.{Sends}
use Rattle.file_records.proofs.Reading.{part-is, reached-inside}
use Rattle.file_reading.specs.declared.Front.{Front}
use Rattle.file_reading.specs.declared.SecondFront.{SecondFront}
use Rattle.file_reading.specs.File.{refused_at, start, head_of}
use Rattle.file_reading.specs.Inner.{FrontIn, MapIn, part_of, zero_in, tied_in}
use Rattle.file_reading.proofs.Steps.{setup-fair, start_fits, sent-refused, sent-next}
use Rattle.file_reading.proofs.read_parts.Goals as goal

module _ (s : List ℕ) (f : Front) (F : FrontIn s f) (m : SecondFront) (M : MapIn s m) where
  abbrev from : ℕ
  from = start (setup_at s) (zero_in s) (tied_in s)

  abbrev head : Head
  head = head_of (setup_at s) (dealing_at (part_of s)) (zero_in s) (tied_in s)

  abbrev read : Head
  read = head_of (setup_of f.setup []) f.record f.zero m.mapped

  fits : m.byte ≤ length s
  fits = omega (arith, M.byte, start_fits s F.fair M.fair)

  same-head : read ≡ head
  same-head =
      ap (λ (p : Params). head_of (setup_of p []) f.record f.zero m.mapped) F.setup
      ∙ ap (λ (x : DealingRecord). head_of (setup_at s) x f.zero m.mapped) F.dealing
      ∙ ap (λ (z : Bool). head_of (setup_at s) (dealing_at (part_of s)) z m.mapped) F.zero
      ∙ ap (head_of (setup_at s) (dealing_at (part_of s)) (zero_in s)) M.mapped

  same-rest : take (length s - m.byte) (drop m.byte s) ≡ drop from s
  same-rest = part-is s m.byte ∙ ap (λ (k : ℕ). drop k s) M.byte

  sent-here : (r : Sent) → Sends read (take (length s - m.byte) (drop m.byte s)) r → Sends head (drop from s) r
  sent-here r W = subst (λ (h : Head). Sends h (drop from s) r) same-head (subst (λ (t : List ℕ). Sends read t r) same-rest W)

pub slice_bounds-read_received-count : goal.slice_bounds-read_received-count
slice_bounds-read_received-count c = fits c.args.file.now _ c.in_ok-front.ensures _ c.in_ok-second.ensures

pub slice_bounds-read_received-start : goal.slice_bounds-read_received-start
slice_bounds-read_received-start c = fits c.args.file.now _ c.in_ok-front.ensures _ c.in_ok-second.ensures

pub read_received-sent-requires : goal.read_received-sent-requires
read_received-sent-requires c =
    let s = c.args.file.now in
    let F : FrontIn s c.in_ok-front.front = c.in_ok-front.ensures in
    omega (arith, (setup-fair s F.fair).0.limits.holders.1, ap (λ (p : Params). p.n) F.setup)

pub overflow_add-result : goal.overflow_add-result
overflow_add-result c =
    let s = c.args.file.now in
    let M : MapIn s c.in_ok-second.second = c.in_ok-second.ensures in
    let W = sent-here s _ c.in_ok-front.ensures _ M _ c.read_received-sent.ensures in
    let k = start (setup_at s) (zero_in s) (tied_in s) in
    let h = head_of (setup_at s) (dealing_at (part_of s)) (zero_in s) (tied_in s) in
    omega (arith, fits s _ c.in_ok-front.ensures _ M, M.byte, c.requires, W.byte, reached-inside h (drop k s), length-drop k s)

pub returns-in-Err : goal.returns-in-Err
returns-in-Err c =
    let s = c.args.file.now in
    let F : FrontIn s c.in_ok-front.front = c.in_ok-front.ensures in
    let M : MapIn s c.in_ok-second.second = c.in_ok-second.ensures in
    let r = c.read_received-sent.result in
    let k = number c.in-Err.refusal in
    let e : refused_by r.refused ≡ k = ap refused_by c.in-Err.is in
    ap (λ (j : ℕ). refused_at k (j + r.byte)) M.byte
    ∙ ap (λ (j : ℕ). refused_at j (start (setup_at s) (zero_in s) (tied_in s) + r.byte)) (sym e)
    ∙ sent-refused s F.fair M.fair r (sent-here s _ F _ M r c.read_received-sent.ensures) (λ z. above_zero c.in-Err.refusal (sym e ∙ z))

pub returns : goal.returns
returns c =
    let s = c.args.file.now in
    let F : FrontIn s c.in_ok-front.front = c.in_ok-front.ensures in
    let M : MapIn s c.in_ok-second.second = c.in_ok-second.ensures in
    let r = c.read_received-sent.result in
    let W = sent-here s _ F _ M r c.read_received-sent.ensures in
    let w = sent-next s F.fair M.fair r W (ap refused_by c.in_default.is) in
    record {
      fair = F.fair;
      second = M.fair;
      setup = F.setup;
      dealing = F.dealing;
      mapped = M.mapped;
      zero = F.zero;
      values-size = W.values-size;
      values2-size = W.values2-size;
      verdicts-size = W.verdicts-size;
      received = w.received;
      received2 = w.received2;
      heard = w.heard;
      is = w.is;
    }
