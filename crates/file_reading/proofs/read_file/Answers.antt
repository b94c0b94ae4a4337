-- What refuses a record decides; else the own verdict is held against the judgement of the contents, and what is told is the contents'.
-- ALL RECORDS IN ORDER: the file, and what was read of it
use Prim.Native.Nat.{ℕ, ◌<◌}
use mathlib.Core.List.{List, []}
use mathlib.Core.Path.{◌≡◌, sym, ap, ◌∙◌}
use native.Mathlib.Omega.{arith}
use lib.ListN.{length, get_or, take}
use lib.Seq.{get_or-take}
use Rattle.scheme.specs.declared.Params.{Params}
use Rattle.scheme.specs.Setup.{setup_of}
use Rattle.scheme.specs.Dealing.{fate_of}
use Rattle.record_layouts.specs.declared.DealingRecord.{DealingRecord}
use Rattle.record_layouts.specs.Records.{setup_at}
use Rattle.file_reading.specs.Contents.{Contents, is_mapped, is_zero, verdict_of, judgement, fate}
use Rattle.file_reading.specs.File.{read_file}
use Rattle.file_reading.specs.File as reads
use Rattle.file_reading.specs.Inner.{zero_in, second_of, tied_in, contents_read, PartsIn, JudgedIn}
use Rattle.file_reading.proofs.Steps.{dealing-fair, of-13, of-whole, fate-same, kept-shares, no-shares, told_is, has-own, kind-mapped, kind-zero}
use Rattle.file_reading.proofs.Judged.{few}
use Rattle.file_reading.proofs.read_file.Goals as goal
use Rattle.file_reading.proofs.read_file.Goals.{in-Accept, in-Reject, in-RejectMap}

pub bounds-verdicts-i : goal.bounds-verdicts-i
bounds-verdicts-i c =
    let file : List ℕ = c.args.file.now in
    let parts : PartsIn file c.in_ok-parts.parts = c.in_ok-parts.ensures in
    let holder-below : c.in_ok-parts.parts.record.holder < (setup_at file).n = omega (arith, (dealing-fair file parts.fair).0, ap (λ (x : DealingRecord). x.holder) parts.dealing) in
    omega (arith, holder-below, few file c.in_ok-parts.parts parts, ap (λ (p : Params). p.n) parts.setup, parts.verdicts-size)

pub returns-then-verdicts-i : goal.returns-then-verdicts-i
returns-then-verdicts-i c =
    let file : List ℕ = c.args.file.now in
    let contents : Contents = contents_read file c.in_ok-parts.parts in
    let verdicts : List ℕ = c.in_ok-parts.parts.verdicts in
    let parts : PartsIn file c.in_ok-parts.parts = c.in_ok-parts.ensures in
    let holder-below : c.in_ok-parts.parts.record.holder < (setup_at file).n = omega (arith, (dealing-fair file parts.fair).0, ap (λ (x : DealingRecord). x.holder) parts.dealing) in
    let said : get_or verdicts c.in_ok-parts.parts.record.holder 0 ≡ get_or contents.verdicts contents.holder 0 = sym (get_or-take (setup_at file).n verdicts _ 0 holder-below)
    ∙ ap (λ (x : DealingRecord). get_or contents.verdicts x.holder 0) parts.dealing in
    let own-judged : JudgedIn contents c.judge_parts-judged.result = c.judge_parts-judged.ensures in
    let own-by : c.match-judgement.own ≡ verdict_of c.judge_parts-judged.result.judgement = elim c.match-judgement.branch [
      | in-Accept w ↦ w.own-is ∙ sym (ap verdict_of w.in-Accept.is)
      | in-Reject w ↦ w.own-is ∙ sym (ap verdict_of w.in-Reject.is)
      | in-RejectMap w ↦ w.own-is ∙ sym (ap verdict_of w.in-RejectMap.is)
    ] in
    let own_is : c.match-judgement.own ≡ verdict_of (judgement contents) = own-by ∙ ap verdict_of own-judged.judgement in
    of-13 contents (length file) (λ e. c.if-verdicts-i.true (said ∙ e ∙ sym own_is)) ∙ parts.is

pub returns-in-Kept : goal.returns-in-Kept
returns-in-Kept c =
    let file : List ℕ = c.args.file.now in
    let contents : Contents = contents_read file c.in_ok-parts.parts in
    let own-judged : JudgedIn contents c.judge_parts-judged.result = c.judge_parts-judged.ensures in
    let verdicts : List ℕ = c.in_ok-parts.parts.verdicts in
    let parts : PartsIn file c.in_ok-parts.parts = c.in_ok-parts.ensures in
    let fate-is : c.fate-fate.result ≡ fate contents = c.fate-fate.ensures
    ∙ ap (λ (p : Params). fate_of (setup_of p []) (take p.n verdicts)) parts.setup
    ∙ fate-same _ _ (take (setup_at file).n verdicts) in
    let holder-below : c.in_ok-parts.parts.record.holder < (setup_at file).n = omega (arith, (dealing-fair file parts.fair).0, ap (λ (x : DealingRecord). x.holder) parts.dealing) in
    let said : get_or verdicts c.in_ok-parts.parts.record.holder 0 ≡ get_or contents.verdicts contents.holder 0 = sym (get_or-take (setup_at file).n verdicts _ 0 holder-below)
    ∙ ap (λ (x : DealingRecord). get_or contents.verdicts x.holder 0) parts.dealing in
    let own-by : c.match-judgement.own ≡ verdict_of c.judge_parts-judged.result.judgement = elim c.match-judgement.branch [
      | in-Accept w ↦ w.own-is ∙ sym (ap verdict_of w.in-Accept.is)
      | in-Reject w ↦ w.own-is ∙ sym (ap verdict_of w.in-Reject.is)
      | in-RejectMap w ↦ w.own-is ∙ sym (ap verdict_of w.in-RejectMap.is)
    ] in
    let own_is : c.match-judgement.own ≡ verdict_of (judgement contents) = own-by ∙ ap verdict_of own-judged.judgement in
    let agreed : reads.whole contents ≡ read_file file = of-whole contents (length file) (sym said ∙ c.if-verdicts-i.false ∙ own_is) ∙ parts.is in
    let tied : c.in_ok-parts.parts.mapped ≡ is_mapped contents.kind = let S = setup_at file in
    parts.mapped ∙ kind-mapped S (zero_in file) (tied_in file) (second_of file) (take S.n c.in_ok-parts.parts.values2) in
    let none : c.in_ok-parts.parts.zero ≡ is_zero contents.kind = let s = file in
    let S = setup_at s in
    parts.zero ∙ kind-zero S (zero_in s) (tied_in s) (second_of s) (take S.n c.in_ok-parts.parts.values2) (has-own (zero_in s) (second_of s)) in
    let J = own-judged in
    let C = contents in
    let e = sym fate-is ∙ c.in-Kept.is in
    record {
      contents = C;
      is = sym agreed;
      same = told_is C _ _ _ _ _ _ _ _ parts.setup parts.dealing J.judgement fate-is
          (kept-shares C.setup C.verdicts _ _ e J.shares) tied (kept-shares C.setup C.verdicts _ _ e J.shares2) none;
    }

pub returns-in-Aborted : goal.returns-in-Aborted
returns-in-Aborted c =
    let file : List ℕ = c.args.file.now in
    let contents : Contents = contents_read file c.in_ok-parts.parts in
    let own-judged : JudgedIn contents c.judge_parts-judged.result = c.judge_parts-judged.ensures in
    let verdicts : List ℕ = c.in_ok-parts.parts.verdicts in
    let parts : PartsIn file c.in_ok-parts.parts = c.in_ok-parts.ensures in
    let fate-is : c.fate-fate.result ≡ fate contents = c.fate-fate.ensures
    ∙ ap (λ (p : Params). fate_of (setup_of p []) (take p.n verdicts)) parts.setup
    ∙ fate-same _ _ (take (setup_at file).n verdicts) in
    let holder-below : c.in_ok-parts.parts.record.holder < (setup_at file).n = omega (arith, (dealing-fair file parts.fair).0, ap (λ (x : DealingRecord). x.holder) parts.dealing) in
    let said : get_or verdicts c.in_ok-parts.parts.record.holder 0 ≡ get_or contents.verdicts contents.holder 0 = sym (get_or-take (setup_at file).n verdicts _ 0 holder-below)
    ∙ ap (λ (x : DealingRecord). get_or contents.verdicts x.holder 0) parts.dealing in
    let own-by : c.match-judgement.own ≡ verdict_of c.judge_parts-judged.result.judgement = elim c.match-judgement.branch [
      | in-Accept w ↦ w.own-is ∙ sym (ap verdict_of w.in-Accept.is)
      | in-Reject w ↦ w.own-is ∙ sym (ap verdict_of w.in-Reject.is)
      | in-RejectMap w ↦ w.own-is ∙ sym (ap verdict_of w.in-RejectMap.is)
    ] in
    let own_is : c.match-judgement.own ≡ verdict_of (judgement contents) = own-by ∙ ap verdict_of own-judged.judgement in
    let agreed : reads.whole contents ≡ read_file file = of-whole contents (length file) (sym said ∙ c.if-verdicts-i.false ∙ own_is) ∙ parts.is in
    let tied : c.in_ok-parts.parts.mapped ≡ is_mapped contents.kind = let S = setup_at file in
    parts.mapped ∙ kind-mapped S (zero_in file) (tied_in file) (second_of file) (take S.n c.in_ok-parts.parts.values2) in
    let none : c.in_ok-parts.parts.zero ≡ is_zero contents.kind = let s = file in
    let S = setup_at s in
    parts.zero ∙ kind-zero S (zero_in s) (tied_in s) (second_of s) (take S.n c.in_ok-parts.parts.values2) (has-own (zero_in s) (second_of s)) in
    let J = own-judged in
    let C = contents in
    let e = sym fate-is ∙ c.in-Aborted.is in
    record {
      contents = C;
      is = sym agreed;
      same = told_is C _ _ _ _ _ _ _ _ parts.setup parts.dealing J.judgement fate-is
          (no-shares C.setup C.verdicts _ _ e) tied (no-shares C.setup C.verdicts _ _ e) none;
    }
