-- An honest run's values and verdicts are accepted by the calls, so what each holder has is in order, reads back and prints; so of a zero dealing. With a map, the first dealing by itself is
-- an honest one, and so its part of the contents is in order; the second part is by the calls on the second dealing.
-- honest-prints: contents in order, accepted and kept, read back and print
use mathlib.Core.Path.{◌≡◌, refl, sym, ap, ◌∙◌}
use mathlib.Core.Bool.{true}
use mathlib.Core.List.{List, [], ◌∷◌}
use Prim.Native.Nat.{ℕ}
use Rattle.base.specs.Rules.{refusal, Answer}
use Rattle.base.proofs.Rules.{not-refused}
use Rattle.field.specs.Dot.{at}
use Rattle.scheme.specs.declared.Judgement.TheVariants.{Accept}
use Rattle.scheme.specs.declared.Fate.TheVariants.{Kept}
use Rattle.scheme.specs.Dealing.{judge, judge_zero, is_kept, fate_of, outcome, shares}
use Rattle.scheme.specs.Answers.{paper_judgement}
use Rattle.scheme.specs.Calls.{judge_rules, judge_mapped_rules, judge_zero_rules, outcome_rules}
use Rattle.scheme.proofs.Calls.{deal-ok, deal_zero-ok, judge-ok, judge_mapped-ok, judge_zero-ok, outcome-ok}
use Rattle.scheme.proofs.Verdicts.{accept-is, kept-means}
use Rattle.file_reading.specs.Contents.{Contents, InOrder, shares_of, judgement, fate, verdict_of}
use Rattle.file_reading.proofs.Sound.{reads-back}
use Rattle.holder_file.specs.Text.{text_of}
use Rattle.holder_file.proofs.Examples.{prints}
use Rattle.demand.specs.Maps.{first_dealing}
use Rattle.demand.specs.Files.{contents_of_run, contents_of_mapped_run, contents_of_zero_run, HonestFile, HonestFiles, HonestMappedFiles, HonestZeroFiles}
use Rattle.demand.proofs.Demand.{demand3}
use Rattle.demand.proofs.HonestZeros.{zero-dealings}
use Rattle.demand.proofs.HonestMaps.{demand3-with-maps}

honest-prints : (C : Contents) (xs ys : List ℕ) → InOrder C → judgement C ≡ Accept → is_kept C.setup C.verdicts ≡ true
    → shares C.setup C.g ≡ xs → shares_of C.setup C.kind ≡ ys → HonestFile C xs ys
unfolding text_of
honest-prints C xs ys order accept k e f =
    let keep : fate C ≡ Kept = unfold fate_of in rw k refl in
    record {
      in_order = order;
      accepted = reads-back C order;
      accepts = accept;
      keeps = keep;
      shares = rw k e;
      shares2 = rw k f;
      text = prints C order ∙ rw (accept, keep, e, f) refl;
    }

pub honest-files : HonestFiles
honest-files S secrets random D run i l number from to =
    let found = demand3.honest S secrets random D run in
    let C = contents_of_run S D number i in
    let K = found.keep i l in
    let dealt = deal-ok S secrets random i run.lent_g run.lent_h (not-refused _ _ [] (run.dealing i l)).0 in
    let judged = not-refused (refusal (judge_rules S (D.h i) (D.values i))) (judge S (D.h i) (D.values i)) (1 ∷ []) (found.accept i l) in
    let settled = not-refused (refusal (outcome_rules S (D.g i) (D.verdicts i) K.lent)) (outcome S (D.verdicts i)) (1 ∷ []) K.settled in
    let J = judge-ok S (D.h i) (D.values i) judged.0 in
    let O = outcome-ok S (D.g i) (D.verdicts i) K.lent settled.0 in
    let k = kept-means S (D.verdicts i) settled.1 in
    let accept : judgement C ≡ Accept = accept-is (judgement C) judged.1 in
    let order : InOrder C = record {
      setup = dealt.0.setup;
      dealing = (from, to);
      holder = l;
      row = O.part;
      column = J.part;
      received = J.received;
      heard = O.heard;
      second = tt;
      own = run.said i i l l ∙ ap (λ (a : Answer). at a.values 0) (found.accept i l) ∙ sym (ap verdict_of accept);
    } in
    honest-prints C _ _ order accept k (rw (settled.0, k) at K.share) refl

pub honest-mapped-files : HonestMappedFiles
honest-mapped-files S X T run i l number from to =
    let found = demand3-with-maps.honest S X T run in
    let P = honest-files S X.secrets X.random (first_dealing T) found.honest i l number from to in
    let C = contents_of_mapped_run S T number i in
    let K = found.keep i l in
    let judged = not-refused (refusal (judge_mapped_rules S (T.h i) (T.values i) (T.phi i) (T.h2 i) (T.values2 i))) (paper_judgement (judgement C)) (1 ∷ []) (found.accept i l) in
    let settled = not-refused (refusal (outcome_rules S (T.g2 i) (T.verdicts i) K.lent2)) (outcome S (T.verdicts i)) (1 ∷ []) K.settled2 in
    let J = judge_mapped-ok S (T.h i) (T.values i) (T.phi i) (T.h2 i) (T.values2 i) judged.0 in
    let O = outcome-ok S (T.g2 i) (T.verdicts i) K.lent2 settled.0 in
    let k = kept-means S (T.verdicts i) settled.1 in
    let accept : judgement C ≡ Accept = accept-is (judgement C) judged.1 in
    let order : InOrder C = record {
      setup = P.in_order.setup;
      dealing = P.in_order.dealing;
      holder = P.in_order.holder;
      row = P.in_order.row;
      column = P.in_order.column;
      received = P.in_order.received;
      heard = P.in_order.heard;
      second = record { row = O.part; column = J.second.part; map = J.map; received = J.second.received };
      own = P.in_order.own ∙ ap verdict_of (P.accepts ∙ sym accept);
    } in
    honest-prints C _ _ order accept k (rw k at P.shares) (rw (settled.0, k) at K.share2)

pub honest-zero-files : HonestZeroFiles
honest-zero-files S random Z run i l number from to =
    let found = zero-dealings.honest S random Z run in
    let C = contents_of_zero_run S Z number i in
    let K = found.keep i l in
    let dealt = deal_zero-ok S random i run.lent_g run.lent_h (not-refused _ _ [] (run.dealing i l)).0 in
    let judged = not-refused (refusal (judge_zero_rules S (Z.h i) (Z.values i))) (judge_zero S (Z.h i) (Z.values i)) (1 ∷ []) (found.accept i l) in
    let settled = not-refused (refusal (outcome_rules S (Z.g i) (Z.verdicts i) K.lent)) (outcome S (Z.verdicts i)) (1 ∷ []) K.settled in
    let J = judge_zero-ok S (Z.h i) (Z.values i) judged.0 in
    let O = outcome-ok S (Z.g i) (Z.verdicts i) K.lent settled.0 in
    let k = kept-means S (Z.verdicts i) settled.1 in
    let accept : judgement C ≡ Accept = accept-is (judgement C) judged.1 in
    let order : InOrder C = record {
      setup = dealt.0.setup;
      dealing = (from, to);
      holder = l;
      row = O.part;
      column = J.part;
      received = J.received;
      heard = O.heard;
      second = tt;
      own = run.said i i l l ∙ ap (λ (a : Answer). at a.values 0) (found.accept i l) ∙ sym (ap verdict_of accept);
    } in
    honest-prints C _ _ order accept k (rw (settled.0, k) at K.share) refl
