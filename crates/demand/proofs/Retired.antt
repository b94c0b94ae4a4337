-- Refusal 14 is retired: no table of refusals has a rule of that number, which is one computed test for each (never), and what stands behind a table is
-- an answer with number 0, an opening's own 6 or 7, a key's 16, or what is read from a file: 11, 13 or the fault of a record.
-- Other: another number than the retired one
-- Reads: what is read of a file is not refused by that number
use mathlib.Core.Path.{◌≡◌, refl}
use mathlib.Core.Bool.{Bool, false, not, ◌&&◌}
use mathlib.Core.List.{List, [], ◌∷◌}
use Prim.Native.Nat.{ℕ, zero, suc}
use native.Mathlib.Omega.{arith}
use borrow.Author.Tests.{eqb-false}
use lib.Dec.{T, eqb, ltb, leb}
use lib.ListN.{length, drop}
use Rattle.base.specs.Choice.{pick}
use Rattle.base.specs.Rules.{Rule, refusal, Answer, refused, given, answer_by}
use Rattle.base.specs.Matrix.{all_below}
use Rattle.base.proofs.Choice.{picked}
use Rattle.base.proofs.Rules.{without, never}
use Rattle.field.specs.Fields.{is_field}
use Rattle.field.specs.Dot.{at}
use Rattle.scheme.specs.Setup.{Setup}
use Rattle.scheme.specs.Dealing.{judgement_of, judgement_mapped, judgement_zero, fate_of}
use Rattle.scheme.specs.Sets.{holds, determines, is_private}
use Rattle.scheme.specs.Opening.{opening}
use Rattle.scheme.specs.Calls.{points_rules, deal_rules, deal_all_rules, deal_mapped_rules, deal_mapped_all_rules, deal_zero_rules, deal_zero_all_rules, pair_value_rules, judge_rules, judge_mapped_rules, judge_zero_rules, outcome_rules, rehearse_rules, set_rules, judge_set_rules, open_rules, combine_rules, refresh_rules}
use Rattle.scheme.proofs.Answering.{Given, given-given, given-number, judgement-given, fate-given, rehearse-given, decide-given, kind-given, OpeningIs, secrets, by-six, by-seven, opening-is}
use Rattle.board_keys.specs.Keys.{key_setup, opened, key_opening, open_key_rules}
use Rattle.board_keys.proofs.Opened.{KeyOpeningIs, positions, no_row, no-vector, key_opening-is}
use Rattle.record_words.specs.Words.{word_at}
use Rattle.record_layouts.specs.declared.DealingRecord.{DealingRecord}
use Rattle.record_layouts.specs.Records.{mark_su, pair_at, verdict_at, setup_at, setup_size, dealing_at, dealing_g, parts_h, parts, mapped_parts, write_rules, read_rules, write_setup_rules, read_setup_rules, read_matrix_rules, read_dealing_rules, read_mapped_rules, read_zero_rules, standing_rules, dealing_layout, mapped_layout, zero_layout, pair_layout, mapped_pair_layout, verdict_layout, share_layout}
use Rattle.file_records.specs.declared.Head.{Head}
use Rattle.file_records.specs.Received.{records, place, pair_rules, pair_fault, verdict_rules, verdict_fault, record_fault, fault_at, reached}
use Rattle.file_records.proofs.Reading.{record-by}
use Rattle.file_reading.specs.Contents.{Contents, columns, part_layout, judgement, verdict_of}
use Rattle.file_reading.specs.File.{FileRead, refused_at, whole, setup_fault, has_zero, dealing_fault, has_map, mapped_rules, mapped_fault, first_byte, start, head_of, of_contents, or_refused, of_received, of_mapped, of_dealing, read_file, number_of}
use Rattle.signed.specs.Calls as signed
use Rattle.superseding.specs.Superseding.{superseding_rules}
use Rattle.holder_file.specs.Text.{text_of}
use Rattle.holder_file.specs.Calls.{file_answer, lent_file}
use Rattle.demand.specs.Retired.{retired, NotGiven, NeverGiven}

abbrev Other : ℕ → Type 0
Other k = k ≡ retired → ⊥

is-other : (k : ℕ) → eqb k retired ≡ false → Other k
is-other k e = eqb-false k retired e

-- TABLES AND WHAT STANDS BEHIND THEM
by-table : (l : List Rule) → T (without retired l) → Other (refusal l)
by-table l t = never retired l (omega arith) t

answer-by : (l : List Rule) (a : Answer) → T (without retired l) → NotGiven a → NotGiven (answer_by (refusal l) a)
answer-by l a t w = go (refusal l) (by-table l t)
  where
    go : (r : ℕ) → Other r → NotGiven (answer_by r a)
    go zero n = w
    go (suc r) n = n

-- a call that answers where its table passes
answers : (l : List Rule) (a : Answer) → T (without retired l) → Given a → NotGiven (answer_by (refusal l) a)
answers l a t g = answer-by l a t (rw (given-number a g) (is-other 0 refl))

opening-other : (S : Setup) (s : ℕ) (xs : List ℕ) → Other (opening S (holds s) xs).number
opening-other S s xs = go (opening-is S s xs)
  where
    go : OpeningIs S s xs → Other (opening S (holds s) xs).number
    go (secrets d b vs e) = rw e (is-other 0 refl)
    go (by-six d q e) = rw e (is-other 6 refl)
    go (by-seven d n e) = rw e (is-other 7 refl)

key-other : (s : ℕ) (xs : List ℕ) → Other (key_opening s xs).number
key-other s xs = go (key_opening-is s xs)
  where
    go : KeyOpeningIs s xs → Other (key_opening s xs).number
    go (positions d h e) = rw e (picked NotGiven (all_below 256 (opened s xs)) (given (opened s xs)) (refused 16) (is-other 0 refl) (is-other 16 refl))
    go (no_row d q e) = rw e (is-other 6 refl)
    go (no-vector d n e) = rw e (is-other 7 refl)

-- FILES
fault-other : (h : Head) (t : List ℕ) (k : ℕ) → Other (fault_at h t k)
unfolding fault_at pair_fault verdict_fault
fault-other h t k =
    let at = place h k in
    let u = drop at t in
    picked Other (leb (length t) at) (pick (ltb k (records h)) 11 0) (record_fault h k u)
    (picked Other (ltb k (records h)) 11 0 (is-other 11 refl) (is-other 0 refl))
    (record-by Other h k u (is-other 3 refl) (is-other 8 refl) (is-other 10 refl) (λ first. by-table (pair_rules h k first (length u) (pair_at u)) tt)
    (by-table (verdict_rules h k (length u) (verdict_at u)) tt))

abbrev Reads : FileRead → Type 0
Reads x = Other (number_of x)

or-reads : (k byte : ℕ) (r : FileRead) → Other k → Reads r → Reads (or_refused k byte r)
or-reads zero byte r m n = n
or-reads (suc k) byte r m n = m

contents-reads : (C : Contents) (n : ℕ) → Reads (of_contents C n)
unfolding of_contents
contents-reads C n =
    picked Reads (eqb (at C.verdicts C.holder) (verdict_of (judgement C))) (whole C) (refused_at 13 n) (is-other 0 refl) (is-other 13 refl)

received-reads : (S : Setup) (x : DealingRecord) (g h : List ℕ) (z b : Bool) (s : List ℕ) → Reads (of_received S x g h z b s)
unfolding of_received
received-reads S x g h z b s =
    let head = head_of S x z b in
    let t = drop (start S z b) s in
    or-reads (fault_at head t (reached head t)) _ _ (fault-other head t (reached head t)) (contents-reads _ (length s))

mapped-reads : (S : Setup) (x : DealingRecord) (g h : List ℕ) (z : Bool) (s : List ℕ) → Reads (of_mapped S x g h z s)
unfolding of_mapped mapped_fault
mapped-reads S x g h z s =
    let t = drop (first_byte S z) s in
    or-reads (mapped_fault S x z t) (first_byte S z) (of_received S x g h z (has_map z t) s)
    (picked Other (has_map z t) (refusal (mapped_rules S x t)) 0 (by-table (mapped_rules S x t) tt) (is-other 0 refl))
    (received-reads S x g h z (has_map z t) s)

file-reads : (s : List ℕ) → Reads (read_file s)
unfolding read_file of_dealing setup_fault dealing_fault
file-reads s =
    let S = setup_at s in
    let t = drop (setup_size S) s in
    let z = has_zero t in
    let h = parts_h (columns z S) S t in
    or-reads (setup_fault s) 0 (of_dealing S s)
    (picked Other (eqb (length s) 0) 11 (refusal (read_setup_rules s)) (is-other 11 refl) (by-table (read_setup_rules s) tt))
    (or-reads (dealing_fault S t) (setup_size S) (of_mapped S (dealing_at t) (dealing_g S t) h z s)
    (picked Other (eqb (length t) 0) 11 _ (is-other 11 refl)
    (picked Other (not (ltb (length t) 2) && eqb (word_at t 0) mark_su) 10 _ (is-other 10 refl) (by-table (standing_rules (part_layout z) S t) tt)))
    (mapped-reads S (dealing_at t) (dealing_g S t) h z s))

read_answer : (values : Contents → List ℕ) (x : FileRead) → Reads x → NotGiven (file_answer values x)
read_answer values (refused_at k byte) n = n
read_answer values (whole C) n = n

-- EVERY CALL
pub never-given : NeverGiven
never-given =
    record {
      field = λ p. picked NotGiven (is_field p) (given (p ∷ [])) (refused 1) (is-other 0 refl) (is-other 1 refl);
      points = λ S. answers (points_rules S) _ tt (given-given []);
      deal = λ S secrets random i g h. answers (deal_rules S secrets random i g h) _ tt (given-given []);
      deal-all = λ S secrets random gs hs. answers (deal_all_rules S secrets random gs hs) _ tt (given-given []);
      deal-mapped = λ S secrets random phi random2 i B. answers (deal_mapped_rules S secrets random phi random2 i B) _ tt (given-given []);
      deal-mapped-all = λ S secrets random phi random2 B. answers (deal_mapped_all_rules S secrets random phi random2 B) _ tt (given-given []);
      deal-zero = λ S random i g h. answers (deal_zero_rules S random i g h) _ tt (given-given []);
      deal-zero-all = λ S random gs hs. answers (deal_zero_all_rules S random gs hs) _ tt (given-given []);
      pair-value = λ S g i. answers (pair_value_rules S g i) _ tt (given-given _);
      judge = λ S h values. answers (judge_rules S h values) _ tt (judgement-given (judgement_of S h values));
      judge-mapped = λ S h values phi h2 values2.
          answers (judge_mapped_rules S h values phi h2 values2) _ tt (judgement-given (judgement_mapped S h values phi h2 values2));
      judge-zero = λ S h values. answers (judge_zero_rules S h values) _ tt (judgement-given (judgement_zero S h values));
      outcome = λ S g verdicts out. answers (outcome_rules S g verdicts out) _ tt (fate-given (fate_of S verdicts));
      rehearse = λ S gs hs. answers (rehearse_rules S gs hs) _ tt (rehearse-given S gs hs);
      determines = λ S s. answers (set_rules S s) _ tt (decide-given (determines S (holds s)));
      private = λ S s. answers (set_rules S s) _ tt (decide-given (is_private S (holds s)));
      judge-set = λ S s q out. answers (judge_set_rules S s q out) _ tt (kind-given S (holds s) q);
      opening = λ S s xs rs out. answer-by (open_rules S s xs rs out) _ tt (opening-other S s xs);
      combine = λ p cs xs rs. answers (combine_rules p cs xs rs) _ tt (given-given _);
      refresh = λ p x round z. answers (refresh_rules p x round z) _ tt (given-given _);
      hold = λ p zs out. answers (signed.hold_rules p zs out) _ tt (given-given _);
      read = λ p xs out. answers (signed.read_rules p xs out) _ tt (given-given _);
      combine-signed = λ p cs xs rs. answers (signed.combine_signed_rules p cs xs rs) _ tt (given-given _);
      open-signed = λ S s xs rs out. answer-by (signed.open_signed_rules S s xs rs out) _ tt (opening-other S s xs);
      deal-key = λ key random gs hs. answers (deal_all_rules key_setup key random gs hs) _ tt (given-given []);
      open-key = λ s xs rs out. answer-by (open_key_rules s xs rs out) _ tt (key-other s xs);
      write-setup = λ S out. answers (write_setup_rules S (length out)) _ tt (given-given []);
      read-setup = λ s. answers (read_setup_rules s) _ tt (given-given _);
      read-matrix = λ s m. answers (read_matrix_rules s (length m)) _ tt (given-given []);
      write-dealing = λ S x g h out. answers (write_rules dealing_layout S (parts x g h) (length out)) _ tt (given-given []);
      read-dealing = λ S s g h. answers (read_dealing_rules S s (length g) (length h)) _ tt (given-given _);
      write-mapped-dealing = λ S x g h phi out. answers (write_rules mapped_layout S (mapped_parts x g h phi) (length out)) _ tt (given-given []);
      read-mapped-dealing = λ S s g h phi. answers (read_mapped_rules S s (length g) (length h) (length phi)) _ tt (given-given _);
      write-zero-dealing = λ S x g h out. answers (write_rules zero_layout S (parts x g h) (length out)) _ tt (given-given []);
      read-zero-dealing = λ S s g h. answers (read_zero_rules S s (length g) (length h)) _ tt (given-given _);
      write-pair = λ S x out. answers (write_rules pair_layout S x (length out)) _ tt (given-given []);
      read-pair = λ S s. answers (read_rules pair_layout S [] s) _ tt (given-given _);
      write-mapped-pair = λ S x out. answers (write_rules mapped_pair_layout S x (length out)) _ tt (given-given []);
      read-mapped-pair = λ S s. answers (read_rules mapped_pair_layout S [] s) _ tt (given-given _);
      write-verdict = λ S x out. answers (write_rules verdict_layout S x (length out)) _ tt (given-given []);
      read-verdict = λ S s. answers (read_rules verdict_layout S [] s) _ tt (given-given _);
      write-share = λ S x out. answers (write_rules share_layout S x (length out)) _ tt (given-given []);
      read-share = λ S s. answers (read_rules share_layout S [] s) _ tt (given-given _);
      superseding = λ S a b. answers (superseding_rules S a b) _ tt (given-given _);
      file-text = λ s out. answer-by (lent_file s out 512) _ tt (read_answer (λ C. length (text_of C) ∷ []) (read_file s) (file-reads s));
      file-contents = λ s out. answer-by (lent_file s out 27) _ tt (read_answer (λ C. []) (read_file s) (file-reads s));
    }
