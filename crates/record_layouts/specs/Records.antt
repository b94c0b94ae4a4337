-- The records of document 01 ("Records") and of document 02, A7 and A8. A record is a list of words, of which word 0 is its mark; all that is said of one is its layout, and the
-- calls that write and read it follow from that. A writer's table has rising numbers, "in a call the lowest number that applies is given". A reader's
-- has first what the caller lends, the numbers of a setup and the lengths of buffers, and then the record as in a file. SU stands apart: it holds
-- the numbers that the others are lent.
-- due: the rules of a record that stands at the start of a part of a file, its mark and then its length
-- Layout: a record's mark, its length, its words, its fields as they are read, and what is faulty in them
-- all_words: a record as one list of words
-- write_rules, write_call, write_left: the table, the answer and the buffer of the call that writes a record
-- lists_rules, standing_rules: the rules of a record as it stands in a file, up to its lists and all of them; read_rules, read_call: the table and the answer of the call that reads it
-- mark_su .. mark_dz: the marks, low byte first
-- xWords, xSize, xAt, xFaults, xLayout, xValues: of record x its words, its length in bytes, its fields as they stand at the start of a part of a file
-- (what follows the record is not looked at), the refusals that they give, its layout, and its fields as the values of an answer
-- writeXRules .. readXLeft: the calls of record x; readMatrix is the second reader of SU
-- due_setup: the rules of SU up to its length
-- DealingParts, parts: all the fields of DL, and of DZ
-- parts_h: h as it stands behind g, of so many entries; parts_layout_of: the layout that DL and DZ share, under a mark, with a length and so many entries of h
-- dealing_lent, zero_lent: the buffers lent for the g and h of DL, and of DZ
-- MappedParts, mapped_parts: all the fields of DF; mapped_lent: the buffers lent for its g, h and φ
-- pair_layout_of: the layout that PV and PF share, under a mark
-- paper_setup_read .. paper_share_read: document 01's number and values for each case of a reader's answer
use Rattle.std.specs.Prelude.{not, ◌&&◌, List, [], ◌∷◌, ◌++◌, ℕ, ◌+◌, ◌*◌, Result, eqb, leb, ltb, length}
use Rattle.base.specs.Rules.{Rule, ◌when◌, refusal, Answer, given, answer_by, left_by}
use Rattle.base.specs.declared.Refusal.{Refusal}
use Rattle.base.specs.Refusals.{answer_of}
use Rattle.scheme.specs.declared.Params.{Params}
use Rattle.scheme.specs.Setup.{Setup, dim, setup_of}
use Rattle.scheme.specs.Calls.{limits, Lent, elements, room, size, beyond_field, in_field, table, matrix}
use Rattle.record_words.specs.Words.{bytes, word_at, words_at}
use Rattle.record_layouts.specs.declared.DealingRecord.{DealingRecord}
use Rattle.record_layouts.specs.declared.PairRecord.{PairRecord}
use Rattle.record_layouts.specs.declared.VerdictRecord.{VerdictRecord}
use Rattle.record_layouts.specs.declared.ShareRecord.{ShareRecord}

-- ONCE FOR ALL RECORDS
-- "the mark, then the length, then the lowest number. A single last byte is a record cut short, 3"; "8: unknown mark, or one with no place there"
abbrev pub due : ℕ → ℕ → List ℕ → List Rule
due mark needed s = (3 when ltb (length s) 2) ∷ (8 when not (eqb (word_at s 0) mark)) ∷ (3 when ltb (length s) needed) ∷ []

-- "Each has a mark of two bytes, then 16-bit fields"
pub record Layout (A : Type 0) : Type 0 where
  pub mark : ℕ
  -- how many bytes it has, the mark included
  pub size : Setup → ℕ
  -- the words after the mark
  pub words : A → List ℕ
  -- the fields, from the start of a part of a file
  pub at : Setup → List ℕ → A
  -- the lists of field elements among them
  pub lists : Setup → A → List Lent
  -- what is faulty in the other fields, whether the record is written or read
  pub faults : Setup → A → List Rule

abbrev pub all_words : {A : Type 0} → Layout A → A → List ℕ
all_words L x = L.mark ∷ L.words x

-- WRITE, into a lent buffer of k bytes
abbrev pub write_rules : {A : Type 0} → Layout A → Setup → A → ℕ → List Rule
write_rules L S x k = table S (room k (L.size S) ∷ L.lists S x) (L.faults S x)

abbrev pub write_call : {A : Type 0} → Layout A → Setup → A → List ℕ → Answer
write_call L S x out = answer_by (refusal (write_rules L S x (length out))) (given [])

abbrev pub write_left : {A : Type 0} → Layout A → Setup → A → List ℕ → List ℕ
write_left L S x out = left_by (refusal (write_rules L S x (length out))) (bytes (all_words L x)) out

-- the record that stands at the start of the part s of a file: up to its lists, and whole
abbrev pub lists_rules : {A : Type 0} → Layout A → Setup → List ℕ → List Rule
lists_rules L S s = due L.mark (L.size S) s ++ in_field S.p (L.lists S (L.at S s))

abbrev pub standing_rules : {A : Type 0} → Layout A → Setup → List ℕ → List Rule
standing_rules L S s = due L.mark (L.size S) s ++ (in_field S.p (L.lists S (L.at S s)) ++ L.faults S (L.at S s))

-- READ it; lent are buffers for the lists
abbrev pub read_rules : {A : Type 0} → Layout A → Setup → List Lent → List ℕ → List Rule
read_rules L S lent s = table S lent (standing_rules L S s)

abbrev pub read_call : {A : Type 0} → Layout A → Setup → List Lent → List ℕ → List ℕ → Answer
read_call L S lent s vs = answer_by (refusal (read_rules L S lent s)) (given vs)

-- "Mark (hex): 53 55, SU; 44 4C, DL; 50 56, PV; 56 44, VD; 53 48, SH"
abbrev pub mark_su : ℕ
mark_su = 0x5553

abbrev pub mark_dl : ℕ
mark_dl = 0x4C44

abbrev pub mark_pv : ℕ
mark_pv = 0x5650

abbrev pub mark_vd : ℕ
mark_vd = 0x4456

abbrev pub mark_sh : ℕ
mark_sh = 0x4853

-- "Marks DF (44 46) and PF (50 46)"
abbrev pub mark_df : ℕ
mark_df = 0x4644

abbrev pub mark_pf : ℕ
mark_pf = 0x4650

-- "mark DZ (44 5A)"
abbrev pub mark_dz : ℕ
mark_dz = 0x5A44

-- SU: "p, ℓ, e, n, then M by rows"
abbrev pub setup_words : Setup → List ℕ
setup_words S = mark_su ∷ S.p ∷ S.l ∷ S.e ∷ S.n ∷ S.M

abbrev pub setup_size : Setup → ℕ
setup_size S = 10 + 2 * (S.n * dim S)

abbrev pub params_at : List ℕ → Params
params_at s = record { p = word_at s 1; l = word_at s 2; e = word_at s 3; n = word_at s 4 }

abbrev pub setup_at : List ℕ → Setup
setup_at s = setup_of (params_at s) (words_at s 5 (word_at s 4 * (word_at s 2 + word_at s 3)))

abbrev pub write_setup_rules : Setup → ℕ → List Rule
write_setup_rules S k = table S (matrix S ∷ room k (setup_size S) ∷ []) []

abbrev pub write_setup_call : Setup → List ℕ → Answer
write_setup_call S out = answer_by (refusal (write_setup_rules S (length out))) (given [])

abbrev pub write_setup_left : Setup → List ℕ → List ℕ
write_setup_left S out = left_by (refusal (write_setup_rules S (length out))) (bytes (setup_words S)) out

-- its four numbers. "SU checks 1 and 2 after its first ten bytes, then its length"; its entries come last
abbrev pub due_setup : List ℕ → List Rule
due_setup s = due mark_su 10 s ++ (limits (setup_at s) ++ (3 when ltb (length s) (setup_size (setup_at s))) ∷ [])

abbrev pub read_setup_rules : List ℕ → List Rule
read_setup_rules s = due_setup s ++ beyond_field (setup_at s).p (setup_at s).M ∷ []

abbrev pub read_setup_call : List ℕ → Answer
read_setup_call s = answer_by (refusal (read_setup_rules s)) (given (word_at s 1 ∷ word_at s 2 ∷ word_at s 3 ∷ word_at s 4 ∷ []))

-- its matrix, into a lent one
abbrev pub read_matrix_rules : List ℕ → ℕ → List Rule
read_matrix_rules s k = due_setup s ++ size k ((setup_at s).n * dim (setup_at s)) ∷ beyond_field (setup_at s).p (setup_at s).M ∷ []

abbrev pub read_matrix_call : List ℕ → List ℕ → Answer
read_matrix_call s m = answer_by (refusal (read_matrix_rules s (length m))) (given [])

abbrev pub read_matrix_left : List ℕ → List ℕ → List ℕ
read_matrix_left s m = left_by (refusal (read_matrix_rules s (length m))) (setup_at s).M m

-- DL: "dealing number, holder, g, h"
pub record DealingParts : Type 0 where
  pub numbers : DealingRecord
  pub g : List ℕ
  pub h : List ℕ

abbrev pub dealing_size : Setup → ℕ
dealing_size S = 6 + 4 * dim S

abbrev pub dealing_at : List ℕ → DealingRecord
dealing_at s = record { dealing = word_at s 1; holder = word_at s 2 }

abbrev pub dealing_g : Setup → List ℕ → List ℕ
dealing_g S s = words_at s 3 (dim S)

abbrev pub parts_h : ℕ → Setup → List ℕ → List ℕ
parts_h k S s = words_at s (3 + dim S) k

abbrev pub dealing_h : Setup → List ℕ → List ℕ
dealing_h S s = parts_h (dim S) S s

-- "5: holder, column or position out of range"; "9: dealing number 0 outside SH"
abbrev pub dealing_faults : Setup → DealingRecord → List Rule
dealing_faults S x = (5 when leb S.n x.holder) ∷ (9 when eqb x.dealing 0) ∷ []

abbrev pub parts_layout_of : ℕ → (Setup → ℕ) → (Setup → ℕ) → Layout DealingParts
parts_layout_of mark size many =
    record {
      mark = mark;
      size = size;
      words = λ x. x.numbers.dealing ∷ x.numbers.holder ∷ x.g ++ x.h;
      at = λ S s. record { numbers = dealing_at s; g = dealing_g S s; h = parts_h (many S) S s };
      lists = λ S x. elements x.g (dim S) ∷ elements x.h (many S) ∷ [];
      faults = λ S x. dealing_faults S x.numbers;
    }

abbrev pub dealing_layout : Layout DealingParts
dealing_layout = parts_layout_of mark_dl dealing_size (λ S. dim S)

abbrev pub parts : DealingRecord → List ℕ → List ℕ → DealingParts
parts x g h = record { numbers = x; g = g; h = h }

abbrev pub dealing_words : DealingRecord → List ℕ → List ℕ → List ℕ
dealing_words x g h = all_words dealing_layout (parts x g h)

abbrev pub write_dealing_call : Setup → DealingRecord → List ℕ → List ℕ → List ℕ → Answer
write_dealing_call S x g h out = write_call dealing_layout S (parts x g h) out

abbrev pub write_dealing_left : Setup → DealingRecord → List ℕ → List ℕ → List ℕ → List ℕ
write_dealing_left S x g h out = write_left dealing_layout S (parts x g h) out

-- its dealing number and holder, with g and h into lent buffers of d entries
abbrev pub dealing_lent : Setup → ℕ → ℕ → List Lent
dealing_lent S j k = room j (dim S) ∷ room k (dim S) ∷ []

abbrev pub read_dealing_rules : Setup → List ℕ → ℕ → ℕ → List Rule
read_dealing_rules S s j k = read_rules dealing_layout S (dealing_lent S j k) s

abbrev pub read_dealing_call : Setup → List ℕ → List ℕ → List ℕ → Answer
read_dealing_call S s g h = read_call dealing_layout S (dealing_lent S (length g) (length h)) s (word_at s 1 ∷ word_at s 2 ∷ [])

abbrev pub read_dealing_left_g : Setup → List ℕ → List ℕ → List ℕ → List ℕ
read_dealing_left_g S s g h = left_by (refusal (read_dealing_rules S s (length g) (length h))) (dealing_g S s) g

abbrev pub read_dealing_left_h : Setup → List ℕ → List ℕ → List ℕ → List ℕ
read_dealing_left_h S s g h = left_by (refusal (read_dealing_rules S s (length g) (length h))) (dealing_h S s) h

-- DZ: "only e random rows, e entries of h"; "mark DZ (44 5A) for DL"
abbrev pub zero_size : Setup → ℕ
zero_size S = 6 + 2 * (dim S + S.e)

abbrev pub zero_h : Setup → List ℕ → List ℕ
zero_h S s = parts_h S.e S s

abbrev pub zero_layout : Layout DealingParts
zero_layout = parts_layout_of mark_dz zero_size (λ S. S.e)

abbrev pub zero_words : DealingRecord → List ℕ → List ℕ → List ℕ
zero_words x g h = all_words zero_layout (parts x g h)

abbrev pub write_zero_call : Setup → DealingRecord → List ℕ → List ℕ → List ℕ → Answer
write_zero_call S x g h out = write_call zero_layout S (parts x g h) out

abbrev pub write_zero_left : Setup → DealingRecord → List ℕ → List ℕ → List ℕ → List ℕ
write_zero_left S x g h out = write_left zero_layout S (parts x g h) out

-- its dealing number and holder, with g and h into lent buffers of d and e entries
abbrev pub zero_lent : Setup → ℕ → ℕ → List Lent
zero_lent S j k = room j (dim S) ∷ room k S.e ∷ []

abbrev pub read_zero_rules : Setup → List ℕ → ℕ → ℕ → List Rule
read_zero_rules S s j k = read_rules zero_layout S (zero_lent S j k) s

abbrev pub read_zero_call : Setup → List ℕ → List ℕ → List ℕ → Answer
read_zero_call S s g h = read_call zero_layout S (zero_lent S (length g) (length h)) s (word_at s 1 ∷ word_at s 2 ∷ [])

abbrev pub read_zero_left_g : Setup → List ℕ → List ℕ → List ℕ → List ℕ
read_zero_left_g S s g h = left_by (refusal (read_zero_rules S s (length g) (length h))) (dealing_g S s) g

abbrev pub read_zero_left_h : Setup → List ℕ → List ℕ → List ℕ → List ℕ
read_zero_left_h S s g h = left_by (refusal (read_zero_rules S s (length g) (length h))) (zero_h S s) h

-- DF: "with the fields of DL and PV, carry the second dealing; DF ends with φ by rows"
pub record MappedParts : Type 0 where
  pub numbers : DealingRecord
  pub g : List ℕ
  pub h : List ℕ
  pub phi : List ℕ

abbrev pub mapped_size : Setup → ℕ
mapped_size S = dealing_size S + 2 * (S.l * S.l)

abbrev pub mapped_phi : Setup → List ℕ → List ℕ
mapped_phi S s = words_at s (3 + 2 * dim S) (S.l * S.l)

abbrev pub mapped_layout : Layout MappedParts
mapped_layout =
    record {
      mark = mark_df;
      size = mapped_size;
      words = λ x. x.numbers.dealing ∷ x.numbers.holder ∷ x.g ++ x.h ++ x.phi;
      at = λ S s. record { numbers = dealing_at s; g = dealing_g S s; h = dealing_h S s; phi = mapped_phi S s };
      lists = λ S x. elements x.g (dim S) ∷ elements x.h (dim S) ∷ elements x.phi (S.l * S.l) ∷ [];
      faults = λ S x. dealing_faults S x.numbers;
    }

abbrev pub mapped_parts : DealingRecord → List ℕ → List ℕ → List ℕ → MappedParts
mapped_parts x g h phi = record { numbers = x; g = g; h = h; phi = phi }

abbrev pub mapped_words : DealingRecord → List ℕ → List ℕ → List ℕ → List ℕ
mapped_words x g h phi = all_words mapped_layout (mapped_parts x g h phi)

abbrev pub write_mapped_call : Setup → DealingRecord → List ℕ → List ℕ → List ℕ → List ℕ → Answer
write_mapped_call S x g h phi out = write_call mapped_layout S (mapped_parts x g h phi) out

abbrev pub write_mapped_left : Setup → DealingRecord → List ℕ → List ℕ → List ℕ → List ℕ → List ℕ
write_mapped_left S x g h phi out = write_left mapped_layout S (mapped_parts x g h phi) out

-- its dealing number and holder, with g, h and φ into lent buffers of d, d and ℓ * ℓ entries
abbrev pub mapped_lent : Setup → ℕ → ℕ → ℕ → List Lent
mapped_lent S i j k = room i (dim S) ∷ room j (dim S) ∷ room k (S.l * S.l) ∷ []

abbrev pub read_mapped_rules : Setup → List ℕ → ℕ → ℕ → ℕ → List Rule
read_mapped_rules S s i j k = read_rules mapped_layout S (mapped_lent S i j k) s

abbrev pub read_mapped_call : Setup → List ℕ → List ℕ → List ℕ → List ℕ → Answer
read_mapped_call S s g h phi = read_call mapped_layout S (mapped_lent S (length g) (length h) (length phi)) s (word_at s 1 ∷ word_at s 2 ∷ [])

abbrev pub read_mapped_left_g : Setup → List ℕ → List ℕ → List ℕ → List ℕ → List ℕ
read_mapped_left_g S s g h phi = left_by (refusal (read_mapped_rules S s (length g) (length h) (length phi))) (dealing_g S s) g

abbrev pub read_mapped_left_h : Setup → List ℕ → List ℕ → List ℕ → List ℕ → List ℕ
read_mapped_left_h S s g h phi = left_by (refusal (read_mapped_rules S s (length g) (length h) (length phi))) (dealing_h S s) h

abbrev pub read_mapped_left_phi : Setup → List ℕ → List ℕ → List ℕ → List ℕ → List ℕ
read_mapped_left_phi S s g h phi = left_by (refusal (read_mapped_rules S s (length g) (length h) (length phi))) (mapped_phi S s) phi

-- PV: "dealing number, from, to, value"
abbrev pub pair_size : ℕ
pair_size = 10

abbrev pub pair_at : List ℕ → PairRecord
pair_at s = record { dealing = word_at s 1; sender = word_at s 2; receiver = word_at s 3; value = word_at s 4 }

abbrev pub pair_values : PairRecord → List ℕ
pair_values x = x.dealing ∷ x.sender ∷ x.receiver ∷ x.value ∷ []

-- "4: a field element is p or more"
abbrev pub pair_faults : Setup → PairRecord → List Rule
pair_faults S x =
    (4 when leb S.p x.value) ∷ (5 when leb S.n x.sender) ∷ (5 when leb S.n x.receiver) ∷ (9 when eqb x.dealing 0) ∷ []

abbrev pub pair_layout_of : ℕ → Layout PairRecord
pair_layout_of mark =
    record { mark = mark; size = λ S. pair_size; words = pair_values; at = λ S s. pair_at s; lists = λ S x. []; faults = pair_faults }

abbrev pub pair_layout : Layout PairRecord
pair_layout = pair_layout_of mark_pv

abbrev pub pair_words : PairRecord → List ℕ
pair_words x = all_words pair_layout x

abbrev pub write_pair_call : Setup → PairRecord → List ℕ → Answer
write_pair_call S x out = write_call pair_layout S x out

abbrev pub write_pair_left : Setup → PairRecord → List ℕ → List ℕ
write_pair_left S x out = write_left pair_layout S x out

abbrev pub read_pair_call : Setup → List ℕ → Answer
read_pair_call S s = read_call pair_layout S [] s (pair_values (pair_at s))

-- PF: PV's fields
abbrev pub mapped_pair_layout : Layout PairRecord
mapped_pair_layout = pair_layout_of mark_pf

abbrev pub mapped_pair_words : PairRecord → List ℕ
mapped_pair_words x = all_words mapped_pair_layout x

abbrev pub write_mapped_pair_call : Setup → PairRecord → List ℕ → Answer
write_mapped_pair_call S x out = write_call mapped_pair_layout S x out

abbrev pub write_mapped_pair_left : Setup → PairRecord → List ℕ → List ℕ
write_mapped_pair_left S x out = write_left mapped_pair_layout S x out

abbrev pub read_mapped_pair_call : Setup → List ℕ → Answer
read_mapped_pair_call S s = read_call mapped_pair_layout S [] s (pair_values (pair_at s))

-- VD: "dealing number, holder, 1 accept or 0 reject"
abbrev pub verdict_size : ℕ
verdict_size = 8

abbrev pub verdict_at : List ℕ → VerdictRecord
verdict_at s = record { dealing = word_at s 1; holder = word_at s 2; verdict = word_at s 3 }

abbrev pub verdict_values : VerdictRecord → List ℕ
verdict_values x = x.dealing ∷ x.holder ∷ x.verdict ∷ []

-- "12: verdict neither 0 nor 1"
abbrev pub verdict_faults : Setup → VerdictRecord → List Rule
verdict_faults S x = (5 when leb S.n x.holder) ∷ (9 when eqb x.dealing 0) ∷ (12 when leb 2 x.verdict) ∷ []

abbrev pub verdict_layout : Layout VerdictRecord
verdict_layout =
    record { mark = mark_vd; size = λ S. verdict_size; words = verdict_values; at = λ S s. verdict_at s; lists = λ S x. []; faults = verdict_faults }

abbrev pub verdict_words : VerdictRecord → List ℕ
verdict_words x = all_words verdict_layout x

abbrev pub write_verdict_call : Setup → VerdictRecord → List ℕ → Answer
write_verdict_call S x out = write_call verdict_layout S x out

abbrev pub write_verdict_left : Setup → VerdictRecord → List ℕ → List ℕ
write_verdict_left S x out = write_left verdict_layout S x out

abbrev pub read_verdict_call : Setup → List ℕ → Answer
read_verdict_call S s = read_call verdict_layout S [] s (verdict_values (verdict_at s))

-- SH: "dealing number, holder, column, value"; "SH gains a last field, round, 0 to 65535, and one without it gets 3"
abbrev pub share_size : ℕ
share_size = 12

abbrev pub share_at : List ℕ → ShareRecord
share_at s = record { dealing = word_at s 1; holder = word_at s 2; column = word_at s 3; value = word_at s 4; round = word_at s 5 }

abbrev pub share_values : ShareRecord → List ℕ
share_values x = x.dealing ∷ x.holder ∷ x.column ∷ x.value ∷ x.round ∷ []

-- "In SH, 0 marks a combination and its column is 0"; "5: SH with dealing 0 and a column other than 0"
abbrev pub share_faults : Setup → ShareRecord → List Rule
share_faults S x =
    (4 when leb S.p x.value) ∷ (5 when leb S.n x.holder) ∷ (5 when leb S.l x.column)
    ∷ (5 when eqb x.dealing 0 && not (eqb x.column 0)) ∷ []

abbrev pub share_layout : Layout ShareRecord
share_layout =
    record { mark = mark_sh; size = λ S. share_size; words = share_values; at = λ S s. share_at s; lists = λ S x. []; faults = share_faults }

abbrev pub share_words : ShareRecord → List ℕ
share_words x = all_words share_layout x

abbrev pub write_share_call : Setup → ShareRecord → List ℕ → Answer
write_share_call S x out = write_call share_layout S x out

abbrev pub write_share_left : Setup → ShareRecord → List ℕ → List ℕ
write_share_left S x out = write_left share_layout S x out

abbrev pub read_share_call : Setup → List ℕ → Answer
read_share_call S s = read_call share_layout S [] s (share_values (share_at s))

-- THE CASES OF THE READERS' ANSWERS
abbrev pub paper_setup_read : Result Params Refusal → Answer
paper_setup_read r = answer_of (λ (x : Params). x.p ∷ x.l ∷ x.e ∷ x.n ∷ []) r

abbrev pub paper_dealing_read : Result DealingRecord Refusal → Answer
paper_dealing_read r = answer_of (λ (x : DealingRecord). x.dealing ∷ x.holder ∷ []) r

abbrev pub paper_pair_read : Result PairRecord Refusal → Answer
paper_pair_read r = answer_of pair_values r

abbrev pub paper_verdict_read : Result VerdictRecord Refusal → Answer
paper_verdict_read r = answer_of verdict_values r

abbrev pub paper_share_read : Result ShareRecord Refusal → Answer
paper_share_read r = answer_of share_values r
