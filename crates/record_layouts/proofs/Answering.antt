-- Every call on a record answers where its inputs break nothing, and says so exactly where its number is 0. A writer's table is cleared by its inputs'
-- facts, and so is the reader's table of the bytes written.
use mathlib.Core.Path.{◌≡◌, refl, sym, ap, ◌∙◌}
use mathlib.Core.Bool.{Bool, true, false, not, ◌&&◌}
use mathlib.Core.List.{List, [], ◌∷◌, ◌++◌}
use Prim.Native.Nat.{ℕ, ◌*◌, ◌≤◌, ◌<◌}
use native.Mathlib.Omega.{arith}
use lib.Dec.{eqb}
use lib.ListN.{length}
use borrow.Author.Tests.{eqb-true, eq-eqb, ne_eqb, lt-leb}
use Rattle.base.specs.Rules.{refusal, Clear, Answer, given, answer_by}
use Rattle.base.proofs.Rules.{accepted}
use Rattle.scheme.specs.Setup.{Setup, dim, Limits, IsSetup}
use Rattle.scheme.specs.Calls.{matrix, room, elements}
use Rattle.scheme.specs.Answering.{Answers}
use Rattle.scheme.proofs.Calls.{limits-clear, size-clear, elements-clear, accepts}
use Rattle.scheme.proofs.Answering.{marked_by}
use Rattle.record_words.specs.Words.{bytes}
use Rattle.record_layouts.specs.declared.DealingRecord.{DealingRecord}
use Rattle.record_layouts.specs.declared.PairRecord.{PairRecord}
use Rattle.record_layouts.specs.declared.VerdictRecord.{VerdictRecord}
use Rattle.record_layouts.specs.declared.ShareRecord.{ShareRecord}
use Rattle.record_layouts.specs.Records.{dealing_lent, write_rules, write_call, read_rules, read_call, setup_words, setup_size, write_setup_rules, read_setup_rules, read_matrix_rules}
use Rattle.record_layouts.specs.Records.{parts, dealing_words, dealing_size, dealing_faults, dealing_layout, read_dealing_rules}
use Rattle.record_layouts.specs.Records.{mark_pv, mark_pf, pair_size, pair_at, pair_values, pair_faults, pair_layout_of, pair_layout, mapped_pair_layout, verdict_words, verdict_size, verdict_faults, verdict_layout, share_words, share_size, share_faults, share_layout}
use Rattle.record_layouts.specs.Records.{zero_words, zero_size, zero_layout, zero_lent, read_zero_rules}
use Rattle.record_layouts.specs.Records.{mapped_parts, mapped_words, mapped_size, mapped_layout, mapped_lent, read_mapped_rules}
use Rattle.record_layouts.specs.Answering.{RecordsMarked, WritersRising, PairInOrder, VerdictInOrder, ShareInOrder, RecordsAnswering}
use Rattle.record_layouts.proofs.Layouts.{dealing-lawful, zero_lawful, mapped-lawful, pair-lawful, verdict-lawful, share-lawful}
use Rattle.record_layouts.proofs.Calls.{matrix-as-setup}
use Rattle.record_layouts.proofs.ReadBack.{fair, setup-at, setup-fair}

-- THE MARK
pub records-marked : RecordsMarked
records-marked =
    record {
      write-setup = λ S out. marked_by (refusal (write_setup_rules S (length out))) (given []) refl;
      read-setup = λ s. marked_by (refusal (read_setup_rules s)) (given _) refl;
      read-matrix = λ s m. marked_by (refusal (read_matrix_rules s (length m))) (given []) refl;
      write-dealing = λ S x g h out. marked_by (refusal (write_rules dealing_layout S (parts x g h) (length out))) (given []) refl;
      read-dealing = λ S s g h. marked_by (refusal (read_dealing_rules S s (length g) (length h))) (given _) refl;
      write-zero = λ S x g h out. marked_by (refusal (write_rules zero_layout S (parts x g h) (length out))) (given []) refl;
      read-zero = λ S s g h. marked_by (refusal (read_zero_rules S s (length g) (length h))) (given _) refl;
      write-mapped = λ S x g h phi out. marked_by (refusal (write_rules mapped_layout S (mapped_parts x g h phi) (length out))) (given []) refl;
      read_mapped = λ S s g h phi. marked_by (refusal (read_mapped_rules S s (length g) (length h) (length phi))) (given _) refl;
      write-pair = λ S x out. marked_by (refusal (write_rules pair_layout S x (length out))) (given []) refl;
      read-pair = λ S s. marked_by (refusal (read_rules pair_layout S [] s)) (given _) refl;
      write-mapped-pair = λ S x out. marked_by (refusal (write_rules mapped_pair_layout S x (length out))) (given []) refl;
      read-mapped-pair = λ S s. marked_by (refusal (read_rules mapped_pair_layout S [] s)) (given _) refl;
      write-verdict = λ S x out. marked_by (refusal (write_rules verdict_layout S x (length out))) (given []) refl;
      read-verdict = λ S s. marked_by (refusal (read_rules verdict_layout S [] s)) (given _) refl;
      write-share = λ S x out. marked_by (refusal (write_rules share_layout S x (length out))) (given []) refl;
      read-share = λ S s. marked_by (refusal (read_rules share_layout S [] s)) (given _) refl;
    }

-- THE LOWEST NUMBER
pub writers-rising : WritersRising
writers-rising =
    record {
      setup = λ S k. tt;
      dealing = λ S x k. tt;
      zero = λ S x k. tt;
      mapped = λ S x k. tt;
      pair = λ S x k. tt;
      mapped-pair = λ S x k. tt;
      verdict = λ S x k. tt;
      share = λ S x k. tt;
    }

-- INPUTS THAT BREAK NOTHING
pub answers_by : (r : ℕ) (vs : List ℕ) → r ≡ 0 → Answers (answer_by r (given vs))
answers_by r vs e = sym (ap (λ (a : Answer). a.answered) (accepted r (given vs) e))

dealing-clear : (S : Setup) (x : DealingRecord) → 1 ≤ x.dealing → x.holder < S.n → Clear (dealing_faults S x)
dealing-clear S x d h = (lt-leb S.n x.holder h, (ne_eqb x.dealing 0 (λ z. omega (arith, d, z)), tt))

pair-clear : (S : Setup) (x : PairRecord) → PairInOrder S x → Clear (pair_faults S x)
pair-clear S x w = (
  lt-leb S.p x.value w.value,
  (
    lt-leb S.n x.sender w.sender,
    (
      lt-leb S.n x.receiver w.receiver,
      (ne_eqb x.dealing 0 (λ z. omega (arith, w.dealing, z)), tt),
    ),
  ),
)

-- PV and PF, whatever the mark
module _ (mark : ℕ) (S : Setup) (x : PairRecord) (L : Limits S) (w : PairInOrder S x) where
  pair-written : (out : List ℕ) → length out ≡ pair_size → Answers (write_call (pair_layout_of mark) S x out)
  pair-written out e =
      answers_by (refusal (write_rules (pair_layout_of mark) S x (length out))) [] (accepts S (room (length out) pair_size ∷ []) (pair_faults S x) L (e, tt) (pair-clear S x w))

  pair-answered : (rest : List ℕ) → let s = bytes (mark ∷ pair_values x) ++ rest in Answers (read_call (pair_layout_of mark) S [] s (pair_values (pair_at s)))
  pair-answered rest =
      answers_by (refusal (read_rules (pair_layout_of mark) S [] (bytes (mark ∷ pair_values x) ++ rest))) _ (fair (pair_layout_of mark) (pair-lawful mark) S x rest [] L tt (pair-clear S x w) tt)

verdict-clear : (S : Setup) (x : VerdictRecord) → VerdictInOrder S x → Clear (verdict_faults S x)
verdict-clear S x w =
    (lt-leb S.n x.holder w.holder, (ne_eqb x.dealing 0 (λ z. omega (arith, w.dealing, z)), (lt-leb _ x.verdict (omega (arith, w.verdict)), tt)))

share-clear : (S : Setup) (x : ShareRecord) → ShareInOrder S x → Clear (share_faults S x)
share-clear S x w =
    (lt-leb S.p x.value w.value, (lt-leb S.n x.holder w.holder, (lt-leb S.l x.column w.column, (go (eqb x.dealing 0) refl, tt))))
  where
    go : (b : Bool) → eqb x.dealing 0 ≡ b → (b && not (eqb x.column 0)) ≡ false
    go true e = ap not (eq-eqb x.column 0 (w.combination (eqb-true x.dealing 0 e)))
    go false e = refl

setup-passes : (S : Setup) (rest : List ℕ) → IsSetup S → refusal (read_setup_rules (bytes (setup_words S) ++ rest)) ≡ 0
setup-passes S rest ok = setup-fair S rest (limits-clear S ok.limits) ok.matrix.size (elements-clear S.p _ S.M ok.matrix)

pub records-answering : RecordsAnswering
records-answering =
    record {
      write-setup = λ S out ok e.
          answers_by (refusal (write_setup_rules S (length out))) [] (accepts S (matrix S ∷ room (length out) (setup_size S) ∷ []) [] ok.limits (ok.matrix, (e, tt)) tt);
      read-setup = λ S rest ok. answers_by (refusal (read_setup_rules (bytes (setup_words S) ++ rest))) _ (setup-passes S rest ok);
      read-matrix = λ S rest m ok e.
          let s : List ℕ = bytes (setup_words S) ++ rest in
          answers_by (refusal (read_matrix_rules s (length m))) []
          (matrix-as-setup s (length m) (e ∙ ap (λ (T : Setup). T.n * dim T) (sym (setup-at S rest ok.matrix.size))) ∙ setup-passes S rest ok);
      write-dealing = λ S x g h out L w e.
          answers_by (refusal (write_rules dealing_layout S (parts x g h) (length out))) []
          (accepts S (room (length out) (dealing_size S) ∷ elements g (dim S) ∷ elements h (dim S) ∷ []) (dealing_faults S x) L
          (e, (w.row, (w.column, tt))) (dealing-clear S x w.dealing w.holder));
      read-dealing = λ S x g h rest a b L w i j.
          answers_by (refusal (read_dealing_rules S (bytes (dealing_words x g h) ++ rest) (length a) (length b))) _
          (fair dealing_layout dealing-lawful S (parts x g h) rest (dealing_lent S (length a) (length b)) L
          (size-clear _ _ w.row.size, (size-clear _ _ w.column.size, tt))
          (elements-clear S.p _ g w.row, (elements-clear S.p _ h w.column, dealing-clear S x w.dealing w.holder)) (i, (j, tt)));
      write-zero = λ S x g h out L w e.
          answers_by (refusal (write_rules zero_layout S (parts x g h) (length out))) []
          (accepts S (room (length out) (zero_size S) ∷ elements g (dim S) ∷ elements h S.e ∷ []) (dealing_faults S x) L
          (e, (w.row, (w.column, tt))) (dealing-clear S x w.dealing w.holder));
      read-zero = λ S x g h rest a b L w i j.
          answers_by (refusal (read_zero_rules S (bytes (zero_words x g h) ++ rest) (length a) (length b))) _
          (fair zero_layout zero_lawful S (parts x g h) rest (zero_lent S (length a) (length b)) L
          (size-clear _ _ w.row.size, (size-clear _ _ w.column.size, tt))
          (elements-clear S.p _ g w.row, (elements-clear S.p _ h w.column, dealing-clear S x w.dealing w.holder)) (i, (j, tt)));
      write-mapped = λ S x g h phi out L w v e.
          answers_by (refusal (write_rules mapped_layout S (mapped_parts x g h phi) (length out))) []
          (accepts S (room (length out) (mapped_size S) ∷ elements g (dim S) ∷ elements h (dim S) ∷ elements phi (S.l * S.l) ∷ []) (dealing_faults S x) L
          (e, (w.row, (w.column, (v, tt)))) (dealing-clear S x w.dealing w.holder));
      read_mapped = λ S x g h phi rest a b c L w v i j k.
          answers_by (refusal (read_mapped_rules S (bytes (mapped_words x g h phi) ++ rest) (length a) (length b) (length c))) _
          (fair mapped_layout mapped-lawful S (mapped_parts x g h phi) rest (mapped_lent S (length a) (length b) (length c)) L
          (size-clear _ _ w.row.size, (size-clear _ _ w.column.size, (size-clear _ _ v.size, tt)))
          (elements-clear S.p _ g w.row, (elements-clear S.p _ h w.column, (elements-clear S.p _ phi v, dealing-clear S x w.dealing w.holder))) (i, (j, (k, tt))));
      write-pair = λ S x out L w e. pair-written mark_pv S x L w out e;
      read-pair = λ S x rest L w. pair-answered mark_pv S x L w rest;
      write-mapped-pair = λ S x out L w e. pair-written mark_pf S x L w out e;
      read-mapped-pair = λ S x rest L w. pair-answered mark_pf S x L w rest;
      write-verdict = λ S x out L w e.
          answers_by (refusal (write_rules verdict_layout S x (length out))) [] (accepts S (room (length out) verdict_size ∷ []) (verdict_faults S x) L (e, tt) (verdict-clear S x w));
      read-verdict = λ S x rest L w.
          answers_by (refusal (read_rules verdict_layout S [] (bytes (verdict_words x) ++ rest))) _ (fair verdict_layout verdict-lawful S x rest [] L tt (verdict-clear S x w) tt);
      write-share = λ S x out L w e.
          answers_by (refusal (write_rules share_layout S x (length out))) [] (accepts S (room (length out) share_size ∷ []) (share_faults S x) L (e, tt) (share-clear S x w));
      read-share = λ S x rest L w.
          answers_by (refusal (read_rules share_layout S [] (bytes (share_words x) ++ rest))) _ (fair share_layout share-lawful S x rest [] L tt (share-clear S x w) tt);
    }
