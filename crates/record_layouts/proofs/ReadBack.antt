-- Every record written reads back as itself, wherever it stands in a file: its words are found again, so that no rule of its reader's table holds.
use mathlib.Core.Path.{◌≡◌, refl, sym, ap, subst, ◌∙◌}
use mathlib.Core.Bool.{false, not}
use mathlib.Core.List.{List, [], ◌∷◌, ◌++◌, append-nil}
use Prim.Native.Nat.{ℕ, suc, ◌*◌, ◌≤◌}
use native.Mathlib.Omega.{arith}
use lib.Dec.{ltb}
use lib.ListN.{length, length-append}
use lib.Seq.{drop-append_seam}
use borrow.Author.Tests.{eq-eqb, le-ltb}
use Rattle.base.specs.Rules.{Rule, ◌when◌, refusal, Clear, given, left_by}
use Rattle.base.specs.Matrix.{all_below}
use Rattle.base.proofs.Rules.{none-applies, not-refused, clear_both, accepted, written}
use Rattle.scheme.specs.Setup.{Setup, dim, Limits}
use Rattle.scheme.specs.Calls.{limits, Lent, room, beyond_field, sizes, in_field, matrix}
use Rattle.scheme.proofs.Calls.{limits-clear, size-clear, elements-clear, InOrder, in_order, by-own}
use Rattle.record_words.specs.Words.{bytes, word_at, words_at}
use Rattle.record_words.proofs.Words.{length-bytes, word_of, words_of}
use Rattle.record_layouts.specs.declared.DealingRecord.{DealingRecord}
use Rattle.record_layouts.specs.Records.{due, Layout, all_words, write_rules, write_call, write_left, read_rules, read_call, mark_su, setup_words, setup_size, setup_at, write_setup_rules, read_setup_rules, read_matrix_rules}
use Rattle.record_layouts.specs.Records.{DealingParts, parts, dealing_words, dealing_faults, dealing_layout, dealing_lent, standing_rules, pair_values, pair_layout, verdict_values, verdict_layout, share_values, share_layout}
use Rattle.record_layouts.specs.Records.{zero_words, zero_layout, zero_lent}
use Rattle.record_layouts.specs.Records.{MappedParts, mapped_parts, mapped_words, mapped_layout, mapped_lent, mark_pv, mark_pf, mapped_pair_layout}
use Rattle.record_layouts.specs.Sound.{in_file, SetupReads, ReadBack}
use Rattle.record_layouts.proofs.Layouts.{Lawful, wrote, dealing-lawful, zero_lawful, mapped-lawful, pair-lawful, verdict-lawful, share-lawful}
use Rattle.record_layouts.proofs.Calls.{matrix-as-setup}

-- a record's own bytes are due where it stands
due-clear : (mark : ℕ) (ws rest : List ℕ) (k : ℕ) → k ≤ 2 * suc (length ws) → Clear (due mark k (bytes (mark ∷ ws) ++ rest))
due-clear mark ws rest k h =
    let s : List ℕ = bytes (mark ∷ ws) ++ rest in
    let n : 2 * suc (length ws) ≤ length s = omega (arith, length-append (bytes (mark ∷ ws)) rest, length-bytes (mark ∷ ws)) in
    (le-ltb (length s) 2 (omega arith), (ap not (eq-eqb (word_at s 0) mark (word_of (mark ∷ ws) rest 0 (omega arith))), (le-ltb (length s) k (omega arith), tt)))

-- what an accepted writer leaves, in a file
part-is : (r : ℕ) (new old before rest : List ℕ) → r ≡ 0 → in_file before (left_by r new old) rest ≡ new ++ rest
part-is r new old before rest z = drop-append_seam before (left_by r new old ++ rest) ∙ ap (λ l. l ++ rest) (sym (written r new old new z refl))

-- EVERY LAYOUT
module _ {A : Type 0} (L : Layout A) (W : Lawful A L) (S : Setup) (x : A) where
  abbrev own : List Rule
  own = in_field S.p (L.lists S x) ++ L.faults S x

  -- where nothing is faulty, the record's bytes pass its reader
  pub stands : (rest : List ℕ) → Clear (sizes (L.lists S x)) → Clear own → refusal (standing_rules L S (bytes (all_words L x) ++ rest)) ≡ 0
  stands rest z c =
      let d = due L.mark (L.size S) (bytes (all_words L x) ++ rest) in
      ap (λ (y : A). refusal (d ++ (in_field S.p (L.lists S y) ++ L.faults S y))) (W.again S x rest z)
      ∙ none-applies (d ++ own) (clear_both d own (due-clear L.mark (L.words x) rest (L.size S) (omega (arith, W.long S x z))) c)

  pub fair : (rest : List ℕ) (lent : List Lent) → Limits S → Clear (sizes (L.lists S x)) → Clear own → InOrder S.p lent
      → refusal (read_rules L S lent (bytes (all_words L x) ++ rest)) ≡ 0
  fair rest lent l z c v = by-own S lent (standing_rules L S (bytes (all_words L x) ++ rest)) l v ∙ stands rest z c

  -- what is written passes the reader, and the fields read are those written
  back : (out before rest : List ℕ) → write_call L S x out ≡ given [] → (lent : List Lent) → InOrder S.p lent
      → let s = in_file before (write_left L S x out) rest in (refusal (read_rules L S lent s) ≡ 0) × (L.at S s ≡ x)
  back out before rest e lent v =
      let r = refusal (write_rules L S x (length out)) in
      let z : r ≡ 0 = (not-refused r (given []) [] e).0 in
      let w = wrote L W S x (length out) z in
      subst (λ (s : List ℕ). (refusal (read_rules L S lent s) ≡ 0) × (L.at S s ≡ x)) (sym (part-is r (bytes (all_words L x)) out before rest z))
      (fair rest lent w.limits w.lengths w.own v, W.again S x rest w.lengths)

  answer_back : (out before rest : List ℕ) → write_call L S x out ≡ given [] → (lent : List Lent) → InOrder S.p lent → (values : A → List ℕ)
      → let s = in_file before (write_left L S x out) rest in read_call L S lent s (values (L.at S s)) ≡ given (values x)
  answer_back out before rest e lent v values =
      let s = in_file before (write_left L S x out) rest in
      let b = back out before rest e lent v in
      sym (accepted (refusal (read_rules L S lent s)) (given (values (L.at S s))) b.0) ∙ ap (λ (y : A). given (values y)) b.1

  list_back : (out before rest : List ℕ) → write_call L S x out ≡ given [] → (lent : List Lent) → InOrder S.p lent → (list : A → List ℕ) (old : List ℕ)
      → let s = in_file before (write_left L S x out) rest in left_by (refusal (read_rules L S lent s)) (list (L.at S s)) old ≡ list x
  list_back out before rest e lent v list old =
      let s = in_file before (write_left L S x out) rest in
      let b = back out before rest e lent v in
      sym (written (refusal (read_rules L S lent s)) (list (L.at S s)) old (list (L.at S s)) b.0 refl) ∙ ap list b.1

-- SU
pub setup-at : (S : Setup) (rest : List ℕ) → length S.M ≡ S.n * dim S → setup_at (bytes (setup_words S) ++ rest) ≡ S
setup-at S rest e =
    let w = word_of (setup_words S) rest in
    let m : words_at (bytes (setup_words S) ++ rest) 5 (S.n * dim S) ≡ S.M =
    rw (append-nil S.M) at (words_of (mark_su ∷ S.p ∷ S.l ∷ S.e ∷ S.n ∷ []) S.M [] rest 5 (S.n * dim S) refl e) in
    rw (w 1 (omega arith), w 2 (omega arith), w 3 (omega arith), w 4 (omega arith), m)

-- SU's bytes pass its readers where S is in order
pub setup-fair : (S : Setup) (rest : List ℕ) → Clear (limits S) → length S.M ≡ S.n * dim S → not (all_below S.p S.M) ≡ false
    → refusal (read_setup_rules (bytes (setup_words S) ++ rest)) ≡ 0
setup-fair S rest c m b =
    let s : List ℕ = bytes (setup_words S) ++ rest in
    let d = due mark_su 10 s in
    let n : setup_size S ≤ length s = omega (arith, length-append (bytes (setup_words S)) rest, length-bytes (setup_words S), m) in
    let own : List Rule = (3 when ltb (length s) (setup_size S)) ∷ beyond_field S.p S.M ∷ [] in
    ap (λ (T : Setup). refusal (d ++ (limits T ++ ((3 when ltb (length s) (setup_size T)) ∷ beyond_field T.p T.M ∷ [])))) (setup-at S rest m)
    ∙ none-applies (d ++ (limits S ++ own))
    (clear_both d (limits S ++ own) (due-clear mark_su (S.p ∷ S.l ∷ S.e ∷ S.n ∷ S.M) rest 10 (omega arith))
    (clear_both (limits S) own c (le-ltb (length s) (setup_size S) n, (b, tt))))

setup-reads : (S : Setup) (rest : List ℕ) (k : ℕ) → refusal (write_setup_rules S k) ≡ 0 → SetupReads S (bytes (setup_words S) ++ rest)
setup-reads S rest k z =
    let s : List ℕ = bytes (setup_words S) ++ rest in
    let r = in_order S (matrix S ∷ room k (setup_size S) ∷ []) [] tt z in
    let v = r.lent.0 in
    let f = setup-at S rest v.size in
    let o : refusal (read_setup_rules s) ≡ 0 = setup-fair S rest (limits-clear S r.limits) v.size (elements-clear S.p _ S.M v) in
    let q : (m : List ℕ) → length m ≡ S.n * dim S → refusal (read_matrix_rules s (length m)) ≡ 0 = λ m e.
    matrix-as-setup s (length m) (e ∙ ap (λ (T : Setup). T.n * dim T) (sym f)) ∙ o in
    record {
      numbers = sym (accepted (refusal (read_setup_rules s)) (given (word_at s 1 ∷ word_at s 2 ∷ word_at s 3 ∷ word_at s 4 ∷ [])) o) ∙ ap (λ (T : Setup). given (T.p ∷ T.l ∷ T.e ∷ T.n ∷ [])) f;
      matrix = λ m e. sym (accepted (refusal (read_matrix_rules s (length m))) (given []) (q m e));
      entries = λ m e. sym (written (refusal (read_matrix_rules s (length m))) (setup_at s).M m (setup_at s).M (q m e) refl) ∙ ap (λ (T : Setup). T.M) f;
    }

-- DL, as it stands in a file
pub dealing-fair : (S : Setup) (x : DealingRecord) (g h rest : List ℕ) → length g ≡ dim S → length h ≡ dim S
    → Clear (beyond_field S.p g ∷ beyond_field S.p h ∷ dealing_faults S x) → refusal (standing_rules dealing_layout S (bytes (dealing_words x g h) ++ rest)) ≡ 0
dealing-fair S x g h rest i j c = stands dealing_layout dealing-lawful S (parts x g h) rest (size-clear _ _ i, (size-clear _ _ j, tt)) c

-- DZ, as it stands in a file
pub zero-fair : (S : Setup) (x : DealingRecord) (g h rest : List ℕ) → length g ≡ dim S → length h ≡ S.e
    → Clear (beyond_field S.p g ∷ beyond_field S.p h ∷ dealing_faults S x) → refusal (standing_rules zero_layout S (bytes (zero_words x g h) ++ rest)) ≡ 0
zero-fair S x g h rest i j c = stands zero_layout zero_lawful S (parts x g h) rest (size-clear _ _ i, (size-clear _ _ j, tt)) c

-- DF, as it stands in a file
pub mapped-fair : (S : Setup) (x : DealingRecord) (g h phi rest : List ℕ) → length g ≡ dim S → length h ≡ dim S → length phi ≡ S.l * S.l
    → Clear (beyond_field S.p g ∷ beyond_field S.p h ∷ beyond_field S.p phi ∷ dealing_faults S x)
    → refusal (standing_rules mapped_layout S (bytes (mapped_words x g h phi) ++ rest)) ≡ 0
mapped-fair S x g h phi rest i j k c =
    stands mapped_layout mapped-lawful S (mapped_parts x g h phi) rest (size-clear _ _ i, (size-clear _ _ j, (size-clear _ _ k, tt))) c

pub read_back : ReadBack
read_back =
    record {
      setup = λ S out before rest e.
          let r = refusal (write_setup_rules S (length out)) in
          let z : r ≡ 0 = (not-refused r (given []) [] e).0 in
          subst (λ (s : List ℕ). SetupReads S s) (sym (part-is r (bytes (setup_words S)) out before rest z)) (setup-reads S rest (length out) z);
      dealing = λ S x g h out before rest e.
          let lent : List ℕ → List ℕ → List Lent = λ a b. dealing_lent S (length a) (length b) in
          record {
            numbers = λ a b i j. answer_back dealing_layout dealing-lawful S (parts x g h) out before rest e (lent a b) (i, (j, tt)) (λ (y : DealingParts). y.numbers.dealing ∷ y.numbers.holder ∷ []);
            row = λ a b i j. list_back dealing_layout dealing-lawful S (parts x g h) out before rest e (lent a b) (i, (j, tt)) (λ (y : DealingParts). y.g) a;
            column = λ a b i j. list_back dealing_layout dealing-lawful S (parts x g h) out before rest e (lent a b) (i, (j, tt)) (λ (y : DealingParts). y.h) b;
          };
      zero = λ S x g h out before rest e.
          let lent : List ℕ → List ℕ → List Lent = λ a b. zero_lent S (length a) (length b) in
          record {
            numbers = λ a b i j. answer_back zero_layout zero_lawful S (parts x g h) out before rest e (lent a b) (i, (j, tt)) (λ (y : DealingParts). y.numbers.dealing ∷ y.numbers.holder ∷ []);
            row = λ a b i j. list_back zero_layout zero_lawful S (parts x g h) out before rest e (lent a b) (i, (j, tt)) (λ (y : DealingParts). y.g) a;
            column = λ a b i j. list_back zero_layout zero_lawful S (parts x g h) out before rest e (lent a b) (i, (j, tt)) (λ (y : DealingParts). y.h) b;
          };
      mapped = λ S x g h phi out before rest e.
          let lent : List ℕ → List ℕ → List ℕ → List Lent = λ a b c. mapped_lent S (length a) (length b) (length c) in
          record {
            numbers = λ a b c i j k. answer_back mapped_layout mapped-lawful S (mapped_parts x g h phi) out before rest e (lent a b c) (i, (j, (k, tt))) (λ (y : MappedParts). y.numbers.dealing ∷ y.numbers.holder ∷ []);
            row = λ a b c i j k. list_back mapped_layout mapped-lawful S (mapped_parts x g h phi) out before rest e (lent a b c) (i, (j, (k, tt))) (λ (y : MappedParts). y.g) a;
            column = λ a b c i j k. list_back mapped_layout mapped-lawful S (mapped_parts x g h phi) out before rest e (lent a b c) (i, (j, (k, tt))) (λ (y : MappedParts). y.h) b;
            map = λ a b c i j k. list_back mapped_layout mapped-lawful S (mapped_parts x g h phi) out before rest e (lent a b c) (i, (j, (k, tt))) (λ (y : MappedParts). y.phi) c;
          };
      pair = λ S x out before rest e. answer_back pair_layout (pair-lawful mark_pv) S x out before rest e [] tt pair_values;
      mapped-pair = λ S x out before rest e. answer_back mapped_pair_layout (pair-lawful mark_pf) S x out before rest e [] tt pair_values;
      verdict = λ S x out before rest e. answer_back verdict_layout verdict-lawful S x out before rest e [] tt verdict_values;
      share = λ S x out before rest e. answer_back share_layout share-lawful S x out before rest e [] tt share_values;
    }
