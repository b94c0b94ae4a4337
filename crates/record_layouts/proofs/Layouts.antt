-- What a layout must obey, what then follows of an accepted writer, and that the layouts of all records but SU obey it.
-- Lawful: its rules have numbers above 0; where its lists have the lengths needed, its words have its length and are read as the fields that they are of;
-- and the lists that are read have the lengths needed, and all the words read are those of the fields
-- Wrote: what an accepted writer says
use mathlib.Core.Path.{◌≡◌, refl, sym, ap, ◌∙◌}
use mathlib.Core.List.{List, [], ◌∷◌, ◌++◌, append-nil, append_assoc}
use Prim.Native.Nat.{ℕ, suc, ◌+◌, ◌*◌}
use native.Mathlib.Omega.{arith}
use lib.Dec.{T}
use lib.ListN.{length, length-append}
use lib.Seq.{sets}
use Rattle.base.specs.Rules.{refusal, Clear}
use Rattle.base.proofs.Rules.{positive, clear, clear-left, clear-right}
use Rattle.scheme.specs.Setup.{Setup, dim, Limits}
use Rattle.scheme.specs.Calls.{limits, room, sizes, in_field}
use Rattle.scheme.proofs.Calls.{limits-are, size_is, size-clear}
use Rattle.record_words.specs.Words.{bytes}
use Rattle.record_words.proofs.Words.{length-bytes, bytes-append, sets-whole, word_of, words_of, length-words, Shows, shows-append, shows-words}
use Rattle.record_layouts.specs.declared.DealingRecord.{DealingRecord}
use Rattle.record_layouts.specs.declared.PairRecord.{PairRecord}
use Rattle.record_layouts.specs.declared.VerdictRecord.{VerdictRecord}
use Rattle.record_layouts.specs.declared.ShareRecord.{ShareRecord}
use Rattle.record_layouts.specs.Records.{Layout, all_words, write_rules, mark_dl, DealingParts, parts, dealing_words, dealing_size, dealing_at, dealing_g, parts_h, dealing_h, parts_layout_of, dealing_layout}
use Rattle.record_layouts.specs.Records.{mark_dz, zero_words, zero_size, zero_h, zero_layout}
use Rattle.record_layouts.specs.Records.{mark_df, MappedParts, mapped_parts, mapped_words, mapped_phi, mapped_layout, pair_values, pair_layout_of, verdict_words, verdict_layout, share_words, share_layout}

pub record Lawful (A : Type 0) (L : Layout A) : Type 0 where
  pub positive-written : (S : Setup) (x : A) (k : ℕ) → T (positive (write_rules L S x k))
  pub positive-read : (S : Setup) (x : A) → T (positive (in_field S.p (L.lists S x) ++ L.faults S x))
  pub long : (S : Setup) (x : A) → Clear (sizes (L.lists S x)) → 2 * suc (length (L.words x)) ≡ L.size S
  pub again : (S : Setup) (x : A) (rest : List ℕ) → Clear (sizes (L.lists S x)) → L.at S (bytes (all_words L x) ++ rest) ≡ x
  pub full : (S : Setup) (s : List ℕ) → Clear (sizes (L.lists S (L.at S s)))
  pub shows : (S : Setup) (s : List ℕ) → Shows s 1 (L.words (L.at S s))

pub record Wrote (A : Type 0) (L : Layout A) (S : Setup) (x : A) (k : ℕ) : Type 0 where
  pub limits : Limits S
  pub lengths : Clear (sizes (L.lists S x))
  pub own : Clear (in_field S.p (L.lists S x) ++ L.faults S x)
  -- its words just fill the buffer
  pub fills : 2 * length (all_words L x) ≡ k

pub wrote : {A : Type 0} (L : Layout A) (W : Lawful A L) (S : Setup) (x : A) (k : ℕ) → refusal (write_rules L S x k) ≡ 0 → Wrote A L S x k
wrote L W S x k e =
    let own = in_field S.p (L.lists S x) ++ L.faults S x in
    let lengths = sizes (room k (L.size S) ∷ L.lists S x) in
    let c = clear (write_rules L S x k) (W.positive-written S x k) e in
    let q = clear-right (limits S) (lengths ++ own) c in
    let z = clear-left lengths own q in
    record {
      limits = limits-are S (clear-left (limits S) (lengths ++ own) c);
      lengths = z.1;
      own = clear-right lengths own q;
      fills = W.long S x z.1 ∙ sym (size_is k (L.size S) z.0);
    }

pub filled : {A : Type 0} (L : Layout A) (W : Lawful A L) (S : Setup) (x : A) (out : List ℕ) → refusal (write_rules L S x (length out)) ≡ 0
    → sets out 0 (bytes (all_words L x)) ≡ bytes (all_words L x)
filled L W S x out e = sets-whole out (bytes (all_words L x)) (length-bytes (all_words L x) ∙ (wrote L W S x (length out) e).fills)

-- DL'S FIELDS under a mark
module _ (mark : ℕ) (x : DealingRecord) (g h rest : List ℕ) where
  abbrev parts_in : List ℕ
  parts_in = bytes (mark ∷ x.dealing ∷ x.holder ∷ g ++ h) ++ rest

  numbers-in : dealing_at parts_in ≡ x
  numbers-in =
      let w = word_of (mark ∷ x.dealing ∷ x.holder ∷ g ++ h) rest in
      rw (w 1 (omega arith), w 2 (omega arith))

  g-in : (S : Setup) → length g ≡ dim S → dealing_g S parts_in ≡ g
  g-in S i = words_of (mark ∷ x.dealing ∷ x.holder ∷ []) g h rest 3 (dim S) refl i

  h-in : (S : Setup) (k : ℕ) → length g ≡ dim S → length h ≡ k → parts_h k S parts_in ≡ h
  h-in S k i j = rw (append-nil h) at (words_of (mark ∷ x.dealing ∷ x.holder ∷ g) h [] rest (3 + dim S) k (omega (arith, i)) j)

module _ (S : Setup) (k : ℕ) (s : List ℕ) where
  parts-shown : Shows s 3 (dealing_g S s ++ parts_h k S s)
  parts-shown =
      shows-append s 3 (dealing_g S s) (parts_h k S s) (3 + dim S) (omega (arith, length-words s 3 (dim S))) (shows-words s 3 (dim S)) (shows-words s (3 + dim S) k)

  parts-long : length (dealing_g S s ++ parts_h k S s) ≡ dim S + k
  parts-long = omega (arith, length-append (dealing_g S s) (parts_h k S s), length-words s 3 (dim S), length-words s (3 + dim S) k)

pub parts-lawful : (mark : ℕ) (size many : Setup → ℕ) → ((S : Setup) → 6 + 2 * (dim S + many S) ≡ size S) → Lawful DealingParts (parts_layout_of mark size many)
parts-lawful mark size many e =
    record {
      positive-written = λ S x k. tt;
      positive-read = λ S x. tt;
      long = λ S x c. omega (arith, e S, length-append x.g x.h, size_is (length x.g) (dim S) c.0, size_is (length x.h) (many S) c.1.0);
      again = λ S x rest c.
          let i = size_is (length x.g) (dim S) c.0 in
          let j = size_is (length x.h) (many S) c.1.0 in
          let s : List ℕ = bytes (mark ∷ x.numbers.dealing ∷ x.numbers.holder ∷ x.g ++ x.h) ++ rest in
          ap (λ (y : DealingRecord). parts y (dealing_g S s) (parts_h (many S) S s)) (numbers-in mark x.numbers x.g x.h rest)
          ∙ ap (λ (y : List ℕ). parts x.numbers y (parts_h (many S) S s)) (g-in mark x.numbers x.g x.h rest S i)
          ∙ ap (λ (y : List ℕ). parts x.numbers x.g y) (h-in mark x.numbers x.g x.h rest S (many S) i j);
      full = λ S s. (size-clear _ (dim S) (length-words s 3 (dim S)), (size-clear _ (many S) (length-words s (3 + dim S) (many S)), tt));
      shows = λ S s. (refl, (refl, parts-shown S (many S) s));
    }

-- DL
pub dealing-at : (x : DealingRecord) (g h rest : List ℕ) → dealing_at (bytes (dealing_words x g h) ++ rest) ≡ x
dealing-at x g h rest = numbers-in mark_dl x g h rest

module _ (S : Setup) (x : DealingRecord) (g h rest : List ℕ) (i : length g ≡ dim S) (j : length h ≡ dim S) where
  pub row_at : dealing_g S (bytes (dealing_words x g h) ++ rest) ≡ g
  row_at = g-in mark_dl x g h rest S i

  pub column-at : dealing_h S (bytes (dealing_words x g h) ++ rest) ≡ h
  column-at = h-in mark_dl x g h rest S (dim S) i j

pub dealing-lawful : Lawful DealingParts dealing_layout
dealing-lawful = parts-lawful mark_dl dealing_size (λ S. dim S) (λ S. omega arith)

-- DZ
pub zero-at : (x : DealingRecord) (g h rest : List ℕ) → dealing_at (bytes (zero_words x g h) ++ rest) ≡ x
zero-at x g h rest = numbers-in mark_dz x g h rest

module _ (S : Setup) (x : DealingRecord) (g h rest : List ℕ) (i : length g ≡ dim S) (j : length h ≡ S.e) where
  pub zero-row-at : dealing_g S (bytes (zero_words x g h) ++ rest) ≡ g
  zero-row-at = g-in mark_dz x g h rest S i

  pub zero-column-at : zero_h S (bytes (zero_words x g h) ++ rest) ≡ h
  zero-column-at = h-in mark_dz x g h rest S S.e i j

pub zero_lawful : Lawful DealingParts zero_layout
zero_lawful = parts-lawful mark_dz zero_size (λ S. S.e) (λ S. omega arith)

-- DF: DL's fields, then φ
map-behind : (x : DealingRecord) (g h phi rest : List ℕ)
    → bytes (mapped_words x g h phi) ++ rest ≡ bytes (mark_df ∷ x.dealing ∷ x.holder ∷ g ++ h) ++ (bytes phi ++ rest)
map-behind x g h phi rest =
    let first : List ℕ = mark_df ∷ x.dealing ∷ x.holder ∷ g ++ h in
    ap (λ l. l ++ rest) (bytes-append first phi) ∙ append_assoc (bytes first) (bytes phi) rest

pub mapped_at : (x : DealingRecord) (g h phi rest : List ℕ) → dealing_at (bytes (mapped_words x g h phi) ++ rest) ≡ x
mapped_at x g h phi rest = ap dealing_at (map-behind x g h phi rest) ∙ numbers-in mark_df x g h (bytes phi ++ rest)

module _ (S : Setup) (x : DealingRecord) (g h phi rest : List ℕ) (i : length g ≡ dim S) (j : length h ≡ dim S) (k : length phi ≡ S.l * S.l) where
  pub mapped-row-at : dealing_g S (bytes (mapped_words x g h phi) ++ rest) ≡ g
  mapped-row-at = ap (dealing_g S) (map-behind x g h phi rest) ∙ g-in mark_df x g h (bytes phi ++ rest) S i

  pub mapped-column-at : dealing_h S (bytes (mapped_words x g h phi) ++ rest) ≡ h
  mapped-column-at = ap (dealing_h S) (map-behind x g h phi rest) ∙ h-in mark_df x g h (bytes phi ++ rest) S (dim S) i j

  pub mapped-phi-at : mapped_phi S (bytes (mapped_words x g h phi) ++ rest) ≡ phi
  mapped-phi-at =
      rw (append-nil phi) at
      (words_of (mark_df ∷ x.dealing ∷ x.holder ∷ g ++ h) phi [] rest (3 + 2 * dim S) (S.l * S.l) (omega (arith, length-append g h, i, j)) k)

pub mapped-lawful : Lawful MappedParts mapped_layout
mapped-lawful =
    record {
      positive-written = λ S x k. tt;
      positive-read = λ S x. tt;
      long = λ S x c.
          omega (
            arith,
            length-append (x.g ++ x.h) x.phi,
            length-append x.g x.h,
            size_is (length x.g) (dim S) c.0,
            size_is (length x.h) (dim S) c.1.0,
            size_is (length x.phi) (S.l * S.l) c.1.1.0,
          );
      again = λ S x rest c.
          let i = size_is (length x.g) (dim S) c.0 in
          let j = size_is (length x.h) (dim S) c.1.0 in
          let k = size_is (length x.phi) (S.l * S.l) c.1.1.0 in
          let s : List ℕ = bytes (mapped_words x.numbers x.g x.h x.phi) ++ rest in
          ap (λ (y : DealingRecord). mapped_parts y (dealing_g S s) (dealing_h S s) (mapped_phi S s)) (mapped_at x.numbers x.g x.h x.phi rest)
          ∙ ap (λ (y : List ℕ). mapped_parts x.numbers y (dealing_h S s) (mapped_phi S s)) (mapped-row-at S x.numbers x.g x.h x.phi rest i j k)
          ∙ ap (λ (y : List ℕ). mapped_parts x.numbers x.g y (mapped_phi S s)) (mapped-column-at S x.numbers x.g x.h x.phi rest i j k)
          ∙ ap (λ (y : List ℕ). mapped_parts x.numbers x.g x.h y) (mapped-phi-at S x.numbers x.g x.h x.phi rest i j k);
      full = λ S s. (
        size-clear _ (dim S) (length-words s 3 (dim S)),
        (size-clear _ (dim S) (length-words s (3 + dim S) (dim S)), (size-clear _ (S.l * S.l) (length-words s (3 + 2 * dim S) (S.l * S.l)), tt)),
      );
      shows = λ S s. (
        refl,
        (
          refl,
          shows-append s 3 (dealing_g S s ++ dealing_h S s) (mapped_phi S s) (3 + 2 * dim S) (omega (arith, parts-long S (dim S) s)) (parts-shown S (dim S) s)
              (shows-words s (3 + 2 * dim S) (S.l * S.l)),
        ),
      );
    }

-- PV AND PF
pub pair-lawful : (mark : ℕ) → Lawful PairRecord (pair_layout_of mark)
pair-lawful mark =
    record {
      positive-written = λ S x k. tt;
      positive-read = λ S x. tt;
      long = λ S x c. refl;
      again = λ S x rest c. let w = word_of (mark ∷ pair_values x) rest in rw (w 1 (omega arith), w 2 (omega arith), w 3 (omega arith), w 4 (omega arith));
      full = λ S s. tt;
      shows = λ S s. (refl, (refl, (refl, (refl, tt))));
    }

-- VD
pub verdict-lawful : Lawful VerdictRecord verdict_layout
verdict-lawful =
    record {
      positive-written = λ S x k. tt;
      positive-read = λ S x. tt;
      long = λ S x c. refl;
      again = λ S x rest c. let w = word_of (verdict_words x) rest in rw (w 1 (omega arith), w 2 (omega arith), w 3 (omega arith));
      full = λ S s. tt;
      shows = λ S s. (refl, (refl, (refl, tt)));
    }

-- SH
pub share-lawful : Lawful ShareRecord share_layout
share-lawful =
    record {
      positive-written = λ S x k. tt;
      positive-read = λ S x. tt;
      long = λ S x c. refl;
      again = λ S x rest c. let w = word_of (share_words x) rest in rw (w 1 (omega arith), w 2 (omega arith), w 3 (omega arith), w 4 (omega arith), w 5 (omega arith));
      full = λ S s. tt;
      shows = λ S s. (refl, (refl, (refl, (refl, (refl, tt)))));
    }
