-- Contents in order are read back from their file: no rule of its records holds, and what is received is what was sent. The other way round is law whole-bytes.
-- reads-back, follows: the statements of specs/Sound.antt
use mathlib.Core.Path.{◌≡◌, refl, sym, ap, ◌∙◌}
use mathlib.Core.Bool.{Bool, true, false, not, ◌&&◌, false≢true}
use mathlib.Core.List.{List, [], ◌∷◌, ◌++◌}
use Prim.Native.Nat.{ℕ, zero, suc, ◌+◌, ◌*◌, ◌/◌, ◌%◌, ◌≤◌, ◌<◌}
use native.Mathlib.Nat.{mul-le-mul}
use native.Mathlib.Omega.{arith}
use borrow.Author.Tests.{eq-eqb, ne_eqb, lt-leb}
use lib.Dec.{eqb, ltb}
use lib.ListN.{length, drop, length-append}
use lib.Seq.{drop_at, drop-drop}
use Rattle.base.specs.Choice.{pick}
use Rattle.base.specs.Rules.{refusal, Clear}
use Rattle.base.specs.Search.{Vec}
use Rattle.base.specs.Fill.{tab, tab_from}
use Rattle.base.specs.Matrix.{Below}
use Rattle.base.proofs.Choice.{picked}
use Rattle.base.proofs.Rules.{clear, none-applies}
use Rattle.scheme.specs.Setup.{Setup, dim}
use Rattle.scheme.specs.Calls.{limits, sizes}
use Rattle.scheme.proofs.Calls.{limits-clear, limits-pos, below-vec, size-clear, elements-clear}
use Rattle.record_words.specs.Words.{bytes, word_at, Bytes}
use Rattle.record_words.proofs.Words.{length-bytes, word_of}
use Rattle.record_layouts.specs.declared.DealingRecord.{DealingRecord}
use Rattle.record_layouts.specs.Records.{DealingParts, parts, mark_su, mark_dl, mark_dz, mark_pv, mark_pf, mark_df, setup_words, mapped_words, all_words, pair_layout_of, verdict_words, setup_size, mapped_size, dealing_at, dealing_g, parts_h, standing_rules, dealing_faults, mapped_layout}
use Rattle.record_layouts.proofs.Calls.{dim-small, matrix-small}
use Rattle.record_layouts.proofs.Layouts.{mapped_at, mapped-row-at, mapped-column-at, mapped-phi-at}
use Rattle.record_layouts.proofs.ReadBack.{setup-at, setup-fair, stands, mapped-fair}
use Rattle.file_records.specs.declared.Head.{Head}
use Rattle.file_records.specs.Received.{fault_at, reached, place, sent_at, verdicts_at, joined, sent, said, pairs, verdicts, received}
use Rattle.file_records.proofs.Reading.{pairs-some}
use Rattle.file_records.proofs.Records.{size, starts, not-refused, values-back, values2-back, verdicts-back}
use Rattle.file_reading.specs.Contents.{Second, Kind, plain, mapped, Contents, is_mapped, is_zero, columns, part_layout, values2, OfKind, InOrder, numbers, head, mapped_bytes, file_bytes}
use Rattle.file_reading.specs.Contents as contents
use Rattle.file_reading.specs.File.{FileRead, whole, setup_fault, has_zero, dealing_fault, has_map, mapped_rules, mapped_fault, first_byte, start, kind_at, contents_of, of_contents, or_refused, of_received, read_file}
use Rattle.file_reading.specs.Sound.{Written, ReadsBack, Follows}
use Rattle.file_reading.proofs.Steps.{same-contents, setup-own, part-lawful, part-size, columns-le, zero-mark, is_second, deal-own, has-no-place, has-mark, map-none, map-own, of-whole, goes_on, file-next, field-le}
use Rattle.file_reading.proofs.Whole.{whole-in-order, whole-bytes}

and-false : (b : Bool) → (b && false) ≡ false
and-false true = refl
and-false false = refl

-- the mark of DL or DZ
marked-zero : (z : Bool) → eqb (pick z mark_dz mark_dl) mark_dz ≡ z
marked-zero true = refl
marked-zero false = refl

no-setup : (z : Bool) → eqb (pick z mark_dz mark_dl) mark_su ≡ false
no-setup true = refl
no-setup false = refl

-- words of 16 bits are two bytes each
below-cons : (p x : ℕ) (l : List ℕ) → x < p → Below p l → Below p (x ∷ l)
below-cons p x l a b zero = a
below-cons p x l a b (suc k) = b k

below-append : (p : ℕ) (l m : List ℕ) → Below p l → Below p m → Below p (l ++ m)
below-append p [] m a b = b
below-append p (x ∷ l) m a b = below-cons p x (l ++ m) (a 0) (below-append p l m (λ k. a (suc k)) b)

abbrev Words : List ℕ → Type 0
Words [] = Unit {0}
Words (x ∷ l) = (x < 65536) × Words l

words_append : (l m : List ℕ) → Words l → Words m → Words (l ++ m)
words_append [] m a b = b
words_append (x ∷ l) m a b = (a.0, words_append l m a.1 b)

words-below : (p : ℕ) (l : List ℕ) → p ≤ 65536 → Below p l → Words l
words-below p [] h b = tt
words-below p (x ∷ l) h b = (omega (arith, b 0, h), words-below p l h (λ k. b (suc k)))

two_bytes : (ws : List ℕ) → Words ws → Bytes (bytes ws)
unfolding bytes
two_bytes [] a = λ k. omega arith
two_bytes (x ∷ ws) a =
    below-cons 256 (x % 256) (x / 256 ∷ bytes ws) (omega arith) (below-cons 256 (x / 256) (bytes ws) (omega (arith, a.0)) (two_bytes ws a.1))

joined_bytes : (n : ℕ) (f : ℕ → List ℕ) → ((k : ℕ) → k < n → Bytes (f k)) → (m j : ℕ) → j + m ≤ n → Bytes (joined (tab_from j m f))
unfolding tab_from
joined_bytes n f each zero j l = λ k. omega arith
joined_bytes n f each (suc m) j l =
    below-append 256 (f j) (joined (tab_from (suc j) m f)) (each j (omega arith)) (joined_bytes n f each m (suc j) (omega arith))

module _ (C : Contents) (ok : InOrder C) where
  abbrev S : Setup
  S = C.setup

  abbrev x : DealingRecord
  x = numbers C

  abbrev h : Head
  h = head C

  abbrev z : Bool
  z = is_zero C.kind

  abbrev part : DealingParts
  part = parts (numbers C) C.g C.h

  abbrev su : List ℕ
  su = bytes (setup_words C.setup)

  abbrev dl : List ℕ
  dl = bytes (all_words (part_layout (is_zero C.kind)) (parts (numbers C) C.g C.h))

  abbrev df : List ℕ
  df = mapped_bytes (numbers C) C.kind

  abbrev rest : List ℕ
  rest = received (head C) C.values (values2 C.kind) C.verdicts

  su-size : length su ≡ setup_size S
  su-size = omega (arith, length-bytes (setup_words S), ok.setup.matrix.size)

  dl-size : length dl ≡ (part_layout z).size S
  dl-size = omega (arith, length-bytes (all_words (part_layout z) part), length-append C.g C.h, ok.row.size, ok.column.size, part-size z S)

  df-size : length df ≡ pick (is_mapped C.kind) (mapped_size S) 0
  df-size = go C.kind ok.second
    where
      go : (k : Kind) → OfKind S k → length (mapped_bytes x k) ≡ pick (is_mapped k) (mapped_size S) 0
      go plain o = refl
      go contents.zero o = refl
      go (mapped y) o =
          omega (
            arith,
            length-bytes (mapped_words x y.g y.h y.phi),
            length-append (y.g ++ y.h) y.phi,
            length-append y.g y.h,
            o.row.size,
            o.column.size,
            o.map.size,
          )

  limits-ok : Clear (limits S)
  limits-ok = limits-clear S ok.setup.limits

  whole-size : length (file_bytes C) ≡ setup_size S + (part_layout z).size S + pick (is_mapped C.kind) (mapped_size S) 0 + length rest
  whole-size = omega (arith, length-append su (dl ++ (df ++ rest)), length-append dl (df ++ rest), length-append df rest, su-size, dl-size, df-size)

  no-setup-fault : setup_fault (file_bytes C) ≡ 0
  no-setup-fault =
      sym (setup-own (file_bytes C) (λ z. omega (arith, z, whole-size)))
      ∙ setup-fair S (dl ++ (df ++ rest)) limits-ok ok.setup.matrix.size (elements-clear S.p (S.n * dim S) S.M ok.setup.matrix)

  behind : drop (setup_size S) (file_bytes C) ≡ dl ++ (df ++ rest)
  behind = drop_at su (dl ++ (df ++ rest)) (setup_size S) su-size

  mark-there : word_at (dl ++ (df ++ rest)) 0 ≡ pick z mark_dz mark_dl
  mark-there = word_of (all_words (part_layout z) part) (df ++ rest) 0 (omega arith)

  first-there : is_second (dl ++ (df ++ rest)) ≡ false
  first-there = rw (mark-there, no-setup z) (and-false (not (ltb (length (dl ++ (df ++ rest))) 2)))

  zero-there : has_zero (dl ++ (df ++ rest)) ≡ z
  zero-there =
      zero-mark (dl ++ (df ++ rest)) (omega (arith, length-append dl (df ++ rest), dl-size, part-size z S))
      ∙ ap (λ (w : ℕ). eqb w mark_dz) mark-there ∙ marked-zero z

  lists-long : Clear (sizes ((part_layout z).lists S part))
  lists-long = (size-clear _ _ ok.row.size, (size-clear _ _ ok.column.size, tt))

  part-back : (part_layout z).at S (dl ++ (df ++ rest)) ≡ part
  part-back = (part-lawful z).again S part (df ++ rest) lists-long

  -- the two numbers of DL or DZ, and of DF
  numbers-clear : Clear (dealing_faults S x)
  numbers-clear = (lt-leb S.n C.holder ok.holder, (ne_eqb C.dealing 0 (λ z. omega (arith, z, ok.dealing.0)), tt))

  no-dealing-fault : dealing_fault S (drop (setup_size S) (file_bytes C)) ≡ 0
  no-dealing-fault =
      rw behind
      (sym (deal-own S (dl ++ (df ++ rest)) (λ e. omega (arith, e, length-append dl (df ++ rest), dl-size, part-size z S)) first-there)
      ∙ ap (λ (b : Bool). refusal (standing_rules (part_layout b) S (dl ++ (df ++ rest)))) zero-there
      ∙ stands (part_layout z) (part-lawful z) S part (df ++ rest) lists-long
      (elements-clear S.p (dim S) C.g ok.row, (elements-clear S.p (columns z S) C.h ok.column, numbers-clear)))

  behind-both : drop (first_byte S z) (file_bytes C) ≡ df ++ rest
  behind-both =
      let n = (part_layout z).size S in
      sym (drop-drop n (setup_size S) (file_bytes C)) ∙ ap (drop n) behind ∙ drop_at dl (df ++ rest) n dl-size

  some : 0 < S.n
  some = ok.setup.limits.holders.0

  -- the DF, or none
  has : has_map z (df ++ rest) ≡ is_mapped C.kind
  has = go C.kind
    where
      go : (k : Kind) → has_map (is_zero k) (mapped_bytes x k ++ rest) ≡ is_mapped k
      go plain =
          has-mark false rest refl (omega (arith, size h C.values (values2 C.kind) C.verdicts, some))
          ∙ ap (λ (w : ℕ). eqb w mark_df) (starts h C.values (values2 C.kind) C.verdicts some)
      go (mapped y) =
          let ws = mapped_words x y.g y.h y.phi in
          has-mark false (bytes ws ++ rest) refl (omega (arith, length-append (bytes ws) rest, length-bytes ws))
          ∙ ap (λ (w : ℕ). eqb w mark_df) (word_of ws rest 0 (omega arith))
      go contents.zero = has-no-place true rest refl

  no-mapped-fault : mapped_fault S x z (df ++ rest) ≡ 0
  no-mapped-fault = go C.kind ok.second has
    where
      go : (k : Kind) → OfKind S k → has_map (is_zero k) (mapped_bytes x k ++ rest) ≡ is_mapped k → mapped_fault S x (is_zero k) (mapped_bytes x k ++ rest) ≡ 0
      go plain o e = sym (map-none S x false rest e)
      go contents.zero o e = sym (map-none S x true rest e)
      go (mapped y) o e =
          let t = bytes (mapped_words x y.g y.h y.phi) ++ rest in
          let c = clear (standing_rules mapped_layout S t) tt
          (mapped-fair S x y.g y.h y.phi rest o.row.size o.column.size o.map.size (
            elements-clear S.p (dim S) y.g o.row,
            (elements-clear S.p (dim S) y.h o.column, (elements-clear S.p (S.l * S.l) y.phi o.map, numbers-clear)),
          )) in
          let lists = c.1.1.1 in
          let same = mapped_at x y.g y.h y.phi rest in
          sym (map-own S x false t e)
          ∙ none-applies (mapped_rules S x t) (
            c.0,
            (
              c.1.0,
              (
                c.1.1.0,
                (
                  lists.0,
                  (
                    lists.1.0,
                    (
                      lists.1.1.0,
                      (
                        ap not (eq-eqb (dealing_at t).holder x.holder (ap (λ (z : DealingRecord). z.holder) same)),
                        (ap not (eq-eqb (dealing_at t).dealing x.dealing (ap (λ (z : DealingRecord). z.dealing) same)), tt),
                      ),
                    ),
                  ),
                ),
              ),
            ),
          )

  behind-all : drop (start S z (is_mapped C.kind)) (file_bytes C) ≡ rest
  behind-all =
      sym (drop-drop (pick (is_mapped C.kind) (mapped_size S) 0) (first_byte S z) (file_bytes C)) ∙ ap (drop (pick (is_mapped C.kind) (mapped_size S) 0)) behind-both
      ∙ drop_at df rest (pick (is_mapped C.kind) (mapped_size S) 0) df-size

  -- what is received by PF, where there is a DF
  in-second : h.mapped ≡ true → Vec S.p S.n (values2 C.kind)
  in-second = go C.kind ok.second
    where
      go : (k : Kind) → OfKind S k → is_mapped k ≡ true → Vec S.p S.n (values2 k)
      go plain o e = absurd (false≢true e)
      go contents.zero o e = absurd (false≢true e)
      go (mapped y) o e = o.received

  kind-back : kind_at S z (is_mapped C.kind) (df ++ rest) (sent_at h S.n rest) ≡ C.kind
  kind-back = go C.kind ok.second (values2-back h C.values (values2 C.kind) C.verdicts ok.received in-second ok.heard)
    where
      go : (k : Kind) → OfKind S k → (is_mapped k ≡ true → sent_at h S.n rest ≡ values2 k)
          → kind_at S (is_zero k) (is_mapped k) (mapped_bytes x k ++ rest) (sent_at h S.n rest) ≡ k
      go plain o e = refl
      go contents.zero o e = refl
      go (mapped y) o e =
          let i = o.row.size in
          let j = o.column.size in
          let m = o.map.size in
          rw (
            mapped-row-at S x y.g y.h y.phi rest i j m,
            mapped-column-at S x y.g y.h y.phi rest i j m,
            mapped-phi-at S x y.g y.h y.phi rest i j m,
            e refl,
          ) refl

  reads : read_file (file_bytes C) ≡ whole C
  unfolding of_received
  reads =
      let s = file_bytes C in
      let n = S.n in
      let m = is_mapped C.kind in
      let v2 = values2 C.kind in
      let D : (values heard : List ℕ) → Kind → FileRead = λ values heard k. of_contents (contents_of S x C.g C.h values heard k) (length s) in
      let R : (t u : List ℕ) → FileRead = λ t u.
      or_refused (fault_at h t (reached h t)) (start S z m + place h (reached h t)) (D (sent_at h 0 t) (verdicts_at h t) (kind_at S z m u (sent_at h n t))) in
      let g = of_received S x C.g C.h z in
      sym (of-whole C (length s) ok.own
      ∙ ap (λ (v : List ℕ). D v C.verdicts C.kind) (sym (values-back h C.values v2 C.verdicts ok.received in-second ok.heard))
      ∙ ap (λ (v : List ℕ). D (sent_at h 0 rest) v C.kind) (sym (verdicts-back h C.values v2 C.verdicts ok.received in-second ok.heard))
      ∙ ap (λ (k : Kind). D (sent_at h 0 rest) (verdicts_at h rest) k) (sym kind-back)
      ∙ goes_on (fault_at h rest (reached h rest)) (start S z m + place h (reached h rest)) (D (sent_at h 0 rest) (verdicts_at h rest) (kind_at S z m (df ++ rest) (sent_at h n rest)))
      (not-refused h C.values v2 C.verdicts ok.received in-second ok.heard)
      ∙ ap (λ (t : List ℕ). R t (df ++ rest)) (sym behind-all)
      ∙ ap (λ (u : List ℕ). R (drop (start S z m) s) u) (sym behind-both)
      ∙ ap (λ (b : Bool). g b s) (sym (ap (has_map z) behind-both ∙ has))
      ∙ file-next s no-setup-fault S (sym (setup-at S (dl ++ (df ++ rest)) ok.setup.matrix.size)) no-dealing-fault
      (sym (ap dealing_at behind ∙ ap (λ (y : DealingParts). y.numbers) part-back))
      (sym (ap (dealing_g S) behind ∙ ap (λ (y : DealingParts). y.g) part-back))
      (sym (ap has_zero behind ∙ zero-there))
      (sym (ap (parts_h (columns z S) S) behind ∙ ap (λ (y : DealingParts). y.h) part-back))
      (ap (mapped_fault S x z) behind-both ∙ no-mapped-fault))

  -- and it is within the limit of a file: at most 1,034 bytes for SU, 70 for DL or DZ, 198 for DF, 640 for PV and PF, 256 for VD
  file-fits : length (file_bytes C) ≤ 4096
  file-fits =
      let L = ok.setup.limits in
      omega (
        arith,
        whole-size,
        size h C.values (values2 C.kind) C.verdicts,
        (pairs-some h).1,
        matrix-small S L,
        dim-small S L,
        part-size z S,
        columns-le z S,
        L.holders.1,
        picked (λ k. k ≤ mapped_size S) (is_mapped C.kind) (mapped_size S) 0 (omega arith) (omega arith),
        mul-le-mul {n₁ = S.l} {m₁ = S.l} {n₂ = 8} {m₂ = 8} L.secret.1 L.secret.1,
      )

  -- every word of it is one of 16 bits
  top : S.p ≤ 65521
  top = field-le S.p ok.setup.limits.field

  few : S.n ≤ 32
  few = ok.setup.limits.holders.1

  number : C.dealing < 65536
  number = omega (arith, ok.dealing.1)

  small : C.holder < 65536
  small = omega (arith, ok.holder, few)

  words : (k : ℕ) (l : List ℕ) → Vec S.p k l → Words l
  words k l v = words-below S.p l (omega (arith, top)) (below-vec S.p k l (limits-pos S ok.setup.limits) v)

  pairs-bytes : (mark : ℕ) → mark < 65536 → (values : List ℕ) → Vec S.p S.n values → Bytes (pairs mark h values)
  unfolding tab
  pairs-bytes mark m values v =
      joined_bytes S.n (λ j. bytes (all_words (pair_layout_of mark) (sent h values j))) (λ k l.
      two_bytes (all_words (pair_layout_of mark) (sent h values k)) (m, (number, (omega (arith, l, few), (small, (omega (arith, v.small k l, top), tt)))))) S.n 0 (omega arith)

  verdicts-bytes : Bytes (verdicts h C.verdicts)
  unfolding tab
  verdicts-bytes =
      joined_bytes S.n (λ j. bytes (verdict_words (said h C.verdicts j))) (λ k l.
      two_bytes (verdict_words (said h C.verdicts k)) (omega arith, (number, (omega (arith, l, few), (omega (arith, ok.heard.small k l), tt))))) S.n 0 (omega arith)

  -- of a DF and the PF
  map-bytes : (k : Kind) → OfKind S k → Bytes (mapped_bytes x k) × Bytes (pick (is_mapped k) (pairs mark_pf h (values2 k)) [])
  map-bytes plain o = (λ k. omega arith, λ k. omega arith)
  map-bytes contents.zero o = (λ k. omega arith, λ k. omega arith)
  map-bytes (mapped y) o = (
    two_bytes (mapped_words x y.g y.h y.phi) (
      omega arith,
      (
        number,
        (
          small,
          words_append (y.g ++ y.h) y.phi (words_append y.g y.h (words (dim S) y.g o.row) (words (dim S) y.h o.column))
              (words (S.l * S.l) y.phi o.map),
        ),
      ),
    ),
    pairs-bytes mark_pf (omega arith) y.values o.received,
  )

  all-bytes : Bytes (file_bytes C)
  all-bytes =
      let L = ok.setup.limits in
      let map = map-bytes C.kind ok.second in
      let second = pick (is_mapped C.kind) (pairs mark_pf h (values2 C.kind)) [] in
      below-append 256 su (dl ++ (df ++ rest))
      (two_bytes (setup_words S) (omega arith, (omega (arith, top), (omega (arith, L.secret.1), (omega (arith, L.random.1), (omega (arith, few), words (S.n * dim S) S.M ok.setup.matrix))))))
      (below-append 256 dl (df ++ rest)
      (two_bytes (all_words (part_layout z) part) (
        picked (λ m. m < 65536) z mark_dz mark_dl (omega arith) (omega arith),
        (number, (small, words_append C.g C.h (words (dim S) C.g ok.row) (words (columns z S) C.h ok.column))),
      ))
      (below-append 256 df rest map.0
      (below-append 256 (pairs mark_pv h C.values) (second ++ verdicts h C.verdicts) (pairs-bytes mark_pv (omega arith) C.values ok.received)
      (below-append 256 second (verdicts h C.verdicts) map.1 verdicts-bytes))))

pub reads-back : ReadsBack
reads-back C ok = record { bytes = all-bytes C ok; fits = file-fits C ok; back = reads C ok }

written : (s : List ℕ) (C : Contents) → Bytes s → read_file s ≡ whole C → Written s C
written s C b e = record { in_order = whole-in-order s C e b; same = whole-bytes s C e b }

pub follows : Follows
follows =
    record {
      written = written;
      reads-back = reads-back;
      bytes = λ s t C D b d e f same. (written s C b e).same ∙ ap file_bytes same ∙ sym (written t D d f).same;
      contents = λ s t C D e f same. same-contents C D (sym e ∙ ap read_file same ∙ f);
    }
