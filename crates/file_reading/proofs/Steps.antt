-- The steps from what stands in a file to what is read: each test on the way picks what is read, and what is not refused is in order.
use Prim.Native.Nat.{ℕ, zero, suc, ◌+◌, ◌-◌, ◌*◌, ◌<◌, ◌≤◌}
use mathlib.Core.Bool.{Bool, true, false, not, ◌&&◌, false≢true}
use mathlib.Core.List.{List, [], ◌++◌}
use mathlib.Core.Path.{◌≡◌, refl, sym, ap, subst, ◌∙◌}
use native.Mathlib.Nat.{mul-le-mul}
use native.Mathlib.Omega.{arith}
use borrow.Author.Tests.{eq-eqb, ne_eqb, le-ltb, eqb-true, eqb-false, ltb-false, leb-false, not-false}
use lib.Dec.{eqb, ltb, lit≤}
use lib.ListN.{length, take, drop, replicate, length-drop}
use lib.Seq.{get_or-take, length-take-le}
use Rattle.base.specs.Choice.{pick}
use Rattle.base.specs.Rules.{refusal, Clear}
use Rattle.base.specs.Search.{first, Vec}
use Rattle.base.proofs.Fill.{tab-is}
use Rattle.field.specs.Fields.{is_field}
use Rattle.field.proofs.Fields.{five-elim, field-five}
use Rattle.field.specs.Dot.{at}
use Rattle.scheme.specs.declared.Params.{Params}
use Rattle.scheme.specs.declared.Judgement.{Judgement}
use Rattle.scheme.specs.declared.Fate.{Fate}
use Rattle.scheme.specs.declared.Fate.TheVariants.{Kept, Aborted}
use Rattle.scheme.specs.Setup.{Setup, dim, Limits, IsSetup, setup_of}
use Rattle.scheme.specs.Answers.{paper_fate}
use Rattle.scheme.specs.Dealing.{said_reject, is_kept, fate_of}
use Rattle.base.proofs.Rules.{clear}
use Rattle.scheme.proofs.Calls.{limits-pos, vec_of}
use Rattle.scheme.proofs.Verdicts.{kept-means}
use Rattle.record_layouts.specs.declared.DealingRecord.{DealingRecord}
use Rattle.record_words.specs.Words.{word_at, words_at}
use Rattle.record_words.proofs.Words.{length-words, get_d_words}
use Rattle.record_layouts.specs.Records.{DealingParts, mark_su, mark_df, mark_dz, due, setup_at, setup_size, mapped_size, dealing_at, dealing_g, dealing_h, parts_h, mapped_phi, read_setup_rules, standing_rules, params_at}
use Rattle.record_layouts.proofs.Calls.{setup-read, dim-small, matrix-small}
use Rattle.record_layouts.proofs.Layouts.{Lawful, dealing-lawful, zero_lawful}
use Rattle.base.specs.Refusals.{refused_by}
use Rattle.file_records.specs.declared.Sent.{Sent}
use Rattle.file_records.specs.declared.PartLists.{PartLists}
use Rattle.file_records.specs.Inner.{Sends, Small, HoldsPart}
use Rattle.file_records.proofs.Reading.{all_pass, values-small, values2-small, verdicts-small}
use Rattle.file_reading.specs.Contents.{Contents, is_mapped, is_zero, columns, part_layout, values2, verdict_of, judgement, fate, kept_shares, kept_mapped}
use Rattle.file_reading.specs.File.{FileRead, refused_at, whole, setup_fault, has_zero, dealing_fault, has_map, mapped_rules, mapped_fault, first_byte, start, head_of, kind_at, of_contents, or_refused, of_received, of_mapped, of_dealing, read_file, eight, params_of, told}
use Rattle.file_reading.specs.Inner.{part_of, zero_in, second_of, tied_in, Fair, contents_in}

-- A REFUSAL IS NO CONTENTS
is_whole : FileRead → Bool
is_whole (refused_at k byte) = false
is_whole (whole C) = true

pub not-whole : (k byte : ℕ) (C : Contents) → refused_at k byte ≡ whole C → ⊥
unfolding is_whole
not-whole k byte C e = false≢true (ap is_whole e)

contents_or : Contents → FileRead → Contents
contents_or D (refused_at k byte) = D
contents_or D (whole C) = C

pub same-contents : (C D : Contents) → whole C ≡ whole D → C ≡ D
unfolding contents_or
same-contents C D e = ap (contents_or C) e

-- EACH TEST PICKS WHAT IS READ
module _ (C : Contents) (len : ℕ) where
  pub of-13 : (at C.verdicts C.holder ≡ verdict_of (judgement C) → ⊥) → refused_at 13 len ≡ of_contents C len
  unfolding of_contents
  of-13 n = rw (ne_eqb _ _ n)

  pub of-whole : at C.verdicts C.holder ≡ verdict_of (judgement C) → whole C ≡ of_contents C len
  unfolding of_contents
  of-whole e = rw (eq-eqb _ _ e)

-- a fault's number, or what follows
pub refused-here : (k byte : ℕ) (r : FileRead) → (k ≡ 0 → ⊥) → refused_at k byte ≡ or_refused k byte r
refused-here zero byte r n = absurd (n refl)
refused-here (suc k) byte r n = refl

pub goes_on : (k byte : ℕ) (r : FileRead) → k ≡ 0 → r ≡ or_refused k byte r
goes_on zero byte r e = refl
goes_on (suc k) byte r e = absurd (omega arith)

pub field-le : (p : ℕ) → is_field p ≡ true → p ≤ 65521
field-le p t = five-elim p (λ p. p ≤ 65521) (lit≤ tt) (lit≤ tt) (lit≤ tt) (lit≤ tt) (lit≤ tt) (field-five p t)

-- DL AND DZ
pub part-lawful : (z : Bool) → Lawful DealingParts (part_layout z)
part-lawful true = zero_lawful
part-lawful false = dealing-lawful

pub part-size : (z : Bool) (S : Setup) → (part_layout z).size S ≡ 6 + 2 * (dim S + columns z S)
part-size true S = omega arith
part-size false S = omega arith

pub columns-le : (z : Bool) (S : Setup) → columns z S ≤ dim S
columns-le true S = omega arith
columns-le false S = omega arith

pub zero-mark : (t : List ℕ) → 2 ≤ length t → has_zero t ≡ eqb (word_at t 0) mark_dz
unfolding has_zero
zero-mark t l = rw (le-ltb (length t) 2 l) refl

abbrev pub is_second : List ℕ → Bool
is_second t = not (ltb (length t) 2) && eqb (word_at t 0) mark_su

pub both-fit : (a b : ℕ) (s : List ℕ) → a ≤ length s → b ≤ length (drop a s) → a + b ≤ length s
both-fit a b s h k = omega (arith, length-drop a s)

-- the fault from the byte on where SU ends
module _ (S : Setup) (t : List ℕ) where
  pub deal-own : (length t ≡ 0 → ⊥) → is_second t ≡ false → refusal (standing_rules (part_layout (has_zero t)) S t) ≡ dealing_fault S t
  unfolding dealing_fault
  deal-own n b = rw (ne_eqb (length t) 0 n, b) refl

pub deal-clear : (S : Setup) (t : List ℕ) → dealing_fault S t ≡ 0 → refusal (standing_rules (part_layout (has_zero t)) S t) ≡ 0
unfolding dealing_fault
deal-clear S t e = go (eqb (length t) 0) (is_second t) e
  where
    go : (a b : Bool) → pick a 11 (pick b 10 (refusal (standing_rules (part_layout (has_zero t)) S t))) ≡ 0 → refusal (standing_rules (part_layout (has_zero t)) S t) ≡ 0
    go true b e = absurd (omega arith)
    go false true e = absurd (omega arith)
    go false false e = e

-- a DL or DZ that is not refused
pub dealing-read : (S : Setup) (z : Bool) (t : List ℕ) → Limits S → refusal (standing_rules (part_layout z) S t) ≡ 0
    → (word_at t 2 < S.n) × Vec S.p (dim S) (dealing_g S t) × Vec S.p (columns z S) (parts_h (columns z S) S t) × ((part_layout z).size S ≤ length t) × (word_at t 1 ≡ 0 → ⊥)
dealing-read S z t L e =
    let r = (clear (standing_rules (part_layout z) S t) tt e).1.1 in
    let f = r.1 in
    let pos = limits-pos S L in (
      leb-false S.n (word_at t 2) f.1.1.0,
      vec_of S.p (dim S) (dealing_g S t) pos (length-words t 3 (dim S)) f.0,
      vec_of S.p (columns z S) (parts_h (columns z S) S t) pos (length-words t (3 + dim S) (columns z S)) f.1.0,
      ltb-false (length t) ((part_layout z).size S) r.0,
      eqb-false (word_at t 1) 0 f.1.1.1.0,
    )

-- DF: none behind a DZ
pub has-no-place : (z : Bool) (t : List ℕ) → z ≡ true → has_map z t ≡ false
unfolding has_map
has-no-place z t e = rw e refl

pub has-mark : (z : Bool) (t : List ℕ) → z ≡ false → 2 ≤ length t → has_map z t ≡ eqb (word_at t 0) mark_df
unfolding has_map
has-mark z t e l = rw (e, le-ltb (length t) 2 l) refl

pub has-own : (z : Bool) (t : List ℕ) → has_map z t ≡ true → z ≡ false
has-own true t e = absurd (false≢true (sym (has-no-place true t refl) ∙ e))
has-own false t e = refl

module _ (S : Setup) (x : DealingRecord) (z : Bool) (t : List ℕ) where
  pub map-none : has_map z t ≡ false → 0 ≡ mapped_fault S x z t
  unfolding mapped_fault
  map-none e = rw e refl

  pub map-own : has_map z t ≡ true → refusal (mapped_rules S x t) ≡ mapped_fault S x z t
  unfolding mapped_fault
  map-own e = rw e refl

-- a DF that is not refused
pub record MappedIs (S : Setup) (x : DealingRecord) (t : List ℕ) : Type 0 where
  pub due : Clear (due mark_df (mapped_size S) t)
  pub long : mapped_size S ≤ length t
  pub numbers : dealing_at t ≡ x
  pub row : Vec S.p (dim S) (dealing_g S t)
  pub column : Vec S.p (dim S) (dealing_h S t)
  pub map : Vec S.p (S.l * S.l) (mapped_phi S t)

pub mapped-read : (S : Setup) (x : DealingRecord) (z : Bool) (t : List ℕ) → Limits S → has_map z t ≡ true → mapped_fault S x z t ≡ 0 → MappedIs S x t
mapped-read S x z t L b e =
    let c = clear (mapped_rules S x t) tt (map-own S x z t b ∙ e) in
    let r = c.1.1 in
    let f = r.1 in
    let pos = limits-pos S L in
    let holder : word_at t 2 ≡ x.holder = eqb-true (word_at t 2) x.holder (not-false _ f.1.1.1.0) in
    let dealing : word_at t 1 ≡ x.dealing = eqb-true (word_at t 1) x.dealing (not-false _ f.1.1.1.1.0) in
    record {
      due = (c.0, (c.1.0, (r.0, tt)));
      long = ltb-false (length t) (mapped_size S) r.0;
      numbers = λ i. record { dealing = dealing i; holder = holder i };
      row = vec_of S.p (dim S) (dealing_g S t) pos (length-words t 3 (dim S)) f.0;
      column = vec_of S.p (dim S) (dealing_h S t) pos (length-words t (3 + dim S) (dim S)) f.1.0;
      map = vec_of S.p (S.l * S.l) (mapped_phi S t) pos (length-words t (3 + 2 * dim S) (S.l * S.l)) f.1.1.0;
    }

-- what is read as a second part does not depend on the values where there is none
pub kind-same : (S : Setup) (z b : Bool) (t v w : List ℕ) → (b ≡ true → v ≡ w) → kind_at S z b t v ≡ kind_at S z b t w
kind-same S z true t v w e = rw (e refl) refl
kind-same S z false t v w e = refl

-- SU
pub setup-own : (s : List ℕ) → (length s ≡ 0 → ⊥) → refusal (read_setup_rules s) ≡ setup_fault s
unfolding setup_fault
setup-own s n = rw (ne_eqb (length s) 0 n) refl

pub setup-clear : (s : List ℕ) → setup_fault s ≡ 0 → refusal (read_setup_rules s) ≡ 0
unfolding setup_fault
setup-clear s e = go (eqb (length s) 0) e
  where
    go : (b : Bool) → pick b 11 (refusal (read_setup_rules s)) ≡ 0 → refusal (read_setup_rules s) ≡ 0
    go true e = absurd (omega arith)
    go false e = e

-- THE FILE
pub file-refused : (s : List ℕ) (k : ℕ) → k ≡ setup_fault s → (k ≡ 0 → ⊥) → refused_at k 0 ≡ read_file s
unfolding read_file
file-refused s k e n = rw (← e) (refused-here k 0 (of_dealing (setup_at s) s) n)

module _ (s : List ℕ) (z : setup_fault s ≡ 0) (S : Setup) (is : S ≡ setup_at s) where
  file-dealing : of_dealing S s ≡ read_file s
  unfolding read_file
  file-dealing = rw (z, is) refl

  pub file-dealing-refused : (k : ℕ) → k ≡ dealing_fault S (drop (setup_size S) s) → (k ≡ 0 → ⊥) → refused_at k (setup_size S) ≡ read_file s
  unfolding of_dealing
  file-dealing-refused k f n =
      let t = drop (setup_size S) s in
      let z = has_zero t in
      let r = of_mapped S (dealing_at t) (dealing_g S t) (parts_h (columns z S) S t) z s in
      refused-here k (setup_size S) r n ∙ ap (λ (j : ℕ). or_refused j (setup_size S) r) f ∙ file-dealing

  module _ {x : DealingRecord} {g h : List ℕ} {o : Bool} (f : dealing_fault S (drop (setup_size S) s) ≡ 0) (a : x ≡ dealing_at (drop (setup_size S) s))
      (b : g ≡ dealing_g S (drop (setup_size S) s)) (d : o ≡ has_zero (drop (setup_size S) s)) (c : h ≡ parts_h (columns o S) S (drop (setup_size S) s)) where
    file-mapped : of_mapped S x g h o s ≡ read_file s
    unfolding of_dealing
    file-mapped =
        let t = drop (setup_size S) s in
        let r = of_mapped S (dealing_at t) (dealing_g S t) (parts_h (columns (has_zero t) S) S t) (has_zero t) s in
        let q : of_mapped S x g h o s ≡ r = rw (a, b, c, d) refl in
        q ∙ goes_on (dealing_fault S t) (setup_size S) r f ∙ file-dealing

    pub file-mapped-refused : (k : ℕ) → k ≡ mapped_fault S x o (drop (first_byte S o) s) → (k ≡ 0 → ⊥) → refused_at k (first_byte S o) ≡ read_file s
    unfolding of_mapped
    file-mapped-refused k e n =
        let r = of_received S x g h o (has_map o (drop (first_byte S o) s)) s in
        refused-here k (first_byte S o) r n ∙ ap (λ (j : ℕ). or_refused j (first_byte S o) r) e ∙ file-mapped

    pub file-next : mapped_fault S x o (drop (first_byte S o) s) ≡ 0 → of_received S x g h o (has_map o (drop (first_byte S o) s)) s ≡ read_file s
    unfolding of_mapped
    file-next e =
        let t = drop (first_byte S o) s in
        goes_on (mapped_fault S x o t) (first_byte S o) (of_received S x g h o (has_map o t) s) e ∙ file-mapped

-- SU AND DL OR DZ IN ORDER
module _ (s : List ℕ) (F : Fair s) where
  pub setup-fair : IsSetup (setup_at s) × (setup_size (setup_at s) ≤ length s)
  setup-fair = setup-read s (setup-clear s F.setup)

  pub dealing-fair : (word_at (part_of s) 2 < (setup_at s).n) × Vec (setup_at s).p (dim (setup_at s)) (dealing_g (setup_at s) (part_of s))
      × Vec (setup_at s).p (columns (zero_in s) (setup_at s)) (parts_h (columns (zero_in s) (setup_at s)) (setup_at s) (part_of s))
      × ((part_layout (zero_in s)).size (setup_at s) ≤ length (part_of s)) × (word_at (part_of s) 1 ≡ 0 → ⊥)
  dealing-fair = dealing-read (setup_at s) (zero_in s) (part_of s) setup-fair.0.limits (deal-clear (setup_at s) (part_of s) F.dealing)

  pub front_fits : first_byte (setup_at s) (zero_in s) ≤ length s
  front_fits = both-fit (setup_size (setup_at s)) ((part_layout (zero_in s)).size (setup_at s)) s setup-fair.1 dealing-fair.3

  -- their lists have room
  pub lists-small : (p : Params) → p ≡ params_at s → Small (setup_of p [])
  lists-small p e =
      let L = setup-fair.0.limits in
      let l = L.secret.1 in
      subst (λ (q : Params). Small (setup_of q [])) (sym e)
      (record { secret = l; width = dim-small (setup_at s) L; entries = matrix-small (setup_at s) L; map = mul-le-mul {n₁ = (setup_at s).l} {m₁ = (setup_at s).l} {n₂ = 8} {m₂ = 8} l l })

  -- a DF behind them, where it is not refused
  pub second-fair : mapped_fault (setup_at s) (dealing_at (part_of s)) (zero_in s) (second_of s) ≡ 0 → tied_in s ≡ true
      → MappedIs (setup_at s) (dealing_at (part_of s)) (second_of s)
  second-fair z b = mapped-read (setup_at s) (dealing_at (part_of s)) (zero_in s) (second_of s) setup-fair.0.limits b z

  pub start_fits : mapped_fault (setup_at s) (dealing_at (part_of s)) (zero_in s) (second_of s) ≡ 0 → start (setup_at s) (zero_in s) (tied_in s) ≤ length s
  start_fits z = go (tied_in s) refl
    where
      go : (b : Bool) → tied_in s ≡ b → start (setup_at s) (zero_in s) b ≤ length s
      go true e = both-fit (first_byte (setup_at s) (zero_in s)) (mapped_size (setup_at s)) s front_fits (second-fair z e).long
      go false e = omega (arith, front_fits)

take_words : (t : List ℕ) (i l d : ℕ) → l ≤ d → take l (words_at t i d) ≡ words_at t i l
unfolding words_at
take_words t i l d h =
    tab-is l (λ j. word_at t (i + j)) 0 (take l (words_at t i d)) (length-take-le l (words_at t i d) (omega (arith, length-words t i d)))
    (λ k m. get_or-take l (words_at t i d) k 0 m ∙ get_d_words t i d k (omega arith))

-- THE SHARES, in an array of eight zeros
abbrev zeros : ℕ → List ℕ
zeros n = replicate n 0

drop-zeros : (k n : ℕ) → drop k (zeros n) ≡ zeros (n - k)
drop-zeros zero n = ap zeros {x = n} {y = n - 0} (omega arith)
drop-zeros (suc k) zero = ap zeros {x = 0} {y = 0 - suc k} (omega arith)
drop-zeros (suc k) (suc n) = drop-zeros k n ∙ ap zeros {x = n - k} {y = suc n - suc k} (omega arith)

-- the shares of a DL, DZ or DF, as they were read
pub shares-read : (S : Setup) (k : ℕ) (t : List ℕ) (r : PartLists) → HoldsPart S k t r → r.shares ≡ eight (take S.l (dealing_g S t))
shares-read S k t r H =
    let w = take_words t 3 S.l (dim S) (omega arith) in
    H.shares ∙ rw (w, length-words t 3 S.l) (ap (λ (l : List ℕ). words_at t 3 S.l ++ l) (drop-zeros S.l 8))

-- ALL RECORDS, by what was received
module _ (s : List ℕ) (F : Fair s) (z : mapped_fault (setup_at s) (dealing_at (part_of s)) (zero_in s) (second_of s) ≡ 0) (r : Sent)
    (W : Sends (head_of (setup_at s) (dealing_at (part_of s)) (zero_in s) (tied_in s)) (drop (start (setup_at s) (zero_in s) (tied_in s)) s) r) where
  abbrev S : Setup
  S = setup_at s

  abbrev from : ℕ
  from = start (setup_at s) (zero_in s) (tied_in s)

  abbrev read : FileRead
  read = of_contents (contents_in s (take (setup_at s).n r.values) (take (setup_at s).n r.values2) (take (setup_at s).n r.verdicts)) (length s)

  all_read : or_refused (refused_by r.refused) (from + r.byte) read ≡ read_file s
  unfolding of_received
  all_read =
      rw (W.number, W.byte, W.values, W.verdicts, kind-same S (zero_in s) (tied_in s) (second_of s) (take S.n r.values2) _ W.values2)
      (file-next s F.setup S refl F.dealing refl refl refl refl z)

  pub sent-refused : (refused_by r.refused ≡ 0 → ⊥) → refused_at (refused_by r.refused) (from + r.byte) ≡ read_file s
  sent-refused n = refused-here (refused_by r.refused) (from + r.byte) read n ∙ all_read

  pub record SentIs : Type 0 where
    pub received : Vec S.p S.n (take S.n r.values)
    pub received2 : tied_in s ≡ true → Vec S.p S.n (take S.n r.values2)
    pub heard : Vec 2 S.n (take S.n r.verdicts)
    pub is : read ≡ read_file s

  pub sent-next : refused_by r.refused ≡ 0 → SentIs
  sent-next none =
      let h = head_of S (dealing_at (part_of s)) (zero_in s) (tied_in s) in
      let t = drop from s in
      let all = (all_pass h t (sym W.number ∙ none)).1 in
      record {
        received = rw W.values (values-small h t all);
        received2 = λ b. rw (W.values2 b) (values2-small h t all b);
        heard = rw W.verdicts (verdicts-small h t all);
        is = goes_on (refused_by r.refused) (from + r.byte) read none ∙ all_read;
      }

-- WHAT IS TOLD
pub fate-same : (s : Params) (m verdicts : List ℕ) → fate_of (setup_of s []) verdicts ≡ fate_of (setup_of s m) verdicts
unfolding fate_of is_kept
fate-same s m verdicts = refl

pub kept-shares : (S : Setup) (verdicts g xs : List ℕ) → fate_of S verdicts ≡ Kept → xs ≡ eight g → xs ≡ eight (pick (is_kept S verdicts) g [])
kept-shares S verdicts g xs e q = rw (kept-means S verdicts (ap paper_fate e)) q

pub no-shares : (S : Setup) (verdicts g : List ℕ) (i : ℕ) → fate_of S verdicts ≡ Aborted i → zeros 8 ≡ eight (pick (is_kept S verdicts) g [])
unfolding fate_of
no-shares S verdicts g i = go (is_kept S verdicts)
  where
    go : (b : Bool) → pick b Kept (Aborted (first (said_reject verdicts) S.n)) ≡ Aborted i → zeros 8 ≡ eight (pick b g [])
    go true e = absurd (let z : ◌≡◌ {A = ℕ} 1 0 = ap (λ (f : Fate). at (paper_fate f).values 0) e in omega arith)
    go false e = refl

pub told_is : (C : Contents) (p : Params) (x : DealingRecord) (j : Judgement) (f : Fate) (xs ys : List ℕ) (b z : Bool) → p ≡ params_of C.setup
    → x ≡ record { dealing = C.dealing; holder = C.holder } → j ≡ judgement C → f ≡ fate C → xs ≡ eight (kept_shares C) → b ≡ is_mapped C.kind
    → ys ≡ eight (kept_mapped C) → z ≡ is_zero C.kind
    → record { setup = p; dealing = x.dealing; holder = x.holder; outcome = record { judgement = j; fate = f }; shares = xs; mapped = b; shares2 = ys; zero = z } ≡ told C
told_is C p x j f xs ys m z a b c d e g i o = rw (a, b, c, d, e, g, i, o) refl

-- whether there is a second part, and its values; and whether it is a zero dealing's file
pub kind-mapped : (S : Setup) (z b : Bool) (t v : List ℕ) → b ≡ is_mapped (kind_at S z b t v)
kind-mapped S z true t v = refl
kind-mapped S true false t v = refl
kind-mapped S false false t v = refl

pub kind-values : (S : Setup) (z b : Bool) (t v : List ℕ) → b ≡ true → values2 (kind_at S z b t v) ≡ v
kind-values S z true t v e = refl
kind-values S z false t v e = absurd (false≢true e)

pub kind-zero : (S : Setup) (z b : Bool) (t v : List ℕ) → (b ≡ true → z ≡ false) → z ≡ is_zero (kind_at S z b t v)
kind-zero S z true t v e = e refl
kind-zero S true false t v e = refl
kind-zero S false false t v e = refl
