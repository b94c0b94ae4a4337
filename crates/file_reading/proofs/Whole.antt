-- What an accepted file says: none of its records was refused, and its contents are those that stand in it, in order.
-- whole-setup, whole-is-setup, whole_row: the setup is the one that stands in the file, and in order; so is g
-- whole-in-order: they break nothing
-- whole-bytes: the file is that of its contents
-- file-some: a file with no refusal's number has contents
-- file-inside: a refusal's byte stands inside the file or at its end
-- missing: with 11, at its end: the statement of specs/Sound.antt
use Prim.Native.Nat.{ℕ, zero, suc, ◌+◌, ◌≤◌, ◌<◌}
use mathlib.Core.Bool.{Bool, true, false}
use mathlib.Core.List.{List, ◌++◌}
use mathlib.Core.Path.{◌≡◌, refl, sym, ap, subst, ◌∙◌}
use native.Mathlib.Omega.{arith}
use borrow.Author.Tests.{eqb-true, not-false}
use lib.Dec.{eqb}
use lib.ListN.{length, get_or, drop, length-drop, take-append-drop}
use lib.Seq.{get_or-drop, drop-drop, length-take-le}
use Rattle.base.specs.Choice.{pick}
use Rattle.base.specs.Rules.{refusal}
use Rattle.base.specs.Search.{Vec}
use Rattle.base.proofs.Choice.{picked}
use Rattle.base.proofs.Rules.{clear, never}
use Rattle.field.specs.Dot.{at}
use Rattle.scheme.specs.Setup.{Setup, dim, Limits, IsSetup}
use Rattle.record_words.specs.Words.{bytes, word_at, Bytes}
use Rattle.record_words.proofs.Words.{length-words}
use Rattle.record_layouts.specs.declared.DealingRecord.{DealingRecord}
use Rattle.record_layouts.specs.Records.{all_words, mark_su, setup_words, parts, setup_at, setup_size, mapped_size, dealing_at, dealing_g, parts_h, read_setup_rules, standing_rules, mapped_layout}
use Rattle.record_layouts.proofs.Calls.{setup-read}
use Rattle.record_layouts.proofs.Layouts.{mapped-lawful}
use Rattle.record_layouts.proofs.Exact.{standing-bytes, setup-bytes}
use Rattle.file_records.specs.declared.Head.{Head}
use Rattle.file_records.specs.Received.{records, place, fault_at, reached, sent_at, verdicts_at, received}
use Rattle.file_records.proofs.Reading.{nothing-behind, eleven-ends, all_pass, reached-inside, values-small, values2-small, verdicts-small}
use Rattle.file_records.proofs.Records.{exact, received-same}
use Rattle.file_reading.specs.Contents.{Contents, is_mapped, is_zero, columns, part_layout, shares_of, OfKind, InOrder, values2, judgement, verdict_of, mapped_bytes, file_bytes}
use Rattle.file_reading.specs.Contents as contents
use Rattle.file_reading.specs.File.{FileRead, refused_at, whole, number_of, byte_of, setup_fault, has_zero, dealing_fault, has_map, mapped_rules, mapped_fault, first_byte, start, head_of, kind_at, contents_of, of_contents, or_refused, of_received, of_mapped, of_dealing, read_file}
use Rattle.file_reading.specs.Sound.{Missing}
use Rattle.file_reading.proofs.Steps.{not-whole, same-contents, part-lawful, is_second, setup-clear, deal-clear, dealing-read, has-own, MappedIs, mapped-read, kind-mapped, kind-values, kind-zero, both-fit}

or-whole : (k byte : ℕ) (r : FileRead) (C : Contents) → or_refused k byte r ≡ whole C → (k ≡ 0) × (r ≡ whole C)
or-whole zero byte r C e = (refl, e)
or-whole (suc k) byte r C e = absurd (not-whole (suc k) byte C e)

pick-whole : (b : Bool) (r : FileRead) (k byte : ℕ) (C : Contents) → pick b r (refused_at k byte) ≡ whole C → (b ≡ true) × (r ≡ whole C)
pick-whole true r k byte C e = (refl, e)
pick-whole false r k byte C e = absurd (not-whole k byte C e)

module _ (s : List ℕ) (C : Contents) (e : read_file s ≡ whole C) where
  S : Setup
  S = setup_at s

  t : List ℕ
  t = drop (setup_size (setup_at s)) s

  x : DealingRecord
  x = dealing_at (drop (setup_size (setup_at s)) s)

  -- whether it is a DZ
  none : Bool
  none = has_zero (drop (setup_size (setup_at s)) s)

  -- the file behind it, and whether a DF stands there
  second : List ℕ
  second = drop (first_byte (setup_at s) (has_zero (drop (setup_size (setup_at s)) s))) s

  tied : Bool
  tied = let z = has_zero (drop (setup_size (setup_at s)) s) in has_map z (drop (first_byte (setup_at s) z) s)

  -- the records behind
  sent : List ℕ
  sent = let z = has_zero (drop (setup_size (setup_at s)) s) in drop (start (setup_at s) z (has_map z (drop (first_byte (setup_at s) z) s))) s

  head : Head
  head =
      let z = has_zero (drop (setup_size (setup_at s)) s) in
      head_of (setup_at s) (dealing_at (drop (setup_size (setup_at s)) s)) z (has_map z (drop (first_byte (setup_at s) z) s))

  from-setup : (setup_fault s ≡ 0) × (of_dealing (setup_at s) s ≡ whole C)
  unfolding read_file
  from-setup = or-whole (setup_fault s) 0 (of_dealing (setup_at s) s) C e

  -- its h
  column : List ℕ
  column = parts_h (columns none S) S t

  from-dealing : (dealing_fault S t ≡ 0) × (of_mapped S x (dealing_g S t) column none s ≡ whole C)
  unfolding of_dealing S t x none column
  from-dealing = or-whole (dealing_fault S t) (setup_size S) (of_mapped S x (dealing_g S t) column none s) C from-setup.1

  from-mapped : (mapped_fault S x none second ≡ 0) × (of_received S x (dealing_g S t) column none tied s ≡ whole C)
  unfolding of_mapped S t x none second tied
  from-mapped = or-whole (mapped_fault S x none second) (first_byte S none) (of_received S x (dealing_g S t) column none tied s) C from-dealing.1

  D : Contents
  D = contents_of S x (dealing_g S t) column (sent_at head 0 sent) (verdicts_at head sent) (kind_at S none tied second (sent_at head S.n sent))

  from-received : (fault_at head sent (reached head sent) ≡ 0) × (of_contents D (length s) ≡ whole C)
  unfolding of_received S t x none second tied sent head D
  from-received =
      let k = reached head sent in
      or-whole (fault_at head sent k) (start S none tied + place head k) (of_contents D (length s)) C from-mapped.1

  from-contents : (eqb (at D.verdicts D.holder) (verdict_of (judgement D)) ≡ true) × (whole D ≡ whole C)
  unfolding of_contents
  from-contents = pick-whole (eqb (at D.verdicts D.holder) (verdict_of (judgement D))) (whole D) 13 (length s) C from-received.1

  contents-are : D ≡ C
  contents-are = same-contents D C from-contents.1

  pass : (reached head sent ≡ records head) × ((k : ℕ) → k < records head → fault_at head sent k ≡ 0)
  pass = all_pass head sent from-received.0

  -- a DF that stands there
  map_is : tied ≡ true → MappedIs S x second
  unfolding S none second tied
  map_is b = mapped-read S x none second (setup-read s (setup-clear s from-setup.0)).0.limits b from-mapped.0

  -- and then no DZ
  zero_is : none ≡ is_zero (kind_at S none tied second (sent_at head S.n sent))
  unfolding none second tied
  zero_is = kind-zero S none tied second (sent_at head S.n sent) (has-own none second)

  pub whole-setup : C.setup ≡ setup_at s
  unfolding D S
  whole-setup = sym (ap (λ (c : Contents). c.setup) contents-are)

  pub whole-is-setup : IsSetup C.setup
  whole-is-setup = rw whole-setup (setup-read s (setup-clear s from-setup.0)).0

  -- the row part has d entries
  pub whole_row : length C.g ≡ dim C.setup
  unfolding D S t
  whole_row = rw (← contents-are) (length-words t 3 (dim S))

  -- and ℓ shares stand in it, and in the second part where there is one
  pub whole-mapped : length (shares_of C.setup C.kind) ≡ pick (is_mapped C.kind) C.setup.l 0
  unfolding D
  whole-mapped = rw (← contents-are) (go none tied)
    where
      v : List ℕ
      v = sent_at head S.n sent

      go : (z b : Bool) → length (shares_of S (kind_at S z b second v)) ≡ pick (is_mapped (kind_at S z b second v)) S.l 0
      go z true = length-take-le S.l (dealing_g S second) (omega (arith, length-words second 3 (dim S)))
      go true false = refl
      go false false = refl

  of-kind : (z b : Bool) → tied ≡ b → OfKind S (kind_at S z b second (sent_at head S.n sent))
  unfolding S head tied
  of-kind z true b =
      let M = map_is b in
      record { row = M.row; column = M.column; map = M.map; received = values2-small head sent pass.1 b }
  of-kind true false b = tt
  of-kind false false b = tt

  pub whole-in-order : Bytes s → InOrder C
  unfolding D S t x none column head
  whole-in-order bs =
      let U = (setup-read s (setup-clear s from-setup.0)).0 in
      let d = dealing-read S none t U.limits (deal-clear S t from-dealing.0) in
      let small : (i : ℕ) → get_or t i 0 < 256 = λ i. rw (get_or-drop (setup_size S) s i 0) (bs (setup_size S + i)) in
      rw (← contents-are)
      (record {
        setup = U;
        dealing = (omega (arith, d.4), omega (arith, small 2, small 3));
        holder = d.0;
        row = d.1;
        column = subst (λ (z : Bool). Vec S.p (columns z S) column) zero_is d.2;
        received = values-small head sent pass.1;
        heard = verdicts-small head sent pass.1;
        second = of-kind none tied refl;
        own = eqb-true _ _ from-contents.0;
      })

  -- and the file is that of these contents
  module _ (bs : Bytes s) where
    behind : (a : ℕ) → Bytes (drop a s)
    behind a i = rw (get_or-drop a s i 0) (bs (a + i))

    -- the DF, or nothing, and what comes behind it
    second-bytes : (z b : Bool) → tied ≡ b → second ≡ mapped_bytes x (kind_at S z b second (sent_at head S.n sent)) ++ drop (pick b (mapped_size S) 0) second
    second-bytes z true b =
        let M = map_is b in
        let df = standing-bytes mapped_layout mapped-lawful S second (unfold second in behind (first_byte (setup_at s) (has_zero (drop (setup_size (setup_at s)) s)))) M.due in
        sym (take-append-drop (mapped_size S) second)
        ∙ ap (λ (l : List ℕ). l ++ drop (mapped_size S) second)
        (df ∙ ap (λ (y : DealingRecord). mapped_bytes y (kind_at S z true second (sent_at head S.n sent))) M.numbers)
    second-bytes true false b = refl
    second-bytes false false b = refl

    behind-second : drop (pick tied (mapped_size S) 0) second ≡ sent
    unfolding S none second tied sent
    behind-second = drop-drop (pick tied (mapped_size S) 0) (first_byte S none) s

    received-bytes : sent ≡ received head (sent_at head 0 sent) (values2 (kind_at S none tied second (sent_at head S.n sent))) (verdicts_at head sent)
    received-bytes =
        let end : length sent ≤ place head (records head) = nothing-behind head (records head) sent refl (sym (ap (fault_at head sent) pass.0) ∙ from-received.0) in
        let rest = exact head sent
        (unfold sent none in behind (start (setup_at s) none (has_map none (drop (first_byte (setup_at s) none) s)))) pass.1 end in
        let v = sent_at head S.n sent in
        rest
        ∙ received-same head (sent_at head 0 sent) (sent_at head head.n sent) (values2 (kind_at S none tied second v)) (verdicts_at head sent)
        (λ b. unfold head S in sym (kind-values S none tied second v (unfold tied in b)))

    -- what the records are held against is what stands in the contents
    same_head : head ≡ contents.head D
    unfolding D head S x none tied second
    same_head i =
        let v = sent_at head S.n sent in
        record { p = S.p; n = S.n; dealing = x.dealing; holder = x.holder; mapped = kind-mapped S none tied second v i; zero = zero_is i }

    pub whole-bytes : s ≡ file_bytes C
    unfolding D S t x none column head
    whole-bytes =
        let U = setup-read s (setup-clear s from-setup.0) in
        let mark = eqb-true (word_at s 0) mark_su (not-false _ (clear (read_setup_rules s) tt (setup-clear s from-setup.0)).1.0) in
        let c = clear (standing_rules (part_layout none) S t) tt (deal-clear S t from-dealing.0) in
        let su = setup-bytes s bs mark U.1 in
        let dl = standing-bytes (part_layout none) (part-lawful none) S t (behind (setup_size S)) (c.0, (c.1.0, (c.1.1.0, tt))) in
        let a = bytes (setup_words S) in
        let b : Bool → List ℕ = λ z. bytes (all_words (part_layout z) (parts x (dealing_g S t) column)) in
        let k = kind_at S none tied second (sent_at head S.n sent) in
        let df = mapped_bytes x k in
        let n = (part_layout none).size S in
        let next : drop n t ≡ second = unfold second in drop-drop n (setup_size S) s in
        rw (← contents-are)
        (sym (take-append-drop (setup_size S) s) ∙ ap (λ (l : List ℕ). l ++ t) su
        ∙ ap (λ (l : List ℕ). a ++ l) (sym (take-append-drop n t) ∙ ap (λ (l : List ℕ). l ++ drop n t) (dl ∙ ap b zero_is)
        ∙ ap (λ (l : List ℕ). b (is_zero k) ++ l) (next ∙ second-bytes none tied refl ∙ ap (λ (l : List ℕ). df ++ l) (behind-second ∙ received-bytes
        ∙ ap (λ (h : Head). received h (sent_at head 0 sent) (values2 k) (verdicts_at head sent)) same_head))))

-- A FILE IS REFUSED OR HAS CONTENTS
pub record HasContents (x : FileRead) : Type 0 where
  pub contents : Contents
  pub is : x ≡ whole contents

or_some : (k byte : ℕ) (r : FileRead) → (number_of r ≡ 0 → HasContents r) → number_of (or_refused k byte r) ≡ 0 → HasContents (or_refused k byte r)
or_some zero byte r f e = f e
or_some (suc k) byte r f e = absurd (omega arith)

pick_some : (b : Bool) (r : FileRead) (k byte : ℕ) → (k ≡ 0 → ⊥) → (number_of r ≡ 0 → HasContents r) → number_of (pick b r (refused_at k byte)) ≡ 0
    → HasContents (pick b r (refused_at k byte))
pick_some true r k byte n f e = f e
pick_some false r k byte n f e = absurd (n e)

contents-some : (C : Contents) (n : ℕ) → number_of (of_contents C n) ≡ 0 → HasContents (of_contents C n)
unfolding of_contents
contents-some C n e =
    pick_some (eqb (at C.verdicts C.holder) (verdict_of (judgement C))) (whole C) 13 n (λ z. omega (arith, z)) (λ z. record { contents = C; is = refl }) e

pub file-some : (s : List ℕ) → number_of (read_file s) ≡ 0 → HasContents (read_file s)
unfolding read_file of_dealing of_mapped of_received
file-some s e =
    let S = setup_at s in
    let t = drop (setup_size S) s in
    let x = dealing_at t in
    let z = has_zero t in
    let a = parts_h (columns z S) S t in
    let u = drop (first_byte S z) s in
    let b = has_map z u in
    let h = head_of S x z b in
    let sent = drop (start S z b) s in
    let C = contents_of S x (dealing_g S t) a (sent_at h 0 sent) (verdicts_at h sent) (kind_at S z b u (sent_at h S.n sent)) in
    or_some (setup_fault s) 0 (of_dealing S s)
    (or_some (dealing_fault S t) (setup_size S) (of_mapped S x (dealing_g S t) a z s)
    (or_some (mapped_fault S x z u) (first_byte S z) (of_received S x (dealing_g S t) a z b s)
    (or_some (fault_at h sent (reached h sent)) _ (of_contents C (length s)) (contents-some C (length s))))) e

-- A REFUSAL'S BYTE
or-inside : (k byte n : ℕ) (r : FileRead) → byte ≤ n → (k ≡ 0 → byte_of r ≤ n) → byte_of (or_refused k byte r) ≤ n
or-inside zero byte n r l f = f refl
or-inside (suc k) byte n r l f = l

contents-inside : (C : Contents) (n : ℕ) → byte_of (of_contents C n) ≤ n
unfolding of_contents
contents-inside C n = picked (λ x. byte_of x ≤ n) (eqb (at C.verdicts C.holder) (verdict_of (judgement C))) (whole C) (refused_at 13 n) (omega arith) (omega arith)

-- the PV start inside the file or at its end
start-inside : (S : Setup) (x : DealingRecord) (z : Bool) (s : List ℕ) → Limits S → first_byte S z ≤ length s → mapped_fault S x z (drop (first_byte S z) s) ≡ 0
    → start S z (has_map z (drop (first_byte S z) s)) ≤ length s
start-inside S x z s L f m = go (has_map z (drop (first_byte S z) s)) refl
  where
    go : (b : Bool) → has_map z (drop (first_byte S z) s) ≡ b → start S z b ≤ length s
    go true e = both-fit (first_byte S z) (mapped_size S) s f (mapped-read S x z (drop (first_byte S z) s) L e m).long
    go false e = omega (arith, f)

pub file-inside : (s : List ℕ) → byte_of (read_file s) ≤ length s
unfolding read_file of_dealing of_mapped of_received
file-inside s =
    let S = setup_at s in
    let t = drop (setup_size S) s in
    let x = dealing_at t in
    let z = has_zero t in
    let a = parts_h (columns z S) S t in
    let u = drop (first_byte S z) s in
    let b = has_map z u in
    let h = head_of S x z b in
    let from = start S z b in
    let sent = drop from s in
    let n = length s in
    let C = contents_of S x (dealing_g S t) a (sent_at h 0 sent) (verdicts_at h sent) (kind_at S z b u (sent_at h S.n sent)) in
    or-inside (setup_fault s) 0 n (of_dealing S s) (omega arith) (λ i.
    let U = setup-read s (setup-clear s i) in
    or-inside (dealing_fault S t) (setup_size S) n (of_mapped S x (dealing_g S t) a z s) U.1 (λ y.
    let f = both-fit (setup_size S) ((part_layout z).size S) s U.1 (dealing-read S z t U.0.limits (deal-clear S t y)).3 in
    or-inside (mapped_fault S x z u) (first_byte S z) n (of_received S x (dealing_g S t) a z b s) f (λ v.
    or-inside (fault_at h sent (reached h sent)) (from + place h (reached h sent)) n (of_contents C n)
    (omega (arith, start-inside S x z s U.0.limits f v, reached-inside h sent, length-drop from s)) (λ w. contents-inside C n))))

-- A RECORD THAT IS MISSING
abbrev AtEnd : ℕ → FileRead → Type 0
AtEnd n x = (byte : ℕ) → x ≡ refused_at 11 byte → byte ≡ n

or-end : (k byte n : ℕ) (r : FileRead) → (k ≡ 11 → byte ≡ n) → (k ≡ 0 → AtEnd n r) → AtEnd n (or_refused k byte r)
or-end zero byte n r f g b e = g refl b e
or-end (suc k) byte n r f g b e = sym (ap byte_of e) ∙ f (ap number_of e)

no-setup : (s : List ℕ) → setup_fault s ≡ 11 → 0 ≡ length s
unfolding setup_fault
no-setup s = go (eqb (length s) 0) refl
  where
    go : (b : Bool) → eqb (length s) 0 ≡ b → pick b 11 (refusal (read_setup_rules s)) ≡ 11 → 0 ≡ length s
    go true q e = sym (eqb-true (length s) 0 q)
    go false q e = absurd (never 11 (read_setup_rules s) (omega arith) tt e)

no-dealing : (S : Setup) (t : List ℕ) → dealing_fault S t ≡ 11 → length t ≡ 0
unfolding dealing_fault
no-dealing S t = go (eqb (length t) 0) refl (is_second t)
  where
    go : (b : Bool) → eqb (length t) 0 ≡ b → (c : Bool) → pick b 11 (pick c 10 (refusal (standing_rules (part_layout (has_zero t)) S t))) ≡ 11 → length t ≡ 0
    go true q c e = eqb-true (length t) 0 q
    go false q true e = absurd (omega arith)
    go false q false e = absurd (never 11 (standing_rules (part_layout (has_zero t)) S t) (omega arith) tt e)

-- a DF is never missing
no-map-missing : (S : Setup) (x : DealingRecord) (z : Bool) (t : List ℕ) → mapped_fault S x z t ≡ 11 → ⊥
unfolding mapped_fault
no-map-missing S x z t =
    picked (λ k. k ≡ 11 → ⊥) (has_map z t) (refusal (mapped_rules S x t)) 0 (never 11 (mapped_rules S x t) (omega arith) tt) (λ z. omega (arith, z))

contents-end : (C : Contents) (n : ℕ) → AtEnd n (of_contents C n)
unfolding of_contents
contents-end C n =
    picked (AtEnd n) (eqb (at C.verdicts C.holder) (verdict_of (judgement C))) (whole C) (refused_at 13 n)
    (λ b e. absurd (not-whole 11 b C (sym e))) (λ b e. absurd (omega (arith, ap number_of e)))

pub missing : Missing
unfolding read_file of_dealing of_mapped of_received
missing s =
    let S = setup_at s in
    let t = drop (setup_size S) s in
    let x = dealing_at t in
    let z = has_zero t in
    let a = parts_h (columns z S) S t in
    let u = drop (first_byte S z) s in
    let b = has_map z u in
    let h = head_of S x z b in
    let from = start S z b in
    let sent = drop from s in
    let k = reached h sent in
    let n = length s in
    let C = contents_of S x (dealing_g S t) a (sent_at h 0 sent) (verdicts_at h sent) (kind_at S z b u (sent_at h S.n sent)) in
    or-end (setup_fault s) 0 n (of_dealing S s) (no-setup s) (λ i.
    let U = setup-read s (setup-clear s i) in
    or-end (dealing_fault S t) (setup_size S) n (of_mapped S x (dealing_g S t) a z s) (λ e. omega (arith, no-dealing S t e, U.1, length-drop (setup_size S) s)) (λ y.
    let f = both-fit (setup_size S) ((part_layout z).size S) s U.1 (dealing-read S z t U.0.limits (deal-clear S t y)).3 in
    or-end (mapped_fault S x z u) (first_byte S z) n (of_received S x (dealing_g S t) a z b s) (λ e. absurd (no-map-missing S x z u e)) (λ v.
    or-end (fault_at h sent k) (from + place h k) n (of_contents C n)
    (λ e. omega (arith, start-inside S x z s U.0.limits f v, eleven-ends h sent k e, reached-inside h sent, length-drop from s)) (λ w. contents-end C n))))
