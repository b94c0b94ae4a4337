-- The laws of specs/Laws.antt. The table comes down to the two records read (Reading.antt), and these obey the laws (Two.antt); a part returned reads as the
-- record that it is the part of.
use mathlib.Core.Path.{◌≡◌, refl, sym, ap, subst, ◌∙◌}
use mathlib.Core.Bool.{Bool, true, false, not}
use mathlib.Core.List.{List, [], ◌∷◌, ◌++◌}
use Prim.Native.Nat.{ℕ, zero, suc, ◌+◌, ◌*◌, ◌%◌, ◌≤◌, ◌<◌}
use native.Mathlib.Nat.{mod-lt}
use native.Mathlib.Omega.{arith}
use lib.Dec.{eqb, ltb}
use lib.ListN.{length, get_or, take, length-take, get_or-eq_default}
use lib.Seq.{length-take-le, take-take, get_or-take, take-append_seam}
use borrow.Author.Tests.{ltb-true, ltb-false, eqb-true, lt-ltb, le-ltb}
use Rattle.base.specs.Choice.{pick}
use Rattle.base.specs.Rules.{refusal, Clear, Answer, given, answer_by}
use Rattle.base.proofs.Rules.{clear, clear-left, clear-right, clear_both, none-applies, not-refused}
use Rattle.scheme.specs.Setup.{Setup, Limits}
use Rattle.scheme.specs.Calls.{limits, refresh_call, refresh_rules}
use Rattle.scheme.specs.Opening.{refresh}
use Rattle.scheme.proofs.Calls.{limits-pos}
use Rattle.scheme.proofs.Answering.{marked_by}
use Rattle.record_words.specs.Words.{bytes, Bytes, word_at}
use Rattle.record_layouts.specs.declared.ShareRecord.{ShareRecord}
use Rattle.record_layouts.specs.Records.{mark_sh, due, standing_rules, read_rules, read_share_call, share_layout, share_faults, share_size, share_at, share_words}
use Rattle.record_layouts.specs.Answering.{ShareInOrder}
use Rattle.record_words.proofs.Words.{length-bytes}
use Rattle.record_layouts.proofs.Layouts.{share-lawful}
use Rattle.record_layouts.proofs.Exact.{standing-bytes}
use Rattle.record_layouts.proofs.Answering.{records-marked, records-answering}
use Rattle.superseding.specs.Superseding.{superseding_call, superseding_part, is_second, later}
use Rattle.superseding.specs.Laws.{Reads, OneShare, Agreeing, Refusing, EitherOrder, left_first, right_first, OfThree, AsWritten}
use Rattle.superseding.proofs.Reading.{readers, of_two, whole, by_first, by-second, past-both, both_read, second-by, first_by, part_by, part_none, part-long}
use Rattle.superseding.proofs.Two.{faulty, higher, sound, one-share, same-value, other-share, unequal-values, either_way, of_three, faulty-three}

-- NUMBERS: an answer's number is the table's
number_is : (r : ℕ) (vs : List ℕ) → (answer_by r (given vs)).number ≡ r
number_is zero vs = refl
number_is (suc r) vs = refl

module _ (S : Setup) (s : List ℕ) where
  reads : Reads S s → readers S s ≡ 0
  reads e = sym (number_is (readers S s) _) ∙ e

  read : readers S s ≡ 0 → Reads S s
  read e = number_is (readers S s) _ ∙ e

-- TWO RECORDS
module _ (S : Setup) (a b : List ℕ) where
  number : (superseding_call S a b).number ≡ of_two S a b
  number = number_is (of_two S a b) _

  passes : (superseding_call S a b).number ≡ 0 → of_two S a b ≡ 0
  passes e = sym number ∙ e

  by_both : Reads S a → Reads S b → (superseding_call S a b).number ≡ faulty (share_at a) (share_at b)
  by_both e f = number ∙ past-both S a b (reads S a e) (reads S b f)

-- refused, or not
decided : (r : ℕ) {A : Type 0} → (r ≡ 0 → A) → ((r ≡ 0 → ⊥) → A) → A
decided zero y n = y refl
decided (suc r) y n = n (λ z. omega (arith, z))

pub agreeing : Agreeing
agreeing =
    record {
      marked = λ S a b. marked_by (of_two S a b) (given _) refl;
      empty = λ S a b. (
        λ e z. let m = sym (part-long S a b (passes S a b z)) ∙ ap length e in omega (arith, m),
        λ n. part_none S a b (λ z. n (number S a b ∙ z)),
      );
      whole = λ S a b e. part-long S a b (passes S a b e);
    }

pub refusing : Refusing
refusing =
    record {
      first = λ S a b n. number S a b ∙ by_first S a b (λ z. n (read S a z)) ∙ sym (number_is (readers S a) _);
      second = λ S a b e n. number S a b ∙ by-second S a b (reads S a e) (λ z. n (read S b z)) ∙ sym (number_is (readers S b) _);
      other = λ S a b e f n. by_both S a b e f ∙ other-share (share_at a) (share_at b) n;
      combination = λ S a b e f z. by_both S a b e f ∙ other-share (share_at a) (share_at b) (λ o. o.single (o.dealing ∙ z));
      unequal = λ S a b e f o r v. by_both S a b e f ∙ unequal-values (share_at a) (share_at b) o r v;
      answers = λ S a b e f o v. by_both S a b e f ∙ sound (share_at a) (share_at b) o v;
    }

-- EITHER ORDER
-- records with the same fields have the same bytes
same_bytes : (S : Setup) (a b : List ℕ) → Bytes a → Bytes b → readers S a ≡ 0 → readers S b ≡ 0 → share_at a ≡ share_at b → take share_size a ≡ take share_size b
same_bytes S a b i j e f h = stand a i e ∙ ap (λ x. bytes (share_words x)) h ∙ sym (stand b j f)
  where
    stand : (s : List ℕ) → Bytes s → readers S s ≡ 0 → take share_size s ≡ bytes (share_words (share_at s))
    stand s i e =
        let own = share_faults S (share_at s) in
        standing-bytes share_layout share-lawful S s i
        (clear-left (due mark_sh share_size s) own (clear-right (limits S) (due mark_sh share_size s ++ own) (clear (read_rules share_layout S [] s) tt e)))

same-fields : (x y : ShareRecord) → OneShare x y → x.value ≡ y.value → x.round ≡ y.round → x ≡ y
same-fields x y o v r = rw (o.dealing, o.holder, o.column, v, r) refl

either_number : (S : Setup) (a b : List ℕ) → Reads S a → Reads S b → (superseding_call S b a).number ≡ (superseding_call S a b).number
either_number S a b e f = by_both S b a f e ∙ either_way (share_at a) (share_at b) ∙ sym (by_both S a b e f)

either-part : (S : Setup) (a b : List ℕ) → Bytes a → Bytes b → Reads S a → Reads S b → superseding_part S b a ≡ superseding_part S a b
either-part S a b i j e f =
    decided (of_two S a b)
    (λ z. part_by S b a (back z) ∙ go z (later (share_at a) (share_at b)) refl (later (share_at b) (share_at a)) refl ∙ sym (part_by S a b z))
    (λ n. part_none S b a (λ z. n (sym turned ∙ z)) ∙ sym (part_none S a b n))
  where
    turned : of_two S b a ≡ of_two S a b
    turned = sym (number S b a) ∙ either_number S a b e f ∙ number S a b

    back : of_two S a b ≡ 0 → of_two S b a ≡ 0
    back z = turned ∙ z

    go : of_two S a b ≡ 0 → (s : Bool) → later (share_at a) (share_at b) ≡ s → (t : Bool) → later (share_at b) (share_at a) ≡ t
        → take share_size (pick (later (share_at b) (share_at a)) a b) ≡ take share_size (pick (later (share_at a) (share_at b)) b a)
    go z true g true h = absurd (omega (arith, ltb-true (share_at a).round (share_at b).round g, ltb-true (share_at b).round (share_at a).round h))
    go z true g false h = rw (g, h) refl
    go z false g true h = rw (g, h) refl
    go z false g false h =
        let r : (share_at a).round ≡ (share_at b).round = omega (arith, ltb-false (share_at a).round (share_at b).round g, ltb-false (share_at b).round (share_at a).round h) in
        let q = both_read S a b z in
        rw (g, h)
        (sym (same_bytes S a b i j q.0 q.1
        (same-fields (share_at a) (share_at b) (one-share (share_at a) (share_at b) q.2) (same-value (share_at a) (share_at b) q.2 r) r)))

-- rounds that differ: just one of the two is the higher
one_later : (x y : ShareRecord) → (x.round ≡ y.round → ⊥) → later y x ≡ not (later x y)
one_later x y n = go (later x y) refl (later y x) refl
  where
    go : (s : Bool) → later x y ≡ s → (t : Bool) → later y x ≡ t → later y x ≡ not (later x y)
    go true e true f = absurd (omega (arith, ltb-true x.round y.round e, ltb-true y.round x.round f))
    go true e false f = f ∙ ap not (sym e)
    go false e true f = f ∙ ap not (sym e)
    go false e false f = absurd (n (omega (arith, ltb-false x.round y.round e, ltb-false y.round x.round f)))

pub either_order : EitherOrder
either_order =
    record {
      number = either_number;
      part = either-part;
      slice = λ S a b e n.
          let z = passes S a b e in
          let q = both_read S a b z in
          let w = either_number S a b (read S a q.0) (read S b q.1) ∙ e in
          second-by S b a (passes S b a w) ∙ one_later (share_at a) (share_at b) n ∙ ap not (sym (second-by S a b z));
      equal = λ S a b r.
          decided (of_two S a b)
          (λ z. second-by S a b z ∙ le-ltb (share_at a).round (share_at b).round (omega (arith, r)))
          (λ n. first_by S a b n);
    }

-- OF THREE
-- the part of a record that reads well reads as that record
module _ (S : Setup) (s : List ℕ) (e : readers S s ≡ 0) where
  same_word : (i : ℕ) → i < 6 → word_at (take share_size s) i ≡ word_at s i
  same_word i h =
      let p = get_or-take share_size s (2 * i) 0 (omega arith) in
      let q = get_or-take share_size s (2 * i + 1) 0 (omega arith) in
      rw (p, q) refl

  taken_at : share_at (take share_size s) ≡ share_at s
  taken_at = rw (same_word 1 (omega arith), same_word 2 (omega arith), same_word 3 (omega arith), same_word 4 (omega arith), same_word 5 (omega arith)) refl

  taken-reads : readers S (take share_size s) ≡ 0
  taken-reads =
      let own = standing_rules share_layout S s in
      let c = clear (read_rules share_layout S [] s) tt e in
      let r = clear-right (limits S) own c in
      let l = length-take-le share_size s (whole S s e) in
      none-applies (read_rules share_layout S [] (take share_size s))
      (clear_both (limits S) (standing_rules share_layout S (take share_size s)) (clear-left (limits S) own c) (
        le-ltb (length (take share_size s)) 2 (omega (arith, l)),
        (
          ap (λ w. not (eqb w mark_sh)) (same_word 0 (omega arith)) ∙ r.1.0,
          (le-ltb (length (take share_size s)) share_size (omega (arith, l)), subst (λ x. Clear (share_faults S x)) (sym taken_at) r.1.1.1),
        ),
      ))

taken-bytes : (s : List ℕ) → Bytes s → Bytes (take share_size s)
taken-bytes s i k = go (ltb k share_size) refl
  where
    go : (t : Bool) → ltb k share_size ≡ t → get_or (take share_size s) k 0 < 256
    go true e = rw (get_or-take share_size s k 0 (ltb-true k share_size e)) (i k)
    go false e =
        let l : length (take share_size s) ≤ k = omega (arith, length-take share_size s, ltb-false k share_size e) in
        rw (get_or-eq_default (take share_size s) 0 l) (omega arith)

-- the part returned
module _ (S : Setup) (a b : List ℕ) (z : of_two S a b ≡ 0) where
  part_at : share_at (superseding_part S a b) ≡ higher (share_at a) (share_at b)
  part_at = ap share_at (part_by S a b z) ∙ go (later (share_at a) (share_at b))
    where
      go : (t : Bool) → share_at (take share_size (pick t b a)) ≡ pick t (share_at b) (share_at a)
      go true = taken_at S b (both_read S a b z).1
      go false = taken_at S a (both_read S a b z).0

  part-reads : readers S (superseding_part S a b) ≡ 0
  part-reads = ap (readers S) (part_by S a b z) ∙ go (later (share_at a) (share_at b))
    where
      go : (t : Bool) → readers S (take share_size (pick t b a)) ≡ 0
      go true = taken-reads S b (both_read S a b z).1
      go false = taken-reads S a (both_read S a b z).0

  part_bytes : Bytes a → Bytes b → Bytes (superseding_part S a b)
  part_bytes i j = subst Bytes (sym (part_by S a b z)) (go (later (share_at a) (share_at b)))
    where
      go : (t : Bool) → Bytes (take share_size (pick t b a))
      go true = taken-bytes b j
      go false = taken-bytes a i

module _ (S : Setup) (a b c : List ℕ) (e : (superseding_call S a b).number ≡ 0) (f : (superseding_call S b c).number ≡ 0) where
  abbrev x : ShareRecord
  x = share_at a

  abbrev y : ShareRecord
  y = share_at b

  abbrev z : ShareRecord
  z = share_at c

  abbrev ab : List ℕ
  ab = superseding_part S a b

  abbrev bc : List ℕ
  bc = superseding_part S b c

  left : of_two S ab c ≡ faulty (higher x y) z
  left = past-both S ab c (part-reads S a b (passes S a b e)) (both_read S b c (passes S b c f)).1 ∙ ap (λ w. faulty w z) (part_at S a b (passes S a b e))

  right : of_two S a bc ≡ faulty x (higher y z)
  right = past-both S a bc (both_read S a b (passes S a b e)).0 (part-reads S b c (passes S b c f)) ∙ ap (λ w. faulty x w) (part_at S b c (passes S b c f))

  same-refusal : of_two S ab c ≡ of_two S a bc
  same-refusal = left ∙ faulty-three x y z (both_read S a b (passes S a b e)).2 (both_read S b c (passes S b c f)).2 ∙ sym right

  -- which it is, by the three records
  abbrev one : Bool
  one = later (higher x y) z

  abbrev two : Bool
  two = later x (higher y z)

  left-second : of_two S ab c ≡ 0 → is_second S ab c ≡ one
  left-second r = second-by S ab c r ∙ ap (λ w. later w z) (part_at S a b (passes S a b e))

  right-second : of_two S a bc ≡ 0 → is_second S a bc ≡ two
  right-second r = second-by S a bc r ∙ ap (λ w. later x w) (part_at S b c (passes S b c f))

  -- where the last two are refused, the second was not the higher of the first two
  not-higher : (of_two S ab c ≡ 0 → ⊥) → later x y ≡ false
  not-higher n = go (later x y) refl
    where
      go : (t : Bool) → later x y ≡ t → t ≡ false
      go false g = refl
      go true g = absurd (n (left ∙ ap (λ t. faulty (pick t y x) z) g ∙ (both_read S b c (passes S b c f)).2))

  three-slice : left_first S a b c ≡ right_first S a b c
  three-slice =
      decided (of_two S ab c)
      (λ r.
      rw (left-second r, right-second (sym same-refusal ∙ r), second-by S a b (passes S a b e), second-by S b c (passes S b c f)) (of_three x y z 1 2 3))
      (λ n.
      rw (first_by S ab c n, first_by S a bc (λ r. n (same-refusal ∙ r)))
      (ap (λ (t : Bool). pick t 2 1) (second-by S a b (passes S a b e) ∙ not-higher n)))

  three-part : superseding_part S ab c ≡ superseding_part S a bc
  three-part =
      decided (of_two S ab c)
      (λ r.
      part_by S ab c r
      ∙ ap (λ w. take share_size (pick (later w z) c ab)) (part_at S a b (passes S a b e))
      ∙ picked one c ab
      ∙ ap (λ l. pick one (take share_size c) l) (again a b (passes S a b e))
      ∙ of_three x y z (take share_size a) (take share_size b) (take share_size c)
      ∙ ap (λ l. pick two l (take share_size a)) (sym (again b c (passes S b c f)))
      ∙ sym (picked two bc a)
      ∙ ap (λ w. take share_size (pick (later x w) bc a)) (sym (part_at S b c (passes S b c f)))
      ∙ sym (part_by S a bc (sym same-refusal ∙ r)))
      (λ n. part_none S ab c n ∙ sym (part_none S a bc (λ r. n (same-refusal ∙ r))))
    where
      picked : (t : Bool) (u v : List ℕ) → take share_size (pick t u v) ≡ pick t (take share_size u) (take share_size v)
      picked true u v = refl
      picked false u v = refl

      again : (u v : List ℕ) (r : of_two S u v ≡ 0) → take share_size (superseding_part S u v) ≡ pick (later (share_at u) (share_at v)) (take share_size v) (take share_size u)
      again u v r =
          ap (take share_size) (part_by S u v r)
          ∙ take-take share_size share_size (pick (later (share_at u) (share_at v)) v u) (omega arith)
          ∙ picked (later (share_at u) (share_at v)) v u

three-outer : (S : Setup) (a b c : List ℕ) → Bytes a → Bytes b → Bytes c
    → (superseding_call S a b).number ≡ 0 → (superseding_call S b c).number ≡ 0 → (superseding_call S a c).number ≡ 0
    → superseding_part S (superseding_part S a c) b ≡ superseding_part S (superseding_part S a b) c
three-outer S a b c i j k e f g =
    let q = both_read S a b (passes S a b e) in
    let ra = read S a q.0 in
    let rb = read S b q.1 in
    let rac = read S (superseding_part S a c) (part-reads S a c (passes S a c g)) in
    either-part S b (superseding_part S a c) j (part_bytes S a c (passes S a c g) i k) rb rac
    ∙ sym (three-part S b a c (either_number S a b ra rb ∙ e) g)
    ∙ ap (λ l. superseding_part S l c) (either-part S a b i j ra rb)

pub of-three-records : OfThree
of-three-records =
    record {
      number = λ S a b c e f.
          number S (superseding_part S a b) c ∙ same-refusal S a b c e f ∙ sym (number S a (superseding_part S b c));
      part = three-part;
      slice = three-slice;
      outer = three-outer;
    }

-- RECORDS AS WRITTEN
module _ (S : Setup) (x : ShareRecord) (rest : List ℕ) where
  written-reads : Limits S → ShareInOrder S x → Reads S (bytes (share_words x) ++ rest)
  written-reads L w =
      eqb-true (read_share_call S (bytes (share_words x) ++ rest)).number 0
      (sym (records-marked.read-share S (bytes (share_words x) ++ rest)) ∙ records-answering.read-share S x rest L w)

  written_at : share_at (bytes (share_words x) ++ rest) ≡ x
  written_at = share-lawful.again S x rest tt

  written-part : take share_size (bytes (share_words x) ++ rest) ≡ bytes (share_words x)
  written-part =
      ap (λ n. take n (bytes (share_words x) ++ rest)) (sym (length-bytes (share_words x))) ∙ take-append_seam (bytes (share_words x)) rest

module _ (S : Setup) (x y : ShareRecord) (rest more : List ℕ) (L : Limits S) (v : ShareInOrder S x) (w : ShareInOrder S y) (o : OneShare x y) (h : x.round < y.round) where
  abbrev older : List ℕ
  older = bytes (share_words x) ++ rest

  abbrev newer : List ℕ
  newer = bytes (share_words y) ++ more

  both-answer : (superseding_call S older newer).number ≡ 0
  both-answer =
      by_both S older newer (written-reads S x rest L v) (written-reads S y more L w)
      ∙ ap (λ (q : ShareRecord). faulty q (share_at newer)) (written_at S x rest)
      ∙ ap (λ (q : ShareRecord). faulty x q) (written_at S y more)
      ∙ sound x y o (λ r. absurd (omega (arith, r, h)))

  is-newer : later (share_at older) (share_at newer) ≡ true
  is-newer =
      ap (λ (q : ShareRecord). later q (share_at newer)) (written_at S x rest) ∙ ap (λ (q : ShareRecord). later x q) (written_at S y more) ∙ lt-ltb x.round y.round h

  is-older : later (share_at newer) (share_at older) ≡ false
  is-older =
      ap (λ (q : ShareRecord). later q (share_at older)) (written_at S y more)
      ∙ ap (λ (q : ShareRecord). later y q) (written_at S x rest)
      ∙ le-ltb y.round x.round (omega (arith, h))

  newer-written : (superseding_part S older newer ≡ bytes (share_words y)) × (superseding_part S newer older ≡ bytes (share_words y))
  newer-written = (
    part_by S older newer (passes S older newer both-answer)
        ∙ ap (λ (t : Bool). take share_size (pick t newer older)) is-newer
        ∙ written-part S y more,
    part_by S newer older
        (passes S newer older (either_number S older newer (written-reads S x rest L v) (written-reads S y more L w) ∙ both-answer))
        ∙ ap (λ (t : Bool). take share_size (pick t older newer)) is-older
        ∙ written-part S y more,
  )

-- a refresh gives a field element of the next round
refreshed-is : (S : Setup) (x y : ShareRecord) (z : ℕ) → Limits S → refresh_call S.p x.value x.round z ≡ given (y.value ∷ y.round ∷ [])
    → (y.value < S.p) × (x.round < y.round)
unfolding refresh
refreshed-is S x y z L e =
    let r = (not-refused (refusal (refresh_rules S.p x.value x.round z)) _ _ e).1 in
    let v : (x.value + z) % S.p ≡ y.value = ap (λ (q : Answer). get_or q.values 0 0) r in
    let n : x.round + 1 ≡ y.round = ap (λ (q : Answer). get_or q.values 1 0) r in
    (rw (sym v) (mod-lt (x.value + z) (limits-pos S L)), omega (arith, n))

pub as_written : AsWritten
as_written =
    record {
      newer = newer-written;
      refreshed = λ S x y z rest more L v o e.
          let q = refreshed-is S x y z L e in
          let w : ShareInOrder S y =
          record {
            combination = λ d. absurd (o.single (o.dealing ∙ d));
            holder = omega (arith, v.holder, o.holder);
            column = omega (arith, v.column, o.column);
            value = q.0;
          } in
          newer-written S x y rest more L v w o q.1;
    }
