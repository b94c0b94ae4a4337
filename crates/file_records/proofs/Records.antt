-- The PV, PF and VD as bytes: what `received` gives passes and reads back, and what passes is what it gives of what is read.
-- length-joined, at_joined, joined_is: lists of one length, one after the other
use Prim.Native.Nat.{ℕ, zero, suc, ◌+◌, ◌-◌, ◌*◌, ◌<◌, ◌≤◌}
use mathlib.Core.Bool.{Bool, true, false, not}
use mathlib.Core.List.{List, [], ◌++◌, append_assoc, append-nil}
use mathlib.Core.Path.{◌≡◌, refl, sym, ap, ◌∙◌}
use native.Mathlib.Nat.{add-zero, not-suc-le-zero}
use native.Mathlib.Omega.{arith}
use lib.ListN.{length, take, drop, length-append, length-drop, take-append-drop, drop_of_length-le}
use lib.Seq.{drop-drop, get_or-drop, drop-append-add}
use lib.Dec.{ltb}
use borrow.Author.Tests.{le-ltb, lt-leb, eq-eqb, ltb-true, ltb-false}
use Rattle.base.specs.Choice.{pick}
use Rattle.base.specs.Search.{Vec}
use Rattle.base.specs.Fill.{tab, tab_from}
use Rattle.base.specs.Rules.{refusal}
use Rattle.base.proofs.Rules.{none-applies}
use Rattle.base.proofs.Search.{first-missing}
use Rattle.base.proofs.Fill.{get_d-tab, tab-is}
use Rattle.field.specs.Dot.{at}
use Rattle.record_words.specs.Words.{bytes, word_at, Bytes}
use Rattle.record_words.proofs.Words.{length-bytes, word_of, bytes-shown}
use Rattle.record_layouts.specs.Records.{mark_pv, mark_pf, pair_size, verdict_size, all_words, pair_layout_of, verdict_words, pair_at, verdict_at}
use Rattle.record_layouts.specs.declared.PairRecord.{PairRecord}
use Rattle.record_layouts.specs.declared.VerdictRecord.{VerdictRecord}
use Rattle.file_records.specs.declared.Head.{Head}
use Rattle.file_records.specs.Received.{pair_records, records, place, pair_rules, pair_fault, verdict_rules, verdict_fault, record_fault, fault_at, reached, sent_at, verdicts_at, joined, sent, said, pairs, verdicts, received}
use Rattle.file_records.proofs.Reading.{pairs-mapped, pairs-plain, pairs-some, record-there, none-due, PairIs, pair-stands, mapped-stands, verdict-stands}

-- LISTS OF ONE LENGTH
module _ (c : ℕ) (f : ℕ → List ℕ) where
  module _ (size : (j : ℕ) → length (f j) ≡ c) where
    pub length-joined : (n i : ℕ) → length (joined (tab_from i n f)) ≡ c * n
    unfolding tab_from
    length-joined zero i = omega arith
    length-joined (suc n) i = omega (arith, length-append (f i) (joined (tab_from (suc i) n f)), size i, length-joined n (suc i))

    pub at_joined : (n i k : ℕ) (rest : List ℕ) → k < n → (u : List ℕ) × (drop (c * k) (joined (tab_from i n f) ++ rest) ≡ f (i + k) ++ u)
    unfolding tab_from
    at_joined zero i k rest l = absurd (not-suc-le-zero l)
    at_joined (suc n) i zero rest l =
        let more = joined (tab_from (suc i) n f) in
        let z : c * 0 ≡ 0 = omega arith in
        (more ++ rest, rw (z, add-zero i) (append_assoc (f i) more rest))
    at_joined (suc n) i (suc k) rest l =
        let more = joined (tab_from (suc i) n f) in
        let next = at_joined n (suc i) k rest (omega arith) in
        let past : c * suc k ≡ length (f i) + c * k = omega (arith, size i) in
        (next.0, rw (past, append_assoc (f i) more rest, drop-append-add (f i) (more ++ rest) (c * k)) (next.1 ∙ ap (λ (j : ℕ). f j ++ next.0) {x = suc i + k} {y = i + suc k} (omega arith)))

  pub joined_is : (n i : ℕ) (t : List ℕ) → ((j : ℕ) → j < n → take c (drop (c * j) t) ≡ f (i + j)) → t ≡ joined (tab_from i n f) ++ drop (c * n) t
  unfolding tab_from
  joined_is zero i t each = let z : c * 0 ≡ 0 = omega arith in rw z refl
  joined_is (suc n) i t each =
      let z : c * 0 ≡ 0 = omega arith in
      let head : take c t ≡ f i = rw (z, add-zero i) at (each 0 (omega arith)) in
      let rest = drop c t in
      let more = joined_is n (suc i) rest (λ j l.
      ap (take c) (drop-drop (c * j) c t ∙ ap (λ (a : ℕ). drop a t) {x = c + c * j} {y = c * suc j} (omega arith)) ∙ each (suc j) (omega arith) ∙ ap f {x = i + suc j} {y = suc i + j} (omega arith)) in
      sym (take-append-drop c t) ∙ ap (λ (x : List ℕ). x ++ rest) head ∙ ap (λ (x : List ℕ). f i ++ x) more
      ∙ sym (append_assoc (f i) (joined (tab_from (suc i) n f)) (drop (c * n) rest))
      ∙ ap (λ (x : List ℕ). (f i ++ joined (tab_from (suc i) n f)) ++ x) (drop-drop (c * n) c t ∙ ap (λ (a : ℕ). drop a t) {x = c + c * n} {y = c * suc n} (omega arith))

-- ONE RECORD'S BYTES, whatever follows
abbrev pair_words : ℕ → PairRecord → List ℕ
pair_words mark x = all_words (pair_layout_of mark) x

module _ (h : Head) (k : ℕ) (rest : List ℕ) where
  pair-back : (mark : ℕ) (x : PairRecord) → pair_at (bytes (pair_words mark x) ++ rest) ≡ x
  pair-back mark x =
      let w = word_of (pair_words mark x) rest in
      rw (w 1 (omega arith), w 2 (omega arith), w 3 (omega arith), w 4 (omega arith)) refl

  verdict-back : (x : VerdictRecord) → verdict_at (bytes (verdict_words x) ++ rest) ≡ x
  verdict-back x =
      let w = word_of (verdict_words x) rest in
      rw (w 1 (omega arith), w 2 (omega arith), w 3 (omega arith)) refl

  long : (ws : List ℕ) → 2 * length ws ≤ length (bytes ws ++ rest)
  long ws = omega (arith, length-append (bytes ws) rest, length-bytes ws)

  -- the rules of a PV or PF that is due
  pair-clear : (mark first : ℕ) (x : PairRecord) → x.value < h.p → x.sender < h.n → x.receiver ≡ h.holder → x.dealing ≡ h.dealing → first + x.sender ≡ k
      → pair_fault h k first (length (bytes (pair_words mark x) ++ rest)) (pair_at (bytes (pair_words mark x) ++ rest)) ≡ 0
  unfolding pair_fault
  pair-clear mark first x value sender receiver dealing next =
      let u = bytes (pair_words mark x) ++ rest in
      let l : 10 ≤ length u = long (pair_words mark x) in
      ap (λ (y : PairRecord). refusal (pair_rules h k first (length u) y)) (pair-back mark x)
      ∙ none-applies (pair_rules h k first (length u) x) (
        le-ltb (length u) pair_size l,
        (
          lt-leb h.p x.value value,
          (
            lt-leb h.n x.sender sender,
            (
              ap not (eq-eqb x.receiver h.holder receiver),
              (ap not (eq-eqb x.dealing h.dealing dealing), (le-ltb (first + x.sender) k (omega (arith, next)), (ap not (eq-eqb (first + x.sender) k next), tt))),
            ),
          ),
        ),
      )

  pair-fair : (x : PairRecord) → pair_fault h k 0 (length (bytes (pair_words mark_pv x) ++ rest)) (pair_at (bytes (pair_words mark_pv x) ++ rest)) ≡ 0
      → record_fault h k (bytes (pair_words mark_pv x) ++ rest) ≡ 0
  unfolding record_fault
  pair-fair x e =
      let u = bytes (pair_words mark_pv x) ++ rest in
      let l : 10 ≤ length u = long (pair_words mark_pv x) in
      rw (le-ltb (length u) 2 (omega arith), word_of (pair_words mark_pv x) rest 0 (omega arith)) e

  mapped-fair : (x : PairRecord) → h.mapped ≡ true → pair_fault h k h.n (length (bytes (pair_words mark_pf x) ++ rest)) (pair_at (bytes (pair_words mark_pf x) ++ rest)) ≡ 0
      → record_fault h k (bytes (pair_words mark_pf x) ++ rest) ≡ 0
  unfolding record_fault
  mapped-fair x m e =
      let u = bytes (pair_words mark_pf x) ++ rest in
      let l : 10 ≤ length u = long (pair_words mark_pf x) in
      rw (le-ltb (length u) 2 (omega arith), word_of (pair_words mark_pf x) rest 0 (omega arith)) (ap (λ (b : Bool). pick b (pair_fault h k h.n (length u) (pair_at u)) 8) m ∙ e)

  verdict-fair : (x : VerdictRecord) → x.verdict < 2 → x.holder < h.n → x.dealing ≡ h.dealing → pair_records h + x.holder ≡ k
      → record_fault h k (bytes (verdict_words x) ++ rest) ≡ 0
  unfolding record_fault verdict_fault
  verdict-fair x verdict holder dealing next =
      let u = bytes (verdict_words x) ++ rest in
      let l : 8 ≤ length u = long (verdict_words x) in
      rw (le-ltb (length u) 2 (omega arith), word_of (verdict_words x) rest 0 (omega arith))
      (ap (λ (y : VerdictRecord). refusal (verdict_rules h k (length u) y)) (verdict-back x)
      ∙ none-applies (verdict_rules h k (length u) x) (
        le-ltb (length u) verdict_size l,
        (
          lt-leb h.n x.holder holder,
          (
            ap not (eq-eqb x.dealing h.dealing dealing),
            (le-ltb (pair_records h + x.holder) k (omega (arith, next)), (lt-leb 2 x.verdict verdict, (ap not (eq-eqb (pair_records h + x.holder) k next), tt))),
          ),
        ),
      ))

-- THE BYTES OF WHAT THE HOLDERS SENT
pub pairs-size : (mark : ℕ) (h : Head) (values : List ℕ) → length (pairs mark h values) ≡ 10 * h.n
unfolding tab
pairs-size mark h values =
    length-joined 10 (λ j. bytes (pair_words mark (sent h values j))) (λ j. length-bytes (pair_words mark (sent h values j))) h.n 0

pub verdicts-size : (h : Head) (heard : List ℕ) → length (verdicts h heard) ≡ 8 * h.n
unfolding tab
verdicts-size h heard = length-joined 8 (λ j. bytes (verdict_words (said h heard j))) (λ j. length-bytes (verdict_words (said h heard j))) h.n 0

-- without a DF the values of PF play no part
pub received-same : (h : Head) (values v w heard : List ℕ) → (h.mapped ≡ true → v ≡ w) → received h values v heard ≡ received h values w heard
received-same h values v w heard e = ap (λ (l : List ℕ). pairs mark_pv h values ++ (l ++ verdicts h heard)) (go h.mapped refl)
  where
    go : (b : Bool) → h.mapped ≡ b → pick b (pairs mark_pf h v) [] ≡ pick b (pairs mark_pf h w) []
    go true m = ap (pairs mark_pf h) (e m)
    go false m = refl

-- of a list of PV or PF, the record from holder j, and of the VD that of holder j
pair-in : (mark : ℕ) (h : Head) (values rest : List ℕ) (j : ℕ) → j < h.n
    → (u : List ℕ) × (drop (10 * j) (pairs mark h values ++ rest) ≡ bytes (pair_words mark (sent h values j)) ++ u)
unfolding tab
pair-in mark h values rest j l =
    let w = at_joined 10 (λ j. bytes (pair_words mark (sent h values j))) (λ j. length-bytes (pair_words mark (sent h values j))) h.n 0 j rest l in
    (w.0, w.1 ∙ ap (λ (i : ℕ). bytes (pair_words mark (sent h values i)) ++ w.0) {x = 0 + j} {y = j} (omega arith))

verdict-in : (h : Head) (heard : List ℕ) (j : ℕ) → j < h.n → (u : List ℕ) × (drop (8 * j) (verdicts h heard) ≡ bytes (verdict_words (said h heard j)) ++ u)
unfolding tab
verdict-in h heard j l =
    let w = at_joined 8 (λ j. bytes (verdict_words (said h heard j))) (λ j. length-bytes (verdict_words (said h heard j))) h.n 0 j [] l in
    (w.0, rw (← append-nil (verdicts h heard)) (w.1 ∙ ap (λ (i : ℕ). bytes (verdict_words (said h heard i)) ++ w.0) {x = 0 + j} {y = j} (omega arith)))

module _ (h : Head) (values values2 heard : List ℕ) where
  abbrev t : List ℕ
  t = received h values values2 heard

  -- the PF, or none
  abbrev between : List ℕ
  between = pick h.mapped (pairs mark_pf h values2) []

  between-size : 10 * h.n + length between ≡ 10 * pair_records h
  between-size = go h.mapped refl
    where
      go : (b : Bool) → h.mapped ≡ b → 10 * h.n + length (pick b (pairs mark_pf h values2) []) ≡ 10 * pair_records h
      go true e = omega (arith, pairs-size mark_pf h values2, pairs-mapped h e)
      go false e = omega (arith, pairs-plain h e)

  pub size : length t ≡ 10 * pair_records h + 8 * h.n
  size =
      omega (
        arith,
        length-append (pairs mark_pv h values) (between ++ verdicts h heard),
        length-append between (verdicts h heard),
        pairs-size mark_pv h values,
        between-size,
        verdicts-size h heard,
      )

  -- each stands at its place
  pair-there : (j : ℕ) → j < h.n → (u : List ℕ) × (drop (place h (0 + j)) t ≡ bytes (pair_words mark_pv (sent h values j)) ++ u)
  pair-there j l =
      let w = pair-in mark_pv h values (between ++ verdicts h heard) j l in
      let e : place h (0 + j) ≡ 10 * j = omega (arith, (pairs-some h).0) in
      (w.0, rw e w.1)

  -- they begin with a PV
  pub starts : 0 < h.n → word_at t 0 ≡ mark_pv
  starts some =
      let w = pair-there 0 some in
      let e : place h (0 + 0) ≡ 0 = omega arith in
      ap (λ (a : ℕ). word_at (drop a t) 0) (sym e) ∙ ap (λ (u : List ℕ). word_at u 0) w.1 ∙ word_of (pair_words mark_pv (sent h values 0)) w.0 0 (omega arith)

  mapped-there : h.mapped ≡ true → (j : ℕ) → j < h.n → (u : List ℕ) × (drop (place h (h.n + j)) t ≡ bytes (pair_words mark_pf (sent h values2 j)) ++ u)
  mapped-there m j l =
      let w = pair-in mark_pf h values2 (verdicts h heard) j l in
      let e : place h (h.n + j) ≡ length (pairs mark_pv h values) + 10 * j = omega (arith, pairs-size mark_pv h values, pairs-mapped h m) in (
        w.0,
        rw (e, drop-append-add (pairs mark_pv h values) (between ++ verdicts h heard) (10 * j))
            (ap (λ (b : Bool). drop (10 * j) (pick b (pairs mark_pf h values2) [] ++ verdicts h heard)) m ∙ w.1),
      )

  verdict-there : (j : ℕ) → j < h.n → (u : List ℕ) × (drop (place h (pair_records h + j)) t ≡ bytes (verdict_words (said h heard j)) ++ u)
  verdict-there j l =
      let w = verdict-in h heard j l in
      let e : place h (pair_records h + j) ≡ length (pairs mark_pv h values) + (length between + 8 * j) = omega (arith, pairs-size mark_pv h values, between-size) in
      (w.0, rw (e, drop-append-add (pairs mark_pv h values) (between ++ verdicts h heard) (length between + 8 * j), drop-append-add between (verdicts h heard) (8 * j)) w.1)

  -- so none is faulty, and behind them nothing stands
  record-passes : (k : ℕ) (b u : List ℕ) → drop (place h k) t ≡ b ++ u → 0 < length b → record_fault h k (b ++ u) ≡ 0 → fault_at h t k ≡ 0
  record-passes k b u e some f =
      let l : place h k < length t = omega (arith, ap length e, length-append b u, length-drop (place h k) t) in
      sym (record-there h t k (place h k) refl l) ∙ ap (record_fault h k) e ∙ f

  module _ (in-first : Vec h.p h.n values) (in-second : h.mapped ≡ true → Vec h.p h.n values2) (answered : Vec 2 h.n heard) where
    pair-passes : (j : ℕ) → j < h.n → fault_at h t (0 + j) ≡ 0
    pair-passes j m =
        let w = pair-there j m in
        let x = sent h values j in
        record-passes (0 + j) (bytes (pair_words mark_pv x)) w.0 w.1 (omega (arith, length-bytes (pair_words mark_pv x)))
        (pair-fair h (0 + j) w.0 x (pair-clear h (0 + j) w.0 mark_pv 0 x (in-first.small j m) m refl refl refl))

    mapped-passes : h.mapped ≡ true → (j : ℕ) → j < h.n → fault_at h t (h.n + j) ≡ 0
    mapped-passes b j m =
        let w = mapped-there b j m in
        let x = sent h values2 j in
        record-passes (h.n + j) (bytes (pair_words mark_pf x)) w.0 w.1 (omega (arith, length-bytes (pair_words mark_pf x)))
        (mapped-fair h (h.n + j) w.0 x b (pair-clear h (h.n + j) w.0 mark_pf h.n x ((in-second b).small j m) m refl refl refl))

    verdict-passes : (j : ℕ) → j < h.n → fault_at h t (pair_records h + j) ≡ 0
    verdict-passes j m =
        let w = verdict-there j m in
        record-passes (pair_records h + j) (bytes (verdict_words (said h heard j))) w.0 w.1 (omega (arith, length-bytes (verdict_words (said h heard j))))
        (verdict-fair h (pair_records h + j) w.0 (said h heard j) (answered.small j m) m refl refl)

    passes : (k : ℕ) → k < records h → fault_at h t k ≡ 0
    passes k l = go (ltb k h.n) refl (ltb k (pair_records h)) refl h.mapped refl
      where
        go : (a : Bool) → ltb k h.n ≡ a → (b : Bool) → ltb k (pair_records h) ≡ b → (c : Bool) → h.mapped ≡ c → fault_at h t k ≡ 0
        go true e b f c m = ap (fault_at h t) {x = k} {y = 0 + k} (omega arith) ∙ pair-passes k (ltb-true k h.n e)
        go false e true f true m =
            let z = ltb-false k h.n e in
            ap (fault_at h t) {x = k} {y = h.n + (k - h.n)} (omega arith)
            ∙ mapped-passes m (k - h.n) (omega (arith, ltb-true k (pair_records h) f, pairs-mapped h m))
        go false e true f false m = absurd (omega (arith, ltb-false k h.n e, ltb-true k (pair_records h) f, pairs-plain h m))
        go false e false f c m =
            let z = ltb-false k (pair_records h) f in
            ap (fault_at h t) {x = k} {y = pair_records h + (k - pair_records h)} (omega arith) ∙ verdict-passes (k - pair_records h) (omega arith)

    pub all-reached : reached h t ≡ records h
    unfolding reached
    all-reached = first-missing _ (records h) (λ k l. ap not (eq-eqb (fault_at h t k) 0 (passes k l)))

    pub not-refused : fault_at h t (reached h t) ≡ 0
    not-refused =
        ap (fault_at h t) all-reached
        ∙ sym (none-due h t (records h) (place h (records h)) refl (omega (arith, size)) (omega arith))

    pub values-back : sent_at h 0 t ≡ values
    values-back =
        sym (tab-is h.n (λ j. (pair_at (drop (place h (0 + j)) t)).value) 0 values in-first.size
        (λ j l. let w = pair-there j l in
        sym (ap (λ (u : List ℕ). (pair_at u).value) w.1 ∙ ap (λ (x : PairRecord). x.value) (pair-back h j w.0 mark_pv (sent h values j)))))

    pub values2-back : h.mapped ≡ true → sent_at h h.n t ≡ values2
    values2-back m =
        sym (tab-is h.n (λ j. (pair_at (drop (place h (h.n + j)) t)).value) 0 values2 (in-second m).size
        (λ j l. let w = mapped-there m j l in
        sym (ap (λ (u : List ℕ). (pair_at u).value) w.1 ∙ ap (λ (x : PairRecord). x.value) (pair-back h j w.0 mark_pf (sent h values2 j)))))

    pub verdicts-back : verdicts_at h t ≡ heard
    verdicts-back =
        sym (tab-is h.n (λ j. (verdict_at (drop (place h (pair_records h + j)) t)).verdict) 0 heard answered.size
        (λ j l. let w = verdict-there j l in
        sym (ap (λ (u : List ℕ). (verdict_at u).verdict) w.1 ∙ ap (λ (x : VerdictRecord). x.verdict) (verdict-back h j w.0 (said h heard j)))))

-- WHAT PASSES IS THE BYTES OF WHAT IS READ
module _ (h : Head) (t : List ℕ) (b : Bytes t) (all : (k : ℕ) → k < records h → fault_at h t k ≡ 0) (end : length t ≤ place h (records h)) where
  behind : (a : ℕ) → Bytes (drop a t)
  behind a i = rw (get_or-drop a t i 0) (b (a + i))

  -- a record that passes, at byte a
  pair-bytes : (mark first j a : ℕ) → j < h.n → a ≡ place h (first + j) → PairIs mark first h (first + j) (drop (place h (first + j)) t)
      → take 10 (drop a t) ≡ bytes (pair_words mark (sent h (sent_at h first t) (0 + j)))
  pair-bytes mark first j a l e P =
      let u = drop (place h (first + j)) t in
      let v : at (sent_at h first t) j ≡ (pair_at u).value = get_d-tab h.n (λ j. (pair_at (drop (place h (first + j)) t)).value) 0 j l in
      let i : 0 + j ≡ j = omega arith in
      let k : (first + j) - first ≡ j = omega arith in
      rw (i, v, e)
      (bytes-shown u (pair_words mark (pair_at u)) (behind (place h (first + j))) P.long (P.mark, (refl, (refl, (refl, (refl, tt)))))
      ∙ ap (λ (x : PairRecord). bytes (pair_words mark x)) (P.fields ∙ rw k refl))

  verdict-bytes : (j : ℕ) → j < h.n → take 8 (drop (8 * j) (drop (10 * pair_records h) t)) ≡ bytes (verdict_words (said h (verdicts_at h t) (0 + j)))
  verdict-bytes j l =
      let m = pair_records h in
      let u = drop (place h (m + j)) t in
      let Q = verdict-stands h (m + j) t (omega arith) (omega arith) (all (m + j) (omega arith)) in
      let i : 0 + j ≡ j = omega arith in
      let k : (m + j) - m ≡ j = omega arith in
      let v : at (verdicts_at h t) j ≡ (verdict_at u).verdict = get_d-tab h.n (λ j. (verdict_at (drop (place h (m + j)) t)).verdict) 0 j l in
      let e : 10 * m + 8 * j ≡ place h (m + j) = omega arith in
      rw (i, v, drop-drop (8 * j) (10 * m) t, e)
      (bytes-shown u (verdict_words (verdict_at u)) (behind (place h (m + j))) Q.long (Q.mark, (refl, (refl, (refl, tt))))
      ∙ ap (λ (x : VerdictRecord). bytes (verdict_words x)) (Q.fields ∙ rw k refl))

  abbrev pv : List ℕ
  pv = pairs mark_pv h (sent_at h 0 t)

  abbrev pf : List ℕ
  pf = pairs mark_pf h (sent_at h h.n t)

  abbrev vd : List ℕ
  vd = verdicts h (verdicts_at h t)

  pairs-are : t ≡ pv ++ drop (10 * h.n) t
  unfolding tab
  pairs-are =
      joined_is 10 (λ j. bytes (pair_words mark_pv (sent h (sent_at h 0 t) j))) h.n 0 t
      (λ j l. pair-bytes mark_pv 0 j (10 * j) l (omega (arith, (pairs-some h).0)) (pair-stands h (0 + j) t (omega arith) (all (0 + j) (omega (arith, (pairs-some h).0)))))

  mapped-are : h.mapped ≡ true → drop (10 * h.n) t ≡ pf ++ drop (10 * pair_records h) t
  unfolding tab
  mapped-are m =
      let twice = pairs-mapped h m in
      joined_is 10 (λ j. bytes (pair_words mark_pf (sent h (sent_at h h.n t) j))) h.n 0 (drop (10 * h.n) t)
      (λ j l. ap (take 10) (drop-drop (10 * j) (10 * h.n) t)
      ∙ pair-bytes mark_pf h.n j (10 * h.n + 10 * j) l (omega (arith, twice))
      (mapped-stands h (h.n + j) t m (omega arith) (omega arith) (all (h.n + j) (omega (arith, twice)))))
      ∙ ap (λ (x : List ℕ). pf ++ x) (drop-drop (10 * h.n) (10 * h.n) t ∙ ap (λ (a : ℕ). drop a t) {x = 10 * h.n + 10 * h.n} {y = 10 * pair_records h} (omega (arith, twice)))

  between-are : drop (10 * h.n) t ≡ pick h.mapped pf [] ++ drop (10 * pair_records h) t
  between-are = go h.mapped refl
    where
      go : (b : Bool) → h.mapped ≡ b → drop (10 * h.n) t ≡ pick b pf [] ++ drop (10 * pair_records h) t
      go true e = mapped-are e
      go false e = ap (λ (a : ℕ). drop a t) {x = 10 * h.n} {y = 10 * pair_records h} (omega (arith, pairs-plain h e))

  verdicts-are-last : drop (10 * pair_records h) t ≡ vd
  unfolding tab
  verdicts-are-last =
      let rest = drop (10 * pair_records h) t in
      let nothing : drop (8 * h.n) rest ≡ [] = drop_of_length-le rest {i = 8 * h.n} (omega (arith, length-drop (10 * pair_records h) t)) in
      joined_is 8 (λ j. bytes (verdict_words (said h (verdicts_at h t) j))) h.n 0 rest verdict-bytes
      ∙ ap (λ (x : List ℕ). vd ++ x) nothing ∙ append-nil vd

  pub exact : t ≡ received h (sent_at h 0 t) (sent_at h h.n t) (verdicts_at h t)
  exact = pairs-are ∙ ap (λ (x : List ℕ). pv ++ x) (between-are ∙ ap (λ (x : List ℕ). pick h.mapped pf [] ++ x) verdicts-are-last)
