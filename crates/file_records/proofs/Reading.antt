-- Reading the records: what a record that passes says, how far the file was read, and the words at the places of the records.
-- PairIs, VerdictIs: what stands where a PV or PF, or a VD, is due and passes
use Prim.Native.Nat.{ℕ, zero, suc, ◌+◌, ◌-◌, ◌*◌, ◌<◌, ◌≤◌}
use mathlib.Core.Bool.{Bool, true, false, not, false≢true}
use mathlib.Core.List.{List, ◌++◌}
use mathlib.Core.Path.{◌≡◌, refl, sym, ap, ◌∙◌}
use native.Mathlib.Omega.{arith}
use lib.ListN.{length, take, drop, length-append, length-drop, replicate, length-replicate}
use lib.Seq.{take_all, take_at, length-take-le, get_or-take}
use lib.Dec.{ltb, leb, eqb}
use borrow.Author.Tests.{le-leb, lt-leb, le-ltb, eq-eqb, ne_eqb, leb-true, leb-false, ltb-false, eqb-true, eqb-false, not-true, not-false}
use Rattle.std.proofs.Common.{Result, Ok, Err}
use Rattle.std.specs.Result.{is_err}
use Rattle.base.specs.declared.Refusal.{Refusal}
use Rattle.base.specs.Refusals.{refused_by}
use Rattle.base.proofs.Refusals.{above_zero}
use Rattle.base.specs.Rules.{or_when}
use Rattle.base.specs.Choice.{pick}
use Rattle.base.specs.Search.{First, found, missing, Vec, first}
use Rattle.base.specs.Fill.{filled, tab}
use Rattle.base.proofs.Choice.{picked}
use Rattle.base.proofs.Rules.{clear, never}
use Rattle.base.proofs.Search.{first-is, first-le}
use Rattle.base.proofs.Fill.{length-filled, get_d-filled, tab-is, tab-ext, tab-vec}
use Rattle.record_words.specs.Words.{word_at, words_at}
use Rattle.record_words.proofs.Words.{length-words, word-behind}
use Rattle.record_layouts.specs.Records.{mark_pv, mark_vd, mark_su, mark_dl, mark_df, mark_pf, mark_dz, pair_size, verdict_size, pair_at, verdict_at}
use Rattle.file_records.specs.declared.Head.{Head}
use Rattle.file_records.specs.Received.{pair_records, records, place, pair_rules, pair_fault, verdict_rules, verdict_fault, mark_fault, record_fault, fault_at, reached, sent_at, verdicts_at}

-- a part that goes to the end
pub part-is : (s : List ℕ) (a : ℕ) → take (length s - a) (drop a s) ≡ drop a s
part-is s a = take_all (length s - a) (drop a s) (omega (arith, length-drop a s))

-- a number past k is not k, and one that is neither before nor past it is
pub past : (i k : ℕ) → k < i → eqb i k ≡ false
past i k l = ne_eqb i k (λ e. omega (arith, e, l))

pub just : (i k : ℕ) → k ≤ i → i ≤ k → eqb i k ≡ true
just i k l m = eq-eqb i k (omega arith)

-- HOW MANY PV AND PF: n, and with a DF twice as many
pub pairs-mapped : (h : Head) → h.mapped ≡ true → pair_records h ≡ 2 * h.n
unfolding pair_records
pairs-mapped h e = rw e refl

pub pairs-plain : (h : Head) → h.mapped ≡ false → pair_records h ≡ h.n
unfolding pair_records
pairs-plain h e = rw e refl

pub pairs-some : (h : Head) → (h.n ≤ pair_records h) × (pair_records h ≤ 2 * h.n)
pairs-some h = go h.mapped refl
  where
    go : (b : Bool) → h.mapped ≡ b → (h.n ≤ pair_records h) × (pair_records h ≤ 2 * h.n)
    go true e = (omega (arith, pairs-mapped h e), omega (arith, pairs-mapped h e))
    go false e = (omega (arith, pairs-plain h e), omega (arith, pairs-plain h e))

-- RECORD k, which starts at byte a
module _ (h : Head) (t : List ℕ) (k a : ℕ) (is : a ≡ place h k) where
  pub behind : length t ≤ a → or_when 0 11 (ltb k (records h)) ≡ fault_at h t k
  unfolding fault_at
  behind l = rw (le-leb (length t) (place h k) (omega (arith, is))) (go (ltb k (records h)))
    where
      go : (b : Bool) → or_when 0 11 b ≡ pick b 11 0
      go true = refl
      go false = refl

  pub none-due : length t ≤ a → records h ≤ k → 0 ≡ fault_at h t k
  unfolding fault_at
  none-due l m = rw (le-leb (length t) (place h k) (omega (arith, is)), le-ltb k (records h) m) refl

  pub record-there : a < length t → record_fault h k (drop a t) ≡ fault_at h t k
  unfolding fault_at
  record-there l = rw (lt-leb (length t) (place h k) (omega (arith, is))) (ap (λ (b : ℕ). record_fault h k (drop b t)) is)

-- A RECORD THAT PASSES
pub record PairIs (own first : ℕ) (h : Head) (k : ℕ) (u : List ℕ) : Type 0 where
  pub mark : word_at u 0 ≡ own
  pub long : pair_size ≤ length u
  pub fields : pair_at u ≡ record { dealing = h.dealing; sender = k - first; receiver = h.holder; value = (pair_at u).value }
  pub small : (pair_at u).value < h.p
  pub number : (first ≤ k) × (k < first + h.n)

pub record VerdictIs (h : Head) (k : ℕ) (u : List ℕ) : Type 0 where
  pub mark : word_at u 0 ≡ mark_vd
  pub long : verdict_size ≤ length u
  pub fields : verdict_at u ≡ record { dealing = h.dealing; holder = k - pair_records h; verdict = (verdict_at u).verdict }
  pub small : (verdict_at u).verdict < 2
  pub number : (pair_records h ≤ k) × (k < records h)

pair_is : (mark first : ℕ) (h : Head) (k : ℕ) (u : List ℕ) → word_at u 0 ≡ mark → pair_fault h k first (length u) (pair_at u) ≡ 0 → PairIs mark first h k u
unfolding pair_fault
pair_is mark first h k u m e =
    let q = clear (pair_rules h k first (length u) (pair_at u)) tt e in
    let x = pair_at u in
    let own : first + x.sender ≡ k = eqb-true (first + x.sender) k (not-false _ q.1.1.1.1.1.1.0) in
    let sender : x.sender ≡ k - first = omega (arith, own) in
    let receiver : x.receiver ≡ h.holder = eqb-true x.receiver h.holder (not-false _ q.1.1.1.0) in
    let dealing : x.dealing ≡ h.dealing = eqb-true x.dealing h.dealing (not-false _ q.1.1.1.1.0) in
    record {
      mark = m;
      long = ltb-false (length u) pair_size q.0;
      fields = λ i. record { dealing = dealing i; sender = sender i; receiver = receiver i; value = x.value };
      small = leb-false h.p x.value q.1.0;
      number = (omega (arith, own), omega (arith, own, leb-false h.n x.sender q.1.1.0));
    }

verdict-is : (h : Head) (k : ℕ) (u : List ℕ) → word_at u 0 ≡ mark_vd → verdict_fault h k (length u) (verdict_at u) ≡ 0 → VerdictIs h k u
unfolding verdict_fault
verdict-is h k u m e =
    let q = clear (verdict_rules h k (length u) (verdict_at u)) tt e in
    let x = verdict_at u in
    let own : pair_records h + x.holder ≡ k = eqb-true (pair_records h + x.holder) k (not-false _ q.1.1.1.1.1.0) in
    let holder : x.holder ≡ k - pair_records h = omega (arith, own) in
    let dealing : x.dealing ≡ h.dealing = eqb-true x.dealing h.dealing (not-false _ q.1.1.0) in
    record {
      mark = m;
      long = ltb-false (length u) verdict_size q.0;
      fields = λ i. record { dealing = dealing i; holder = holder i; verdict = x.verdict };
      small = leb-false 2 x.verdict q.1.1.1.1.0;
      number = (omega (arith, own), omega (arith, own, leb-false h.n x.holder q.1.0));
    }

-- A FAULT is one of the numbers given: what holds of each holds of it
mark-by : (P : ℕ → Type 0) (h : Head) (m : ℕ) → P 8 → P 10 → P (mark_fault h m)
unfolding mark_fault
mark-by P h m eight ten =
    let dl : ℕ = pick h.zero 8 10 in
    let dz : ℕ = pick h.zero 10 8 in
    let df : ℕ = pick h.mapped 10 8 in
    picked P (eqb m mark_su) 10 (pick (eqb m mark_dl) dl (pick (eqb m mark_dz) dz (pick (eqb m mark_df) df 8))) ten
    (picked P (eqb m mark_dl) dl (pick (eqb m mark_dz) dz (pick (eqb m mark_df) df 8)) (picked P h.zero 8 10 eight ten)
    (picked P (eqb m mark_dz) dz (pick (eqb m mark_df) df 8) (picked P h.zero 10 8 ten eight)
    (picked P (eqb m mark_df) df 8 (picked P h.mapped 10 8 ten eight) eight)))

pub record-by : (P : ℕ → Type 0) (h : Head) (k : ℕ) (u : List ℕ) → P 3 → P 8 → P 10 → ((first : ℕ) → P (pair_fault h k first (length u) (pair_at u)))
    → P (verdict_fault h k (length u) (verdict_at u)) → P (record_fault h k u)
unfolding record_fault
record-by P h k u three eight ten pair verdict =
    let m = word_at u 0 in
    let last = pick (eqb m mark_vd) (verdict_fault h k (length u) (verdict_at u)) (mark_fault h m) in
    let pf = pick h.mapped (pair_fault h k h.n (length u) (pair_at u)) 8 in
    let pv = pair_fault h k 0 (length u) (pair_at u) in
    picked P (ltb (length u) 2) 3 (pick (eqb m mark_pv) pv (pick (eqb m mark_pf) pf last)) three
    (picked P (eqb m mark_pv) pv (pick (eqb m mark_pf) pf last) (pair 0)
    (picked P (eqb m mark_pf) pf last (picked P h.mapped (pair_fault h k h.n (length u) (pair_at u)) 8 (pair h.n) eight)
    (picked P (eqb m mark_vd) (verdict_fault h k (length u) (verdict_at u)) (mark_fault h m) verdict (mark-by P h m eight ten))))

-- one of the three
one-record : (h : Head) (k : ℕ) (u : List ℕ) (Z : Type 0) → (PairIs mark_pv 0 h k u → Z) → (h.mapped ≡ true → PairIs mark_pf h.n h k u → Z) → (VerdictIs h k u → Z)
    → record_fault h k u ≡ 0 → Z
unfolding record_fault
one-record h k u Z pv pf vd =
    go (ltb (length u) 2) (eqb (word_at u 0) mark_pv) refl (eqb (word_at u 0) mark_pf) refl h.mapped refl (eqb (word_at u 0) mark_vd) refl
  where
    go : (a b : Bool) → eqb (word_at u 0) mark_pv ≡ b → (f : Bool) → eqb (word_at u 0) mark_pf ≡ f → (m : Bool) → h.mapped ≡ m
        → (c : Bool) → eqb (word_at u 0) mark_vd ≡ c
        → pick a 3 (pick b (pair_fault h k 0 (length u) (pair_at u)) (pick f (pick m (pair_fault h k h.n (length u) (pair_at u)) 8)
        (pick c (verdict_fault h k (length u) (verdict_at u)) (mark_fault h (word_at u 0))))) ≡ 0 → Z
    go true b p f g m n c q e = absurd (omega arith)
    go false true p f g m n c q e = pv (pair_is mark_pv 0 h k u (eqb-true (word_at u 0) mark_pv p) e)
    go false false p true g true n c q e = pf n (pair_is mark_pf h.n h k u (eqb-true (word_at u 0) mark_pf g) e)
    go false false p true g false n c q e = absurd (omega arith)
    go false false p false g m n true q e = vd (verdict-is h k u (eqb-true (word_at u 0) mark_vd q) e)
    go false false p false g m n false q e = absurd (mark-by (λ j. j ≡ 0 → ⊥) h (word_at u 0) (λ z. omega (arith, z)) (λ z. omega (arith, z)) e)

module _ (h : Head) (k : ℕ) (t : List ℕ) where
  abbrev u : List ℕ
  u = drop (place h k) t

  -- a record that is due and passes stands there
  stands : k < records h → fault_at h t k ≡ 0 → record_fault h k u ≡ 0
  unfolding fault_at
  stands l = go (leb (length t) (place h k)) (ltb k (records h)) refl
    where
      go : (a b : Bool) → ltb k (records h) ≡ b → pick a (pick b 11 0) (record_fault h k u) ≡ 0 → record_fault h k u ≡ 0
      go true true p e = absurd (omega arith)
      go true false p e = absurd (omega (arith, ltb-false k (records h) p))
      go false b p e = e

  pub pair-stands : k < h.n → fault_at h t k ≡ 0 → PairIs mark_pv 0 h k u
  pair-stands l e =
      one-record h k u (PairIs mark_pv 0 h k u) (λ x. x) (λ m x. absurd (omega (arith, x.number.0)))
      (λ x. absurd (omega (arith, x.number.0, (pairs-some h).0))) (stands (omega (arith, (pairs-some h).0)) e)

  pub mapped-stands : h.mapped ≡ true → h.n ≤ k → k < 2 * h.n → fault_at h t k ≡ 0 → PairIs mark_pf h.n h k u
  mapped-stands m a b e =
      one-record h k u (PairIs mark_pf h.n h k u) (λ x. absurd (omega (arith, x.number.1))) (λ m x. x)
      (λ x. absurd (omega (arith, x.number.0, pairs-mapped h m))) (stands (omega (arith, pairs-mapped h m)) e)

  pub verdict-stands : pair_records h ≤ k → k < records h → fault_at h t k ≡ 0 → VerdictIs h k u
  verdict-stands l m e =
      one-record h k u (VerdictIs h k u) (λ x. absurd (omega (arith, x.number.1, (pairs-some h).0)))
      (λ q x. absurd (omega (arith, x.number.1, pairs-mapped h q))) (λ x. x) (stands m e)

  -- the next starts inside the file or at its end
  pub next-inside : k < records h → fault_at h t k ≡ 0 → place h (suc k) ≤ length t
  next-inside l e =
      one-record h k u (place h (suc k) ≤ length t)
      (λ x. omega (arith, x.long, x.number.1, (pairs-some h).0, length-drop (place h k) t))
      (λ m x. omega (arith, x.long, x.number.1, pairs-mapped h m, length-drop (place h k) t))
      (λ x. omega (arith, x.long, x.number.0, length-drop (place h k) t)) (stands l e)

  -- and behind the last nothing stands
  pub nothing-behind : k ≡ records h → fault_at h t k ≡ 0 → length t ≤ place h k
  unfolding fault_at
  nothing-behind l = go (leb (length t) (place h k)) refl
    where
      go : (a : Bool) → leb (length t) (place h k) ≡ a → pick a (pick (ltb k (records h)) 11 0) (record_fault h k u) ≡ 0 → length t ≤ place h k
      go true p e = leb-true (length t) (place h k) p
      go false p e =
          one-record h k u (length t ≤ place h k) (λ x. absurd (omega (arith, x.number.1, (pairs-some h).0)))
          (λ m x. absurd (omega (arith, x.number.1, pairs-mapped h m))) (λ x. absurd (omega (arith, x.number.1))) e

-- 11 is given where the file ends
pub eleven-ends : (h : Head) (t : List ℕ) (k : ℕ) → fault_at h t k ≡ 11 → length t ≤ place h k
unfolding fault_at pair_fault verdict_fault
eleven-ends h t k = go (leb (length t) (place h k)) refl
  where
    u : List ℕ
    u = drop (place h k) t

    other : record_fault h k u ≡ 11 → ⊥
    other =
        record-by (λ j. j ≡ 11 → ⊥) h k u (λ z. omega (arith, z)) (λ z. omega (arith, z)) (λ z. omega (arith, z))
        (λ first. never 11 (pair_rules h k first (length u) (pair_at u)) (omega arith) tt) (never 11 (verdict_rules h k (length u) (verdict_at u)) (omega arith) tt)

    go : (b : Bool) → leb (length t) (place h k) ≡ b → pick b (pick (ltb k (records h)) 11 0) (record_fault h k u) ≡ 11 → length t ≤ place h k
    go true e q = leb-true (length t) (place h k) e
    go false e q = absurd (other q)

-- HOW FAR
module _ (h : Head) (t : List ℕ) where
  abbrev faulty : ℕ → Bool
  faulty k = not (eqb (fault_at h t k) 0)

  passes : (k : ℕ) → faulty k ≡ false → fault_at h t k ≡ 0
  passes k e = eqb-true (fault_at h t k) 0 (not-false _ e)

  -- where the last one reached is not refused, all records were read
  pub all_pass : fault_at h t (reached h t) ≡ 0 → (reached h t ≡ records h) × ((k : ℕ) → k < records h → fault_at h t k ≡ 0)
  unfolding reached
  all_pass e = go (first-is faulty (records h))
    where
      go : First faulty (records h) (first faulty (records h)) → (first faulty (records h) ≡ records h) × ((k : ℕ) → k < records h → fault_at h t k ≡ 0)
      go (found l p q) = absurd (eqb-false _ 0 (not-true _ p) e)
      go (missing r q) = (r, λ k l. passes k (q k l))

  pub reached-le : reached h t ≤ records h
  unfolding reached
  reached-le = first-le faulty (records h)

  pub reached-inside : place h (reached h t) ≤ length t
  unfolding reached
  reached-inside = go (first faulty (records h)) (first-is faulty (records h))
    where
      up : (r : ℕ) → r ≤ records h → ((j : ℕ) → j < r → faulty j ≡ false) → place h r ≤ length t
      up zero l q = omega arith
      up (suc k) l q = next-inside h k t (omega arith) (passes k (q k (omega arith)))

      go : (r : ℕ) → First faulty (records h) r → place h r ≤ length t
      go r (found l p q) = up r (omega arith) q
      go r (missing e q) = up r (omega (arith, e)) (λ j m. q j (omega (arith, e, m)))

-- a test that refuses gives a number above 0
pub refused-some : (r : Result Unit Refusal) → is_err r ≡ true → refused_by r ≡ 0 → ⊥
refused-some (Ok x) e z = absurd (false≢true e)
refused-some (Err k) e z = above_zero k z

-- WHAT THE HOLDERS SENT
-- the beginning of an array that is filled from the front
pub begins : (n : ℕ) (f : ℕ → ℕ) (l : List ℕ) → n ≤ length l → take n (filled f n l) ≡ tab n f
begins n f l h =
    tab-is n f 0 (take n (filled f n l)) (length-take-le n _ (omega (arith, length-filled f n l)))
    (λ k m. get_or-take n _ k 0 m ∙ get_d-filled f n l k 0 m (omega arith))

pub sent-are : (h : Head) (first : ℕ) (t : List ℕ) → first + h.n ≤ pair_records h → tab h.n (λ j. word_at t (5 * first + 4 + 5 * j)) ≡ sent_at h first t
sent-are h first t inside =
    tab-ext h.n (λ j. word_at t (5 * first + 4 + 5 * j)) (λ j. (pair_at (drop (place h (first + j)) t)).value)
    (λ j l. ap (word_at t) {x = 5 * first + 4 + 5 * j} {y = 5 * (first + j) + 4} (omega arith) ∙ sym (word-behind t (5 * (first + j)) 4)
    ∙ ap (λ (a : ℕ). word_at (drop a t) 4) {x = 2 * (5 * (first + j))} {y = place h (first + j)} (omega (arith, inside)))

pub verdicts-are : (h : Head) (t : List ℕ) → tab h.n (λ j. word_at t (5 * pair_records h + 3 + 4 * j)) ≡ verdicts_at h t
verdicts-are h t =
    let m = pair_records h in
    tab-ext h.n (λ j. word_at t (5 * m + 3 + 4 * j)) (λ j. (verdict_at (drop (place h (m + j)) t)).verdict)
    (λ j l. ap (word_at t) {x = 5 * m + 3 + 4 * j} {y = 5 * m + 4 * j + 3} (omega arith) ∙ sym (word-behind t (5 * m + 4 * j) 3)
    ∙ ap (λ (a : ℕ). word_at (drop a t) 3) {x = 2 * (5 * m + 4 * j)} {y = place h (m + j)} (omega arith))

-- where all records pass, they are in order
module _ (h : Head) (t : List ℕ) (all : (k : ℕ) → k < records h → fault_at h t k ≡ 0) where
  pub values-small : Vec h.p h.n (sent_at h 0 t)
  values-small =
      tab-vec h.p h.n _ (λ j l. (pair-stands h (0 + j) t (omega arith) (all (0 + j) (omega (arith, (pairs-some h).0)))).small)

  pub values2-small : h.mapped ≡ true → Vec h.p h.n (sent_at h h.n t)
  values2-small m =
      let twice = pairs-mapped h m in
      tab-vec h.p h.n _ (λ j l. (mapped-stands h (h.n + j) t m (omega arith) (omega arith) (all (h.n + j) (omega (arith, twice)))).small)

  pub verdicts-small : Vec 2 h.n (verdicts_at h t)
  verdicts-small =
      tab-vec 2 h.n _ (λ j l. (verdict-stands h (pair_records h + j) t (omega arith) (omega arith) (all (pair_records h + j) (omega arith))).small)

-- words that a call has left at the front of an array
pub front : (s : List ℕ) (i len : ℕ) (z e : List ℕ) → len ≤ length z → e ≡ words_at s i (length (take len z))
    → (length (e ++ drop len z) ≡ length z) × (take len (e ++ drop len z) ≡ words_at s i len)
front s i len z e l q =
    let w = q ∙ ap (words_at s i) (length-take-le len z l) in
    let n : length e ≡ len = ap length w ∙ length-words s i len in
    (omega (arith, length-append e (drop len z), length-drop len z, n), take_at e (drop len z) len n ∙ w)

-- words that stand at the front of an array of zeros
pub front-zeros : (s : List ℕ) (i len size : ℕ) (r : List ℕ) → len ≤ size → r ≡ words_at s i len ++ drop len (replicate size 0)
    → (length r ≡ size) × (take len r ≡ words_at s i len)
front-zeros s i len size r l q =
    let z : List ℕ = replicate size 0 in
    let k = length-replicate {A = ℕ} size 0 in
    let h : len ≤ length z = omega (arith, k, l) in
    let f = front s i len z (words_at s i len) h (ap (words_at s i) (sym (length-take-le len z h))) in
    (ap length q ∙ f.0 ∙ k, ap (take len) q ∙ f.1)
