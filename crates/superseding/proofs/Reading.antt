-- The table record by record: what the first record gives stays; where it gives nothing, the second decides, and where that gives nothing, the two together.
-- readers: the reader's refusal of the record at the start of a part
-- of_two: the call's refusal of two
use mathlib.Core.Path.{◌≡◌, refl, sym, ap, ◌∙◌}
use mathlib.Core.Bool.{Bool, true, false, ◌&&◌, false≢true}
use mathlib.Core.List.{List, [], ◌∷◌, ◌++◌}
use Prim.Native.Nat.{ℕ, zero, suc, ◌≤◌}
use native.Mathlib.Omega.{arith}
use lib.ListN.{length, get_or, take}
use lib.Seq.{length-take-le}
use borrow.Author.Tests.{eq-eqb, ne_eqb, ltb-false}
use Rattle.base.specs.Choice.{pick}
use Rattle.base.specs.Rules.{refusal_from, refusal, Answer, refused, given, answer_by}
use Rattle.base.proofs.Rules.{stays, clear, clear-left, refusal-after, joined, declined, not-refused, unchanged, written}
use Rattle.scheme.specs.Setup.{Setup}
use Rattle.scheme.specs.Calls.{limits}
use Rattle.scheme.proofs.Calls.{in_order}
use Rattle.record_layouts.specs.declared.ShareRecord.{ShareRecord}
use Rattle.record_layouts.specs.Records.{standing_rules, read_rules, read_share_call, share_layout, share_size, share_at, share_values}
use Rattle.superseding.specs.Superseding.{superseding_faults, superseding_rules, superseding_call, superseding_part, is_second, later}

abbrev pub readers : Setup → List ℕ → ℕ
readers S s = refusal (read_rules share_layout S [] s)

abbrev pub of_two : Setup → List ℕ → List ℕ → ℕ
of_two S a b = refusal (superseding_rules S a b)

-- a record that reads well stands there whole
pub whole : (S : Setup) (s : List ℕ) → readers S s ≡ 0 → share_size ≤ length s
whole S s e = ltb-false (length s) share_size (in_order S [] (standing_rules share_layout S s) tt e).own.1.1.0

-- THE TABLE
module _ (S : Setup) (a b : List ℕ) where
  abbrev behind : ℕ → ℕ
  behind r = refusal_from r (standing_rules share_layout S b ++ superseding_faults (share_at a) (share_at b))

  pub by_first : (readers S a ≡ 0 → ⊥) → of_two S a b ≡ readers S a
  by_first n = sym (stays (readers S a) (standing_rules share_layout S b ++ superseding_faults (share_at a) (share_at b)) n)

  -- the limits are tested once
  pub past_first : readers S a ≡ 0 → of_two S a b ≡ refusal_from (readers S b) (superseding_faults (share_at a) (share_at b))
  past_first e =
      let c = clear-left (limits S) (standing_rules share_layout S a) (clear (read_rules share_layout S [] a) tt e) in
      ap behind e
      ∙ joined 0 (standing_rules share_layout S b) (superseding_faults (share_at a) (share_at b))
      ∙ ap (λ r. refusal_from r (superseding_faults (share_at a) (share_at b))) (sym (refusal-after (limits S) (standing_rules share_layout S b) c))

  pub by-second : readers S a ≡ 0 → (readers S b ≡ 0 → ⊥) → of_two S a b ≡ readers S b
  by-second e n = past_first e ∙ sym (stays (readers S b) (superseding_faults (share_at a) (share_at b)) n)

  pub past-both : readers S a ≡ 0 → readers S b ≡ 0 → of_two S a b ≡ refusal (superseding_faults (share_at a) (share_at b))
  past-both e f = past_first e ∙ ap (λ r. refusal_from r (superseding_faults (share_at a) (share_at b))) f

  -- a call that is not refused: both records read well, and nothing is faulty in the two together
  pub both_read : of_two S a b ≡ 0 → (readers S a ≡ 0) × (readers S b ≡ 0) × (refusal (superseding_faults (share_at a) (share_at b)) ≡ 0)
  both_read z = go (readers S a) refl (readers S b) refl
    where
      go : (r : ℕ) → readers S a ≡ r → (q : ℕ) → readers S b ≡ q → (readers S a ≡ 0) × (readers S b ≡ 0) × (refusal (superseding_faults (share_at a) (share_at b)) ≡ 0)
      go zero e zero f = (e, f, sym (past-both e f) ∙ z)
      go zero e (suc q) f = absurd (let m : readers S b ≡ 0 = sym (by-second e (λ y. omega (arith, f, y))) ∙ z in omega (arith, m, f))
      go (suc r) e q f = absurd (let m : readers S a ≡ 0 = sym (by_first (λ y. omega (arith, e, y))) ∙ z in omega (arith, m, e))

-- THE READER'S ANSWER
refused-by : (r k : ℕ) (vs : List ℕ) → refused k ≡ answer_by r (given vs) → (r ≡ 0 → ⊥) × (k ≡ r)
refused-by zero k vs e = absurd (false≢true (ap (λ (x : Answer). x.answered) e))
refused-by (suc r) k vs e = (λ z. omega (arith, z), ap (λ (x : Answer). x.number) e)

-- a record is its fields
abbrev of_values : List ℕ → ShareRecord
of_values vs = record { dealing = get_or vs 0 0; holder = get_or vs 1 0; column = get_or vs 2 0; value = get_or vs 3 0; round = get_or vs 4 0 }

read_as : (S : Setup) (s : List ℕ) (x : ShareRecord) → given (share_values x) ≡ read_share_call S s → (readers S s ≡ 0) × (x ≡ share_at s)
read_as S s x e =
    let r = not-refused (readers S s) (given (share_values (share_at s))) (share_values x) (sym e) in
    (r.0, ap (λ (y : Answer). of_values y.values) (sym r.1))

module _ (S : Setup) (a b : List ℕ) where
  pub first-refused : (k : ℕ) → refused k ≡ read_share_call S a → refused k ≡ superseding_call S a b
  first-refused k e =
      let r = refused-by (readers S a) k _ e in
      ap refused (r.1 ∙ sym (by_first S a b r.0)) ∙ declined (of_two S a b) _ (λ z. r.0 (sym (by_first S a b r.0) ∙ z))

  pub second-refused : (x : ShareRecord) (k : ℕ) → given (share_values x) ≡ read_share_call S a → refused k ≡ read_share_call S b → refused k ≡ superseding_call S a b
  second-refused x k e f =
      let r = refused-by (readers S b) k _ f in
      let q = by-second S a b (read_as S a x e).0 r.0 in
      ap refused (r.1 ∙ sym q) ∙ declined (of_two S a b) _ (λ z. r.0 (sym q ∙ z))

  pub both-given : (x y : ShareRecord) → given (share_values x) ≡ read_share_call S a → given (share_values y) ≡ read_share_call S b
      → answer_by (refusal (superseding_faults x y)) (given (pick (later x y) 2 1 ∷ [])) ≡ superseding_call S a b
  both-given x y e f =
      let q = read_as S a x e in
      let r = read_as S b y f in
      rw (q.1, r.1) (ap (λ k. answer_by k (given (pick (later (share_at a) (share_at b)) 2 1 ∷ []))) (sym (past-both S a b q.0 r.0)))

  -- THE PART, by the table
  pub second-by : of_two S a b ≡ 0 → is_second S a b ≡ later (share_at a) (share_at b)
  second-by z = ap (λ t. t && later (share_at a) (share_at b)) (eq-eqb (of_two S a b) 0 z)

  pub first_by : (of_two S a b ≡ 0 → ⊥) → is_second S a b ≡ false
  first_by n = ap (λ t. t && later (share_at a) (share_at b)) (ne_eqb (of_two S a b) 0 n)

  pub part_by : of_two S a b ≡ 0 → superseding_part S a b ≡ take share_size (pick (later (share_at a) (share_at b)) b a)
  part_by z = sym (written (of_two S a b) _ [] _ z (ap (λ t. take share_size (pick t b a)) (sym (second-by z))))

  pub part_none : (of_two S a b ≡ 0 → ⊥) → superseding_part S a b ≡ []
  part_none n = sym (unchanged (of_two S a b) _ [] n)

  -- and by the answer: none, or the record that it names, which stands there whole
  pub none : (k : ℕ) → refused k ≡ superseding_call S a b → (superseding_part S a b ≡ []) × (is_second S a b ≡ false)
  none k e = let n = (refused-by (of_two S a b) k _ e).0 in (part_none n, first_by n)

  named : (k : ℕ) → given (k ∷ []) ≡ superseding_call S a b → (of_two S a b ≡ 0) × (pick (later (share_at a) (share_at b)) 2 1 ≡ k)
  named k e =
      let r = not-refused (of_two S a b) (given (pick (later (share_at a) (share_at b)) 2 1 ∷ [])) (k ∷ []) (sym e) in
      (r.0, ap (λ (y : Answer). get_or y.values 0 0) r.1)

  chosen : (t : Bool) → of_two S a b ≡ 0 → later (share_at a) (share_at b) ≡ t
      → (share_size ≤ length (pick t b a)) × (superseding_part S a b ≡ take share_size (pick t b a)) × (is_second S a b ≡ t)
  chosen t z e = (go t, part_by z ∙ ap (λ q. take share_size (pick q b a)) e, second-by z ∙ e)
    where
      go : (q : Bool) → share_size ≤ length (pick q b a)
      go true = whole S b (both_read S a b z).1
      go false = whole S a (both_read S a b z).0

  pub first-chosen : given (1 ∷ []) ≡ superseding_call S a b → (share_size ≤ length a) × (superseding_part S a b ≡ take share_size a) × (is_second S a b ≡ false)
  first-chosen e = let w = named 1 e in chosen false w.0 (go (later (share_at a) (share_at b)) w.1)
    where
      go : (t : Bool) → ◌≡◌ {A = ℕ} (pick t 2 1) 1 → t ≡ false
      go false h = refl
      go true h = absurd (omega (arith, h))

  pub second-chosen : given (2 ∷ []) ≡ superseding_call S a b → (share_size ≤ length b) × (superseding_part S a b ≡ take share_size b) × (is_second S a b ≡ true)
  second-chosen e = let w = named 2 e in chosen true w.0 (go (later (share_at a) (share_at b)) w.1)
    where
      go : (t : Bool) → ◌≡◌ {A = ℕ} (pick t 2 1) 2 → t ≡ true
      go true h = refl
      go false h = absurd (omega (arith, h))

  pub part-long : of_two S a b ≡ 0 → length (superseding_part S a b) ≡ share_size
  part-long z =
      let c = chosen (later (share_at a) (share_at b)) z refl in
      ap length c.1 ∙ length-take-le share_size (pick (later (share_at a) (share_at b)) b a) c.0
