-- The laws of the calls' tables and answers: what a table that gives 0 says; that behind 22 and 1 a combination and an opening are refused as the plain ones
-- are; that an opening's secrets are field elements.
-- HoldOk, ReadOk, CombineOk: what is known where nothing is refused
-- combine-declined, as-combine: the refusal of a combination by its first rules, and its answer behind 22 and 1
-- front, front_fits: the part of a buffer that was written
-- room-alike: an opening into nine entries or more is refused as one into nine
-- as-open: the answer is that of the plain opening; left_out, Read, left-read: what stands in the buffer
use mathlib.Core.Path.{◌≡◌, refl, sym, ap, ◌∙◌}
use mathlib.Core.Bool.{Bool, true, false, not, false≢true}
use mathlib.Core.List.{List, [], ◌∷◌, ◌++◌}
use Prim.Native.Nat.{ℕ, zero, suc, ◌≤◌}
use native.Mathlib.Omega.{arith}
use lib.Dec.{eqb, ltb}
use lib.IntN.{ℤ}
use lib.ListN.{length, take, length-append}
use lib.Seq.{get_or-take, length-take-le, take-append_seam}
use borrow.Author.Tests.{eqb-true, eq-eqb, ne_eqb, ltb-true, ltb-false, not-false}
use Rattle.base.specs.Choice.{pick}
use Rattle.base.specs.Rules.{Rule, ◌when◌, refusal_from, refusal, Answer, given, answer_by, left_of}
use Rattle.base.specs.Search.{Vec}
use Rattle.base.specs.Matrix.{all_below}
use Rattle.base.proofs.Rules.{stays, clear, refusal-after, joined, unchanged-of}
use Rattle.base.proofs.Fill.{length-tab}
use Rattle.base.proofs.Matrix.{below-is}
use Rattle.field.specs.Fields.{is_field}
use Rattle.std.specs.Prelude.{Err}
use Rattle.scheme.specs.declared.NotOpened.{NotOpened}
use Rattle.scheme.specs.declared.NotOpened.TheVariants.{Undetermined, Inconsistent, Refused}
use Rattle.scheme.specs.Answers.{paper_opened}
use Rattle.scheme.specs.Setup.{Setup}
use Rattle.scheme.specs.Sets.{holds, members}
use Rattle.scheme.specs.Opening.{opening, combine, round_of}
use Rattle.scheme.specs.Calls.{limits, matrix, elements, room, beyond_field, sizes, in_field, beyond, apart, open_rules_for, open_rules, open_answer, open_call, open_left, combine_rules, combine_call}
use Rattle.scheme.proofs.Calls.{limits-are, size_is, open-ok}
use Rattle.scheme.proofs.Certificates.{opened-in-hand}
use Rattle.scheme.proofs.Answering.{OpeningIs, secrets, by-six, by-seven, opening-is, all-marked}
use Rattle.signed.specs.Corrections.{all_in_range, residues, corrections}
use Rattle.signed.specs.Calls.{beyond_range, other_field, hold_rules, read_rules, combine_signed_rules, combine_signed_call, open_signed_rules, open_signed_call, open_signed_left}

-- HOLD and READ
pub record HoldOk (p : ℕ) (zs : List ℤ) (out : List ℕ) : Type 0 where
  pub range : all_in_range zs ≡ true
  pub field : p ≡ 65521
  pub room : length out ≡ length zs

pub hold-ok : (p : ℕ) (zs : List ℤ) (out : List ℕ) → refusal (hold_rules p zs out) ≡ 0 → HoldOk p zs out
hold-ok p zs out e =
    let c = clear (hold_rules p zs out) tt e in
    record { range = not-false _ c.0; field = size_is p 65521 c.1.0; room = size_is (length out) (length zs) c.1.1.0 }

pub record ReadOk (p : ℕ) (xs : List ℕ) (out : List ℤ) : Type 0 where
  pub field : p ≡ 65521
  pub room : length out ≡ length xs
  pub below : all_below 65521 xs ≡ true

pub read_ok : (p : ℕ) (xs : List ℕ) (out : List ℤ) → refusal (read_rules p xs out) ≡ 0 → ReadOk p xs out
read_ok p xs out e =
    let c = clear (read_rules p xs out) tt e in
    let f = size_is p 65521 c.0 in
    record { field = f; room = size_is (length out) (length xs) c.1.0; below = rw f at (not-false (all_below p xs) c.1.1.0) }

-- COMBINE
pub length-residues : (zs : List ℤ) → length (residues zs) ≡ length zs
unfolding residues
length-residues zs = length-tab (length zs) _

pub is_field_lem : (p : ℕ) → eqb p 65521 ≡ true → is_field p ≡ true
unfolding is_field
is_field_lem p e = rw (eqb-true p 65521 e) refl

pub record CombineOk (p : ℕ) (cs : List ℤ) : Type 0 where
  pub range : all_in_range cs ≡ true
  pub field : p ≡ 65521
  pub few : length cs ≤ 64

abbrev pub first_rules : ℕ → List ℤ → List Rule
first_rules p cs = beyond_range cs ∷ other_field p ∷ (3 when ltb 64 (length cs)) ∷ []

module _ (p : ℕ) (cs : List ℤ) where
  pub combine-ok : refusal (first_rules p cs) ≡ 0 → CombineOk p cs
  combine-ok e =
      let c = clear (first_rules p cs) tt e in
      record { range = not-false _ c.0; field = size_is p 65521 c.1.0; few = ltb-false 64 (length cs) c.1.1.0 }

  module _ (xs rs : List ℕ) where
    -- a refusal by 22, by 1, or by 3 for more than 64 terms, whichever other rule of 3 holds beside it
    pub combine-declined : (refusal (first_rules p cs) ≡ 0 → ⊥) → refusal (first_rules p cs) ≡ refusal (combine_signed_rules p cs xs rs)
    combine-declined n = go (all_in_range cs) refl (eqb p 65521) refl (ltb 64 (length cs)) refl
      where
        threes : (a b : Bool) (l : List Rule) → 3 ≡ refusal ((1 when false) ∷ (3 when a) ∷ (3 when b) ∷ (3 when true) ∷ l)
        threes true b l = stays 3 ((3 when b) ∷ (3 when true) ∷ l) (λ z. omega arith)
        threes false true l = stays 3 ((3 when true) ∷ l) (λ z. omega arith)
        threes false false l = stays 3 l (λ z. omega arith)

        go : (a : Bool) → all_in_range cs ≡ a → (b : Bool) → eqb p 65521 ≡ b → (c : Bool) → ltb 64 (length cs) ≡ c
            → refusal (first_rules p cs) ≡ refusal (combine_signed_rules p cs xs rs)
        go false d b e c f = rw d refl
        go true d false e c f = rw (d, e) refl
        go true d true e true f =
            rw (d, e, is_field_lem p e, length-residues cs, f)
            (threes (not (eqb (length xs) (length cs))) (not (eqb (length rs) (length cs))) (beyond_field p (residues cs) ∷ beyond_field p xs ∷ apart rs ∷ []))
        go true d true e false f = absurd (n (rw (d, e, f) refl))

    -- behind 22 and 1 it is the plain combination of the residues
    pub as-combine : all_in_range cs ≡ true → p ≡ 65521 → combine_signed_call p cs xs rs ≡ combine_call p (residues cs) xs rs
    as-combine r f =
        ap (λ k. answer_by k (given (combine p (residues cs) xs ∷ round_of rs ∷ [])))
        (refusal-after (beyond_range cs ∷ other_field p ∷ []) (combine_rules p (residues cs) xs rs) (ap not r, (ap not (eq-eqb p 65521 f), tt)))

-- PARTS OF A BUFFER
pub front : (k : ℕ) (l m : List ℕ) → length l ≡ k → take k (l ++ m) ≡ l
front k l m e = rw (← e) (take-append_seam l m)

pub front_fits : (k : ℕ) (l m : List ℕ) → length l ≡ k → k ≤ length (l ++ m)
front_fits k l m e = omega (arith, e, length-append l m)

-- OPEN
pub not_answered : (k : NotOpened) → (paper_opened {A = Unit {0}} (Err k)).answered ≡ false
not_answered (Undetermined q) = refl
not_answered Inconsistent = refl
not_answered (Refused k) = refl

pub of_field : (p : ℕ) → refusal (other_field p ∷ []) ≡ 0 → p ≡ 65521
of_field p e = size_is p 65521 (clear (other_field p ∷ []) tt e).0

pub nine : (k : ℕ) → pick (ltb k 9) k 9 ≤ 9
nine k = go (ltb k 9) refl
  where
    go : (b : Bool) → ltb k 9 ≡ b → pick b k 9 ≤ 9
    go true e = omega (arith, ltb-true k 9 e)
    go false e = omega arith

-- one entry more or less than nine makes no difference: ℓ is at most 8, or is refused before
pub room-alike : (S : Setup) (s : ℕ) (xs rs : List ℕ) (has : ℕ)
    → refusal (open_rules_for S s xs rs (pick (ltb has 9) has 9)) ≡ refusal (open_rules_for S s xs rs has)
room-alike S s xs rs has = go (ltb has 9) refl
  where
    k : ℕ
    k = length (members 32 (holds s))

    behind : ℕ → List Rule
    behind h = sizes (matrix S ∷ elements xs k ∷ room (length rs) k ∷ room h S.l ∷ []) ++ (in_field S.p (matrix S ∷ elements xs k ∷ []) ++ (5 when beyond S.n s) ∷ apart rs ∷ [])

    by-limits : (r : ℕ) → refusal (limits S) ≡ r → 9 ≤ has → refusal (limits S ++ behind 9) ≡ refusal (limits S ++ behind has)
    by-limits zero e l =
        let small = (limits-are S (clear (limits S) tt e)).secret.1 in
        rw (ne_eqb 9 S.l (λ q. omega arith), ne_eqb has S.l (λ q. omega arith)) refl
    by-limits (suc r) e l =
        joined 0 (limits S) (behind 9) ∙ ap (λ q. refusal_from q (behind 9)) e
        ∙ sym (stays (suc r) (behind 9) (λ z. omega arith)) ∙ stays (suc r) (behind has) (λ z. omega arith)
        ∙ sym (joined 0 (limits S) (behind has) ∙ ap (λ q. refusal_from q (behind has)) e)

    go : (b : Bool) → ltb has 9 ≡ b → refusal (open_rules_for S s xs rs (pick b has 9)) ≡ refusal (open_rules_for S s xs rs has)
    go true e = refl
    go false e = by-limits (refusal (limits S)) refl (ltb-false has 9 e)

-- the secrets of an opening that gives them are ℓ field elements
opened-vec : (S : Setup) (s : ℕ) (xs : List ℕ) → (opening S (holds s) xs).number ≡ 0 → Vec S.p S.l (opening S (holds s) xs).values
opened-vec S s xs = go (opening-is S s xs)
  where
    go : OpeningIs S s xs → (opening S (holds s) xs).number ≡ 0 → Vec S.p S.l (opening S (holds s) xs).values
    go (secrets d b vs e) z =
        let h = opened-in-hand S (holds s) xs d b.vector b.ok b.all in
        rw h
        (record {
          size = length-take-le S.l b.vector (omega (arith, b.ok.size));
          small = λ k l. rw (get_or-take S.l b.vector k 0 l) (b.ok.small k (omega arith));
        })
    go (by-six d q e) z = let n : ◌≡◌ {A = ℕ} 6 0 = sym (ap (λ (a : Answer). a.number) e) ∙ z in absurd (omega arith)
    go (by-seven d b e) z = let n : ◌≡◌ {A = ℕ} 7 0 = sym (ap (λ (a : Answer). a.number) e) ∙ z in absurd (omega arith)

fits : (k l : ℕ) → l ≤ 8 → (b : Bool) → pick b k 9 ≡ l → k ≡ l
fits k l h true e = e
fits k l h false e = absurd (omega arith)

-- an opening's number by its table and its own
number-none : (r : ℕ) (a : Answer) → (answer_by r (open_answer a)).number ≡ 0 → (r ≡ 0) × (a.number ≡ 0)
number-none zero a e = (refl, e)
number-none (suc r) a e = absurd (omega arith)

kept_out : (r : ℕ) (a : Answer) (new out : List ℤ) → ((answer_by r (open_answer a)).number ≡ 0 → ⊥) → out ≡ left_of r (left_of a.number new out) out
kept_out zero a new out n = unchanged-of a.number new out n
kept_out (suc r) a new out n = refl

module _ (S : Setup) (s : ℕ) (xs rs : List ℕ) (out : List ℤ) (plain : List ℕ) (f : S.p ≡ 65521) (e : length plain ≡ pick (ltb (length out) 9) (length out) 9) where
  alike : refusal (open_rules S s xs rs plain) ≡ refusal (open_signed_rules S s xs rs out)
  alike =
      ap (λ h. refusal (open_rules_for S s xs rs h)) e ∙ room-alike S s xs rs (length out)
      ∙ sym (refusal-after (other_field S.p ∷ []) (open_rules_for S s xs rs (length out)) (ap not (eq-eqb S.p 65521 f), tt))

  pub as-open : open_call S s xs rs plain ≡ open_signed_call S s xs rs out
  as-open = ap (λ r. answer_by r (open_answer (opening S (holds s) xs))) alike

  -- refused: the buffer stays
  pub left_out : (open_call S s xs rs plain).answered ≡ false → out ≡ open_signed_left S s xs rs out
  left_out q =
      kept_out (refusal (open_signed_rules S s xs rs out)) (opening S (holds s) xs) (corrections (opening S (holds s) xs).values) out
      (λ z. false≢true (sym q ∙ all-marked.opening S s xs rs plain ∙ eq-eqb _ 0 (ap (λ (a : Answer). a.number) as-open ∙ z)))

  pub record Read : Type 0 where
    pub below : all_below 65521 (open_left S s xs rs plain) ≡ true
    pub size : length (open_left S s xs rs plain) ≡ length plain
    pub room : length out ≡ length (open_left S s xs rs plain)
    pub is : corrections (open_left S s xs rs plain) ≡ open_signed_left S s xs rs out

  pub left-read : (open_call S s xs rs plain).answered ≡ true → Read
  left-read q =
      let n = number-none _ (opening S (holds s) xs) (eqb-true _ 0 (sym (all-marked.opening S s xs rs plain) ∙ q)) in
      let v = opened-vec S s xs n.1 in
      let o = open-ok S s xs rs plain n.0 in
      let small = o.set.setup.limits.secret.1 in
      let whole : (b : Bool) → pick b (length out) 9 ≡ S.l → length out ≡ S.l = fits (length out) S.l small in
      let values : open_left S s xs rs plain ≡ (opening S (holds s) xs).values = rw (n.0, n.1) refl in
      let signed : open_signed_left S s xs rs out ≡ corrections (opening S (holds s) xs).values = rw (sym alike ∙ n.0, n.1) refl in
      record {
        below = rw values (below-is 65521 _ (λ k l. rw (← f) (v.small k (omega (arith, v.size)))));
        size = ap length values ∙ v.size ∙ sym o.room;
        room = whole (ltb (length out) 9) (sym e ∙ o.room) ∙ sym (ap length values ∙ v.size);
        is = ap corrections values ∙ sym signed;
      }
