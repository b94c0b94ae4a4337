-- What specs/Laws.antt states.
use mathlib.Core.Path.{◌≡◌, refl, sym, ap, ◌∙◌}
use mathlib.Core.Bool.{true, not}
use mathlib.Core.List.{List, [], ◌∷◌}
use Prim.Native.Nat.{ℕ, zero, suc, ◌+◌, ◌-◌, ◌*◌, ◌/◌, ◌%◌, ◌<◌}
use native.Mathlib.Nat.{mod-lt, mod-add-div'}
use native.Mathlib.Omega.{arith}
use lib.IntN.{ℤ, pos, negsuc, neg_ℤ, ◌+ℤ◌, ◌*ℤ◌}
use lib.ListN.{length}
use lib.Seq.{ext_get_or}
use borrow.Author.Tests.{lt-ltb}
use Rattle.base.specs.Rules.{refusal, Answer, given, answer_by}
use Rattle.base.specs.Search.{Vec}
use Rattle.base.proofs.Rules.{lowest, refusal-after, none-applies, not-refused}
use Rattle.base.proofs.Search.{every-at, every-all}
use Rattle.base.proofs.Fill.{length-tab, get_d-tab}
use Rattle.base.proofs.Matrix.{below_by}
use Rattle.field.specs.Dot.{at}
use Rattle.scheme.specs.Sets.{holds}
use Rattle.scheme.specs.Opening.{opening, combine, round_of}
use Rattle.scheme.specs.Calls.{open_rules_for, open_answer}
use Rattle.scheme.proofs.Calls.{size-clear, elements-clear}
use Rattle.scheme.proofs.Answering as plain
use Rattle.signed.specs.Integers.{integer_at, remainder}
use Rattle.signed.specs.Corrections.{in_range, all_in_range, residue, residues, correction, corrections}
use Rattle.signed.specs.Calls.{other_field, hold_rules, hold_call, hold_left, read_rules, read_call, read_left, combine_signed_rules, open_signed_rules}
use Rattle.signed.specs.Laws.{IsRemainder, AllRefusing, AllMarked, Answering, Returning, Signed}
use Rattle.signed.proofs.Integers.{Congℤ, cong-sum, cong-product, remainder-cong, remainder-only}
use Rattle.signed.proofs.Corrections as laws
use Rattle.signed.proofs.Calls as calls

-- THE REMAINDER
-- −(n + 1) is k less m
below-zero : (m k n : ℕ) → m ≡ k + suc n → negsuc n ≡ neg_ℤ (pos m) +ℤ pos k
below-zero zero k n e = absurd (omega arith)
below-zero (suc m) k n e = let h : suc m - suc k ≡ n = omega arith in rw (lt-ltb k (suc m) (omega arith), h) refl

is-remainder : (z : ℤ) → IsRemainder z (residue z)
unfolding residue remainder
is-remainder (pos n) = record { times = pos (n / 65521); rest = ap pos (omega (arith, mod-add-div' n 65521)); below = mod-lt n (omega arith) }
is-remainder (negsuc n) =
    let l : n % 65521 < 65521 = mod-lt n (omega arith) in
    record {
      times = negsuc (n / 65521);
      rest = below-zero (suc (n / 65521) * 65521) (65521 - suc (n % 65521)) n (omega (arith, l, mod-add-div' n 65521));
      below = omega (arith, l);
    }

only : (z : ℤ) (r : ℕ) → IsRemainder z r → r ≡ residue z
unfolding residue
only z r h = remainder-only 65521 big z r h.below (rw h.rest sum)
  where
    big : 0 < 65521
    big = omega arith

    sum : Congℤ 65521 (h.times *ℤ pos 65521 +ℤ pos r) r
    sum =
        let e : remainder 65521 h.times * 0 + r ≡ r = omega arith in
        rw e at
        (cong-sum 65521 big (h.times *ℤ pos 65521) (pos r) (remainder 65521 h.times * 0) r
        (cong-product 65521 big h.times (pos 65521) (remainder 65521 h.times) 0 (remainder-cong 65521 big h.times) (record { eq = refl }))
        (record { eq = ap (λ x. x % 65521) (omega arith) }))

-- REFUSALS
refusing : AllRefusing
refusing =
    record {
      hold = λ p zs out. record { first = λ e. rw e refl; after = λ e. rw e refl; lowest = lowest _ tt };
      combine = λ p cs xs rs. record { first = λ e. rw e refl; after = λ e. rw e refl; lowest = lowest _ tt };
      read = λ p xs out. lowest (read_rules p xs out) tt;
      opening = λ S s xs rs out. lowest (open_signed_rules S s xs rs out) tt;
    }

marked : AllMarked
marked =
    record {
      hold = λ p zs out. plain.marked_by (refusal (hold_rules p zs out)) (given []) refl;
      read = λ p xs out. plain.marked_by (refusal (read_rules p xs out)) (given []) refl;
      combine = λ p cs xs rs. plain.marked_by (refusal (combine_signed_rules p cs xs rs)) (given (combine p (residues cs) xs ∷ round_of rs ∷ [])) refl;
      opening = λ S s xs rs out. plain.marked_by (refusal (open_signed_rules S s xs rs out)) (open_answer (opening S (holds s) xs)) (plain.opening-marked S s xs);
    }

-- LISTS
pub range_at : (zs : List ℤ) → all_in_range zs ≡ true → (k : ℕ) → k < length zs → in_range (integer_at zs k) ≡ true
unfolding all_in_range
range_at zs e k l = every-at (length zs) (λ i. in_range (integer_at zs i)) e k l

pub range-is : (zs : List ℤ) → ((k : ℕ) → k < length zs → in_range (integer_at zs k) ≡ true) → all_in_range zs ≡ true
unfolding all_in_range
range-is zs h = every-all (length zs) (λ i. in_range (integer_at zs i)) h

pub residues-at : (zs : List ℤ) (k : ℕ) → k < length zs → at (residues zs) k ≡ residue (integer_at zs k)
unfolding residues
residues-at zs k l = get_d-tab (length zs) (λ i. residue (integer_at zs i)) 0 k l

pub length-corrections : (xs : List ℕ) → length (corrections xs) ≡ length xs
unfolding corrections
length-corrections xs = length-tab (length xs) _

pub corrections-at : (xs : List ℕ) (k : ℕ) → k < length xs → integer_at (corrections xs) k ≡ correction (at xs k)
unfolding corrections
corrections-at xs k l = get_d-tab (length xs) (λ i. correction (at xs i)) (pos 0) k l

pub residue-lt : (z : ℤ) → residue z < 65521
residue-lt z = (is-remainder z).below

-- residues are field elements, and what they are read back to is in the range
pub residues-vec : (zs : List ℤ) → Vec 65521 (length zs) (residues zs)
residues-vec zs = record { size = calls.length-residues zs; small = λ k l. rw (residues-at zs k l) (residue-lt (integer_at zs k)) }

corrections-range : (k : ℕ) (xs : List ℕ) → Vec 65521 k xs → all_in_range (corrections xs) ≡ true
corrections-range k xs v =
    range-is (corrections xs) (λ i l.
    let m : i < length xs = omega (arith, l, length-corrections xs) in
    rw (corrections-at xs i m) (laws.in-range (at xs i) (v.small i (omega (arith, v.size)))))

pub lists_back : (zs : List ℤ) → all_in_range zs ≡ true → corrections (residues zs) ≡ zs
lists_back zs e =
    ext_get_or (pos 0) (corrections (residues zs)) zs (length-corrections (residues zs) ∙ calls.length-residues zs)
    (λ k l.
    let n = calls.length-residues zs in
    let m : k < length zs = omega (arith, l, length-corrections (residues zs), n) in
    corrections-at (residues zs) k (omega (arith, n)) ∙ ap correction (residues-at zs k m) ∙ laws.back-again (integer_at zs k) (range_at zs e k m))

lists-again : (k : ℕ) (xs : List ℕ) → Vec 65521 k xs → residues (corrections xs) ≡ xs
lists-again k xs v =
    ext_get_or 0 (residues (corrections xs)) xs (calls.length-residues (corrections xs) ∙ length-corrections xs)
    (λ i l.
    let n = length-corrections xs in
    let m : i < length xs = omega (arith, l, calls.length-residues (corrections xs), n) in
    residues-at (corrections xs) i (omega (arith, n)) ∙ ap residue (corrections-at xs i m) ∙ laws.held-again (at xs i) (v.small i (omega (arith, v.size))))

-- INPUTS THAT BREAK NOTHING
hold-accepts : (p : ℕ) (zs : List ℤ) (out : List ℕ) → p ≡ 65521 → all_in_range zs ≡ true → length out ≡ length zs → refusal (hold_rules p zs out) ≡ 0
hold-accepts p zs out f r e = none-applies (hold_rules p zs out) (ap not r, (size-clear p 65521 f, (size-clear (length out) (length zs) e, tt)))

read-accepts : (p k : ℕ) (xs : List ℕ) (out : List ℤ) → p ≡ 65521 → Vec 65521 k xs → length out ≡ k → refusal (read_rules p xs out) ≡ 0
read-accepts p k xs out f v e =
    none-applies (read_rules p xs out)
    (size-clear p 65521 f, (size-clear (length out) (length xs) (e ∙ sym v.size), (rw f (elements-clear 65521 k xs v), tt)))

answers : (r : ℕ) (a : Answer) → a.answered ≡ true → r ≡ 0 → (answer_by r a).answered ≡ true
answers r a t e = rw e t

answering : Answering
answering =
    record {
      hold = λ zs out r e. answers _ (given []) refl (hold-accepts 65521 zs out refl r e);
      read = λ k xs out v e. answers _ (given []) refl (read-accepts 65521 k xs out refl v e);
      combine = λ k cs xs rs few r e v l one.
          rw (calls.as-combine 65521 cs xs rs r refl)
          ((plain.answering).combine 65521 k (residues cs) xs rs (calls.is_field_lem 65521 refl) few (rw (← e) (residues-vec cs)) v l one);
      as-combine = λ p cs xs rs r f. calls.as-combine p cs xs rs r f;
      as-open = λ S s xs rs out lent f e.
          ap (λ k. answer_by k (open_answer (opening S (holds s) xs)))
          (refusal-after (other_field S.p ∷ []) (open_rules_for S s xs rs (length out)) (size-clear S.p 65521 f, tt) ∙ ap (λ n. refusal (open_rules_for S s xs rs n)) (sym e));
    }

-- THERE AND BACK THROUGH THE CALLS
returning : Returning
returning = record { back = back; again = again }
  where
    back : (p : ℕ) (zs : List ℤ) (out : List ℕ) (lent : List ℤ) → hold_call p zs out ≡ given [] → length lent ≡ length zs
        → (read_call p (hold_left p zs out) lent ≡ given []) × (read_left p (hold_left p zs out) lent ≡ zs)
    back p zs out lent g e =
        let z = (not-refused (refusal (hold_rules p zs out)) (given []) [] g).0 in
        let k = calls.hold-ok p zs out z in
        let r = read-accepts p (length zs) (residues zs) lent k.field (residues-vec zs) e in
        rw z (rw r refl, rw r (lists_back zs k.range))

    again : (p : ℕ) (xs : List ℕ) (out : List ℤ) (lent : List ℕ) → read_call p xs out ≡ given [] → length lent ≡ length xs
        → (hold_call p (read_left p xs out) lent ≡ given []) × (hold_left p (read_left p xs out) lent ≡ xs)
    again p xs out lent g e =
        let z = (not-refused (refusal (read_rules p xs out)) (given []) [] g).0 in
        let k = calls.read_ok p xs out z in
        let v : Vec 65521 (length xs) xs = record { size = refl; small = λ i l. below_by 65521 xs (omega arith) k.below i } in
        let h = hold-accepts p (corrections xs) lent k.field (corrections-range (length xs) xs v) (e ∙ sym (length-corrections xs)) in
        rw z (rw h refl, rw h (lists-again (length xs) xs v))

pub proved : Signed
proved =
    record {
      bijection =
          record { remainder = is-remainder; only = only; into-range = laws.in-range; held-again = laws.held-again; back-again = laws.back-again };
      refusing = refusing;
      marked = marked;
      answering = answering;
      returning = returning;
    }
