-- The laws of a set's members: each has its place, the places rise, there are as many as the set's number has ones, and a loop that takes the
-- lowest one off that number goes through them.
-- Left: what such a loop keeps, the members of rest being those of the list ms from place k on
use mathlib.Core.Path.{◌≡◌, refl, ap, ap₂, sym, ◌∙◌}
use mathlib.Core.Bool.{Bool, true, false, false≢true}
use mathlib.Core.List.{List, [], ◌∷◌}
use Prim.Native.Nat.{ℕ, zero, suc, ◌+◌, ◌-◌, ◌*◌, ◌/◌, ◌%◌, ◌^◌, ◌≤◌, ◌<◌}
use native.Mathlib.Nat.{not-suc-le-zero, le_of_suc-le-suc, pow-suc, div-div-eq-div-mul, div-one, add-zero, add-suc, suc-add, zero-add, sub-zero, suc-sub-suc}
use native.Mathlib.Numerals.{add-one, one-add}
use native.Mathlib.Omega.{arith}
use lib.Bits.{bit_and, and_step, and_self, and_le_r}
use lib.Count.{ones, ones_step, count_trailing_zeros}
use lib.Dec.{eqb}
use lib.ListN.{length, drop, length-drop}
use lib.Pow.{shr-shr}
use lib.Seq.{drop-cons}
use Rattle.base.proofs.Choice.{either}
use Rattle.field.specs.Dot.{at}
use Rattle.scheme.specs.Sets.{holds, cons_if, members_from, members}

-- PLACES
from_at : (X : ℕ → Bool) (k i a : ℕ) → a < length (members_from X i k)
    → (i ≤ at (members_from X i k) a) × (at (members_from X i k) a < i + k) × (X (at (members_from X i k) a) ≡ true)
unfolding members_from
from_at X zero i a h = absurd (not-suc-le-zero h)
from_at X (suc k) i a h = go (members_from X (suc i) k) (from_at X k (suc i)) (X i) refl a h
  where
    go : (rest : List ℕ) → ((b : ℕ) → b < length rest → (suc i ≤ at rest b) × (at rest b < suc i + k) × (X (at rest b) ≡ true)) → (t : Bool) → X i ≡ t
        → (a : ℕ) → a < length (cons_if t i rest)
        → (i ≤ at (cons_if t i rest) a) × (at (cons_if t i rest) a < i + suc k) × (X (at (cons_if t i rest) a) ≡ true)
    go rest ih true e zero l = (omega arith, omega arith, e)
    go rest ih true e (suc b) l = let r = ih b (le_of_suc-le-suc l) in (omega arith, omega arith, r.2)
    go rest ih false e b l = let r = ih b l in (omega arith, omega arith, r.2)

-- the member at each place is a holder that passes
pub member-at : (n : ℕ) (X : ℕ → Bool) (a : ℕ) → a < length (members n X) → (at (members n X) a < n) × (X (at (members n X) a) ≡ true)
unfolding members
member-at n X a h = let r = from_at X n 0 a h in (omega arith, r.2)

from_place : (X : ℕ → Bool) (k i j : ℕ) → i ≤ j → j < i + k → X j ≡ true
    → (a : ℕ) × (a < length (members_from X i k)) × (at (members_from X i k) a ≡ j)
unfolding members_from
from_place X zero i j l h t = absurd (omega arith)
from_place X (suc k) i j l h t = go (members_from X (suc i) k) (λ m. from_place X k (suc i) j m (omega arith) t) (X i) refl
  where
    go : (rest : List ℕ) → (suc i ≤ j → (a : ℕ) × (a < length rest) × (at rest a ≡ j)) → (t : Bool) → X i ≡ t
        → (a : ℕ) × (a < length (cons_if t i rest)) × (at (cons_if t i rest) a ≡ j)
    go rest ih true e =
        either i j ((a : ℕ) × (a < length (i ∷ rest)) × (at (i ∷ rest) a ≡ j))
        (λ q. (0, omega arith, q)) (λ q. let r = ih (omega (arith, q)) in (suc r.0, omega arith, r.2))
    go rest ih false e =
        either i j ((a : ℕ) × (a < length rest) × (at rest a ≡ j))
        (λ q. absurd (false≢true (sym e ∙ ap X q ∙ t))) (λ q. ih (omega (arith, q)))

-- each holder that passes has a place
pub place_of : (n : ℕ) (X : ℕ → Bool) (j : ℕ) → j < n → X j ≡ true → (a : ℕ) × (a < length (members n X)) × (at (members n X) a ≡ j)
unfolding members
place_of n X j h t = from_place X n 0 j (omega arith) (omega arith) t

from-rise : (X : ℕ → Bool) (k i a b : ℕ) → a < b → b < length (members_from X i k) → at (members_from X i k) a < at (members_from X i k) b
unfolding members_from
from-rise X zero i a b l h = absurd (not-suc-le-zero h)
from-rise X (suc k) i a b l h = go (members_from X (suc i) k) (λ b m. (from_at X k (suc i) b m).0) (from-rise X k (suc i)) (X i) a b l h
  where
    go : (rest : List ℕ) → ((b : ℕ) → b < length rest → suc i ≤ at rest b) → ((a b : ℕ) → a < b → b < length rest → at rest a < at rest b)
        → (t : Bool) → (a b : ℕ) → a < b → b < length (cons_if t i rest) → at (cons_if t i rest) a < at (cons_if t i rest) b
    go rest low ih true a zero l h = absurd (not-suc-le-zero l)
    go rest low ih true zero (suc b) l h = low b (le_of_suc-le-suc h)
    go rest low ih true (suc a) (suc b) l h = ih a b (le_of_suc-le-suc l) (le_of_suc-le-suc h)
    go rest low ih false a b l h = ih a b l h

pub members-rise : (n : ℕ) (X : ℕ → Bool) (a b : ℕ) → a < b → b < length (members n X) → at (members n X) a < at (members n X) b
unfolding members
members-rise n X = from-rise X n 0

from-cong : (X Y : ℕ → Bool) (k i : ℕ) → ((j : ℕ) → j < i + k → X j ≡ Y j) → members_from X i k ≡ members_from Y i k
unfolding members_from
from-cong X Y zero i h = refl
from-cong X Y (suc k) i h = ap₂ (λ t xs. cons_if t i xs) (h i (omega arith)) (from-cong X Y k (suc i) (λ j l. h j (omega arith)))

-- two tests that agree on the holders have the same members
pub members-cong : (n : ℕ) (X Y : ℕ → Bool) → ((j : ℕ) → j < n → X j ≡ Y j) → members n X ≡ members n Y
unfolding members
members-cong n X Y h = from-cong X Y n 0 (λ j l. h j (omega arith))

from_le : (X : ℕ → Bool) (k i : ℕ) → length (members_from X i k) ≤ k
unfolding members_from
from_le X zero i = omega arith
from_le X (suc k) i = go (X i) (from_le X k (suc i))
  where
    go : (t : Bool) → length (members_from X (suc i) k) ≤ k → length (cons_if t i (members_from X (suc i) k)) ≤ suc k
    go true l = omega arith
    go false l = omega arith

pub members-le : (n : ℕ) (X : ℕ → Bool) → length (members n X) ≤ n
unfolding members
members-le n X = from_le X n 0

-- A SET'S NUMBER. Its members from i on depend only on the bits from i on: here they are read off those, lowest first
unfoldable bits_from : ℕ → ℕ → ℕ → List ℕ
bits_from n i zero = []
bits_from n i (suc k) = cons_if (eqb (n % 2) 1) i (bits_from (n / 2) (suc i) k)

by_bits : (s i k : ℕ) → members_from (holds s) i k ≡ bits_from (s / 2 ^ i) i k
unfolding members_from bits_from
by_bits s i zero = refl
by_bits s i (suc k) =
    let e : s / 2 ^ suc i ≡ s / 2 ^ i / 2 = ap (λ m. s / m) (pow-suc 2 i) ∙ sym (div-div-eq-div-mul s (2 ^ i) 2) in
    ap (λ l. cons_if (holds s i) i l) (by_bits s (suc i) k ∙ ap (λ n. bits_from n (suc i) k) e)

whole : (w s : ℕ) → members w (holds s) ≡ bits_from s 0 w
unfolding members
whole w s = by_bits s 0 w ∙ rw div-one

half-below : (k n : ℕ) → n < 2 ^ suc k → n / 2 < 2 ^ k
half-below k n h = omega (arith, pow-suc 2 k)

bits-odd : (n i k : ℕ) → n % 2 ≡ 1 → bits_from n i (suc k) ≡ i ∷ bits_from (n / 2) (suc i) k
unfolding bits_from
bits-odd n i k e = rw e

bits-even : (n i k : ℕ) → n % 2 ≡ 0 → bits_from n i (suc k) ≡ bits_from (n / 2) (suc i) k
unfolding bits_from
bits-even n i k e = rw e

bits_none : (i k : ℕ) → bits_from 0 i k ≡ []
unfolding bits_from
bits_none i zero = refl
bits_none i (suc k) = bits_none (suc i) k

-- past the end of the number there is nothing
bits-wide : (k w i n : ℕ) → n < 2 ^ k → k ≤ w → bits_from n i w ≡ bits_from n i k
unfolding bits_from
bits-wide zero w i n h l = let z : n ≡ 0 = omega arith in rw (z, bits_none i w)
bits-wide (suc k) zero i n h l = absurd (not-suc-le-zero l)
bits-wide (suc k) (suc w) i n h l =
    ap (λ xs. cons_if (eqb (n % 2) 1) i xs) (bits-wide k w (suc i) (n / 2) (half-below k n h) (le_of_suc-le-suc l))

pub members-wide : (n w s : ℕ) → s < 2 ^ n → n ≤ w → members w (holds s) ≡ members n (holds s)
members-wide n w s h l = whole w s ∙ bits-wide n w 0 s h l ∙ sym (whole n s)

-- a number is odd or even
parity : (n : ℕ) (Z : Type 0) → (n % 2 ≡ 1 → Z) → (n % 2 ≡ 0 → Z) → Z
parity n Z f g = either (n % 2) 1 Z f (λ d. g (omega (arith, d)))

bits-count : (k i n : ℕ) → n < 2 ^ k → length (bits_from n i k) ≡ ones n
unfolding ones
bits-count zero i n h = let z : n ≡ 0 = omega arith in rw (z, bits_none i 0)
bits-count (suc k) i n h =
    let ih = bits-count k (suc i) (n / 2) (half-below k n h) in
    parity n (length (bits_from n i (suc k)) ≡ ones n)
    (λ e. omega (arith, ap length (bits-odd n i k e), ones_step n))
    (λ e. omega (arith, ap length (bits-even n i k e), ones_step n))

-- as many members as the number has ones
pub members-count : (n s : ℕ) → s < 2 ^ n → length (members n (holds s)) ≡ ones s
members-count n s h = ap length (whole n s) ∙ bits-count n 0 s h

-- THE NEXT MEMBER
-- where nothing is left of the number from i on
pub none_left : (s k i : ℕ) → s / 2 ^ i ≡ 0 → members_from (holds s) i k ≡ []
none_left s k i z = by_bits s i k ∙ rw z (bits_none i k)

zeros-odd : (k n : ℕ) → n % 2 ≡ 1 → count_trailing_zeros (suc k) n ≡ 0
unfolding count_trailing_zeros
zeros-odd k n e = rw e

zeros-even : (k n : ℕ) → n % 2 ≡ 0 → count_trailing_zeros (suc k) n ≡ suc (count_trailing_zeros k (n / 2))
unfolding count_trailing_zeros
zeros-even k n e = rw e

and-odd : (n : ℕ) → n % 2 ≡ 1 → bit_and n (n - 1) ≡ n / 2 * 2
and-odd n h =
    let e : (n - 1) / 2 ≡ n / 2 = omega arith in
    let f : (n - 1) % 2 ≡ 0 = omega arith in
    and_step n (n - 1) ∙ rw (e, f, h, and_self (n / 2), add-zero)

and-even : (n : ℕ) → 0 < n → n % 2 ≡ 0 → bit_and n (n - 1) ≡ bit_and (n / 2) (n / 2 - 1) * 2
and-even n p h =
    let e : (n - 1) / 2 ≡ n / 2 - 1 = omega arith in
    let f : (n - 1) % 2 ≡ 1 = omega arith in
    and_step n (n - 1) ∙ rw (e, f, h, add-zero)

bits-twice : (a i k : ℕ) → bits_from (a * 2) i (suc k) ≡ bits_from a (suc i) k
bits-twice a i k =
    let e : a * 2 / 2 ≡ a = omega arith in
    bits-even (a * 2) i k (omega arith) ∙ rw e

bits-next : (k i n : ℕ) → n < 2 ^ k → 0 < n → bits_from n i k ≡ (i + count_trailing_zeros k n) ∷ bits_from (bit_and n (n - 1)) i k
bits-next zero i n h p = absurd (omega arith)
bits-next (suc k) i n h p =
    let ih = bits-next k (suc i) (n / 2) (half-below k n h) in
    parity n (bits_from n i (suc k) ≡ (i + count_trailing_zeros (suc k) n) ∷ bits_from (bit_and n (n - 1)) i (suc k))
    (λ e. bits-odd n i k e ∙ rw (zeros-odd k n e, and-odd n e, bits-twice, add-zero))
    (λ e. bits-even n i k e ∙ ih (omega arith) ∙ rw (zeros-even k n e, and-even n p e, bits-twice, suc-add, add-suc))

pub next-less : (rest : ℕ) → (rest ≡ 0 → ⊥) → bit_and rest (rest - 1) < rest
next-less rest more = omega (arith, and_le_r rest (rest - 1), more)

-- `while rest != 0 { let i = trailing_zeros(rest); ..; rest = rest & (rest - 1); }`: in each turn i is the lowest member of rest, and the others stay
module _ (w rest : ℕ) (fits : rest < 2 ^ w) (more : rest ≡ 0 → ⊥) where
  pub members-next : members w (holds rest) ≡ count_trailing_zeros w rest ∷ members w (holds (bit_and rest (rest - 1)))
  members-next = whole w rest ∙ bits-next w 0 rest fits (omega (arith, more)) ∙ rw (zero-add, ← whole)

  pub next-below : count_trailing_zeros w rest < w
  next-below =
      let e = members-next in
      rw e at (member-at w (holds rest) 0 (rw e (omega arith))).0

pub members-none : (w : ℕ) → members w (holds 0) ≡ []
members-none w = whole w 0 ∙ bits_none 0 w

-- with k, the members done, counted up
pub record Left (w : ℕ) (ms : List ℕ) (rest k : ℕ) : Type 0 where
  pub fits : rest < 2 ^ w
  pub done : k ≤ length ms
  pub left : members w (holds rest) ≡ drop k ms

pub left-start : (w s : ℕ) (ms : List ℕ) → s < 2 ^ w → members w (holds s) ≡ ms → Left w ms s 0
left-start w s ms h e = record { fits = h; done = omega arith; left = e }

module _ {w : ℕ} {ms : List ℕ} {rest k : ℕ} (inv : Left w ms rest k) where
  pub left_end : rest ≡ 0 → k ≡ length ms
  left_end z =
      let e : drop k ms ≡ [] = sym inv.left ∙ ap (λ n. members w (holds n)) z ∙ members-none w in
      omega (arith, ap length e, length-drop k ms)

  module _ (more : rest ≡ 0 → ⊥) where
    pub left-place : k < length ms
    left-place = omega (arith, ap length (sym (members-next w rest inv.fits more) ∙ inv.left), length-drop k ms)

    same : count_trailing_zeros w rest ∷ members w (holds (bit_and rest (rest - 1))) ≡ at ms k ∷ drop (suc k) ms
    same = sym (members-next w rest inv.fits more) ∙ inv.left ∙ drop-cons ms k 0 left-place

    pub left-member : count_trailing_zeros w rest ≡ at ms k
    left-member = let e = same in cc

    pub left-turn : Left w ms (bit_and rest (rest - 1)) (k + 1)
    left-turn = record { fits = omega (arith, next-less rest more); done = omega (arith, left-place); left = let e = same in rw add-one (cc) }

bits-on : (w k i n : ℕ) → count_trailing_zeros w n < w → count_trailing_zeros w n < k
    → bits_from n i k ≡ (i + count_trailing_zeros w n) ∷ bits_from (n / 2 ^ suc (count_trailing_zeros w n)) (i + suc (count_trailing_zeros w n)) (k - suc (count_trailing_zeros w n))
bits-on zero k i n hw hk = absurd (not-suc-le-zero hw)
bits-on (suc w) zero i n hw hk = absurd (not-suc-le-zero hk)
bits-on (suc w) (suc k) i n hw hk =
    let ih = bits-on w k (suc i) (n / 2) in
    let z = count_trailing_zeros (suc w) n in
    parity n (bits_from n i (suc k) ≡ (i + z) ∷ bits_from (n / 2 ^ suc z) (i + suc z) (suc k - suc z))
    (λ e. bits-odd n i k e ∙ rw (zeros-odd w n e, add-zero, add-one, suc-sub-suc, sub-zero))
    (λ e. bits-even n i k e ∙ ih (omega (arith, zeros-even w n e)) (omega (arith, zeros-even w n e))
    ∙ rw (zeros-even w n e, shr-shr n 1 (suc (count_trailing_zeros w (n / 2))), suc-sub-suc) (simp (one-add, suc-add, add-suc)))

-- the next member from i on is as far on as the number from there on has zeros at its low end
pub next-member : (s w k i : ℕ) → count_trailing_zeros w (s / 2 ^ i) < w → count_trailing_zeros w (s / 2 ^ i) < k
    → members_from (holds s) i k
    ≡ (i + count_trailing_zeros w (s / 2 ^ i)) ∷ members_from (holds s) (i + suc (count_trailing_zeros w (s / 2 ^ i))) (k - suc (count_trailing_zeros w (s / 2 ^ i)))
next-member s w k i hw hk = by_bits s i k ∙ bits-on w k i (s / 2 ^ i) hw hk ∙ rw (by_bits, shr-shr)
