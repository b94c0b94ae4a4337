-- The laws of refusal tables. A table whose numbers rise gives the lowest that applies (lowest), and the answer 0 says that nothing does (clear,
-- none-applies). Then tables in two parts, and answers and buffers by a number.
-- positive: the numbers of a table are above 0, in whatever order they stand
-- without: no rule of a table has the number k
use Prim.Native.Nat.{ℕ, zero, suc, ◌≤◌, ◌<◌}
use native.Mathlib.Nat.{le_refl, le_trans, not-suc-le-zero}
use native.Mathlib.Omega.{arith}
use mathlib.Core.Bool.{Bool, true, false, not, ◌&&◌, false≢true}
use mathlib.Core.List.{List, [], ◌∷◌, ◌++◌}
use mathlib.Core.Path.{◌≡◌, refl, sym, ap, ◌∙◌}
use lib.Dec.{eqb, leb, ltb, T, leb→le}
use borrow.Author.Tests.{eq-eqb}
use Rattle.base.specs.Rules.{Rule, ◌when◌, or_when, refusal_from, refusal, rising, Rising, Applies, here, there, Lowest, Clear, Answer, refused, given, answer_by, left_by, left_of}
use Rattle.base.proofs.Choice.{T-left, T-right, T-both}

abbrev pub positive : List Rule → Bool
positive [] = true
positive ((k when b) ∷ l) = ltb 0 k && positive l

abbrev pub without : ℕ → List Rule → Bool
without k [] = true
without k ((j when b) ∷ l) = not (eqb j k) && without k l

-- a number other than 0 stays, at one rule and to the end of a table
pub stands : (r k : ℕ) (b : Bool) → (r ≡ 0 → ⊥) → r ≡ or_when r k b
stands zero k b h = absurd (h refl)
stands (suc r) k b h = refl

pub stays : (r : ℕ) (l : List Rule) → (r ≡ 0 → ⊥) → r ≡ refusal_from r l
stays zero l n = absurd (n refl)
stays (suc r) [] n = refl
stays (suc r) ((k when b) ∷ l) n = stays (suc r) l n

from-pos : (k : ℕ) (l : List Rule) → 0 < k → refusal_from k l ≡ k
from-pos k l h = sym (stays k l (λ z. omega arith))

-- THE LOWEST THAT APPLIES
-- the head of a rising table is at least the bound
head : (b j : ℕ) (l : List Rule) → T (rising b ((j when true) ∷ l)) → b ≤ j
head b j l h = leb→le b j (T-left (leb b j) (rising j l) h)

least-from : (l : List Rule) (b k : ℕ) → 0 < b → T (rising b l) → Applies l k → (0 < refusal l) × (refusal l ≤ k) × (b ≤ k)
least-from [] b k p h x = elim x [ ]
least-from ((j when true) ∷ l) b _ p h here =
    let q : b ≤ j = head b j l h in
    let z : 0 < j = omega arith in
    (rw (from-pos j l z) z, rw (from-pos j l z) (le_refl j), q)
least-from ((j when false) ∷ l) b k p h (there w) =
    let q : b ≤ j = head b j l h in
    let i = least-from l j k (omega arith) (T-right (leb b j) (rising j l) h) w in
    (i.0, i.1, le_trans q i.2)
least-from ((j when true) ∷ l) b k p h (there w) =
    let q : b ≤ j = head b j l h in
    let z : 0 < j = omega arith in
    let i = least-from l j k z (T-right (leb b j) (rising j l) h) w in
    (rw (from-pos j l z) z, rw (from-pos j l z) i.2, le_trans q i.2)

applies : (l : List Rule) → 0 < refusal l → Applies l (refusal l)
applies [] z = absurd (not-suc-le-zero z)
applies ((zero when true) ∷ l) z = there (applies l z)
applies ((suc j when true) ∷ l) z = rw (from-pos (suc j) l (omega arith)) here
applies ((j when false) ∷ l) z = there (applies l z)

pub lowest : (l : List Rule) → Rising l → Lowest l
lowest l h = record { least = λ k a. let r = least-from l 1 k (omega arith) h a in (r.0, r.1); applies = applies l }

-- a number that no rule has is not given
without-applies : (k : ℕ) (l : List Rule) → T (without k l) → Applies l k → ⊥
without-applies k [] t x = elim x [ ]
without-applies k ((_ when true) ∷ l) t here = rw (eq-eqb k k refl) at (T-left (not (eqb k k)) (without k l) t)
without-applies k ((j when b) ∷ l) t (there w) = without-applies k l (T-right (not (eqb j k)) (without k l) t) w

pub never : (k : ℕ) (l : List Rule) → 0 < k → T (without k l) → refusal l ≡ k → ⊥
never k l pos t e = without-applies k l t (rw e at (applies l (rw e pos)))

pub clear : (l : List Rule) → T (positive l) → refusal l ≡ 0 → Clear l
clear [] t e = tt
clear ((zero when b) ∷ l) t e = absurd t
clear ((suc k when true) ∷ l) t e = absurd (omega (arith, stays (suc k) l (λ z. omega arith) ∙ e))
clear ((suc k when false) ∷ l) t e = (refl, clear l (T-right (ltb 0 (suc k)) (positive l) t) e)

-- where no test holds, the answer is 0
pub none-applies : (l : List Rule) → Clear l → refusal l ≡ 0
none-applies [] c = refl
none-applies ((k when true) ∷ l) c = absurd (false≢true (sym c.0))
none-applies ((k when false) ∷ l) c = none-applies l c.1

-- TABLES IN TWO PARTS
pub clear-left : (l m : List Rule) → Clear (l ++ m) → Clear l
clear-left [] m c = tt
clear-left ((k when b) ∷ l) m c = (c.0, clear-left l m c.1)

pub clear-right : (l m : List Rule) → Clear (l ++ m) → Clear m
clear-right [] m c = c
clear-right ((k when b) ∷ l) m c = clear-right l m c.1

pub clear_both : (l m : List Rule) → Clear l → Clear m → Clear (l ++ m)
clear_both [] m c d = d
clear_both ((k when b) ∷ l) m c d = (c.0, clear_both l m c.1 d)

pub positive-both : (l m : List Rule) → T (positive l) → T (positive m) → T (positive (l ++ m))
positive-both [] m a b = b
positive-both ((k when t) ∷ l) m a b = T-both (ltb 0 k) (positive (l ++ m)) (T-left (ltb 0 k) (positive l) a) (positive-both l m (T-right (ltb 0 k) (positive l) a) b)

-- rules that do not hold may be passed over
pub refusal-after : (l m : List Rule) → Clear l → refusal (l ++ m) ≡ refusal m
refusal-after [] m c = refl
refusal-after ((k when true) ∷ l) m c = absurd (false≢true (sym c.0))
refusal-after ((k when false) ∷ l) m c = refusal-after l m c.1

pub joined : (r : ℕ) (l m : List Rule) → refusal_from r (l ++ m) ≡ refusal_from (refusal_from r l) m
joined r [] m = refl
joined r ((k when b) ∷ l) m = joined (or_when r k b) l m

-- ANSWERS AND BUFFERS BY A NUMBER
-- a call that was refused, and one that was not
pub declined : (r : ℕ) (a : Answer) → (r ≡ 0 → ⊥) → refused r ≡ answer_by r a
declined zero a n = absurd (n refl)
declined (suc r) a n = refl

pub accepted : (r : ℕ) (a : Answer) → r ≡ 0 → a ≡ answer_by r a
accepted zero a e = refl
accepted (suc r) a e = absurd (omega arith)

pub unchanged : (r : ℕ) (new old : List ℕ) → (r ≡ 0 → ⊥) → old ≡ left_by r new old
unchanged zero new old n = absurd (n refl)
unchanged (suc r) new old n = refl

pub written : (r : ℕ) (new old l : List ℕ) → r ≡ 0 → l ≡ new → l ≡ left_by r new old
written zero new old l e h = h
written (suc r) new old l e h = absurd (omega arith)

pub unchanged-of {ℓ} : {A : Type ℓ} (r : ℕ) (new old : A) → (r ≡ 0 → ⊥) → old ≡ left_of r new old
unchanged-of zero new old n = absurd (n refl)
unchanged-of (suc r) new old n = refl

-- an answer with number 0 was not refused
pub not-refused : (r : ℕ) (a : Answer) (vs : List ℕ) → answer_by r a ≡ given vs → (r ≡ 0) × (a ≡ given vs)
not-refused zero a vs e = (refl, e)
not-refused (suc r) a vs e = absurd (let z : ◌≡◌ {A = ℕ} (suc r) 0 = ap (λ (b : Answer). b.number) e in omega arith)
