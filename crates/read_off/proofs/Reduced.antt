-- What the reduced matrix shows, each answer with its certificate: whether the system with its right side in any column b has a solution, whether
-- a position is determined, and sweeping vectors. A row with its pivot in column j has the only entry of that column, so its product with the
-- vector read off column b is its entry in column b.
use mathlib.Core.Path.{◌≡◌, refl, sym, ap, ap₂, ◌∙◌}
use mathlib.Core.Logic.{◌≢◌}
use mathlib.Core.Bool.{Bool, true, false, not, ◌&&◌, false≢true}
use Prim.Native.Nat.{ℕ, zero, suc, ◌+◌, ◌-◌, ◌*◌, ◌%◌, ◌≤◌, ◌<◌}
use native.Mathlib.Omega.{arith}
use native.Mathlib.Nat.{mod-eq_of_lt, zero-mod}
use lib.Dec.{eqb, leb, ltb}
use borrow.Author.Tests.{eqb-true, eqb-false, lt-ltb, le-ltb, le-leb, lt-leb}
use Rattle.base.specs.Choice.{pick}
use Rattle.base.specs.Search.{first, First, found, missing}
use Rattle.base.specs.Sum.{sum, unit}
use Rattle.base.proofs.Choice.{either}
use Rattle.base.proofs.Search.{first-is}
use Rattle.base.proofs.Sum.{sum_one, sum-ext, sum-scale, sum-split, sum-unit, unit-same, unit-other}
use Rattle.field.specs.Prime.{Prime}
use Rattle.field.proofs.Congruence.{cong-by, cong-add, cong-mul, cong-comb, sum-mod}
use Rattle.field.specs.Dot.{dot, RowFor}
use Rattle.read_off.specs.ReadOff.{pivot_row, shown, unsolved, alone, fixes, Refutes, Beside, solvable, refuted, Unseen, Position, fixed, free, Sweeps, turned, sweep}
use Rattle.gauss.specs.Gauss.{elsewhere, State, usable, pivot_of, reduced, Solution, Spanned}
use Rattle.field.proofs.Dot.{dot-comm, dot-comb, dot-comb-right, dot-mod, dot-mod-right, dot-unit, dot-none, dot-zero, dot-assoc, row_reads}
use Rattle.gauss.proofs.Gauss.{Linear, Shape, All, usable-true, usable-false, shape, same, same-solutions, spanned-linear, spanned-rows, never-pivot}

-- CERTIFICATES
-- they depend on the residues inside the range only
pub solution-mod : (p R C : ℕ) (A B : ℕ → ℕ → ℕ) (b c x : ℕ → ℕ) → ((i j : ℕ) → i < R → j < C → A i j % p ≡ B i j % p)
    → ((i : ℕ) → i < R → b i % p ≡ c i % p) → Solution p R C A b x → Solution p R C B c x
solution-mod p R C A B b c x h g s = record { solves = λ i l. sym (dot-mod p C (A i) (B i) x (λ j m. h i j l m)) ∙ s.solves i l ∙ g i l }

pub refutes-mod : (p R C : ℕ) (A B : ℕ → ℕ → ℕ) (b c y : ℕ → ℕ) → ((i j : ℕ) → i < R → j < C → A i j % p ≡ B i j % p)
    → ((i : ℕ) → i < R → b i % p ≡ c i % p) → Refutes p R C A b y → Refutes p R C B c y
refutes-mod p R C A B b c y h g r = record {
  kills = λ j m. sym (dot-mod-right p R y (λ i. A i j) (λ i. B i j) (λ i l. h i j l m)) ∙ r.kills j m;
  keeps = λ e. r.keeps (dot-mod-right p R y b c g ∙ e);
}

-- never both
pub exclusive : (p R C : ℕ) (A : ℕ → ℕ → ℕ) (b x y : ℕ → ℕ) → Solution p R C A b x → Refutes p R C A b y → ⊥
exclusive p R C A b x y s t =
    t.keeps
    (dot-mod-right p R y b (λ i. dot C (A i) x) (λ i l. sym (s.solves i l))
    ∙ ap (λ z. z % p) (dot-assoc R C y x A)
    ∙ dot-zero p C (λ j. dot R y (λ i. A i j)) x t.kills)

-- PRODUCTS WITH THE VECTOR READ OFF A COLUMN
by-used : (s : State) (m : ℕ) (Z : Type 0) → (s.used m ≡ 0 → Z) → ((j : ℕ) → s.used m ≡ suc j → Z) → Z
by-used s m Z f g = go (s.used m) refl
  where
    go : (n : ℕ) → s.used m ≡ n → Z
    go zero e = f e
    go (suc j) e = g j e

pub pivot-row-first : (R : ℕ) (used : ℕ → ℕ) (q : ℕ) → First (λ i. eqb (used i) (suc q)) R (pivot_row R used q)
unfolding pivot_row
pivot-row-first R used q = first-is (λ i. eqb (used i) (suc q)) R

module _ (p R C : ℕ) (s : State) (S : Shape p R C s) where
  -- a column has at most one pivot row
  one-row : (i k j : ℕ) → s.used i ≡ suc j → s.used k ≡ suc j → i ≡ k
  one-row i k j u v = either i k (i ≡ k) (λ e. e)
      (λ h. absurd (omega (arith, sym ((S.pivots i j u).1 k) ∙ (S.pivots k j v).1 k, unit-other i k h, unit-same k)))

  module _ (b : ℕ) where
    shown-pivot : (i j : ℕ) → i < R → s.used i ≡ suc j → shown R b s j ≡ s.mat i b
    unfolding shown
    shown-pivot i j l u = go (pivot_row R s.used j) (pivot-row-first R s.used j)
      where
        go : (r : ℕ) → First (λ i. eqb (s.used i) (suc j)) R r → pick (ltb r R) (s.mat r b) 0 ≡ s.mat i b
        go r (found m e h) = rw (lt-ltb r R m) (ap (λ z. s.mat z b) (one-row r i j (eqb-true (s.used r) (suc j) e) u))
        go r (missing m h) = absurd (eqb-false (s.used i) (suc j) (h i l) u)

    shown-free : (j : ℕ) → ((i : ℕ) → i < R → s.used i ≡ suc j → ⊥) → shown R b s j ≡ 0
    unfolding shown
    shown-free j none = go (pivot_row R s.used j) (pivot-row-first R s.used j)
      where
        go : (r : ℕ) → First (λ i. eqb (s.used i) (suc j)) R r → pick (ltb r R) (s.mat r b) 0 ≡ 0
        go r (found m e h) = absurd (none r m (eqb-true (s.used r) (suc j) e))
        go r (missing m h) = rw (le-ltb r R (omega arith))

    times-unused : (i : ℕ) → i < R → s.used i ≡ 0 → dot C (s.mat i) (shown R b s) ≡ 0
    times-unused i l u = dot-none C (s.mat i) _ (S.fresh i l u)

    times-used : (i j : ℕ) → i < R → s.used i ≡ suc j → dot C (s.mat i) (shown R b s) ≡ s.mat i b
    unfolding dot
    times-used i j l u =
        sum_one C j (λ n. s.mat i n * shown R b s n) (S.pivots i j u).0 other
        ∙ rw ((S.pivots i j u).1 i, unit-same i, shown-pivot i j l u) (omega arith)
      where
        other : (n : ℕ) → n < C → (j ≡ n → ⊥) → s.mat i n * shown R b s n ≡ 0
        other n m h = go (pivot_row R s.used n) (pivot-row-first R s.used n)
          where
            go : (r : ℕ) → First (λ i. eqb (s.used i) (suc n)) R r → s.mat i n * shown R b s n ≡ 0
            go r (found a e z) =
                let v : s.used r ≡ suc n = eqb-true (s.used r) (suc n) e in
                rw ((S.pivots r n v).1 i, unit-other r i (λ d. h (omega (arith, ap s.used d)))) (omega arith)
            go r (missing a z) = rw (shown-free n (λ r a. eqb-false (s.used r) (suc n) (z r a))) (omega arith)

-- what is read off is below p
pub shown-small : (p : ℕ) → Prime p → (R C b : ℕ) (G : ℕ → ℕ → ℕ) (j : ℕ) → shown R b (reduced p R C G) j < p
unfolding shown
shown-small p P R C b G j = go (ltb r R)
  where
    r : ℕ
    r = pivot_row R (reduced p R C G).used j

    go : (x : Bool) → pick x ((reduced p R C G).mat r b) 0 < p
    go true = (shape p P R C G).small r b
    go false = omega (arith, P.big)

-- THE ALTERNATIVE
pub beside : (p : ℕ) → Prime p → (R C b : ℕ) (G : ℕ → ℕ → ℕ) → Beside p R C b G (unsolved R b (reduced p R C G))
unfolding pivot_of
beside p P R C b G = go (first (usable s b) R) (first-is (usable s b) R)
  where
    s : State
    s = reduced p R C G

    S : Shape p R C s
    S = shape p P R C G

    go : (r : ℕ) → First (usable s b) R r → Beside p R C b G r
    go r (found l e h) =
        let t = (same p P R C G (Spanned p R G) (spanned-linear p R G)).0 (spanned-rows p R G) r l in
        let u = usable-true s b r e in
        refuted l t.by (record {
          kills = λ j m. sym (t.gives j) ∙ ap (λ x. x % p) (S.fresh r l u.0 j m) ∙ zero-mod p;
          keeps = λ d. u.1 (sym (mod-eq_of_lt (S.small r b)) ∙ t.gives b ∙ d);
        })
    go r (missing l h) = solvable l ((same-solutions p P R C G C b (shown R b s)).1 (record {
      solves = λ i m.
          by-used s i (dot C (s.mat i) (shown R b s) % p ≡ s.mat i b % p)
          (λ u. ap (λ z. z % p) (times-unused p R C s S b i m u ∙ sym (usable-false s b i (h i m) u)))
          (λ j u. ap (λ z. z % p) (times-used p R C s S b i j m u));
    }))

-- a column that is a combination of those before it has no pivot, so every vector read off is 0 there
pub shown-dependent : (p : ℕ) → Prime p → (R C b c : ℕ) (G : ℕ → ℕ → ℕ) (y : ℕ → ℕ) → c < C → Solution p R c G (λ i. G i c) y → shown R b (reduced p R C G) c ≡ 0
shown-dependent p P R C b c G y l s = go (beside p P R c c G)
  where
    go : Beside p R c c G (unsolved R c (reduced p R c G)) → shown R b (reduced p R C G) c ≡ 0
    go (solvable e t) = shown-free p R C (reduced p R C G) (shape p P R C G) b c (λ i m. never-pivot p P R c C G e l i)
    go (refuted m z r) = absurd (exclusive p R c G (λ i. G i c) y z s r)

-- THE KERNEL
-- t solves the homogeneous row v
unfoldable Kills : ℕ → ℕ → (ℕ → ℕ) → (ℕ → ℕ) → Type 0
Kills p C t v = dot C v t % p ≡ 0

kills-linear : (p C : ℕ) (t : ℕ → ℕ) → Linear p (Kills p C t)
unfolding Kills
kills-linear p C t = record {
  resp = λ u v h e. sym (dot-mod p C u v t (λ j l. h j)) ∙ e;
  comb = λ a b u v d e.
      ap (λ z. z % p) (dot-comb C a b u v t) ∙ cong-comb p a b _ _ 0 0 (d ∙ sym (zero-mod p)) (e ∙ sym (zero-mod p)) ∙ ap (λ z. z % p) (omega arith) ∙ zero-mod p;
}

-- e_f less the vector read off column f
unfoldable null : (p R f : ℕ) → State → ℕ → ℕ
null p R f s j = 1 * unit f j + (p - 1) * shown R f s j

-- y - x = 0 where x = y
pub minus : (p : ℕ) → 1 < p → (x y : ℕ) → x % p ≡ y % p → (y + (p - 1) * x) % p ≡ 0
minus p big x y h = go (p - 1) (omega arith)
  where
    go : (n : ℕ) → n + 1 ≡ p → (y + n * x) % p ≡ 0
    go n e = cong-add p y x (n * x) (n * x) (sym h) refl ∙ cong-by p x _ 0 (omega (arith, ap (λ z. x * z) e)) ∙ zero-mod p

-- x = - z where z + x = 0
pub negated : (p : ℕ) → 1 < p → (x z : ℕ) → (z + x) % p ≡ 0 → ((p - 1) * x) % p ≡ z % p
negated p big x z h = go (p - 1) (omega arith)
  where
    go : (n : ℕ) → n + 1 ≡ p → (n * x) % p ≡ z % p
    go n e =
        ap (λ w. w % p) (omega arith) ∙ cong-add p 0 (z + x) (n * x) (n * x) (zero-mod p ∙ sym h) refl
        ∙ cong-by p x _ z (omega (arith, ap (λ w. x * w) e))

module _ (p : ℕ) (P : Prime p) (R C : ℕ) (s : State) (S : Shape p R C s) where
  null-kills : (f : ℕ) → f < C → All R (Kills p C (null p R f s)) s.mat
  unfolding Kills null
  null-kills f l i m =
      ap (λ z. z % p)
      (dot-comb-right C 1 (p - 1) (unit f) (shown R f s) (s.mat i) ∙ rw (dot-comm C (s.mat i) (unit f) ∙ dot-unit C f (s.mat i) l) refl)
      ∙ by-used s i ((1 * s.mat i f + (p - 1) * dot C (s.mat i) (shown R f s)) % p ≡ 0)
      (λ u. rw (times-unused p R C s S f i m u, S.fresh i m u f l) (ap (λ z. z % p) (omega arith) ∙ zero-mod p))
      (λ j u. rw (times-used p R C s S f i j m u) (ap (λ z. z % p) (omega arith) ∙ minus p P.big (s.mat i f) (s.mat i f) refl))

  -- its entry where row i has its pivot, by that row's entry in column f
  null-pivot : (f i q : ℕ) → i < R → s.used i ≡ suc q → (q ≡ f → ⊥) → s.mat i f ≢ 0 → null p R f s q % p ≢ 0
  unfolding null
  null-pivot f i q l u h z e =
      let w : (1 * 0 + (p - 1) * s.mat i f) % p ≡ 0 = rw (unit-other f q (λ d. h (sym d)), shown-pivot p R C s S f i q l u) at e in
      z (sym (mod-eq_of_lt (S.small i f)) ∙ cancel (s.mat i f) (p - 1) (omega (arith, P.big)) w)
    where
      cancel : (x n : ℕ) → n + 1 ≡ p → (1 * 0 + n * x) % p ≡ 0 → x % p ≡ 0
      cancel x n e h =
          ap (λ z. z % p) (omega arith)
          ∙ cong-add p 0 (1 * 0 + n * x) x x (zero-mod p ∙ sym h) refl
          ∙ cong-by p x ((1 * 0 + n * x) + x) 0 (omega (arith, ap (λ z. x * z) e)) ∙ zero-mod p

  null-free : (q : ℕ) → ((i : ℕ) → i < R → s.used i ≡ suc q → ⊥) → null p R q s q % p ≢ 0
  unfolding null
  null-free q h e =
      let w : (1 * 1 + (p - 1) * 0) % p ≡ 0 = rw (unit-same q, shown-free p R C s S q q h) at e in
      omega (arith, ap (λ z. z % p) (one (p - 1)), mod-eq_of_lt P.big, w)
    where
      one : (n : ℕ) → 1 * 1 + n * 0 ≡ 1
      one n = omega arith

-- THE DETERMINED LAW
elsewhere-true : (q : ℕ) (row : ℕ → ℕ) (j : ℕ) → elsewhere q row j ≡ true → (q ≡ j → ⊥) × (row j ≢ 0)
unfolding elsewhere
elsewhere-true q row j = go (eqb q j) refl (eqb (row j) 0) refl
  where
    go : (a : Bool) → eqb q j ≡ a → (b : Bool) → eqb (row j) 0 ≡ b → (not a && not b) ≡ true → (q ≡ j → ⊥) × (row j ≢ 0)
    go true d b e h = absurd (false≢true h)
    go false d true e h = absurd (false≢true h)
    go false d false e h = (eqb-false q j d, eqb-false (row j) 0 e)

elsewhere-false : (q : ℕ) (row : ℕ → ℕ) (j : ℕ) → elsewhere q row j ≡ false → (q ≡ j → ⊥) → row j ≡ 0
unfolding elsewhere
elsewhere-false q row j = go (eqb q j) refl (eqb (row j) 0) refl
  where
    go : (a : Bool) → eqb q j ≡ a → (b : Bool) → eqb (row j) 0 ≡ b → (not a && not b) ≡ false → (q ≡ j → ⊥) → row j ≡ 0
    go true d b e h n = absurd (n (eqb-true q j d))
    go false d true e h n = eqb-true (row j) 0 e
    go false d false e h n = absurd (false≢true (sym h))

-- row i has its pivot in q and no other entry in the first C columns
record Pins (C : ℕ) (s : State) (q i : ℕ) : Type 0 where
  pivot : s.used i ≡ suc q
  only : (j : ℕ) → j < C → (q ≡ j → ⊥) → s.mat i j ≡ 0

-- what the test says: such a row, or no pivot in q, or an entry beside it
data Fixing (R C : ℕ) (s : State) (q : ℕ) : Bool → Type 0 where
  pinned : (i : ℕ) → i < R → Pins C s q i → Fixing R C s q true
  bare : ((i : ℕ) → i < R → s.used i ≡ suc q → ⊥) → Fixing R C s q false
  mixed : (i f : ℕ) → i < R → f < C → s.used i ≡ suc q → (q ≡ f → ⊥) → s.mat i f ≢ 0 → Fixing R C s q false

fixing : (R C : ℕ) (s : State) (q : ℕ) → Fixing R C s q (fixes R C s q)
unfolding fixes alone
fixing R C s q = go (pivot_row R s.used q) (pivot-row-first R s.used q)
  where
    go : (r : ℕ) → First (λ i. eqb (s.used i) (suc q)) R r → Fixing R C s q (ltb r R && leb C (first (elsewhere q (s.mat r)) C))
    go r (missing l h) = rw (le-ltb r R (omega arith)) (bare (λ i m. eqb-false (s.used i) (suc q) (h i m)))
    go r (found l e h) = rw (lt-ltb r R l) (row (first (elsewhere q (s.mat r)) C) (first-is (elsewhere q (s.mat r)) C))
      where
        row : (f : ℕ) → First (elsewhere q (s.mat r)) C f → Fixing R C s q (leb C f)
        row f (found m g y) =
            let z = elsewhere-true q (s.mat r) f g in
            rw (lt-leb C f m) (mixed r f l m (eqb-true (s.used r) (suc q) e) z.0 z.1)
        row f (missing m y) =
            rw (le-leb C f (omega arith))
            (pinned r l (record { pivot = eqb-true (s.used r) (suc q) e; only = λ j n. elsewhere-false q (s.mat r) j (y j n) }))

module _ (p : ℕ) (P : Prime p) (k d : ℕ) (A : ℕ → ℕ → ℕ) (q : ℕ) (inside : q < d) where
  pins-unit : (i : ℕ) → Pins d (reduced p k d A) q i → (j : ℕ) → j < d → (reduced p k d A).mat i j ≡ unit q j
  pins-unit i h j l = either q j ((reduced p k d A).mat i j ≡ unit q j)
      (λ e. rw (← e) (((shape p P k d A).pivots i q h.pivot).1 i ∙ unit-same i ∙ sym (unit-same q)))
      (λ e. h.only j l e ∙ sym (unit-other q j e))

  -- by the answer of the test: a row for position q, or a vector that the rows do not see and that is not 0 there
  pub determined : Position p k d A q (fixes k d (reduced p k d A) q)
  unfolding Kills
  determined = go (fixes k d s q) (fixing k d s q)
    where
      s : State
      s = reduced p k d A

      S : Shape p k d s
      S = shape p P k d A

      unseen : (f : ℕ) → f < d → null p k f s q % p ≢ 0 → Position p k d A q false
      unseen f l z = free (null p k f s) (record {
        zeros = (same p P k d A (Kills p d (null p k f s)) (kills-linear p d (null p k f s))).1 (null-kills p P k d s S f l);
        there = z;
      })

      go : (b : Bool) → Fixing k d s q b → Position p k d A q b
      go b (pinned i l h) =
          let t = (same p P k d A (Spanned p k A) (spanned-linear p k A)).0 (spanned-rows p k A) i l in
          fixed t.by (record { gives = λ j m. sym (t.gives j) ∙ ap (λ z. z % p) (pins-unit i h j m) })
      go b (bare h) = unseen q inside (null-free p P k d s S q h)
      go b (mixed i f l m u h z) = unseen f m (null-pivot p P k d s S f i q l u h z)

  -- where the test holds, the vector read off column b has at q the entry of every solution
  pub fixed_reads : fixes k d (reduced p k d A) q ≡ true → (b : ℕ) (x : ℕ → ℕ) → Solution p k d A (λ i. A i b) x
      → shown k b (reduced p k d A) q ≡ x q % p
  fixed_reads t b x sol = go (fixes k d s q) (fixing k d s q) t
    where
      s : State
      s = reduced p k d A

      S : Shape p k d s
      S = shape p P k d A

      go : (a : Bool) → Fixing k d s q a → a ≡ true → shown k b s q ≡ x q % p
      go a (pinned i l h) e =
          shown-pivot p k d s S b i q l h.pivot
          ∙ sym (mod-eq_of_lt (S.small i b))
          ∙ sym (((same-solutions p P k d A d b x).0 sol).solves i l)
          ∙ dot-mod p d (s.mat i) (unit q) x (λ j m. ap (λ z. z % p) (pins-unit i h j m))
          ∙ ap (λ z. z % p) (dot-unit d q x inside)
      go a (bare h) e = absurd (false≢true e)
      go a (mixed i f l m u h z) e = absurd (false≢true e)

-- a row for position q and an unseen vector exclude each other, so `fixes` answers for every certificate there is
pub row-or-unseen : (p k d : ℕ) (A : ℕ → ℕ → ℕ) (q : ℕ) → q < d → (r t : ℕ → ℕ) → RowFor p k d A q r → Unseen p k d A q t → ⊥
row-or-unseen p k d A q l r t h u =
    u.there (sym (row_reads p k d A q r l h t) ∙ ap (λ z. z % p) (dot-comm k r _) ∙ dot-zero p k (λ i. dot d (A i) t) r u.zeros)

-- THE ROW AS A SOLUTION
-- with the k rows written as columns, d equations in k unknowns with right side e_q, a row for position q is a solution, and a refutation is unseen
pub row_is : (p k d : ℕ) (A : ℕ → ℕ → ℕ) (q : ℕ) (r : ℕ → ℕ) → Solution p d k (λ j i. A i j) (unit q) r → RowFor p k d A q r
row_is p k d A q r s = record { gives = λ j l. ap (λ z. z % p) (dot-comm k r (λ i. A i j)) ∙ s.solves j l }

pub row_from : (p k d : ℕ) (A : ℕ → ℕ → ℕ) (q : ℕ) (r : ℕ → ℕ) → RowFor p k d A q r → Solution p d k (λ j i. A i j) (unit q) r
row_from p k d A q r h = record { solves = λ j l. ap (λ z. z % p) (dot-comm k (λ i. A i j) r) ∙ h.gives j l }

pub unseen-is : (p k d : ℕ) (A : ℕ → ℕ → ℕ) (q : ℕ) → q < d → (y : ℕ → ℕ) → Refutes p d k (λ j i. A i j) (unit q) y → Unseen p k d A q y
unseen-is p k d A q l y r = record {
  zeros = λ i m. ap (λ z. z % p) (dot-comm d (A i) y) ∙ r.kills i m;
  there = λ e. r.keeps (ap (λ z. z % p) (dot-comm d y (unit q) ∙ dot-unit d q y l) ∙ e);
}

-- SWEEPING VECTORS
pub never_both : (p : ℕ) → Prime p → (k d l : ℕ) (A : ℕ → ℕ → ℕ) (q : ℕ) → q < l → l ≤ d
    → (r t : ℕ → ℕ) → RowFor p k d A q r → Sweeps p k d l A q t → ⊥
never_both p P k d l A q m n r t h S =
    row-or-unseen p k d A q (omega arith) r t h
    (record { zeros = S.zeros; there = λ e. omega (arith, sym e ∙ S.first q m ∙ ap (λ z. z % p) (unit-same q) ∙ mod-eq_of_lt P.big) })

module _ (l e : ℕ) (A : ℕ → ℕ → ℕ) where
  pub turned_left : (i j : ℕ) → j < e → turned l e A i j ≡ A i (l + j)
  unfolding turned
  turned_left i j h = rw (lt-ltb j e h)

  pub turned_right : (i q : ℕ) → turned l e A i (e + q) ≡ A i q
  unfolding turned
  turned_right i q = rw (le-ltb (e + q) e (omega arith)) (ap (A i) (omega arith))

-- the last e columns are the unknowns and column q, beside them, the right side
module _ (p : ℕ) (P : Prime p) (k l e : ℕ) (A : ℕ → ℕ → ℕ) (q : ℕ) (inside : q < l) where
  swap : (a b c : ℕ) → a * (b * c) ≡ b * (a * c)
  swap a b c = omega arith

  sweep-product : (x : ℕ → ℕ) (i : ℕ) → dot (l + e) (A i) (sweep p l q x) ≡ A i q + (p - 1) * dot e (turned l e A i) x
  unfolding dot sweep
  sweep-product x i =
      sum-split l e _
      ∙ ap₂ ◌+◌
      (sum-ext l _ (λ j. unit q j * A i j) (λ j m. rw (lt-ltb j l m) (omega arith)) ∙ sum-unit l q (A i) inside)
      (sum-ext e _ (λ j. (p - 1) * (turned l e A i j * x j))
      (λ j m. rw (le-ltb (l + j) l (omega arith), turned_left l e A i j m)
      (ap (λ z. A i (l + j) * ((p - 1) * x z)) back ∙ swap (A i (l + j)) (p - 1) (x j)))
      ∙ sum-scale e (p - 1) _)
    where
      back : {j : ℕ} → l + j - l ≡ j
      back {j} = omega arith

  -- a solution is a sweeping vector
  pub sweep-is : (x : ℕ → ℕ) → Solution p k e (turned l e A) (λ i. turned l e A i (e + q)) x → Sweeps p k (l + e) l A q (sweep p l q x)
  sweep-is x s = record {
    zeros = λ i m. ap (λ z. z % p) (sweep-product x i)
        ∙ minus p P.big (dot e (turned l e A i) x) (A i q) (s.solves i m ∙ ap (λ z. z % p) (turned_right l e A i q));
    first = λ j m. unfold sweep in rw (lt-ltb j l m) refl;
  }

  -- and every sweeping vector comes from a solution
  pub sweep-from : (t : ℕ → ℕ) → Sweeps p k (l + e) l A q t
      → Solution p k e (turned l e A) (λ i. turned l e A i (e + q)) (λ j. (p - 1) * t (l + j))
  unfolding dot
  sweep-from t S = record {
    solves = λ i m.
        ap (λ z. z % p)
        (sum-ext e _ (λ j. (p - 1) * (A i (l + j) * t (l + j))) (λ j o. rw (turned_left l e A i j o) (swap (A i (l + j)) (p - 1) (t (l + j))))
        ∙ sum-scale e (p - 1) _)
        ∙ negated p P.big (rest i) (A i q) (whole i m) ∙ ap (λ z. z % p) (sym (turned_right l e A i q));
  }
    where
      rest : ℕ → ℕ
      rest i = sum e (λ j. A i (l + j) * t (l + j))

      whole : (i : ℕ) → i < k → (A i q + rest i) % p ≡ 0
      whole i m =
          sym (ap (λ z. z % p) (sum-split l e (λ j. A i j * t j))
          ∙ cong-add p _ (A i q) (rest i) (rest i)
          (sum-mod p l _ (λ j. unit q j * A i j) (λ j o. cong-mul p (A i j) (A i j) (t j) (unit q j) refl (S.first j o) ∙ ap (λ z. z % p) (omega arith))
          ∙ ap (λ z. z % p) (sum-unit l q (A i) inside)) refl)
          ∙ S.zeros i m

  -- so a refutation leaves none
  pub sweep-none : (y : ℕ → ℕ) → Refutes p k e (turned l e A) (λ i. turned l e A i (e + q)) y → (t : ℕ → ℕ) → Sweeps p k (l + e) l A q t → ⊥
  sweep-none y r t S = exclusive p k e (turned l e A) _ _ y (sweep-from t S) r
