-- What the elimination keeps: every combination of rows that it makes can be undone, so the rows before and after span the same and have the same
-- solutions; and the shape that it leaves.
-- Shape: entries below p; an unused row is 0 in the columns processed; a pivot's column is a unit vector
-- Linear: a predicate of rows that depends on residues only and holds of every combination of two rows of which it holds
-- same: such a predicate holds of all rows before exactly where it holds of all rows after
use mathlib.Core.Path.{◌≡◌, refl, sym, ap, ◌∙◌, ◌≡⟨◌⟩◌, ◌∎}
use mathlib.Core.Logic.{◌≢◌, ◌↔◌}
use mathlib.Core.Bool.{Bool, true, false, not, ◌&&◌, false≢true}
use Prim.Native.Nat.{ℕ, zero, suc, ◌+◌, ◌-◌, ◌*◌, ◌%◌, ◌<◌}
use native.Mathlib.Omega.{arith}
use native.Mathlib.Nat.{mod-mod, mod-add-mod, mod-lt, mod-eq_of_lt, mod_self, zero-mod}
use lib.Dec.{eqb, ltb}
use borrow.Author.Tests.{eqb-true, eqb-false, eq-eqb, ne_eqb, lt-ltb, le-ltb}
use Rattle.base.specs.Choice.{pick}
use Rattle.base.specs.Search.{first, First, found, missing}
use Rattle.base.specs.Sum.{sum, unit}
use Rattle.base.proofs.Choice.{either}
use Rattle.base.proofs.Search.{first-is, missing-all}
use Rattle.base.proofs.Sum.{unit-same, unit-other}
use Rattle.field.specs.Prime.{Prime, inverse_of}
use Rattle.field.proofs.Prime.{inverse-right}
use Rattle.field.proofs.Congruence.{cong-by, cong-comb, mul-mod-mod, mod-mul-mod}
use Rattle.field.specs.Dot.{dot}
use Rattle.gauss.specs.Gauss.{State, scaled, clear, usable, pivot_of, use_row, column, gauss, start, reduced, Solution, Spanned}
use Rattle.field.proofs.Dot.{dot-comb, dot-mod, dot-none, dot-unit}

-- ONE COLUMN
module _ (p : ℕ) (P : Prime p) (k c : ℕ) (M : ℕ → ℕ → ℕ) (small : (i j : ℕ) → M i j < p) (entry : M k c ≢ 0) where
  pos : 0 < p
  pos = omega (arith, P.big)

  scaled_small : (j : ℕ) → scaled p k c M j < p
  unfolding scaled
  scaled_small j = mod-lt (inverse_of p (M k c) * M k j) pos

  pub clear-pivot : (j : ℕ) → clear p k c M k j ≡ scaled p k c M j
  unfolding clear
  clear-pivot j = rw (eq-eqb k k refl)

  pub clear-row : (i j : ℕ) → (i ≡ k → ⊥) → clear p k c M i j ≡ (M i j + (p - M i c) * scaled p k c M j) % p
  unfolding clear
  clear-row i j h = rw (ne_eqb i k h)

  by_row : (i : ℕ) (Q : ℕ → Type 0) → Q k → ((i ≡ k → ⊥) → Q i) → Q i
  by_row i Q a b = either i k (Q i) (λ e. rw e a) b

  clear-small : (i j : ℕ) → clear p k c M i j < p
  clear-small i j =
      by_row i (λ m. clear p k c M m j < p) (rw (clear-pivot j) (scaled_small j))
      (λ h. rw (clear-row i j h) (mod-lt (M i j + (p - M i c) * scaled p k c M j) pos))

  -- a column in which the pivot row has 0 stays
  scaled-none : (j : ℕ) → M k j ≡ 0 → scaled p k c M j ≡ 0
  unfolding scaled
  scaled-none j e = rw e (ap (λ x. x % p) (omega arith) ∙ zero-mod p)

  clear_none : (i j : ℕ) → M k j ≡ 0 → clear p k c M i j ≡ M i j
  clear_none i j e =
      by_row i (λ m. clear p k c M m j ≡ M m j) (clear-pivot j ∙ scaled-none j e ∙ sym e)
      (λ h. clear-row i j h ∙ rw (scaled-none j e) (ap (λ x. x % p) (omega arith) ∙ mod-eq_of_lt (small i j)))

  -- the pivot's column becomes a unit vector
  scaled-one : scaled p k c M c ≡ 1
  unfolding scaled
  scaled-one = ap (λ x. x % p) (omega arith) ∙ inverse-right p P (M k c) (omega (arith, entry)) (small k c)

  clear-unit : (i : ℕ) → clear p k c M i c ≡ unit k i
  clear-unit i =
      by_row i (λ m. clear p k c M m c ≡ unit k m) (clear-pivot c ∙ scaled-one ∙ sym (unit-same k))
      (λ h. clear-row i c h ∙ rw scaled-one (ap (λ x. x % p) (omega (arith, small i c)) ∙ mod_self p) ∙ sym (unit-other k i (λ e. h (sym e))))

  -- row k again, from the scaled one
  pub unscale : (j : ℕ) → (M k c * scaled p k c M j) % p ≡ M k j % p
  unfolding scaled
  unscale j =
      (M k c * ((inverse_of p (M k c) * M k j) % p)) % p ≡⟨ mul-mod-mod (M k c) (inverse_of p (M k c) * M k j) p ⟩
      (M k c * (inverse_of p (M k c) * M k j)) % p ≡⟨ ap (λ x. x % p) (omega arith) ⟩
      (M k c * inverse_of p (M k c) * M k j) % p ≡⟨ sym (mod-mul-mod (M k c * inverse_of p (M k c)) (M k j) p) ⟩
      ((M k c * inverse_of p (M k c)) % p * M k j) % p ≡⟨ ap (λ x. (x * M k j) % p) (inverse-right p P (M k c) (omega (arith, entry)) (small k c)) ⟩
      (1 * M k j) % p ≡⟨ ap (λ x. x % p) (omega arith) ⟩
      M k j % p ∎

-- LINEAR PREDICATES
pub record Linear (p : ℕ) (Q : (ℕ → ℕ) → Type 0) : Type 0 where
  pub resp : (u v : ℕ → ℕ) → ((j : ℕ) → u j % p ≡ v j % p) → Q u → Q v
  pub comb : (a b : ℕ) (u v : ℕ → ℕ) → Q u → Q v → Q (λ j. a * u j + b * v j)

module _ (p : ℕ) (P : Prime p) (k c : ℕ) (M : ℕ → ℕ → ℕ) (small : (i j : ℕ) → M i j < p) (entry : M k c ≢ 0)
    (Q : (ℕ → ℕ) → Type 0) (L : Linear p Q) where
  q-scaled : Q (M k) → Q (scaled p k c M)
  unfolding scaled
  q-scaled qk =
      L.resp _ _ (λ j. sym (mod-mod (inverse_of p (M k c) * M k j + 0 * M k j) p) ∙ ap (λ x. x % p % p) (omega arith))
      (L.comb (inverse_of p (M k c)) 0 (M k) (M k) qk qk)

  forth : Q (M k) → (i : ℕ) → Q (M i) → Q (clear p k c M i)
  forth qk i qi =
      by_row p P k c M small entry i (λ m. Q (clear p k c M m))
      (L.resp _ _ (λ j. ap (λ x. x % p) (sym (clear-pivot p P k c M small entry j))) (q-scaled qk))
      (λ h. L.resp _ _
      (λ j. ap (λ x. x % p) (omega arith) ∙ sym (mod-mod (M i j + (p - M i c) * scaled p k c M j) p)
      ∙ ap (λ x. x % p) (sym (clear-row p P k c M small entry i j h)))
      (L.comb 1 (p - M i c) (M i) (scaled p k c M) qi (q-scaled qk)))

  -- a - m t + m t = a
  restore : (a m t : ℕ) → m < p → ((a + (p - m) * t) % p + m * t) % p ≡ a % p
  restore a m t l = mod-add-mod (a + (p - m) * t) p (m * t) ∙ go (p - m) (omega arith)
    where
      go : (n : ℕ) → n + m ≡ p → (a + n * t + m * t) % p ≡ a % p
      go n e = cong-by p t _ a (omega (arith, ap (λ x. t * x) e))

  back : Q (clear p k c M k) → (i : ℕ) → Q (clear p k c M i) → Q (M i)
  back qk i qi =
      by_row p P k c M small entry i (λ m. Q (M m))
      (L.resp _ _ (λ j. rw (clear-pivot p P k c M small entry j) (ap (λ x. x % p) (omega arith) ∙ unscale p P k c M small entry j))
      (L.comb (M k c) 0 (clear p k c M k) (clear p k c M k) qk qk))
      (λ h. L.resp _ _
      (λ j. rw (clear-pivot p P k c M small entry j, clear-row p P k c M small entry i j h)
      (ap (λ x. x % p) (omega arith) ∙ restore (M i j) (M i c) (scaled p k c M j) (small i c)))
      (L.comb 1 (M i c) (clear p k c M i) (clear p k c M k) qi qk))

-- ALL COLUMNS
pub record Shape (p R c : ℕ) (s : State) : Type 0 where
  pub small : (i j : ℕ) → s.mat i j < p
  pub fresh : (i : ℕ) → i < R → s.used i ≡ 0 → (j : ℕ) → j < c → s.mat i j ≡ 0
  pub pivots : (i j : ℕ) → s.used i ≡ suc j → (j < c) × ((m : ℕ) → s.mat m j ≡ unit i m)

pub usable-true : (s : State) (c i : ℕ) → usable s c i ≡ true → (s.used i ≡ 0) × (s.mat i c ≢ 0)
unfolding usable
usable-true s c i = go (eqb (s.used i) 0) refl (eqb (s.mat i c) 0) refl
  where
    go : (a : Bool) → eqb (s.used i) 0 ≡ a → (b : Bool) → eqb (s.mat i c) 0 ≡ b → (a && not b) ≡ true → (s.used i ≡ 0) × (s.mat i c ≢ 0)
    go true d false e h = (eqb-true (s.used i) 0 d, eqb-false (s.mat i c) 0 e)
    go true d true e h = absurd (false≢true h)
    go false d b e h = absurd (false≢true h)

pub usable-false : (s : State) (c i : ℕ) → usable s c i ≡ false → s.used i ≡ 0 → s.mat i c ≡ 0
unfolding usable
usable-false s c i h u = go (eqb (s.mat i c) 0) refl (rw (eq-eqb (s.used i) 0 u) at h)
  where
    go : (b : Bool) → eqb (s.mat i c) 0 ≡ b → not b ≡ false → s.mat i c ≡ 0
    go true e h = eqb-true (s.mat i c) 0 e
    go false e h = absurd (false≢true (sym h))

-- what holds after a column, by whether there is a pivot
pub column-by : (W : State → Type 0) (p R c : ℕ) (s : State)
    → ((k : ℕ) → k < R → s.used k ≡ 0 → s.mat k c ≢ 0 → W (use_row p k c s))
    → (((i : ℕ) → i < R → s.used i ≡ 0 → s.mat i c ≡ 0) → W s)
    → W (column p R c s)
unfolding column pivot_of
column-by W p R c s f g = go (first (usable s c) R) (first-is (usable s c) R)
  where
    go : (r : ℕ) → First (usable s c) R r → W (pick (ltb r R) (use_row p r c s) s)
    go r (found l e h) = rw (lt-ltb r R l) (f r l (usable-true s c r e).0 (usable-true s c r e).1)
    go r (missing l h) = rw (le-ltb r R (omega arith)) (g (λ i m. usable-false s c i (h i m)))

column-shape : (p : ℕ) → Prime p → (R c : ℕ) (s : State) → Shape p R c s → Shape p R (suc c) (column p R c s)
unfolding use_row
column-shape p P R c s S = column-by (Shape p R (suc c)) p R c s pivot no-pivot
  where
    last : (Z : ℕ → Type 0) → ((j : ℕ) → j < c → Z j) → Z c → (j : ℕ) → j < suc c → Z j
    last Z old new j l = either j c (Z j) (λ e. rw e new) (λ e. old j (omega (arith, e)))

    no-pivot : ((i : ℕ) → i < R → s.used i ≡ 0 → s.mat i c ≡ 0) → Shape p R (suc c) s
    no-pivot z = record {
      small = S.small;
      fresh = λ i l u. last (λ j. s.mat i j ≡ 0) (S.fresh i l u) (z i l u);
      pivots = λ i j u. (omega (arith, (S.pivots i j u).0), (S.pivots i j u).1);
    }

    pivot : (k : ℕ) → k < R → s.used k ≡ 0 → s.mat k c ≢ 0 → Shape p R (suc c) (use_row p k c s)
    pivot k l u z = record {
      small = clear-small p P k c s.mat S.small z;
      fresh = λ i m. fresh' i m (eqb i k) refl;
      pivots = λ i j. pivots' i j (eqb i k) refl;
    }
      where
        old : (i j : ℕ) → j < c → clear p k c s.mat i j ≡ s.mat i j
        old i j m = clear_none p P k c s.mat S.small z i j (S.fresh k l u j m)

        new : (i : ℕ) → clear p k c s.mat i c ≡ unit k i
        new = clear-unit p P k c s.mat S.small z

        fresh' : (i : ℕ) → i < R → (b : Bool) → eqb i k ≡ b → pick b (suc c) (s.used i) ≡ 0 → (j : ℕ) → j < suc c → clear p k c s.mat i j ≡ 0
        fresh' i m true e v = absurd (omega arith)
        fresh' i m false e v =
            last (λ j. clear p k c s.mat i j ≡ 0) (λ j n. old i j n ∙ S.fresh i m v j n)
            (new i ∙ unit-other k i (λ d. eqb-false i k e (sym d)))

        pivots' : (i j : ℕ) (b : Bool) → eqb i k ≡ b → pick b (suc c) (s.used i) ≡ suc j → (j < suc c) × ((m : ℕ) → clear p k c s.mat m j ≡ unit i m)
        pivots' i j true e v = let d : j ≡ c = omega arith in (omega arith, λ m. rw (d, eqb-true i k e) (new m))
        pivots' i j false e v = let h = S.pivots i j v in (omega (arith, h.0), λ m. old m j h.0 ∙ h.1 m)

pub gauss-shape : (p : ℕ) → Prime p → (R c : ℕ) (s : State) → Shape p R 0 s → Shape p R c (gauss p R c s)
unfolding gauss
gauss-shape p P R zero s S = S
gauss-shape p P R (suc c) s S = column-shape p P R c (gauss p R c s) (gauss-shape p P R c s S)

-- ROW EQUIVALENCE
abbrev pub All : ℕ → ((ℕ → ℕ) → Type 0) → (ℕ → ℕ → ℕ) → Type 0
All R Q M = (i : ℕ) → i < R → Q (M i)

module _ (p : ℕ) (P : Prime p) (R : ℕ) (Q : (ℕ → ℕ) → Type 0) (L : Linear p Q) where
  column-same : (c : ℕ) (s : State) → Shape p R c s → All R Q s.mat ↔ All R Q (column p R c s).mat
  unfolding use_row
  column-same c s S =
      column-by (λ t. All R Q s.mat ↔ All R Q t.mat) p R c s
      (λ k l u z. (
        λ a i m. forth p P k c s.mat S.small z Q L (a k l) i (a i m),
        λ a i m. back p P k c s.mat S.small z Q L (a k l) i (a i m),
      ))
      (λ z. (λ a. a, λ a. a))

  pub gauss-same : (c : ℕ) (s : State) → Shape p R 0 s → All R Q s.mat ↔ All R Q (gauss p R c s).mat
  unfolding gauss
  gauss-same zero s S = (λ a. a, λ a. a)
  gauss-same (suc c) s S =
      let h = gauss-same c s S in
      let g = column-same c (gauss p R c s) (gauss-shape p P R c s S) in
      (λ a. g.0 (h.0 a), λ a. h.1 (g.1 a))

module _ (p : ℕ) (P : Prime p) (R C : ℕ) (G : ℕ → ℕ → ℕ) where
  start-shape : Shape p R 0 (start p G)
  unfolding start
  start-shape = record {
    small = λ i j. mod-lt (G i j) (omega (arith, P.big));
    fresh = λ i l u j m. absurd (omega arith);
    pivots = λ i j u. absurd (omega arith);
  }

  pub shape : Shape p R C (reduced p R C G)
  unfolding reduced
  shape = gauss-shape p P R C (start p G) start-shape

  pub same : (Q : (ℕ → ℕ) → Type 0) → Linear p Q → All R Q G ↔ All R Q (reduced p R C G).mat
  unfolding reduced start
  same Q L =
      let h = gauss-same p P R Q L C (start p G) start-shape in
      (λ a. h.0 (λ i l. L.resp _ _ (λ j. sym (mod-mod (G i j) p)) (a i l)), λ a i l. L.resp _ _ (λ j. mod-mod (G i j) p) (h.1 a i l))

-- SOLUTIONS
-- x solves the row v, whose right side stands in column b
unfoldable pub SolvesAt : (p C b : ℕ) → (ℕ → ℕ) → (ℕ → ℕ) → Type 0
SolvesAt p C b x v = dot C v x % p ≡ v b % p

solves-linear : (p C b : ℕ) (x : ℕ → ℕ) → Linear p (SolvesAt p C b x)
unfolding SolvesAt
solves-linear p C b x = record {
  resp = λ u v h e. sym (dot-mod p C u v x (λ j l. h j)) ∙ e ∙ h b;
  comb = λ a c u v d e. ap (λ z. z % p) (dot-comb C a c u v x) ∙ cong-comb p a c _ _ _ _ d e;
}

-- the rows before and after have the same solutions, in any number D of unknowns and with the right side in any column b
pub same-solutions : (p : ℕ) → Prime p → (R C : ℕ) (G : ℕ → ℕ → ℕ) (D b : ℕ) (x : ℕ → ℕ)
    → Solution p R D G (λ i. G i b) x ↔ Solution p R D (reduced p R C G).mat (λ i. (reduced p R C G).mat i b) x
unfolding SolvesAt
same-solutions p P R C G D b x =
    let h = same p P R C G (SolvesAt p D b x) (solves-linear p D b x) in
    (λ s. record { solves = h.0 s.solves }, λ s. record { solves = h.1 s.solves })

-- SPANS
pub spanned-linear : (p R : ℕ) (G : ℕ → ℕ → ℕ) → Linear p (Spanned p R G)
spanned-linear p R G = record {
  resp = λ u v h s. record { by = s.by; gives = λ j. sym (h j) ∙ s.gives j };
  comb = λ a b u v s t. record {
    by = λ i. a * s.by i + b * t.by i;
    gives = λ j. cong-comb p a b _ _ _ _ (s.gives j) (t.gives j) ∙ ap (λ z. z % p) (sym (dot-comb R a b s.by t.by (λ i. G i j)));
  };
}

pub spanned-rows : (p R : ℕ) (G : ℕ → ℕ → ℕ) → All R (Spanned p R G) G
spanned-rows p R G i l = record { by = unit i; gives = λ j. ap (λ z. z % p) (sym (dot-unit R i (λ m. G m j) l)) }

-- a combination of rows that are spanned is spanned
spanned-through : (p R S : ℕ) (M G : ℕ → ℕ → ℕ) (y : ℕ → ℕ) → All R (Spanned p S M) G → Spanned p S M (λ j. dot R y (λ i. G i j))
unfolding dot sum
spanned-through p zero S M G y h = record { by = λ i. 0; gives = λ j. ap (λ z. z % p) (sym (dot-none S (λ i. 0) (λ i. M i j) (λ i l. refl))) }
spanned-through p (suc R) S M G y h =
    (spanned-linear p S M).resp _ _ (λ j. ap (λ z. z % p) (omega arith))
    ((spanned-linear p S M).comb 1 (y R) _ (G R) (spanned-through p R S M G y (λ i l. h i (omega arith))) (h R (omega arith)))

-- the rows before and after span the same
pub same_span : (p : ℕ) → Prime p → (R C : ℕ) (G : ℕ → ℕ → ℕ) (v : ℕ → ℕ) → Spanned p R G v ↔ Spanned p R (reduced p R C G).mat v
same_span p P R C G v = (
  λ s. through G M ((same p P R C G (Spanned p R M) (spanned-linear p R M)).1 (spanned-rows p R M)) s,
  λ s. through M G ((same p P R C G (Spanned p R G) (spanned-linear p R G)).0 (spanned-rows p R G)) s,
)
  where
    M : ℕ → ℕ → ℕ
    M = (reduced p R C G).mat

    through : (A B : ℕ → ℕ → ℕ) → All R (Spanned p R B) A → Spanned p R A v → Spanned p R B v
    through A B h s = (spanned-linear p R B).resp _ _ (λ j. sym (s.gives j)) (spanned-through p R R B A s.by h)

-- A COLUMN WITHOUT A PIVOT
-- is nobody's pivot column at the end
pub never-pivot : (p : ℕ) → Prime p → (R c C : ℕ) (G : ℕ → ℕ → ℕ) → pivot_of R c (reduced p R c G) ≡ R → c < C → (i : ℕ) → (reduced p R C G).used i ≡ suc c → ⊥
unfolding reduced gauss
never-pivot p P R c zero G miss l i = absurd (omega arith)
never-pivot p P R c (suc C) G miss l i =
    let before = by_place (λ e. never-pivot p P R c C G miss (omega (arith, e)) i) in
    column-by (λ t. t.used i ≡ suc c → ⊥) p R C (reduced p R C G) (pivot before) (λ z. before)
  where
    Unmarked : Type 0
    Unmarked = (reduced p R C G).used i ≡ suc c → ⊥

    by_place : ((c ≡ C → ⊥) → Unmarked) → Unmarked
    by_place = either c C Unmarked (λ e u. omega (arith, ((shape p P R C G).pivots i c u).0))

    -- a pivot of column C is one of column c only where they are the same, and that has none
    pivot : Unmarked → (k : ℕ) → k < R → (reduced p R C G).used k ≡ 0 → (reduced p R C G).mat k C ≢ 0 → (use_row p k C (reduced p R C G)).used i ≡ suc c → ⊥
    pivot before k m u z = unfold use_row in go (eqb i k)
      where
        go : (b : Bool) → pick b (suc C) ((reduced p R C G).used i) ≡ suc c → ⊥
        go true v =
            let e : C ≡ c = omega arith in
            let h = missing-all (usable (reduced p R c G) c) R (unfold pivot_of in omega (arith, miss)) k m in
            z (rw e (usable-false (reduced p R c G) c k h (rw e at u)))
        go false v = before v
