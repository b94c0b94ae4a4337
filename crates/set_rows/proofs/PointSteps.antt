-- The row steps of a set: on any matrix they are at most the smaller of k and d, times d - 1, for k members, and on a points matrix they are that many.
-- There the rows of the elimination stand for the nodes 0, .., d - 1 at first, and with each pivot the node of one more member takes the place of one of
-- them; the columns take the values of every polynomial of degree below d at these nodes to its values at the members' nodes. So in the column of a
-- member whose node is none of them no entry is 0: each of the first d columns has its pivot on the diagonal and entries in all other rows, and after
-- them no row is left.
-- stand: the node that row j stands for after t pivots
-- Takes: the columns of M take the values at these nodes to those at the members' nodes
-- After: what holds of a state after t pivots, and of the number n of row steps until then
-- G: the members' rows written as columns, on which the elimination is done
use mathlib.Core.Path.{◌≡◌, refl, sym, ap, ◌∙◌}
use mathlib.Core.Logic.{◌≢◌}
use mathlib.Core.Bool.{Bool}
use Prim.Native.Nat.{ℕ, zero, suc, ◌+◌, ◌-◌, ◌*◌, ◌%◌, ◌≤◌, ◌<◌, min}
use native.Mathlib.Nat.{mod-mod, add-zero, zero-min}
use native.Mathlib.Omega.{arith}
use lib.Dec.{ltb}
use lib.ListN.{length}
use borrow.Author.Tests.{eq-eqb, ne_eqb, lt-ltb, le-ltb}
use Rattle.base.specs.Choice.{pick}
use Rattle.base.specs.Sum.{unit}
use Rattle.base.proofs.Choice.{either, picked-below}
use Rattle.base.proofs.Search.{first_found, first-missing}
use Rattle.base.proofs.Sum.{sum-add, sum-zero, sum-unit, unit-same, unit-other}
use Rattle.field.specs.Prime.{Prime}
use Rattle.field.specs.Dot.{dot}
use Rattle.field.proofs.Congruence.{cong-by, cong-add, cong-mul, cong-comb, mod-mul-mod, sum-mod, Cong}
use Rattle.field.proofs.Dot.{dot-comb, dot-mod, dot-ext}
use Rattle.polynomial.specs.Polynomial.{Poly, basis}
use Rattle.polynomial.proofs.Interpolation.{basis-poly, basis-zero, basis-nonzero, differ}
use Rattle.gauss.specs.Gauss.{State, scaled, clear, usable, pivot_of, use_row, column, gauss, start, reduced, others, column_steps, steps}
use Rattle.gauss.proofs.Gauss.{clear-pivot, clear-row, unscale, shape}
use Rattle.gauss.proofs.Steps.{others-all, steps-bound}
use Rattle.scheme.specs.Setup.{Setup, dim}
use Rattle.scheme.specs.Sets.{members, across, row_steps}
use Rattle.scheme.specs.PointSets.{OnPoints}
use Rattle.scheme.proofs.Sets.{count, rows}
use Rattle.scheme.proofs.PointSets.{node, node-below, nodes-differ, member-value}

-- ONE PIVOT
module _ (p : ℕ) (P : Prime p) (k c : ℕ) (M : ℕ → ℕ → ℕ) (small : (i j : ℕ) → M i j < p) (entry : M k c ≢ 0) where
  -- a column times z after the pivot is that column times y before it, where z is y but at row k, and there the product of column c and y
  clear-times : (R : ℕ) (y z : ℕ → ℕ) → k < R → z k % p ≡ dot R (λ i. M i c) y % p → ((i : ℕ) → (k ≡ i → ⊥) → z i ≡ y i) → (j : ℕ)
      → dot R (λ i. clear p k c M i j) z % p ≡ dot R (λ i. M i j) y % p
  unfolding dot
  clear-times R y z l new old j =
      sum-mod p R _ (λ i. less i * y i + unit k i * (s * z k)) (λ i m. term i)
      ∙ ap (λ x. x % p) (sum-add R _ _ ∙ ap (λ x. dot R less y + x) (sum-unit R k (λ i. s * z k) l) ∙ omega arith)
      ∙ cong-comb p 1 s (dot R less y) _ _ _ refl new
      ∙ ap (λ x. x % p) (sym (dot-comb R 1 s less (λ i. M i c) y))
      ∙ dot-mod p R _ _ y (λ i m. again i (p - M i c) (omega (arith, small i c)))
    where
      s : ℕ
      s = scaled p k c M j

      less : ℕ → ℕ
      less i = M i j + (p - M i c) * s

      again : (i n : ℕ) → n + M i c ≡ p → (1 * (M i j + n * s) + s * M i c) % p ≡ M i j % p
      again i n e = cong-by p s _ _ (omega (arith, ap (λ x. s * x) e))

      gone : (n : ℕ) → n + M k c ≡ p → (M k j + n * s) % p ≡ 0 % p
      gone n e = cong-add p _ _ (n * s) _ (sym (unscale p P k c M small entry j)) refl ∙ cong-by p s _ 0 (omega (arith, ap (λ x. s * x) e))

      term : (i : ℕ) → (clear p k c M i j * z i) % p ≡ (less i * y i + unit k i * (s * z k)) % p
      term i =
          either k i _
          (λ e. rw (← e, clear-pivot p P k c M small entry j, unit-same k)
          (sym (cong-add p _ (0 * y k) _ _ (cong-mul p _ _ (y k) _ (gone (p - M k c) (omega (arith, small k c))) refl) refl ∙ ap (λ x. x % p) (omega arith))))
          (λ e. rw (clear-row p P k c M small entry i j (λ d. e (sym d)), old i e, unit-other k i e)
          (mod-mul-mod (less i) (y i) p ∙ ap (λ x. x % p) (omega arith)))

-- THE NODES OF THE ROWS
unfoldable stand : Setup → (ℕ → Bool) → ℕ → ℕ → ℕ
stand S X t j = pick (ltb j t) (node S X j) j

abbrev Takes : Setup → (ℕ → Bool) → ℕ → (ℕ → ℕ → ℕ) → Type 0
Takes S X t M =
    (f : ℕ → ℕ) → Poly S.p (dim S) f → (m : ℕ) → m < count S X → dot (dim S) (λ j. M j m) (λ j. f (stand S X t j)) % S.p ≡ f (node S X m) % S.p

stand-other : (S : Setup) (X : ℕ → Bool) (t j : ℕ) → (t ≡ j → ⊥) → stand S X (suc t) j ≡ stand S X t j
unfolding stand
stand-other S X t j h =
    picked-below (λ x. pick (ltb j (suc t)) (node S X j) j ≡ x) j t (node S X j) j
    (λ l. rw (lt-ltb j (suc t) (omega arith))) (λ l. rw (le-ltb j (suc t) (omega (arith, h))))

module _ (S : Setup) (on : OnPoints S) (X : ℕ → Bool) where
  -- no entry is 0 in the column of a member whose node is none of them: the polynomial that is 0 at all but the entry's own is not 0 at the member's
  entry-there : (t : ℕ) (M : ℕ → ℕ → ℕ) → Takes S X t M → (m j : ℕ) → t ≤ m → m < count S X → j < dim S → M j m ≢ 0
  unfolding dot stand
  entry-there t M takes m j h l b e =
      basis-nonzero S.p on.prime (stand S X t) (dim S) j (node S X m) apart
      (record {
        eq = sym (takes f (basis-poly S.p on.prime (stand S X t) (dim S) j b) m l)
            ∙ sum-mod S.p (dim S) _ (λ i. 0) term ∙ ap (λ x. x % S.p) (sum-zero (dim S));
      })
    where
      f : ℕ → ℕ
      f = basis S.p (dim S) j (stand S X t)

      apart : (i : ℕ) → i < dim S → (i ≡ j → ⊥) → Cong S.p (node S X m) (stand S X t i) → ⊥
      apart i a _ =
          picked-below (λ x. Cong S.p (node S X m) x → ⊥) i t (node S X i) i
          (λ g. nodes-differ S on X m i l (omega arith) (λ q. omega arith))
          (λ g. differ (node-below S on X m l) (omega (arith, on.fits)) (λ q. omega arith))

      term : (i : ℕ) → i < dim S → (M i m * f (stand S X t i)) % S.p ≡ 0 % S.p
      term i a =
          either i j _
          (λ q. rw (q, e) (ap (λ x. x % S.p) (omega arith)))
          (λ q. cong-mul S.p (M i m) _ _ 0 refl (basis-zero S.p on.prime (stand S X t) (dim S) j i a q).eq ∙ ap (λ x. x % S.p) (omega arith))

  -- THE COLUMNS
  record After (t : ℕ) (s : State) (n : ℕ) : Type 0 where
    takes : Takes S X t s.mat
    used : (i : ℕ) → i < t → s.used i ≢ 0
    unused : (i : ℕ) → t ≤ i → s.used i ≡ 0
    made : n ≡ t * (dim S - 1)

  -- the pivot of column t is in row t
  next : (t : ℕ) (s : State) (n : ℕ) → ((i j : ℕ) → s.mat i j < S.p) → After t s n → t < dim S → t < count S X
      → After (suc t) (column S.p (dim S) t s) (n + column_steps (dim S) t s)
  unfolding column column_steps pivot_of usable use_row stand
  next t s n small A l h =
      rw (
        first_found (usable s t) (dim S) t l (rw (A.unused t (omega arith), ne_eqb (s.mat t t) 0 (there t l)) refl)
            (λ j b. rw (ne_eqb (s.used j) 0 (A.used j b)) refl),
        lt-ltb t (dim S) l,
      )
      (record {
        takes = λ f F m b.
            clear-times S.p on.prime t t s.mat small (there t l) (dim S) (λ i. f (stand S X t i)) (λ i. f (stand S X (suc t) i)) l
            (ap (λ x. f x % S.p) (rw (lt-ltb t (suc t) (omega arith))) ∙ sym (A.takes f F t h)) (λ i e. ap f (stand-other S X t i e)) m
            ∙ A.takes f F m b;
        used = λ i b. either i t _ (λ e. rw (eq-eqb i t e) (λ q. omega arith)) (λ e. rw (ne_eqb i t e) (A.used i (omega (arith, e))));
        unused = λ i b. rw (ne_eqb i t (λ e. omega arith)) (A.unused i (omega arith));
        made = more (dim S - 1) A.made (others-all (dim S) t (λ i. s.mat i t) l (λ j b e. there j b));
      })
    where
      there : (j : ℕ) → j < dim S → s.mat j t ≢ 0
      there j b = entry-there t s.mat A.takes t j (omega arith) h b

      more : (x : ℕ) → n ≡ t * x → others (dim S) t (λ i. s.mat i t) ≡ x → n + others (dim S) t (λ i. s.mat i t) ≡ suc t * x
      more x e g = omega arith

  -- after d pivots there is no other
  last : (c : ℕ) (s : State) (n : ℕ) → After (dim S) s n → After (dim S) (column S.p (dim S) c s) (n + column_steps (dim S) c s)
  unfolding column column_steps pivot_of usable
  last c s n A =
      rw (first-missing (usable s c) (dim S) (λ j b. rw (ne_eqb (s.used j) 0 (A.used j b)) refl), le-ltb (dim S) (dim S) (omega arith), add-zero n) A

  module _ (q : ℕ) where
    G : ℕ → ℕ → ℕ
    G = across (dim S) S.M (members S.n X) q

    begin : After 0 (start S.p G) 0
    unfolding start across stand G
    begin = record {
      takes = λ f F m l.
          dot-mod S.p (dim S) _ (rows S X m) _ (λ j b. mod-mod _ S.p ∙ ap (λ x. x % S.p) (rw (lt-ltb m (count S X) l)))
          ∙ ap (λ x. x % S.p) (dot-ext (dim S) (rows S X m) _ f (λ j b. ap f (rw (le-ltb j 0 (omega arith)))))
          ∙ member-value S on X m l F;
      used = λ i l. absurd (omega arith);
      unused = λ i l. refl;
      made = omega arith;
    }

    after : (c : ℕ) → c ≤ count S X → After (min c (dim S)) (gauss S.p (dim S) c (start S.p G)) (steps S.p (dim S) c (start S.p G))
    unfolding gauss steps reduced
    after zero h = rw (zero-min (dim S)) begin
    after (suc c) h =
        let A = after c (omega arith) in
        either (min c (dim S)) (dim S) _
        (λ e. let u : min (suc c) (dim S) ≡ dim S = omega arith in rw u (last c _ _ (rw e at A)))
        (λ e.
        let u : min c (dim S) ≡ c = omega (arith, e) in
        let v : min (suc c) (dim S) ≡ suc c = omega (arith, e) in
        rw v (next c _ _ (shape S.p on.prime (dim S) c G).small (rw u at A) (omega (arith, e)) h))

-- BOTH LAWS
pub points-reach : (S : Setup) → OnPoints S → (X : ℕ → Bool) (q : ℕ) → row_steps S X q ≡ min (length (members S.n X)) (dim S) * (dim S - 1)
unfolding row_steps G
points-reach S on X q = (after S on X q (count S X) (omega arith)).made

pub steps-bounded : (S : Setup) (X : ℕ → Bool) (q : ℕ) → row_steps S X q ≤ min (length (members S.n X)) (dim S) * (dim S - 1)
unfolding row_steps
steps-bounded S X q = steps-bound S.p (dim S) (count S X) _
