-- Sets on a points matrix: the rows of members are the values of polynomials at their nodes, so d members have Lagrange's row for every position, and of
-- fewer members the product of x - node is a polynomial that is 0 at each and not 0 at any position. A sweeping vector is a polynomial that is 0 at the
-- members' nodes and at all positions below ℓ but one, where it is 1: Lagrange's, where there are at most e members, and none where there are more, as it
-- would have d roots.
-- node: the point d + i at which the member at place a, holder i, has the value
-- poly_of: the polynomial whose values at 0, .., d - 1 are the entries of v
-- spot: the positions below ℓ, then the members' nodes
-- besides: the numbers in order but for q
use mathlib.Core.Path.{◌≡◌, refl, sym, ap, ◌∙◌}
use mathlib.Core.Bool.{Bool, true, false}
use Prim.Native.Nat.{ℕ, suc, ◌+◌, ◌-◌, ◌%◌, ◌≤◌, ◌<◌}
use native.Mathlib.Nat.{mod-eq_of_lt, zero-mod}
use native.Mathlib.Omega.{arith}
use lib.Dec.{leb, ltb}
use borrow.Author.Tests.{lt-ltb, le-ltb, leb-true, leb-false}
use Rattle.base.specs.Choice.{pick}
use Rattle.base.specs.Sum.{unit}
use Rattle.base.specs.Search.{every}
use Rattle.base.specs.Matrix.{entry}
use Rattle.base.proofs.Choice.{either, picked-below}
use Rattle.base.proofs.Sum.{sum-split, unit-same, unit-other}
use Rattle.base.proofs.Search.{every-all, every-fails}
use Rattle.field.specs.Dot.{at, dot}
use Rattle.field.proofs.Congruence.{Cong}
use Rattle.field.proofs.Dot.{dot-comm, dot-mod-right, dot-unit, dot-none, dot-same}
use Rattle.polynomial.specs.Polynomial.{Poly, basis, lagrange}
use Rattle.polynomial.proofs.Polynomial.{Distinct, poly-raise, roots}
use Rattle.polynomial.proofs.Interpolation.{basis-poly, basis-zero, basis-nonzero, lagrange-poly, lagrange-node, interpolates, differ, rising}
use Rattle.scheme.specs.Setup.{Setup, dim}
use Rattle.scheme.specs.Sets.{members, has_row, has_sweep, determines, is_private}
use Rattle.scheme.specs.PointSets.{OnPoints, PointSets}
use Rattle.scheme.proofs.Points.{points-value}
use Rattle.scheme.proofs.Members.{member-at, members-rise}
use Rattle.scheme.proofs.Sets.{count, rows, AVector, sweep-there}
use Rattle.scheme.proofs.Certificates.{is_false, row-in-hand, no_row, sweep-in-hand, zeros_of, begins-of}

abbrev pub node : Setup → (ℕ → Bool) → ℕ → ℕ
node S X a = dim S + at (members S.n X) a

abbrev pub poly_of : Setup → (ℕ → ℕ) → ℕ → ℕ
poly_of S v x = dot (dim S) (lagrange S.p (λ t. t) (dim S) x) v

unfoldable spot : Setup → (ℕ → Bool) → ℕ → ℕ
spot S X j = pick (ltb j S.l) j (node S X (j - S.l))

spot-position : (S : Setup) (X : ℕ → Bool) (c : ℕ) → c < S.l → spot S X c ≡ c
unfolding spot
spot-position S X c l = rw (lt-ltb c S.l l)

spot-member : (S : Setup) (X : ℕ → Bool) (a : ℕ) → spot S X (S.l + a) ≡ node S X a
unfolding spot
spot-member S X a = rw (le-ltb (S.l + a) S.l (omega arith)) (ap (node S X) (omega arith))

unfoldable besides : ℕ → ℕ → ℕ
besides q j = pick (ltb j q) j (suc j)

by-besides : (q j : ℕ) (Z : ℕ → Type 0) → (j < q → Z j) → (q ≤ j → Z (suc j)) → Z (besides q j)
unfolding besides
by-besides q j Z = picked-below Z j q j (suc j)

besides-le : (q j : ℕ) → besides q j ≤ suc j
besides-le q j = by-besides q j (λ x. x ≤ suc j) (λ l. omega arith) (λ l. omega arith)

besides-other : (q j : ℕ) → q ≡ besides q j → ⊥
besides-other q j = by-besides q j (λ x. q ≡ x → ⊥) (λ l e. omega arith) (λ l e. omega arith)

besides-rise : (q i j : ℕ) → i < j → besides q i < besides q j
besides-rise q i j h =
    by-besides q j (λ y. besides q i < y)
    (λ l. by-besides q i (λ x. x < j) (λ m. h) (λ m. absurd (omega arith)))
    (λ l. omega (arith, besides-le q i))

unit-turn : (i j : ℕ) → unit i j ≡ unit j i
unit-turn i j = either i j (unit i j ≡ unit j i) (λ e. rw e refl) (λ h. unit-other i j h ∙ sym (unit-other j i (λ e. h (sym e))))

-- a row of d entries, followed by zeros
longer : ℕ → (ℕ → ℕ) → ℕ → ℕ
longer d r a = pick (ltb a d) (r a) 0

dot-longer : (d k : ℕ) (r v : ℕ → ℕ) → d ≤ k → dot k (longer d r) v ≡ dot d r v
unfolding longer
dot-longer d k r v l =
    let e : k ≡ d + (k - d) = omega arith in
    let front = dot-same d (longer d r) r v v (λ a m. rw (lt-ltb a d m)) (λ a m. refl) in
    let back = dot-none (k - d) (λ j. longer d r (d + j)) (λ j. v (d + j)) (λ j m. rw (le-ltb (d + j) d (omega arith))) in
    ap (λ m. dot m (longer d r) v) e ∙ split (k - d) ∙ omega (arith, front, back)
  where
    split : (m : ℕ) → dot (d + m) (longer d r) v ≡ dot d (longer d r) v + dot m (λ j. longer d r (d + j)) (λ j. v (d + j))
    split m = unfold dot in sum-split d m _

module _ (S : Setup) (on : OnPoints S) where
  -- POLYNOMIALS BY THEIR VALUES AT 0, .., d - 1
  begin : Distinct S.p (dim S) (λ t. t)
  begin i j l m = differ (omega (arith, on.fits)) (omega (arith, on.fits))

  pub poly_of-poly : (v : ℕ → ℕ) → Poly S.p (dim S) (poly_of S v)
  poly_of-poly v = lagrange-poly S.p on.prime (λ t. t) (dim S) begin v

  pub poly_of-at : (v : ℕ → ℕ) (c : ℕ) → c < dim S → poly_of S v c % S.p ≡ v c % S.p
  poly_of-at v c l = lagrange-node S.p on.prime (λ t. t) (dim S) begin v c l

  module _ (X : ℕ → Bool) where
    -- THE MEMBERS' NODES
    pub node-below : (a : ℕ) → a < count S X → node S X a < S.p
    node-below a l = omega (arith, (member-at S.n X a l).0, on.fits)

    node-rise : (i j : ℕ) → i < j → j < count S X → node S X i < node S X j
    node-rise i j h l = omega (arith, members-rise S.n X i j h l)

    pub nodes-differ : Distinct S.p (count S X) (node S X)
    nodes-differ = rising (node S X) node-below node-rise

    -- a member's row takes the values of a polynomial at 0, .., d - 1 to its value at the member's node
    pub member-value : (a : ℕ) → a < count S X → {f : ℕ → ℕ} → Poly S.p (dim S) f → dot (dim S) (rows S X a) f % S.p ≡ f (node S X a) % S.p
    member-value a l {f} F =
        ap (λ m. dot (dim S) (entry (dim S) m (at (members S.n X) a)) f % S.p) on.matrix
        ∙ points-value S.p on.prime (dim S) S.n on.fits (at (members S.n X) a) (member-at S.n X a l).0 F

    -- and any vector to that of its polynomial
    pub vector-value : (a : ℕ) → a < count S X → (v : ℕ → ℕ) → dot (dim S) (rows S X a) v % S.p ≡ poly_of S v (node S X a) % S.p
    vector-value a l v =
        dot-mod-right S.p (dim S) (rows S X a) v (poly_of S v) (λ c m. sym (poly_of-at v c m)) ∙ member-value a l (poly_of-poly v)

    -- AT LEAST d MEMBERS
    module _ (many : dim S ≤ count S X) where
      pub first-differ : Distinct S.p (dim S) (node S X)
      first-differ i j l m = nodes-differ i j (omega arith) (omega arith)

      pub enough-rows : (q : ℕ) → q < dim S → has_row S X q ≡ true
      enough-rows q l = row-in-hand S X q on.prime.big (longer (dim S) r) (record { gives = gives })
        where
          r : ℕ → ℕ
          r = lagrange S.p (node S X) (dim S) q

          column : (c a : ℕ) → c < dim S → a < dim S → rows S X a c % S.p ≡ poly_of S (unit c) (node S X a) % S.p
          column c a h m =
              ap (λ z. z % S.p) (sym (dot-comm (dim S) (rows S X a) (unit c) ∙ dot-unit (dim S) c (rows S X a) h))
              ∙ vector-value a (omega arith) (unit c)

          gives : (c : ℕ) → c < dim S → dot (count S X) (longer (dim S) r) (λ a. rows S X a c) % S.p ≡ unit q c % S.p
          gives c h =
              ap (λ z. z % S.p) (dot-longer (dim S) (count S X) r (λ a. rows S X a c) many)
              ∙ dot-mod-right S.p (dim S) r (λ a. rows S X a c) (λ a. poly_of S (unit c) (node S X a)) (λ a m. column c a h m)
              ∙ interpolates S.p on.prime (node S X) (dim S) first-differ (poly_of-poly (unit c)) q
              ∙ poly_of-at (unit c) q l
              ∙ ap (λ z. z % S.p) (unit-turn c q)

      pub enough-determine : determines S X ≡ true
      unfolding determines
      enough-determine = every-all S.l (has_row S X) (λ q l. enough-rows q (omega arith))

    -- FEWER
    module _ (few : count S X < dim S) where
      pub few-rows : (q : ℕ) → q < dim S → has_row S X q ≡ false
      few-rows q l = no_row S X q w l zeros nonzero
        where
          w : ℕ → ℕ
          w = basis S.p (suc (count S X)) (count S X) (node S X)

          zeros : (a : ℕ) → a < count S X → dot (dim S) (rows S X a) w % S.p ≡ 0
          zeros a m =
              member-value a m (poly-raise S.p (omega arith) (basis-poly S.p on.prime (node S X) (suc (count S X)) (count S X) (omega arith)))
              ∙ (basis-zero S.p on.prime (node S X) (suc (count S X)) (count S X) a (omega arith) (λ e. omega arith)).eq
              ∙ zero-mod S.p

          nonzero : w q % S.p ≡ 0 → ⊥
          nonzero e =
              basis-nonzero S.p on.prime (node S X) (suc (count S X)) (count S X) q
              (λ t m h. differ (omega (arith, on.fits)) (node-below t (omega (arith, h))) (λ e. omega arith))
              (record { eq = e ∙ sym (zero-mod S.p) })

      pub few-fail : 1 ≤ S.l → determines S X ≡ false
      unfolding determines
      few-fail l = every-fails S.l (has_row S X) 0 l (few-rows 0 (omega arith))

    exactly' : 1 ≤ S.l → determines S X ≡ leb (dim S) (count S X)
    exactly' l = go (leb (dim S) (count S X)) refl
      where
        go : (b : Bool) → leb (dim S) (count S X) ≡ b → determines S X ≡ b
        go true e = enough-determine (leb-true (dim S) (count S X) e)
        go false e = few-fail (leb-false (dim S) (count S X) e) l

    -- THE POSITIONS BELOW ℓ AND THE MEMBERS' NODES
    by-spot : (j : ℕ) (Z : ℕ → Type 0) → (j < S.l → Z j) → ((a : ℕ) → j ≡ S.l + a → Z (node S X a)) → Z (spot S X j)
    unfolding spot
    by-spot j Z f g = picked-below Z j S.l j (node S X (j - S.l)) f (λ m. g (j - S.l) (omega arith))

    spot-below : (j : ℕ) → j < S.l + count S X → spot S X j < S.p
    spot-below j l = by-spot j (λ x. x < S.p) (λ m. omega (arith, on.fits)) (λ a e. node-below a (omega arith))

    spot-rise : (i j : ℕ) → i < j → j < S.l + count S X → spot S X i < spot S X j
    spot-rise i j h l =
        by-spot j (λ y. spot S X i < y)
        (λ m. by-spot i (λ x. x < j) (λ n. h) (λ a e. absurd (omega arith)))
        (λ b e. by-spot i (λ x. x < node S X b) (λ m. omega arith) (λ a f. node-rise a b (omega arith) (omega arith)))

    -- AT MOST e MEMBERS
    few-swept : count S X ≤ S.e → (q : ℕ) → q < S.l → has_sweep S X q ≡ true
    few-swept few q inside = sweep-in-hand S X q on.prime.big f zeros begins
      where
        k : ℕ
        k = S.l + count S X

        apart : Distinct S.p k (spot S X)
        apart = rising (spot S X) spot-below spot-rise

        f : ℕ → ℕ
        f x = dot k (lagrange S.p (spot S X) k x) (unit q)

        f-poly : Poly S.p (dim S) f
        f-poly = poly-raise S.p (omega arith) (lagrange-poly S.p on.prime (spot S X) k apart (unit q))

        f-at : (j : ℕ) → j < k → f (spot S X j) % S.p ≡ unit q j % S.p
        f-at j l = lagrange-node S.p on.prime (spot S X) k apart (unit q) j l

        zeros : (a : ℕ) → a < count S X → dot (dim S) (rows S X a) f % S.p ≡ 0
        zeros a l =
            member-value a l f-poly
            ∙ ap (λ x. f x % S.p) (sym (spot-member S X a))
            ∙ f-at (S.l + a) (omega arith)
            ∙ ap (λ x. x % S.p) (unit-other q (S.l + a) (λ e. omega arith))
            ∙ zero-mod S.p

        begins : (c : ℕ) → c < S.l → f c % S.p ≡ unit q c % S.p
        begins c l = ap (λ x. f x % S.p) (sym (spot-position S X c l)) ∙ f-at c (omega arith)

    -- MORE
    many-not-swept : S.e < count S X → (q : ℕ) → q < S.l → has_sweep S X q ≡ false
    many-not-swept many q inside = is_false (has_sweep S X q) (λ has. none-there ((sweep-there S X q).0 has))
      where
        apart : Distinct S.p (dim S) (λ j. spot S X (besides q j))
        apart =
            rising (λ j. spot S X (besides q j))
            (λ j l. spot-below (besides q j) (omega (arith, besides-le q j)))
            (λ i j h l. spot-rise (besides q i) (besides q j) (besides-rise q i j h) (omega (arith, besides-le q j)))

        zero : (v : AVector S X q) (j : ℕ) → j < S.l + count S X → (q ≡ j → ⊥) → Cong S.p (poly_of S (at v.entries) (spot S X j)) 0
        zero v j l other =
            by-spot j (λ x. Cong S.p (poly_of S (at v.entries) x) 0)
            (λ m. record { eq = poly_of-at (at v.entries) j (omega arith) ∙ ap (λ x. x % S.p) (begins-of S X q v j m ∙ unit-other q j other) })
            (λ a e. record { eq = sym (vector-value a (omega arith) (at v.entries)) ∙ zeros_of S X q v a (omega arith) ∙ sym (zero-mod S.p) })

        none-there : AVector S X q → ⊥
        none-there v =
            let root = (roots S.p on.prime (dim S) (λ j. spot S X (besides q j)) apart (poly_of-poly (at v.entries))
            (λ j l. zero v (besides q j) (omega (arith, besides-le q j)) (besides-other q j)) q).eq in
            let one = poly_of-at (at v.entries) q (omega arith) ∙ ap (λ x. x % S.p) (begins-of S X q v q inside ∙ unit-same q) ∙ mod-eq_of_lt on.prime.big in
            omega (arith, root, one, zero-mod S.p)

    private' : 1 ≤ S.l → is_private S X ≡ leb (count S X) S.e
    unfolding is_private
    private' l = go (leb (count S X) S.e) refl
      where
        go : (b : Bool) → leb (count S X) S.e ≡ b → every S.l (has_sweep S X) ≡ b
        go true e = every-all S.l (has_sweep S X) (few-swept (leb-true (count S X) S.e e))
        go false e = every-fails S.l (has_sweep S X) 0 l (many-not-swept (leb-false (count S X) S.e e) 0 l)

    pub point-sets : PointSets S X
    point-sets = record {
      enough = enough-rows;
      too_few = few-rows;
      exactly = exactly';
      swept = few-swept;
      not-swept = many-not-swept;
      private = private';
    }
