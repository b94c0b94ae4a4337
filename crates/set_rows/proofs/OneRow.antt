-- Why a set has exactly one row that is 0 at the dependent members: the elimination shows one, as it gives a dependent column no pivot; and of two such rows
-- the difference combines the members' rows to 0, so that the highest member at which they differ would be dependent, where both are 0.
-- Combines: y combines the rows of the members before place a to the row of that member
-- differ: the difference of two rows
-- below: what the rows before place a contribute to it
-- system, solved: the system across, and the vector that it shows
use mathlib.Core.Path.{◌≡◌, refl, sym, ap, ◌∙◌}
use mathlib.Core.Bool.{Bool, true, false, not, ◌||◌, false≢true}
use mathlib.Core.List.{List, []}
use mathlib.Core.Option.{some, get_or}
use Prim.Native.Nat.{ℕ, zero, suc, ◌+◌, ◌-◌, ◌*◌, ◌%◌, ◌≤◌, ◌<◌}
use native.Mathlib.Nat.{mod-lt, mod-eq_of_lt, zero-mod}
use native.Mathlib.Omega.{arith}
use lib.Dec.{eqb, leb}
use lib.Seq.{ext_get_or}
use borrow.Author.Tests.{eqb-true, eq-eqb, lt-ltb, le-ltb, leb-true, leb-false}
use Rattle.base.specs.Fill.{tab}
use Rattle.base.specs.Search.{every, first_vec, Vec}
use Rattle.base.specs.Sum.{sum, unit}
use Rattle.base.proofs.Choice.{either, and_left, and_right, and_both}
use Rattle.base.proofs.Fill.{get_d-tab, tab-vec}
use Rattle.base.proofs.Search.{every-at, every-all, first_vec-sound, first_vec-complete}
use Rattle.base.proofs.Sum.{sum-split}
use Rattle.field.specs.Prime.{Prime, inverse_of}
use Rattle.field.specs.Dot.{at, dot, RowFor}
use Rattle.field.proofs.Congruence.{cong-by, cong-add, mul-mod-mod, mod-mul-mod}
use Rattle.field.proofs.Dot.{dot-comm, dot-comb, dot-mod, dot-same, dot-scale, dot-zero}
use Rattle.field.proofs.Prime.{inverse-right}
use Rattle.gauss.specs.Gauss.{reduced, Solution}
use Rattle.read_off.specs.ReadOff.{shown, unsolved, Beside, solvable, refuted}
use Rattle.read_off.proofs.Reduced.{solution-mod, refutes-mod, row_is, unseen-is, beside, shown-small, shown-dependent, minus, negated}
use Rattle.scheme.specs.Setup.{Setup, dim}
use Rattle.scheme.specs.Sets.{members, is_row, is_there, has_row, dependent, is_one_row, one_row, across}
use Rattle.scheme.proofs.Sets.{count, rows, row-for, is-row, there}
use Rattle.scheme.proofs.Certificates.{residues, residues-vec, residues-mod, no_row}
use Rattle.set_rows.specs.SetRows.{ExactlyOne}

module _ (S : Setup) (X : ℕ → Bool) (P : Prime S.p) where
  pos : 0 < S.p
  pos = omega (arith, P.big)

  -- DEPENDENT MEMBERS
  Combines : ℕ → (ℕ → ℕ) → Type 0
  Combines a y = (c : ℕ) → c < dim S → dot a y (λ b. rows S X b c) % S.p ≡ rows S X a c % S.p

  combines : (a : ℕ) → dependent S (members S.n X) a ≡ true → (y : ℕ → ℕ) × Combines a y
  unfolding dependent Combines
  combines a h =
      let s = first_vec-sound S.p a _ _ (there (first_vec S.p a _) h) in
      (at (get_or (first_vec S.p a _) []), λ c l. eqb-true _ _ (every-at (dim S) _ s.1 c l))

  is-dependent : (a : ℕ) (y : ℕ → ℕ) → Combines a y → dependent S (members S.n X) a ≡ true
  unfolding dependent Combines
  is-dependent a y h =
      ap is_there (first_vec-complete S.p a _ (residues S.p a y) (residues-vec S.p a y pos)
      (every-all (dim S) _ (λ c l. eq-eqb _ _ (dot-mod S.p a _ y (λ b. rows S X b c) (residues-mod S.p a y) ∙ h c l)))).1

  -- WHAT THE TEST SAYS
  module _ (q : ℕ) (r : List ℕ) where
    pub one-is-row : is_one_row S (members S.n X) q r ≡ true → is_row S (members S.n X) q r ≡ true
    unfolding is_one_row
    one-is-row t = and_left (is_row S (members S.n X) q r) (every (count S X) _) t

    one-is-zero : is_one_row S (members S.n X) q r ≡ true → (a : ℕ) → a < count S X → dependent S (members S.n X) a ≡ true → at r a ≡ 0
    unfolding is_one_row
    one-is-zero t a l e =
        let h = every-at (count S X) _ (and_right (is_row S (members S.n X) q r) (every (count S X) _) t) a l in
        eqb-true (at r a) 0 (sym (ap (λ b. not b || eqb (at r a) 0) e) ∙ h)

    is_one : is_row S (members S.n X) q r ≡ true → ((a : ℕ) → a < count S X → dependent S (members S.n X) a ≡ true → at r a ≡ 0)
        → is_one_row S (members S.n X) q r ≡ true
    unfolding is_one_row
    is_one t zeros =
        and_both (is_row S (members S.n X) q r) (every (count S X) _) t (every-all (count S X) _ (λ a l. go a l (dependent S (members S.n X) a) refl))
      where
        go : (a : ℕ) → a < count S X → (b : Bool) → dependent S (members S.n X) a ≡ b → (not b || eqb (at r a) 0) ≡ true
        go a l true e = eq-eqb (at r a) 0 (zeros a l e)
        go a l false e = refl

  -- AT MOST ONE
  module _ (q : ℕ) (r t : List ℕ) (rok : Vec S.p (count S X) r) (tok : Vec S.p (count S X) t)
      (ris : is_one_row S (members S.n X) q r ≡ true) (tis : is_one_row S (members S.n X) q t ≡ true) where
    differ : ℕ → ℕ
    differ a = 1 * at t a + (S.p - 1) * at r a

    -- the difference combines the rows to 0
    vanishes : (c : ℕ) → c < dim S → dot (count S X) differ (λ a. rows S X a c) % S.p ≡ 0
    unfolding differ
    vanishes c l =
        ap (λ x. x % S.p) (dot-comb (count S X) 1 (S.p - 1) (at t) (at r) (λ a. rows S X a c) ∙ ap (λ x. x + (S.p - 1) * dot (count S X) (at r) (λ a. rows S X a c)) (omega arith))
        ∙ minus S.p P.big (dot (count S X) (at r) (λ a. rows S X a c)) (dot (count S X) (at t) (λ a. rows S X a c))
        ((row-for S (members S.n X) q r (one-is-row q r ris)).gives c l ∙ sym ((row-for S (members S.n X) q t (one-is-row q t tis)).gives c l))

    -- where it is 0 above place a, and not 0 there, the member there is dependent
    module _ (a m : ℕ) (e : suc a + m ≡ count S X) (above : (j : ℕ) → a < j → j < count S X → differ j % S.p ≡ 0) where
      below : ℕ → ℕ
      below c = dot a differ (λ b. rows S X b c)

      ends : (c : ℕ) → c < dim S → (differ a * rows S X a c + below c) % S.p ≡ 0
      unfolding below dot sum
      ends c l =
          ap (λ x. x % S.p) (omega arith)
          ∙ cong-add S.p front front 0 back refl (zero-mod S.p ∙ sym (dot-zero S.p m _ _ (λ j n. above (suc a + j) (omega arith) (omega arith))))
          ∙ ap (λ x. x % S.p) (omega (arith, sum-split (suc a) m (λ j. differ j * rows S X j c)))
          ∙ ap (λ n. dot n differ (λ j. rows S X j c) % S.p) e
          ∙ vanishes c l
        where
          front : ℕ
          front = differ a * rows S X a c + below c

          back : ℕ
          back = dot m (λ j. differ (suc a + j)) (λ j. rows S X (suc a + j) c)

      top-dependent : (differ a % S.p ≡ 0 → ⊥) → dependent S (members S.n X) a ≡ true
      unfolding Combines below
      top-dependent here = is-dependent a (λ j. u * ((S.p - 1) * differ j)) (λ c l.
          ap (λ x. x % S.p) (scales c)
          ∙ sym (mul-mod-mod u ((S.p - 1) * below c) S.p)
          ∙ ap (λ x. u * x % S.p) (negated S.p P.big (below c) (differ a * rows S X a c) (ends c l))
          ∙ mul-mod-mod u (differ a * rows S X a c) S.p
          ∙ ap (λ x. x % S.p) (omega arith)
          ∙ sym (mod-mul-mod (differ a * u) (rows S X a c) S.p)
          ∙ ap (λ x. x * rows S X a c % S.p) one
          ∙ ap (λ x. x % S.p) (omega arith))
        where
          u : ℕ
          u = inverse_of S.p (differ a % S.p)

          one : differ a * u % S.p ≡ 1
          one = sym (mod-mul-mod (differ a) u S.p) ∙ inverse-right S.p P (differ a % S.p) (omega (arith, here)) (mod-lt (differ a) pos)

          scales : (c : ℕ) → dot a (λ j. u * ((S.p - 1) * differ j)) (λ b. rows S X b c) ≡ u * ((S.p - 1) * below c)
          scales c =
              dot-comm a _ (column c) ∙ dot-scale a u (column c) (λ j. (S.p - 1) * differ j)
              ∙ ap (λ x. u * x) (dot-scale a (S.p - 1) (column c) differ ∙ ap (λ x. (S.p - 1) * x) (dot-comm a (column c) differ))
            where
              column : ℕ → ℕ → ℕ
              column c b = rows S X b c

      same_here : differ a % S.p ≡ 0
      same_here =
          either (differ a % S.p) 0 (differ a % S.p ≡ 0) (λ z. z)
          (λ h. both_zero (one-is-zero q t tis a (omega arith) (top-dependent h)) (one-is-zero q r ris a (omega arith) (top-dependent h)))
        where
          both_zero : at t a ≡ 0 → at r a ≡ 0 → differ a % S.p ≡ 0
          both_zero f g = unfold differ in rw (f, g) (ap (λ x. x % S.p) (omega arith) ∙ zero-mod S.p)

    same_above : (m a : ℕ) → a + m ≡ count S X → (j : ℕ) → a ≤ j → j < count S X → differ j % S.p ≡ 0
    same_above zero a e j l h = absurd (omega arith)
    same_above (suc m) a e j l h =
        let above = same_above m (suc a) (omega arith) in
        either j a (differ j % S.p ≡ 0) (λ f. rw f (same_here a m (omega arith) above)) (λ f. above j (omega (arith, f)) h)

    only : r ≡ t
    unfolding differ
    only = ext_get_or 0 r t (rok.size ∙ sym tok.size) (λ i l. equal i (omega (arith, rok.size)))
      where
        -- t - r = 0, so r = t
        balance : (n x y : ℕ) → n + 1 ≡ S.p → (1 * y + n * x) % S.p ≡ 0 → x % S.p ≡ y % S.p
        balance n x y e h =
            ap (λ z. z % S.p) (omega arith) ∙ cong-add S.p 0 (1 * y + n * x) x x (zero-mod S.p ∙ sym h) refl
            ∙ cong-by S.p x (1 * y + n * x + x) y (omega (arith, ap (λ z. x * z) e))

        equal : (i : ℕ) → i < count S X → at r i ≡ at t i
        equal i l =
            sym (mod-eq_of_lt (rok.small i l))
            ∙ balance (S.p - 1) (at r i) (at t i) (omega arith) (same_above (count S X) 0 (omega arith) i (omega arith) l)
            ∙ mod-eq_of_lt (tok.small i l)

  -- the search finds it
  pub found-one : (q : ℕ) (r : List ℕ) → Vec S.p (count S X) r → is_one_row S (members S.n X) q r ≡ true → one_row S X q ≡ some r
  unfolding one_row
  found-one q r ok is =
      let f = first_vec-complete S.p (count S X) (is_one_row S (members S.n X) q) r ok is in
      let s = first_vec-sound S.p (count S X) (is_one_row S (members S.n X) q) f.0 f.1 in
      f.1 ∙ ap some (only q f.0 r s.0 ok s.1 is)

  -- THE ELIMINATION SHOWS IT
  module _ (q : ℕ) (inside : q < dim S) where
    abbrev system : ℕ → ℕ → ℕ
    system = across (dim S) S.M (members S.n X) q

    abbrev solved : ℕ → ℕ
    solved = shown (dim S) (count S X) (reduced S.p (dim S) (count S X) system)

    in_rows : (c a : ℕ) → a < count S X → system c a ≡ rows S X a c
    unfolding across
    in_rows c a l = rw (lt-ltb a (count S X) l)

    in-unit : (c : ℕ) → system c (count S X) ≡ unit q c
    unfolding across
    in-unit c = rw (le-ltb (count S X) (count S X) (omega arith))

    -- a combination of lower members' rows solves the member's column
    column-solved : (a : ℕ) → a < count S X → (y : ℕ → ℕ) → Combines a y → Solution S.p (dim S) a system (λ c. system c a) y
    unfolding Combines
    column-solved a l y h = record {
      solves = λ c m.
          ap (λ x. x % S.p) (dot-comm a (system c) y ∙ dot-same a y y _ _ (λ b n. refl) (λ b n. in_rows c b (omega arith)))
          ∙ h c m ∙ ap (λ x. x % S.p) (sym (in_rows c a l));
    }

    solved-is : RowFor S.p (count S X) (dim S) (rows S X) q solved
        → Vec S.p (count S X) (tab (count S X) solved) × (is_one_row S (members S.n X) q (tab (count S X) solved) ≡ true)
    solved-is h =
        let row = is-row S (members S.n X) q (tab (count S X) solved) P.big (record {
          gives = λ c l. ap (λ x. x % S.p) (dot-same (count S X) (at (tab (count S X) solved)) solved _ _ (λ a m. get_d-tab (count S X) solved 0 a m) (λ a m. refl)) ∙ h.gives c l;
        }) in (
          tab-vec S.p (count S X) solved (λ a l. shown-small S.p P (dim S) (count S X) (count S X) system a),
          is_one q (tab (count S X) solved) row (λ a l e.
              let y = combines a e in
              get_d-tab (count S X) solved 0 a l ∙ shown-dependent S.p P (dim S) (count S X) (count S X) a system y.0 l (column-solved a l y.0 y.1)),
        )

    -- by the unused row with an entry beside, the one row, or none at all
    pub shows-one : dim S ≤ unsolved (dim S) (count S X) (reduced S.p (dim S) (count S X) system)
        → Vec S.p (count S X) (tab (count S X) solved) × (is_one_row S (members S.n X) q (tab (count S X) solved) ≡ true)
    shows-one l = go (beside S.p P (dim S) (count S X) (count S X) system)
      where
        go : Beside S.p (dim S) (count S X) (count S X) system (unsolved (dim S) (count S X) (reduced S.p (dim S) (count S X) system))
            → Vec S.p (count S X) (tab (count S X) solved) × (is_one_row S (members S.n X) q (tab (count S X) solved) ≡ true)
        go (solvable z h) =
            solved-is (row_is S.p (count S X) (dim S) (rows S X) q solved
            (solution-mod S.p (dim S) (count S X) system (λ c a. rows S X a c) (λ c. system c (count S X)) (unit q) solved
            (λ c a m n. ap (λ x. x % S.p) (in_rows c a n)) (λ c m. ap (λ x. x % S.p) (in-unit c)) h))
        go (refuted z y h) = absurd (omega arith)

    pub shows-none : unsolved (dim S) (count S X) (reduced S.p (dim S) (count S X) system) < dim S → has_row S X q ≡ false
    shows-none l = go (beside S.p P (dim S) (count S X) (count S X) system)
      where
        go : Beside S.p (dim S) (count S X) (count S X) system (unsolved (dim S) (count S X) (reduced S.p (dim S) (count S X) system)) → has_row S X q ≡ false
        go (solvable z h) = absurd (omega arith)
        go (refuted z y h) =
            let t = unseen-is S.p (count S X) (dim S) (rows S X) q inside y
            (refutes-mod S.p (dim S) (count S X) system (λ c a. rows S X a c) (λ c. system c (count S X)) (unit q) y
            (λ c a m n. ap (λ x. x % S.p) (in_rows c a n)) (λ c m. ap (λ x. x % S.p) (in-unit c)) h) in
            no_row S X q y inside t.zeros t.there

    -- EXACTLY ONE
    pub exactly-one : has_row S X q ≡ true → ExactlyOne S X q
    exactly-one has = go (leb (dim S) f) refl
      where
        f : ℕ
        f = unsolved (dim S) (count S X) (reduced S.p (dim S) (count S X) system)

        go : (b : Bool) → leb (dim S) f ≡ b → ExactlyOne S X q
        go true e =
            let h = shows-one (leb-true (dim S) f e) in
            record {
              row = tab (count S X) solved;
              ok = h.0;
              is = h.1;
              only = λ r ok is. only q r (tab (count S X) solved) ok h.0 is h.1;
              found = found-one q (tab (count S X) solved) h.0 h.1;
            }
        go false e = absurd (false≢true (sym (shows-none (leb-false (dim S) f e)) ∙ has))
