-- Demand 3 in every round, proved. A refreshed column's shares are given by the vector behind the column plus the vectors behind the zero columns applied to
-- it, and those begin with zeros; what is combined and opened is then Given.antt's.
-- total: a sum over a list
-- fresh: the vector of a refreshed column
-- now: that of the members who pass a test X and stand at one round: the first of them decides on the list, for the others it is a reordering
-- found', applied', met': the fields of Demand3
use mathlib.Core.Path.{◌≡◌, refl, ap, ap₂, sym, ◌∙◌}
use mathlib.Core.Bool.{Bool, true, false, ◌&&◌}
use mathlib.Core.List.{List, [], ◌∷◌}
use mathlib.Core.Logic.{◌⊎◌, inr}
use Prim.Native.Nat.{ℕ, zero, ◌+◌, ◌%◌, ◌^◌, ◌≤◌, ◌<◌}
use native.Mathlib.Nat.{mod-mod, mod-lt, mod-eq_of_lt}
use native.Mathlib.Omega.{arith}
use lib.Dec.{eqb}
use borrow.Author.Tests.{eqb-true, eq-eqb, lt-leb, le-leb}
use lib.ListN.{length, take}
use lib.Seq.{ext_get_or, get_or-take, length-take-le}
use Rattle.base.specs.Choice.{pick}
use Rattle.base.specs.Rules.{Answer, refusal, refused, given}
use Rattle.base.specs.Fill.{tab}
use Rattle.base.specs.Matrix.{all_below}
use Rattle.base.proofs.Choice.{and_left, and_right, and_both}
use Rattle.base.proofs.Rules.{not-refused}
use Rattle.base.proofs.Fill.{length-tab, get_d-tab, tab-ext, tab-vec}
use Rattle.base.proofs.Matrix.{below-is}
use Rattle.field.specs.Fields.{is_field}
use Rattle.field.specs.Dot.{at, dot}
use Rattle.field.proofs.Congruence.{cong-add}
use Rattle.field.proofs.Dot.{dot-ext, dot-mod-right}
use Rattle.scheme.specs.Setup.{Setup, dim, row}
use Rattle.scheme.specs.Sets.{holds, members, determines}
use Rattle.scheme.specs.Opening.{combine, round_of, agree, refresh}
use Rattle.scheme.specs.Calls.{combine_rules, combine_call, refresh_rules, refresh_call, open_call, open_left}
use Rattle.scheme.proofs.Calls.{combine-by-rounds, refresh-ok, refresh-accepts}
use Rattle.scheme.proofs.Rounds.{agree_at, agree-is}
use Rattle.scheme.proofs.Members.{member-at, place_of}
use Rattle.scheme.proofs.Sets.{same-secrets}
use Rattle.demand.specs.Demand.{Dealing, Member, Done, DoneZero, Slip, kept_at, Refreshed, at_first, then_by, Reordered, none, keep, swap, join, Applied, Terms, InLimits, constants, slip_over, shares_over, rounds_over, Present, Handed, AtOneRound, Level, hands_in, values_by, rounds_by, column, secrets_over, AgreesNow, Opens, Refused, FoundNow, Found}
use Rattle.demand.proofs.Given.{dot-reduced, dot-add, combine-tab, Among, Gives, gives-combine, refused-nineteen, refused-apart, Hands, opens-given, always-opens}
use Rattle.demand.proofs.Arrays.{exactly-one, ok, det, pos, behind, behind-gives, array_of, array_at, array-is, array-agrees, one-column', no-columns', share-small}
use Rattle.demand.proofs.Zeros.{behind_zero, zero-begins, zero-gives, zero-small, zero-found}

-- SUMS OVER A LIST, in any order
module _ {J : Type 0} (f : J → ℕ) where
  total : List J → ℕ
  total [] = 0
  total (j ∷ js) = total js + f j

  total-any : (xs ys : List J) → Reordered xs ys → total xs ≡ total ys
  unfolding total
  total-any xs ys none = refl
  total-any xs ys (keep j us vs r) = ap (λ z. z + f j) (total-any us vs r)
  total-any xs ys (swap j k us) = omega arith
  total-any xs ys (join us vs ws r s) = total-any us vs r ∙ total-any vs ws s

  total-none : ((j : J) → f j ≡ 0) → (js : List J) → total js ≡ 0
  unfolding total
  total-none h [] = refl
  total-none h (j ∷ js) = omega (arith, total-none h js, h j)

-- what an answer of two values says
two-values : (x y u v : ℕ) → given (x ∷ y ∷ []) ≡ given (u ∷ v ∷ []) → (x ≡ u) × (y ≡ v)
two-values x y u v e = (ap (λ (a : Answer). at a.values 0) e, ap (λ (a : Answer). at a.values 1) e)

-- what a refresh that answers gives, and what it was given
refresh-is : (p : ℕ) (y z : Slip) (x : ℕ) → refresh_call p y.value y.round x ≡ given (z.value ∷ z.round ∷ [])
    → (z.value ≡ (y.value + x) % p) × (z.round ≡ y.round + 1) × (y.round < 65535)
unfolding refresh
refresh-is p y z x e =
    let r = not-refused (refusal (refresh_rules p y.value y.round x)) _ _ e in
    let t = two-values _ _ _ _ r.1 in
    (sym t.0, sym t.1, (refresh-ok p y.value y.round x r.0).next)

reduced : (p x : ℕ) {y : ℕ} → x % p ≡ y → x % p ≡ y % p
reduced p x e = sym (mod-mod x p) ∙ ap (λ z. z % p) e

module _ (S : Setup) (group : ℕ) {I J : Type 0} (D : I → Dealing) (Z : J → Dealing) (done : Done S group D) (doneZero : DoneZero S group Z) where
  p-pos : 0 < S.p
  p-pos = pos S group D done

  field : is_field S.p ≡ true
  field = (ok S group D done).setup.limits.field

  -- THE VECTOR OF A REFRESHED COLUMN
  fresh : I → ℕ → List J → ℕ → ℕ
  fresh t b js k = behind S group D done t b k + total (λ j. behind_zero S group Z doneZero j b k) js

  module _ (t : I) (b : ℕ) (l : b < S.l) (i : ℕ) (m : Member S group i) (r : ℕ) where
    fresh_gives : (js : List J) (s : Slip) → Refreshed S Z b i (kept_at (D t) r b i) js s
        → (dot (dim S) (row S i) (fresh t b js) % S.p ≡ s.value) × (s.round ≡ r + length js) × (r ≤ 65535 → s.round ≤ 65535)
    unfolding fresh total
    fresh_gives js s at_first = (
      ap (λ z. z % S.p) (dot-ext (dim S) (row S i) (fresh t b []) (behind S group D done t b) (λ k o. omega arith)) ∙ behind-gives S group D done t b l i m,
      omega arith,
      λ q. q,
    )
    fresh_gives js s (then_by ks j y z h e) =
        let w = behind_zero S group Z doneZero j b in
        let IH = fresh_gives ks y h in
        let R = refresh-is S.p y z (at ((Z j).shares i) b) e in (
          ap (λ q. q % S.p) (dot-ext (dim S) (row S i) (fresh t b (j ∷ ks)) (λ k. fresh t b ks k + w k) (λ k o. omega arith) ∙ dot-add (dim S) (row S i) (fresh t b ks) w)
              ∙ cong-add S.p _ _ _ _ (reduced S.p _ IH.0) (reduced S.p _ (zero-gives S group Z doneZero j b l i m))
              ∙ sym R.0,
          omega (arith, R.1, IH.1),
          λ q. omega (arith, R.1, R.2),
        )

  -- it begins as the vector behind the column does
  fresh-begins : (t : I) (b : ℕ) (js : List J) (k : ℕ) → b < S.l → k < S.l → fresh t b js k % S.p ≡ at (column (array_of S group D done t) b) k
  unfolding fresh
  fresh-begins t b js k h l =
      let none = total-none (λ j. behind_zero S group Z doneZero j b k) (λ j. zero-begins S group Z doneZero j b k l) js in
      ap (λ z. z % S.p) (omega (arith, none)) ∙ sym (array_at S group D done t b k h l)

  -- WHAT THE MEMBERS HAVE
  module _ (A : Applied S group D Z) where
    slip-is : (t : I) (b i : ℕ) → b < S.l → Member S group i
        → (dot (dim S) (row S i) (fresh t b (A.order t b i)) % S.p ≡ (A.slip t b i).value)
        × ((A.slip t b i).round ≡ A.first t + length (A.order t b i))
        × (A.first t ≤ 65535 → (A.slip t b i).round ≤ 65535)
    slip-is t b i l m = fresh_gives t b l i m (A.first t) (A.order t b i) (A.slip t b i) (A.refreshed t b i l m)

    pub value-small : (t : I) (b i : ℕ) → b < S.l → Member S group i → (A.slip t b i).value < S.p
    value-small t b i l m = rw (← (slip-is t b i l m).0) (mod-lt _ p-pos)

    -- AT ONE ROUND
    module _ (X : ℕ → Bool) (inside : (i : ℕ) → Among S X i → Member S group i) where
      now : I → ℕ → ℕ → ℕ
      now t b = fresh t b (A.order t b (at (members S.n X) 0))

      now-gives : (t : I) (b : ℕ) → b < S.l → ((i k : ℕ) → Among S X i → Among S X k → (A.slip t b i).round ≡ (A.slip t b k).round)
          → Gives S X (now t b) (λ i. (A.slip t b i).value)
      unfolding now fresh
      now-gives t b l level =
          record {
            each = λ i m.
                let a = place_of S.n X i m.0 m.1 in
                let o : 0 < length (members S.n X) = omega (arith, a.1) in
                let k = at (members S.n X) 0 in
                let n : Among S X k = member-at S.n X 0 o in
                ap (λ z. z % S.p) (dot-ext (dim S) (row S i) (now t b) (fresh t b (A.order t b i))
                (λ c q. ap (λ z. behind S group D done t b c + z) (total-any _ _ _ (A.same t b k i l (inside k n) (inside i m) (level k i n m)))))
                ∙ (slip-is t b i l (inside i m)).0;
          }

      now-begins : (t : I) (b k : ℕ) → b < S.l → k < S.l → now t b k % S.p ≡ at (column (array_of S group D done t) b) k
      unfolding now
      now-begins t b k h l = fresh-begins t b (A.order t b (at (members S.n X) 0)) k h l

    -- those who stand at one round
    module _ (t : I) (b round : ℕ) (h : b < S.l) where
      there : ℕ → Bool
      there i = holds group i && eqb (A.slip t b i).round round

      inside : (i : ℕ) → Among S there i → Member S group i
      unfolding there
      inside i m = (m.0, and_left (holds group i) (eqb (A.slip t b i).round round) m.1)

      stands-there : (i : ℕ) → Among S there i → (A.slip t b i).round ≡ round
      unfolding there
      stands-there i m = eqb-true _ _ (and_right (holds group i) (eqb (A.slip t b i).round round) m.1)

      level : (i k : ℕ) → Among S there i → Among S there k → (A.slip t b i).round ≡ (A.slip t b k).round
      level i k m n = stands-there i m ∙ sym (stands-there k n)

      agrees' : AgreesNow S group (A.slip t b) (column (array_of S group D done t) b) round
      unfolding there
      agrees' =
          record {
            vector = tab (dim S) (λ k. v k % S.p);
            ok = tab-vec S.p (dim S) _ (λ k l. mod-lt _ p-pos);
            begins =
                ext_get_or 0 (take S.l (tab (dim S) (λ k. v k % S.p))) _ (long ∙ sym ((array-is S group D done t).each b h).size)
                (λ k m.
                let l : k < S.l = omega (arith, long) in
                get_or-take S.l (tab (dim S) (λ k. v k % S.p)) k 0 l ∙ get_d-tab (dim S) (λ k. v k % S.p) 0 k (omega arith) ∙ now-begins there inside t b k h l);
            gives = λ i m e.
                dot-reduced S.p (dim S) (row S i) v
                ∙ (now-gives there inside t b h level).each i (m.0, and_both (holds group i) (eqb (A.slip t b i).round round) m.1 (eq-eqb _ _ e));
          }
        where
          v : ℕ → ℕ
          v = now there inside t b

          long : length (take S.l (tab (dim S) (λ k. v k % S.p))) ≡ S.l
          long = length-take-le S.l (tab (dim S) (λ k. v k % S.p)) (omega (arith, length-tab (dim S) (λ k. v k % S.p)))

      alone' : determines S (λ i. holds group i && eqb (A.slip t b i).round round) ≡ true → (xs : List ℕ)
          → AgreesNow S group (A.slip t b) xs round → xs ≡ column (array_of S group D done t) b
      unfolding there
      alone' d xs x =
          sym x.begins
          ∙ ext_get_or 0 (take S.l x.vector) _ (long ∙ sym ((array-is S group D done t).each b h).size)
          (λ k m.
          let l : k < S.l = omega (arith, long) in
          get_or-take S.l x.vector k 0 l
          ∙ sym (mod-eq_of_lt (x.ok.small k (omega arith)))
          ∙ same-secrets S there d (at x.vector) (now there inside t b)
          (λ i o q. x.gives i (inside i (o, q)) (stands-there i (o, q)) ∙ sym ((now-gives there inside t b h level).each i (o, q))) k l
          ∙ now-begins there inside t b k h l)
        where
          long : length (take S.l x.vector) ≡ S.l
          long = length-take-le S.l x.vector (omega (arith, x.ok.size))

    -- A MEMBER'S CALLS
    refreshes' : (t : I) (b i : ℕ) (j : J) → b < S.l → Member S group i → (A.slip t b i).round < 65535
        → refresh_call S.p (A.slip t b i).value (A.slip t b i).round (at ((Z j).shares i) b)
        ≡ given (refresh S.p (A.slip t b i).value (at ((Z j).shares i) b) ∷ ((A.slip t b i).round + 1) ∷ [])
    refreshes' t b i j l m r =
        rw (refresh-accepts S.p (A.slip t b i).value (A.slip t b i).round (at ((Z j).shares i) b)
        (record { field = field; old = value-small t b i l m; zero = zero-small S group Z doneZero j b l i m; next = r })) refl

    last' : (t : I) (b i : ℕ) (j : J) → b < S.l → Member S group i → 65535 ≤ (A.slip t b i).round
        → refresh_call S.p (A.slip t b i).value (A.slip t b i).round (at ((Z j).shares i) b) ≡ refused 18
    last' t b i j l m r =
        rw (field, lt-leb S.p _ (value-small t b i l m), lt-leb S.p _ (zero-small S group Z doneZero j b l i m), le-leb 65535 _ r) refl

    module _ (ts : Terms I) (i : ℕ) (lim : InLimits S ts) (m : Member S group i) where
      long-rounds : length (rounds_over A.slip ts i) ≡ ts.count
      long-rounds = length-tab ts.count _

      -- all of the table but the rounds
      by-rounds : refusal (combine_rules S.p (constants ts) (shares_over A.slip ts i) (rounds_over A.slip ts i)) ≡ pick (agree (rounds_over A.slip ts i)) 0 19
      by-rounds =
          let long : length (constants ts) ≡ ts.count = length-tab ts.count ts.constant in
          combine-by-rounds S.p (constants ts) (shares_over A.slip ts i) (rounds_over A.slip ts i) field
          (rw long (tab-vec S.p ts.count ts.constant lim.constants))
          (rw long (tab-vec S.p ts.count _ (λ t l. value-small (ts.dealing t) (ts.column t) i (lim.columns t l) m)))
          (long-rounds ∙ sym long) (omega (arith, long, lim.few))

      round-at : (t : ℕ) → t < ts.count → at (rounds_over A.slip ts i) t ≡ (slip_over A.slip ts i t).round
      round-at t l = get_d-tab ts.count _ 0 t l

      combines' : AtOneRound A.slip ts i
          → combine_call S.p (constants ts) (shares_over A.slip ts i) (rounds_over A.slip ts i)
          ≡ given (combine S.p (constants ts) (shares_over A.slip ts i) ∷ round_of (rounds_over A.slip ts i) ∷ [])
      combines' same =
          let one : agree (rounds_over A.slip ts i) ≡ true = agree-is (slip_over A.slip ts i 0).round (rounds_over A.slip ts i)
          (λ t l. let o : t < ts.count = omega (arith, long-rounds) in round-at t o ∙ same t 0 o (omega arith)) in
          let fine : refusal (combine_rules S.p (constants ts) (shares_over A.slip ts i) (rounds_over A.slip ts i)) ≡ 0 = by-rounds ∙ rw one refl in
          rw fine refl

      -- what an answered combination says
      pub answered : (x r : ℕ) → combine_call S.p (constants ts) (shares_over A.slip ts i) (rounds_over A.slip ts i) ≡ given (x ∷ r ∷ [])
          → (x ≡ combine S.p (constants ts) (shares_over A.slip ts i)) × (r ≡ round_of (rounds_over A.slip ts i))
          × ((t : ℕ) → t < ts.count → (slip_over A.slip ts i t).round ≡ r)
      answered x r e =
          let q = not-refused (refusal (combine_rules S.p (constants ts) (shares_over A.slip ts i) (rounds_over A.slip ts i))) _ _ e in
          let v = two-values _ _ _ _ q.1 in
          let one = passed (agree (rounds_over A.slip ts i)) (sym by-rounds ∙ q.0) in (
            sym v.0,
            sym v.1,
            λ t l. sym (round-at t l) ∙ agree_at (rounds_over A.slip ts i) one t (omega (arith, long-rounds)) ∙ v.1,
          )
        where
          passed : (u : Bool) → ◌≡◌ {A = ℕ} (pick u 0 19) 0 → u ≡ true
          passed true z = refl
          passed false z = absurd (omega (arith, z))

      apart' : (t u : ℕ) → t < ts.count → u < ts.count → ((slip_over A.slip ts i t).round ≡ (slip_over A.slip ts i u).round → ⊥)
          → combine_call S.p (constants ts) (shares_over A.slip ts i) (rounds_over A.slip ts i) ≡ refused 19
      apart' t u l o ne = go (agree (rounds_over A.slip ts i)) refl
        where
          go : (b : Bool) → agree (rounds_over A.slip ts i) ≡ b
              → combine_call S.p (constants ts) (shares_over A.slip ts i) (rounds_over A.slip ts i) ≡ refused 19
          go true e =
              absurd (ne (sym (round-at t l) ∙ agree_at (rounds_over A.slip ts i) e t (omega (arith, long-rounds))
              ∙ sym (agree_at (rounds_over A.slip ts i) e u (omega (arith, long-rounds))) ∙ round-at u o))
          go false e =
              let z : refusal (combine_rules S.p (constants ts) (shares_over A.slip ts i) (rounds_over A.slip ts i)) ≡ 19 = by-rounds ∙ rw e refl in
              rw z refl

    -- OPENINGS, by the group's members among the openers
    module _ (ts : Terms I) (openers : ℕ) (handed rounds out : List ℕ) (hand : Handed S group A.slip ts openers handed rounds) (room : length out ≡ S.l) where
      both : ℕ → Bool
      both i = holds openers i && holds group i

      in_group : (i : ℕ) → Among S both i → Member S group i
      unfolding both
      in_group i m = (m.0, and_right (holds openers i) (holds group i) m.1)

      in-openers : (i : ℕ) → Among S both i → Member S openers i
      unfolding both
      in-openers i m = (m.0, and_left (holds openers i) (holds group i) m.1)

      -- what a member handed in
      rule : (a : ℕ) → a < length (members S.n (holds openers)) → holds group (at (members S.n (holds openers)) a) ≡ true
          → let i = at (members S.n (holds openers)) a in
          (at handed a ≡ combine S.p (constants ts) (shares_over A.slip ts i)) × (at rounds a ≡ round_of (rounds_over A.slip ts i))
          × ((t : ℕ) → t < ts.count → (slip_over A.slip ts i t).round ≡ at rounds a)
      rule a l g =
          answered ts (at (members S.n (holds openers)) a) hand.limits ((member-at S.n (holds openers) a l).0, g) (at handed a) (at rounds a) (hand.by-rule a l g)

      -- the combination of the vectors of the columns now
      combined : ℕ → ℕ
      combined k = dot ts.count ts.constant (λ t. now both in_group (ts.dealing t) (ts.column t) k)

      value : ℕ → ℕ
      value i = combine S.p (constants ts) (shares_over A.slip ts i)

      secrets-are : tab S.l (λ k. combined k % S.p) ≡ secrets_over S (array_of S group D done) ts
      unfolding combined
      secrets-are =
          tab-ext S.l _ _ (λ k h.
          dot-mod-right S.p ts.count ts.constant _ _
          (λ t l. sym (mod-mod _ S.p) ∙ ap (λ z. z % S.p) (now-begins both in_group (ts.dealing t) (ts.column t) k (hand.limits.columns t l) h))
          ∙ sym (combine-tab S.p ts.count ts.constant _))

      -- where all the rounds handed in are one
      module _ (one : agree rounds ≡ true) where
        at-round : (i : ℕ) → Among S both i → (t : ℕ) → t < ts.count → (slip_over A.slip ts i t).round ≡ round_of rounds
        at-round i m t l =
            let a = place_of S.n (holds openers) i m.0 (in-openers i m).1 in
            ap (λ k. (slip_over A.slip ts k t).round) (sym a.2)
            ∙ (rule a.0 a.1 (ap (holds group) a.2 ∙ (in_group i m).1)).2 t l
            ∙ agree_at rounds one a.0 (omega (arith, a.1, hand.count-rounds))

        combined-gives : Gives S both combined value
        unfolding combined value
        combined-gives =
            gives-combine S both ts.count ts.constant (λ t. now both in_group (ts.dealing t) (ts.column t)) (λ t i. (slip_over A.slip ts i t).value) p-pos
            (λ t l. now-gives both in_group (ts.dealing t) (ts.column t) (hand.limits.columns t l) (λ i k m n. at-round i m t l ∙ sym (at-round k n t l)))

        hands : Hands S both openers handed rounds value
        unfolding both value
        hands =
            record {
              below = hand.below;
              count = hand.count;
              count-rounds = hand.count-rounds;
              openers-all = λ i m. (in-openers i m).1;
              values = λ a l t. (rule a l (and_right (holds openers (at (members S.n (holds openers)) a)) (holds group (at (members S.n (holds openers)) a)) t)).0;
              one-round = one;
              present = hand.present;
            }

      opens' : Opens S openers handed rounds out (secrets_over S (array_of S group D done) ts) ⊎ Refused S openers handed rounds out
      opens' = go (agree rounds) refl
        where
          go : (u : Bool) → agree rounds ≡ u → Opens S openers handed rounds out (secrets_over S (array_of S group D done) ts) ⊎ Refused S openers handed rounds out
          go true u = rw (← secrets-are) (opens-given S both (ok S group D done).setup combined value (combined-gives u) openers handed rounds out (hands u) room)
          go false u = inr (refused-apart S (ok S group D done).setup openers handed rounds out hand.below hand.count hand.count-rounds room u)

      -- WHERE EVERY OPENER IS A MEMBER
      module _ (sub : (i : ℕ) → Member S openers i → Member S group i) where
        all_both : (i : ℕ) → Member S openers i → Among S both i
        unfolding both
        all_both i m = (m.0, and_both (holds openers i) (holds group i) m.1 (sub i m).1)

        by_all : (a : ℕ) → a < length (members S.n (holds openers)) → holds group (at (members S.n (holds openers)) a) ≡ true
        by_all a l = (sub _ (member-at S.n (holds openers) a l)).1

        never' : Level S A.slip ts openers → Opens S openers handed rounds out (secrets_over S (array_of S group D done) ts)
        never' same =
            rw (← secrets-are) (always-opens S both (ok S group D done).setup combined value (combined-gives one) openers handed rounds out (hands one) room all_both)
          where
            -- every opener's combination has the round of the first opener's
            one : agree rounds ≡ true
            one =
                agree-is (round_of (rounds_over A.slip ts (at (members S.n (holds openers)) 0))) rounds
                (λ a l.
                let o : a < length (members S.n (holds openers)) = omega (arith, l, hand.count-rounds) in
                let ma = member-at S.n (holds openers) a o in
                let m0 = member-at S.n (holds openers) 0 (omega (arith, o)) in
                (rule a o (by_all a o)).1
                ∙ ap round_of (tab-ext ts.count _ _ (λ t q. same t _ _ q ma m0)))

        pub elements : all_below S.p handed ≡ true
        elements =
            below-is S.p handed (λ a o.
            let q : a < length (members S.n (holds openers)) = omega (arith, hand.count) in
            rw (rule a q (by_all a q)).0 (unfold combine in mod-lt _ p-pos))

        pub lag-apart : (t i k : ℕ) → t < ts.count → Member S openers i → Member S openers k
            → ((slip_over A.slip ts i t).round ≡ (slip_over A.slip ts k t).round → ⊥) → agree rounds ≡ false
        lag-apart t i k l mi mk ne = go (agree rounds) refl
          where
            go : (u : Bool) → agree rounds ≡ u → agree rounds ≡ false
            go true u = absurd (ne (at-round u i (all_both i mi) t l ∙ sym (at-round u k (all_both k mk) t l)))
            go false u = u

        lagging' : (t i k : ℕ) → t < ts.count → Member S openers i → Member S openers k
            → ((slip_over A.slip ts i t).round ≡ (slip_over A.slip ts k t).round → ⊥)
            → (open_call S openers handed rounds out ≡ refused 19) × (open_left S openers handed rounds out ≡ out)
        lagging' t i k l mi mk ne =
            refused-nineteen S (ok S group D done).setup openers handed rounds out hand.below hand.count hand.count-rounds room elements
            (lag-apart t i k l mi mk ne)

    found-now : FoundNow S group D Z (array_of S group D done) A
    found-now =
        record {
          agrees = agrees';
          alone = alone';
          opens = opens';
          never-refused = never';
          lagging = lagging';
          stands = λ t b i l m. (slip-is t b i l m).1;
          within = λ t b i l m. (slip-is t b i l m).2;
          refreshes = refreshes';
          last-round = last';
          combines = combines';
          apart = λ ts i t u lim m l o ne. apart' ts i lim m t u l o ne;
        }

    -- LISTS HANDED IN
    pub met' : (ts : Terms I) → InLimits S ts → (openers : ℕ) → openers < 2 ^ S.n → Present S group openers
        → ((i : ℕ) → Member S openers i → Member S group i → AtOneRound A.slip ts i) → (others : ℕ → Slip)
        → let slip = hands_in S group A.slip ts others in Handed S group A.slip ts openers (values_by S openers slip) (rounds_by S openers slip)
    met' ts lim openers below present one others =
        let who = members S.n (holds openers) in
        record {
          limits = lim;
          below = below;
          count = length-tab _ _;
          count-rounds = length-tab _ _;
          by-rule = λ a l t.
              let i = at who a in
              let m = member-at S.n (holds openers) a l in
              combines' ts i lim (m.0, t) (one i m (m.0, t))
              ∙ ap₂ (λ x r. given (x ∷ r ∷ []))
              (sym (get_d-tab (length who) _ 0 a l ∙ rw t refl)) (sym (get_d-tab (length who) _ 0 a l ∙ rw t refl));
          present = present;
        }

  pub found' : Found S group D Z
  found' =
      record {
        array = array_of S group D done;
        one = λ t. exactly-one S group (det S group D done) (D t) _ (array-is S group D done t) (array-agrees S group D done t);
        zero = zero-found S group Z doneZero;
        now = found-now;
        one-column = one-column' S group D done;
        no-columns = no-columns' S group D done;
      }

  -- ALL LISTS OF ZERO DEALINGS that end by round 65535
  after : I → ℕ → ℕ → ℕ → List J → Slip
  after t r b i [] = kept_at (D t) r b i
  after t r b i (j ∷ js) = record { value = refresh S.p (after t r b i js).value (at ((Z j).shares i) b); round = (after t r b i js).round + 1 }

  module _ (t : I) (r b i : ℕ) (l : b < S.l) (m : Member S group i) where
    after-round : (js : List J) → (after t r b i js).round ≡ r + length js
    unfolding after
    after-round [] = omega arith
    after-round (j ∷ js) = omega (arith, after-round js)

    after_small : (js : List J) → (after t r b i js).value < S.p
    unfolding after
    after_small [] = share-small S (D t) i (done.keepers t i m) b l
    after_small (j ∷ js) = unfold refresh in mod-lt _ p-pos

    after-refreshed : (js : List J) → r + length js ≤ 65535 → Refreshed S Z b i (kept_at (D t) r b i) js (after t r b i js)
    unfolding after
    after-refreshed [] h = at_first
    after-refreshed (j ∷ js) h =
        then_by js j (after t r b i js) (after t r b i (j ∷ js)) (after-refreshed js (omega (arith, h)))
        (rw (refresh-accepts S.p (after t r b i js).value (after t r b i js).round (at ((Z j).shares i) b)
        (record { field = field; old = after_small js; zero = zero-small S group Z doneZero j b l i m; next = omega (arith, after-round js, h) })) refl)

  pub applied' : (first : I → ℕ) (order : I → ℕ → ℕ → List J)
      → ((t : I) (b i : ℕ) → b < S.l → Member S group i → first t + length (order t b i) ≤ 65535)
      → ((t : I) (b i k : ℕ) → b < S.l → Member S group i → Member S group k → length (order t b i) ≡ length (order t b k)
      → Reordered (order t b i) (order t b k))
      → (A : Applied S group D Z) × (A.first ≡ first) × (A.order ≡ order)
  applied' first order low same = (
    record {
      first = first;
      order = order;
      slip = λ t b i. after t (first t) b i (order t b i);
      refreshed = λ t b i l m. after-refreshed t (first t) b i l m (order t b i) (low t b i l m);
      same = λ t b i k l m n e. same t b i k l m n (omega (arith, e, after-round t (first t) b i l m (order t b i), after-round t (first t) b k l n (order t b k)));
    },
    refl,
    refl,
  )
