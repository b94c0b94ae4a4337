-- Shares that one vector gives to all holders who pass a test X, such as a group's members: sums and combinations of such shares are given by the sums and
-- combinations of their vectors; and an opening in which openers X, who determine the secrets, hand them in at one round gives the vector's first ℓ entries or
-- is refused, but never where all openers pass X.
-- Among: a holder passes the test
-- Gives: the vector v gives every such holder its value
-- Hands: the openers X hand in their values at one round, the others anything
use mathlib.Core.Path.{◌≡◌, refl, ap, sym, ◌∙◌}
use mathlib.Core.Bool.{Bool, true, false}
use mathlib.Core.List.{List}
use mathlib.Core.Logic.{◌⊎◌, inl, inr}
use mathlib.Core.Option.{Option, none, some, none-ne-some}
use Prim.Native.Nat.{ℕ, ◌+◌, ◌*◌, ◌%◌, ◌^◌, ◌<◌}
use native.Mathlib.Nat.{mod-mod, mod-lt, mod-eq_of_lt}
use native.Mathlib.Omega.{arith}
use borrow.Author.Tests.{eqb-true, eq-eqb}
use lib.ListN.{length, take}
use lib.Seq.{ext_get_or, get_or-take, length-take-le}
use Rattle.base.specs.Choice.{pick}
use Rattle.base.specs.Rules.{Answer, refusal, refused, given, left_by}
use Rattle.base.specs.Sum.{sum}
use Rattle.base.specs.Search.{first_vec, Vec}
use Rattle.base.specs.Fill.{tab}
use Rattle.base.specs.Matrix.{all_below}
use Rattle.base.proofs.Search.{every-at, every-all, first_vec-sound, first_vec-complete}
use Rattle.base.proofs.Fill.{length-tab, get_d-tab, tab-vec}
use Rattle.base.proofs.Matrix.{below-is}
use Rattle.field.specs.Dot.{at, dot}
use Rattle.field.proofs.Dot.{dot-comm, dot-ext, dot-mod-right, dot-assoc, dot-comb-right}
use Rattle.scheme.specs.Setup.{Setup, dim, row, IsSetup}
use Rattle.scheme.specs.Answers.{inconsistent}
use Rattle.scheme.specs.Sets.{holds, members, row_at, has_row, determines}
use Rattle.scheme.specs.Opening.{gives, opening, opened_by, combine, agree}
use Rattle.scheme.specs.Calls.{open_rules, open_call, open_left, open_answer}
use Rattle.scheme.proofs.Calls.{limits-prime, limits-pos, open-by-shares}
use Rattle.scheme.proofs.Members.{member-at, place_of, members-wide}
use Rattle.scheme.proofs.Sets.{same-secrets}
use Rattle.scheme.proofs.Certificates.{by-search}
use Rattle.scheme.proofs.Grows.{row-grows}
use Rattle.demand.specs.Demand.{Member, Opens, Refused, by-four, by-nineteen, by-seven}

-- PRODUCTS WITH TABLES
pub dot-tab : (d : ℕ) (u f : ℕ → ℕ) → dot d u (at (tab d f)) ≡ dot d u f
dot-tab d u f = dot-ext d u _ f (λ k l. get_d-tab d f 0 k l)

pub dot-reduced : (p d : ℕ) (u f : ℕ → ℕ) → dot d u (at (tab d (λ c. f c % p))) % p ≡ dot d u f % p
dot-reduced p d u f = ap (λ z. z % p) (dot-tab d u _) ∙ dot-mod-right p d u _ f (λ j l. mod-mod (f j) p)

pub dot-add : (d : ℕ) (u v w : ℕ → ℕ) → dot d u (λ k. v k + w k) ≡ dot d u v + dot d u w
dot-add d u v w = dot-ext d u (λ k. v k + w k) (λ k. 1 * v k + 1 * w k) (λ k l. omega arith) ∙ dot-comb-right d 1 1 v w u ∙ omega arith

pub combine-tab : (p m : ℕ) (c x : ℕ → ℕ) → combine p (tab m c) (tab m x) ≡ dot m c x % p
unfolding combine
combine-tab p m c x =
    ap (λ k. dot k (at (tab m c)) (at (tab m x)) % p) (length-tab m c)
    ∙ ap (λ z. z % p) (dot-tab m (at (tab m c)) x ∙ dot-comm m (at (tab m c)) x ∙ dot-tab m x c ∙ dot-comm m x c)

-- one term with constant 1
pub combine-one : (p x : ℕ) → x < p → combine p (tab 1 (λ _. 1)) (tab 1 (λ _. x)) ≡ x
combine-one p x l = combine-tab p 1 (λ _. 1) (λ _. x) ∙ ap (λ z. z % p) (single x) ∙ mod-eq_of_lt l
  where
    single : (x : ℕ) → dot 1 (λ _. 1) (λ _. x) ≡ x
    single x = unfold dot sum in omega arith

-- GIVEN SHARES
abbrev pub Among : Setup → (ℕ → Bool) → ℕ → Type 0
Among S X i = (i < S.n) × (X i ≡ true)

pub record Gives (S : Setup) (X : ℕ → Bool) (v value : ℕ → ℕ) : Type 0 where
  pub each : (i : ℕ) → Among S X i → dot (dim S) (row S i) v % S.p ≡ value i

-- they are field elements
pub gives-small : (S : Setup) (X : ℕ → Bool) (v x : ℕ → ℕ) → 0 < S.p → Gives S X v x → (i : ℕ) → Among S X i → x i < S.p
gives-small S X v x pos g i m = rw (← g.each i m) (mod-lt _ pos)

pub gives-combine : (S : Setup) (X : ℕ → Bool) (m : ℕ) (c : ℕ → ℕ) (v x : ℕ → ℕ → ℕ) → 0 < S.p → ((t : ℕ) → t < m → Gives S X (v t) (x t))
    → Gives S X (λ k. dot m c (λ t. v t k)) (λ i. combine S.p (tab m c) (tab m (λ t. x t i)))
gives-combine S X m c v x pos g =
    record {
      each = λ i mi.
          ap (λ z. z % S.p) (dot-comm (dim S) (row S i) (λ k. dot m c (λ t. v t k)) ∙ sym (dot-assoc m (dim S) c (row S i) v))
          ∙ dot-mod-right S.p m c _ _
          (λ t l. ap (λ z. z % S.p) (dot-comm (dim S) (v t) (row S i)) ∙ (g t l).each i mi ∙ sym (mod-eq_of_lt (gives-small S X (v t) (x t) pos (g t l) i mi)))
          ∙ sym (combine-tab S.p m c (λ t. x t i));
    }

-- OPENINGS, all in order but what is handed in
module _ (S : Setup) (setup : IsSetup S) (openers : ℕ) (handed rounds out : List ℕ) (below : openers < 2 ^ S.n)
    (count : length handed ≡ length (members S.n (holds openers))) (count-rounds : length rounds ≡ length (members S.n (holds openers)))
    (room : length out ≡ S.l) where
  pub by-handed : refusal (open_rules S openers handed rounds out) ≡ pick (all_below S.p handed) (pick (agree rounds) 0 19) 4
  by-handed =
      let wide = ap length (sym (members-wide S.n 32 openers below setup.limits.holders.1)) in
      open-by-shares S openers handed rounds out (record { setup = setup; inside = below }) (count ∙ wide) (count-rounds ∙ wide) room

  -- rounds that differ are refused, whatever else is handed in; where all values are field elements, by 19
  pub refused-nineteen : all_below S.p handed ≡ true → agree rounds ≡ false
      → (open_call S openers handed rounds out ≡ refused 19) × (open_left S openers handed rounds out ≡ out)
  refused-nineteen t u = let z : refusal (open_rules S openers handed rounds out) ≡ 19 = by-handed ∙ rw (t, u) refl in rw z (refl, refl)

  refused-four : all_below S.p handed ≡ false → Refused S openers handed rounds out
  refused-four t = let z : refusal (open_rules S openers handed rounds out) ≡ 4 = by-handed ∙ rw t refl in by-four (rw z refl) (rw z refl)

  pub refused-apart : agree rounds ≡ false → Refused S openers handed rounds out
  refused-apart u = go (all_below S.p handed) refl
    where
      go : (b : Bool) → all_below S.p handed ≡ b → Refused S openers handed rounds out
      go true t = let r = refused-nineteen t u in by-nineteen u r.0 r.1
      go false t = refused-four t

  -- an opening that is not refused by its table
  opened : (a : Answer) → all_below S.p handed ≡ true → agree rounds ≡ true → opening S (holds openers) handed ≡ a
      → (open_call S openers handed rounds out ≡ open_answer a) × (open_left S openers handed rounds out ≡ left_by a.number a.values out)
  opened a t u e = let z : refusal (open_rules S openers handed rounds out) ≡ 0 = by-handed ∙ rw (t, u) refl in rw (z, e) (refl, refl)

-- OPENINGS OF GIVEN SHARES
pub record Hands (S : Setup) (X : ℕ → Bool) (openers : ℕ) (handed rounds : List ℕ) (value : ℕ → ℕ) : Type 0 where
  pub below : openers < 2 ^ S.n
  pub count : length handed ≡ length (members S.n (holds openers))
  pub count-rounds : length rounds ≡ length (members S.n (holds openers))
  pub openers-all : (i : ℕ) → Among S X i → holds openers i ≡ true
  pub values : (a : ℕ) → a < length (members S.n (holds openers)) → X (at (members S.n (holds openers)) a) ≡ true
      → at handed a ≡ value (at (members S.n (holds openers)) a)
  pub one-round : agree rounds ≡ true
  pub present : determines S X ≡ true

module _ (S : Setup) (X : ℕ → Bool) (setup : IsSetup S) (v value : ℕ → ℕ) (given_by : Gives S X v value)
    (openers : ℕ) (handed rounds out : List ℕ) (hand : Hands S X openers handed rounds value) (room : length out ≡ S.l) where
  pos : 0 < S.p
  pos = limits-pos S setup.limits

  big : 1 < S.p
  big = (limits-prime S setup.limits).big

  xs : List ℕ
  xs = tab S.l (λ k. v k % S.p)

  -- a vector that gives every share handed in begins as v does
  opened-right : (w : List ℕ) → Vec S.p (dim S) w → gives S (members S.n (holds openers)) handed w ≡ true → take S.l w ≡ xs
  unfolding gives xs
  opened-right w vec g =
      ext_get_or 0 (take S.l w) _ (length-take-le S.l w (omega (arith, vec.size)) ∙ sym (length-tab S.l _))
      (λ k m.
      let h : k < S.l = omega (arith, length-take-le S.l w (omega (arith, vec.size))) in
      get_or-take S.l w k 0 h
      ∙ sym (mod-eq_of_lt (vec.small k (omega arith)))
      ∙ same-secrets S X hand.present (at w) v same k h
      ∙ sym (get_d-tab S.l _ 0 k h))
    where
      same : (i : ℕ) → i < S.n → X i ≡ true → dot (dim S) (row S i) (at w) % S.p ≡ dot (dim S) (row S i) v % S.p
      same i l t =
          let a = place_of S.n (holds openers) i l (hand.openers-all i (l, t)) in
          ap (λ j. dot (dim S) (row S j) (at w) % S.p) (sym a.2)
          ∙ eqb-true _ _ (every-at (length (members S.n (holds openers))) _ g a.0 a.1)
          ∙ hand.values a.0 a.1 (ap X a.2 ∙ t)
          ∙ ap value a.2
          ∙ sym (given_by.each i (l, t))

  -- 6 does not occur: the openers have a row wherever those in X have one
  openers-determine : determines S (holds openers) ≡ true
  unfolding determines
  openers-determine =
      every-all S.l (has_row S (holds openers))
      (λ k h. row-grows S X (holds openers) k big (λ i l t. hand.openers-all i (l, t)) (every-at S.l (has_row S X) hand.present k h))

  opening-is : opening S (holds openers) handed ≡ opened_by S.l (first_vec S.p (dim S) (gives S (members S.n (holds openers)) handed))
  opening-is = by-search S (holds openers) handed openers-determine

  through : (a : Answer) → all_below S.p handed ≡ true → opening S (holds openers) handed ≡ a
      → (open_call S openers handed rounds out ≡ open_answer a) × (open_left S openers handed rounds out ≡ left_by a.number a.values out)
  through a t e = opened S setup openers handed rounds out hand.below hand.count hand.count-rounds room a t hand.one-round e

  found : (w : List ℕ) → first_vec S.p (dim S) (gives S (members S.n (holds openers)) handed) ≡ some w → all_below S.p handed ≡ true
      → Opens S openers handed rounds out (tab S.l (λ k. v k % S.p))
  unfolding xs
  found w e t =
      let r = through (given (take S.l w)) t (opening-is ∙ ap (opened_by S.l) e) in
      let s = first_vec-sound S.p (dim S) _ w e in
      record { answer = r.0; buffer = r.1 ∙ opened-right w s.0 s.1 }

  pub opens-given : Opens S openers handed rounds out (tab S.l (λ k. v k % S.p)) ⊎ Refused S openers handed rounds out
  opens-given = go (all_below S.p handed) refl
    where
      answer : (o : Option (List ℕ)) → first_vec S.p (dim S) (gives S (members S.n (holds openers)) handed) ≡ o → all_below S.p handed ≡ true
          → Opens S openers handed rounds out (tab S.l (λ k. v k % S.p)) ⊎ Refused S openers handed rounds out
      answer none e t = let r = through inconsistent t (opening-is ∙ ap (opened_by S.l) e) in inr (by-seven r.0 r.1)
      answer (some w) e t = inl (found w e t)

      go : (b : Bool) → all_below S.p handed ≡ b → Opens S openers handed rounds out (tab S.l (λ k. v k % S.p)) ⊎ Refused S openers handed rounds out
      go true t = answer (first_vec S.p (dim S) (gives S (members S.n (holds openers)) handed)) refl t
      go false t = inr (refused-four S setup openers handed rounds out hand.below hand.count hand.count-rounds room t)

  pub always-opens : ((i : ℕ) → Member S openers i → Among S X i) → Opens S openers handed rounds out (tab S.l (λ k. v k % S.p))
  always-opens sub = finish (first_vec S.p (dim S) (gives S (members S.n (holds openers)) handed)) refl
    where
      at_place : (a : ℕ) → a < length (members S.n (holds openers)) → Among S X (at (members S.n (holds openers)) a)
      at_place a l = sub _ (member-at S.n (holds openers) a l)

      elements : all_below S.p handed ≡ true
      elements =
          below-is S.p handed (λ a l.
          let m : a < length (members S.n (holds openers)) = omega (arith, hand.count) in
          rw (hand.values a m (at_place a m).1) (gives-small S X v value pos given_by _ (at_place a m)))

      given-all : gives S (members S.n (holds openers)) handed (tab (dim S) (λ k. v k % S.p)) ≡ true
      given-all =
          unfold gives in every-all (length (members S.n (holds openers))) _ (λ a l.
          eq-eqb _ _ (dot-reduced S.p (dim S) (row_at S (members S.n (holds openers)) a) v ∙ given_by.each _ (at_place a l) ∙ sym (hand.values a l (at_place a l).1)))

      finish : (o : Option (List ℕ)) → first_vec S.p (dim S) (gives S (members S.n (holds openers)) handed) ≡ o
          → Opens S openers handed rounds out (tab S.l (λ k. v k % S.p))
      finish none e =
          let w = first_vec-complete S.p (dim S) _ (tab (dim S) (λ k. v k % S.p)) (tab-vec S.p (dim S) _ (λ k l. mod-lt _ pos)) given-all in
          absurd (none-ne-some _ (sym e ∙ w.1))
      finish (some w) e = found w e elements
