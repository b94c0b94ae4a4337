-- Two records that each read well: what is faulty in them in words, that it does not depend on their order, and that the higher round of three does not
-- depend on which two are compared first.
-- faulty: the refusal of two records
-- higher: the record that supersedes
use mathlib.Core.Path.{◌≡◌, refl, sym, ap, ◌∙◌}
use mathlib.Core.Bool.{Bool, true, false, not, ◌&&◌}
use Prim.Native.Nat.{ℕ}
use native.Mathlib.Omega.{arith}
use lib.Dec.{eqb}
use borrow.Author.Tests.{ltb-true, ltb-false, eqb-true, eqb-false, not-false, lt-ltb, le-ltb, eq-eqb, ne_eqb}
use Rattle.base.specs.Choice.{pick}
use Rattle.base.specs.Rules.{refusal}
use Rattle.base.proofs.Rules.{clear, none-applies}
use Rattle.record_layouts.specs.declared.ShareRecord.{ShareRecord}
use Rattle.superseding.specs.Superseding.{superseding_faults, later}
use Rattle.superseding.specs.Laws.{OneShare}

abbrev pub faulty : ShareRecord → ShareRecord → ℕ
faulty x y = refusal (superseding_faults x y)

abbrev pub higher : ShareRecord → ShareRecord → ShareRecord
higher x y = pick (later x y) y x

-- IN WORDS
module _ (x y : ShareRecord) where
  pub sound : OneShare x y → (x.round ≡ y.round → x.value ≡ y.value) → faulty x y ≡ 0
  sound o v =
      none-applies (superseding_faults x y) (
        ap not (eq-eqb x.dealing y.dealing o.dealing),
        (
          ap not (eq-eqb x.holder y.holder o.holder),
          (
            ap not (eq-eqb x.column y.column o.column),
            (ne_eqb x.dealing 0 o.single, (go (eqb x.round y.round) refl, tt)),
          ),
        ),
      )
    where
      go : (b : Bool) → eqb x.round y.round ≡ b → (b && not (eqb x.value y.value)) ≡ false
      go true e = ap not (eq-eqb x.value y.value (v (eqb-true x.round y.round e)))
      go false e = refl

  pub one-share : faulty x y ≡ 0 → OneShare x y
  one-share e =
      let c = clear (superseding_faults x y) tt e in
      record {
        dealing = eqb-true x.dealing y.dealing (not-false _ c.0);
        holder = eqb-true x.holder y.holder (not-false _ c.1.0);
        column = eqb-true x.column y.column (not-false _ c.1.1.0);
        single = eqb-false x.dealing 0 c.1.1.1.0;
      }

  pub same-value : faulty x y ≡ 0 → x.round ≡ y.round → x.value ≡ y.value
  same-value e r =
      let c = clear (superseding_faults x y) tt e in
      let t = ap (λ b. b && not (eqb x.value y.value)) (sym (eq-eqb x.round y.round r)) ∙ c.1.1.1.1.0 in
      eqb-true x.value y.value (not-false _ t)

  pub other-share : (OneShare x y → ⊥) → faulty x y ≡ 21
  other-share n = go (eqb x.dealing y.dealing) refl (eqb x.holder y.holder) refl (eqb x.column y.column) refl (eqb x.dealing 0) refl
    where
      go : (a : Bool) → eqb x.dealing y.dealing ≡ a → (b : Bool) → eqb x.holder y.holder ≡ b → (c : Bool) → eqb x.column y.column ≡ c
          → (d : Bool) → eqb x.dealing 0 ≡ d → faulty x y ≡ 21
      go false e b f c g d h = rw e refl
      go true e false f c g d h = rw (e, f) refl
      go true e true f false g d h = rw (e, f, g) refl
      go true e true f true g true h = rw (e, f, g, h) refl
      go true e true f true g false h =
          absurd (n record { dealing = eqb-true _ _ e; holder = eqb-true _ _ f; column = eqb-true _ _ g; single = eqb-false x.dealing 0 h })

  pub unequal-values : OneShare x y → x.round ≡ y.round → (x.value ≡ y.value → ⊥) → faulty x y ≡ 20
  unequal-values o r v =
      rw (
        eq-eqb x.dealing y.dealing o.dealing,
        eq-eqb x.holder y.holder o.holder,
        eq-eqb x.column y.column o.column,
        ne_eqb x.dealing 0 o.single,
        eq-eqb x.round y.round r,
        ne_eqb x.value y.value v,
      )
      refl

-- THE OTHER ORDER
pub either_way : (x y : ShareRecord) → faulty y x ≡ faulty x y
either_way x y = go (eqb x.dealing y.dealing) refl
  where
    turned : (a b : ℕ) (t : Bool) → eqb a b ≡ t → eqb b a ≡ t
    turned a b true e = eq-eqb b a (sym (eqb-true a b e))
    turned a b false e = ne_eqb b a (λ z. eqb-false a b e (sym z))

    same : (a b : ℕ) → eqb b a ≡ eqb a b
    same a b = turned a b (eqb a b) refl

    go : (t : Bool) → eqb x.dealing y.dealing ≡ t → faulty y x ≡ faulty x y
    go true e =
        rw (same x.holder y.holder, same x.column y.column, same x.round y.round, same x.value y.value, eqb-true x.dealing y.dealing e) refl
    go false e =
        let n = eqb-false x.dealing y.dealing e in
        other-share y x (λ o. n (sym o.dealing)) ∙ sym (other-share x y (λ o. n o.dealing))

-- OF THREE
pub onward : (x y z : ShareRecord) → OneShare x y → OneShare y z → OneShare x z
onward x y z o q =
    record { dealing = o.dealing ∙ q.dealing; holder = o.holder ∙ q.holder; column = o.column ∙ q.column; single = o.single }

-- the first of the highest round
pub of_three : {A : Type 0} (x y z : ShareRecord) (a b c : A) → pick (later (higher x y) z) c (pick (later x y) b a) ≡ pick (later x (higher y z)) (pick (later y z) c b) a
of_three x y z a b c = go (later x y) refl (later y z) refl
  where
    go : (s : Bool) → later x y ≡ s → (t : Bool) → later y z ≡ t
        → pick (later (higher x y) z) c (pick (later x y) b a) ≡ pick (later x (higher y z)) (pick (later y z) c b) a
    go true e true f = rw (e, f, lt-ltb x.round z.round (omega (arith, ltb-true x.round y.round e, ltb-true y.round z.round f))) refl
    go true e false f = rw (e, f, e) refl
    go false e true f = rw (e, f) refl
    go false e false f = rw (e, f, e, le-ltb x.round z.round (omega (arith, ltb-false x.round y.round e, ltb-false y.round z.round f))) refl

-- and what is faulty then does not depend on it either
pub faulty-three : (x y z : ShareRecord) → faulty x y ≡ 0 → faulty y z ≡ 0 → faulty (higher x y) z ≡ faulty x (higher y z)
faulty-three x y z e f = go (later x y) refl (later y z) refl
  where
    across : (x.round ≡ z.round → x.value ≡ z.value) → faulty x z ≡ 0
    across v = sound x z (onward x y z (one-share x y e) (one-share y z f)) v

    go : (s : Bool) → later x y ≡ s → (t : Bool) → later y z ≡ t → faulty (higher x y) z ≡ faulty x (higher y z)
    go true g true h = rw (g, h) (f ∙ sym (across (λ r. absurd (omega (arith, r, ltb-true x.round y.round g, ltb-true y.round z.round h)))))
    go true g false h = rw (g, h) (f ∙ sym e)
    go false g true h = rw (g, h) refl
    go false g false h =
        rw (g, h)
        (across (λ r.
        let i : x.round ≡ y.round = omega (arith, r, ltb-false x.round y.round g, ltb-false y.round z.round h) in
        let j : y.round ≡ z.round = omega (arith, r, i) in
        same-value x y e i ∙ same-value y z f j)
        ∙ sym e)
