-- Where a combination is refused by nothing, one pass over elements and rounds finds nothing odd, and the other way.
-- or-none, xor-none: of two numbers' bits none is set, or they differ in none
-- none-above: a number is not above another
-- odd_step: one place more
-- all-even: elements below p and rounds that agree are even; even-all: and the other way
-- is-field: rule 1 does not apply
-- combine-long, combine-even, combine-fine: a combination of which nothing is refused, and one of which nothing is odd
-- no-field-refused: of no field, it is refused by 1
use mathlib.Core.Path.{◌≡◌, refl, sym, ap, ◌∙◌}
use mathlib.Core.Bool.{Bool, true, false, not, ◌&&◌, false≢true}
use mathlib.Core.List.{List}
use Prim.Native.Nat.{ℕ, ◌+◌, ◌-◌, ◌%◌, ◌≤◌, ◌<◌}
use native.Mathlib.Omega.{arith}
use lib.Bits.{bit_or, bit_xor, or_add_and, xor_add_and, and_le_l, and_le_r, xor_self}
use lib.Dec.{eqb, leb}
use lib.ListN.{length}
use borrow.Author.Tests.{eqb-true, eqb-false, eq-eqb, ne_eqb, leb-true, leb-false, le-leb}
use Rattle.base.specs.Rules.{or_when, refusal}
use Rattle.base.specs.Search.{every}
use Rattle.base.specs.Matrix.{all_below}
use Rattle.base.proofs.Search.{every-step, every-at, every-all}
use Rattle.base.proofs.Matrix.{below-is, below_by}
use Rattle.field.specs.Fields.{is_field}
use Rattle.field.specs.Dot.{at}
use Rattle.field.proofs.Fields.{five-elim, field-five}
use Rattle.scheme.specs.Opening.{round_of, agree}
use Rattle.scheme.specs.Calls.{combine_rules}
use Rattle.scheme.proofs.Calls.{vec_of, combine-ok, combine-accepts}
use Rattle.scheme.proofs.Rounds.{agree_at, agree-is}
use Rattle.combining.specs.Inner.{even, as_long}

-- BITS
pub or-none : (a b : ℕ) → eqb (bit_or a b) 0 ≡ (eqb a 0 && eqb b 0)
or-none a b = go (eqb a 0) refl (eqb b 0) refl
  where
    go : (s : Bool) → eqb a 0 ≡ s → (t : Bool) → eqb b 0 ≡ t → eqb (bit_or a b) 0 ≡ (s && t)
    go true e true f = rw (eqb-true a 0 e, eqb-true b 0 f) refl
    go true e false f = ne_eqb (bit_or a b) 0 (λ z. eqb-false b 0 f (omega (arith, z, or_add_and a b, and_le_l a b)))
    go false e t f = ne_eqb (bit_or a b) 0 (λ z. eqb-false a 0 e (omega (arith, z, or_add_and a b, and_le_r a b)))

pub xor-none : (a b : ℕ) → eqb (bit_xor a b) 0 ≡ eqb a b
xor-none a b = go (eqb a b) refl
  where
    go : (t : Bool) → eqb a b ≡ t → eqb (bit_xor a b) 0 ≡ t
    go true e = rw (eqb-true a b e) (eq-eqb (bit_xor b b) 0 (xor_self b))
    go false e = ne_eqb (bit_xor a b) 0 (λ z. eqb-false a b e (omega (arith, z, xor_add_and a b, and_le_l a b, and_le_r a b)))

-- how far a number is above another is 0 exactly where it is not above
pub none-above : (x most : ℕ) → eqb (x - most) 0 ≡ leb x most
none-above x most = go (leb x most) refl
  where
    go : (t : Bool) → leb x most ≡ t → eqb (x - most) 0 ≡ t
    go true e = eq-eqb (x - most) 0 (omega (arith, leb-true x most e))
    go false e = ne_eqb (x - most) 0 (λ z. omega (arith, z, leb-false x most e))

-- ONE PASS
pub odd_step : (t : ℕ → Bool) (i o a b c : ℕ) → eqb o 0 ≡ every i t → ((eqb a 0 && eqb b 0) && eqb c 0) ≡ t i
    → eqb (bit_or (bit_or (bit_or o a) b) c) 0 ≡ every (i + 1) t
odd_step t i o a b c h e =
    or-none (bit_or (bit_or o a) b) c
    ∙ ap (λ x. x && eqb c 0) (or-none (bit_or o a) b ∙ ap (λ x. x && eqb b 0) (or-none o a))
    ∙ grouped (eqb o 0) (eqb a 0) (eqb b 0) (eqb c 0)
    ∙ ap (λ x. x && ((eqb a 0 && eqb b 0) && eqb c 0)) h
    ∙ ap (λ x. every i t && x) e
    ∙ sym (every-step i t)
  where
    grouped : (w x y z : Bool) → (((w && x) && y) && z) ≡ (w && ((x && y) && z))
    grouped true x y z = refl
    grouped false x y z = refl

both : (x y z : Bool) → ((x && y) && z) ≡ true → (x ≡ true) × (y ≡ true) × (z ≡ true)
both true true true e = (refl, refl, refl)
both true true false e = absurd (false≢true e)
both true false z e = absurd (false≢true e)
both false y z e = absurd (false≢true e)

-- elements below p are at most its predecessor
module _ (p : ℕ) (us vs rs : List ℕ) (pos : 0 < p) (small : p < 65536) where
  abbrev most : ℕ
  most = (p + 65535) % 65536

  pub all-even : all_below p us ≡ true → all_below p vs ≡ true → length vs ≡ length us → length rs ≡ length us → agree rs ≡ true
      → every (length us) (even ((p + 65535) % 65536) us vs rs (round_of rs)) ≡ true
  unfolding even
  all-even a b m n one =
      every-all (length us) (even most us vs rs (round_of rs)) (λ i l.
      rw (le-leb (at us i) most (omega (arith, below_by p us pos a i)), le-leb (at vs i) most (omega (arith, below_by p vs pos b i)))
      (eq-eqb (at rs i) (round_of rs) (agree_at rs one i (omega (arith, l, n)))))

  pub even-all : every (length us) (even ((p + 65535) % 65536) us vs rs (round_of rs)) ≡ true → length vs ≡ length us → length rs ≡ length us
      → (all_below p us ≡ true) × (all_below p vs ≡ true) × (agree rs ≡ true)
  unfolding even
  even-all e m n =
      let each : (i : ℕ) → i < length us → (leb (at us i) most ≡ true) × (leb (at vs i) most ≡ true) × (eqb (at rs i) (round_of rs) ≡ true)
      = λ i l. both _ _ _ (every-at (length us) (even most us vs rs (round_of rs)) e i l) in (
        below-is p us (λ i l. omega (arith, leb-true (at us i) most (each i l).0)),
        below-is p vs (λ i l. omega (arith, leb-true (at vs i) most (each i (omega (arith, l, m))).1)),
        agree-is (round_of rs) rs (λ i l. eqb-true (at rs i) (round_of rs) (each i (omega (arith, l, n))).2),
      )

-- where rule 1 does not apply, p is a field's, and a field's p is in that range
pub is-field : (p : ℕ) (none : Bool) → none ≡ not (is_field p) → 0 ≡ or_when 0 1 none → is_field p ≡ true
is-field p none e z = go (is_field p) (rw e at z)
  where
    go : (b : Bool) → 0 ≡ or_when 0 1 (not b) → b ≡ true
    go true z = refl
    go false z = absurd (omega (arith, z))

pub in-range : (p : ℕ) → is_field p ≡ true → (0 < p) × (p < 65536)
in-range p e =
    five-elim p (λ q. (0 < q) × (q < 65536)) (omega arith, omega arith) (omega arith, omega arith) (omega arith, omega arith) (omega arith, omega arith)
    (omega arith, omega arith) (field-five p e)

module _ (p : ℕ) (cs xs rs : List ℕ) where
  abbrev long : Bool
  long = as_long (length cs) (length xs) (length rs)

  abbrev all : Bool
  all = every (length cs) (even ((p + 65535) % 65536) cs xs rs (round_of rs))

  pub long-is : long ≡ true → (length xs ≡ length cs) × (length rs ≡ length cs) × (length cs ≤ 64)
  long-is e =
      let h = both (eqb (length xs) (length cs)) (eqb (length rs) (length cs)) (leb (length cs) 64) e in
      (eqb-true (length xs) (length cs) h.0, eqb-true (length rs) (length cs) h.1, leb-true (length cs) 64 h.2)

  -- nothing refused is of the right lengths, and nothing of it is odd
  pub combine-long : refusal (combine_rules p cs xs rs) ≡ 0 → long ≡ true
  combine-long z =
      let k = combine-ok p cs xs rs z in
      rw (eq-eqb (length xs) (length cs) k.shares.size, eq-eqb (length rs) (length cs) k.rounds) (le-leb (length cs) 64 k.few)

  pub combine-even : refusal (combine_rules p cs xs rs) ≡ 0 → all ≡ true
  combine-even z =
      let k = combine-ok p cs xs rs z in
      let r = in-range p k.field in
      all-even p cs xs rs r.0 r.1 (below-is p cs k.constants.small) (below-is p xs (λ i l. k.shares.small i (omega (arith, l, k.shares.size))))
      k.shares.size k.rounds k.one-round

  -- and the other way, in a field
  pub combine-fine : is_field p ≡ true → long ≡ true → all ≡ true → refusal (combine_rules p cs xs rs) ≡ 0
  combine-fine f e h =
      let r = in-range p f in
      let l = long-is e in
      let k = even-all p cs xs rs r.0 r.1 h l.0 l.1 in
      combine-accepts p cs xs rs
      (record {
        field = f;
        constants = vec_of p (length cs) cs r.0 refl (ap not k.0);
        shares = vec_of p (length cs) xs r.0 l.0 (ap not k.1);
        rounds = l.1;
        few = l.2;
        one-round = k.2;
      })

  pub no-field-refused : not (is_field p) ≡ true → refusal (combine_rules p cs xs rs) ≡ 1
  no-field-refused e = rw e refl
