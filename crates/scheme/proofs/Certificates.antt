-- What a program has to have in hand to name the answer of a search: with these laws no search is ever run.
-- A certificate is a vector as a function of its places, and is taken modulo p: that is what an elimination shows.
-- KindIs: what the judgement of a set at a position says
use mathlib.Core.Path.{◌≡◌, refl, ap, sym, ◌∙◌}
use mathlib.Core.Bool.{Bool, true, false, not, false≢true}
use mathlib.Core.List.{List}
use mathlib.Core.Logic.{◌↔◌, ◌⊎◌, inl, inr}
use Prim.Native.Nat.{ℕ, ◌+◌, ◌%◌, ◌<◌}
use native.Mathlib.Nat.{mod-mod, mod-lt, mod-eq_of_lt, zero-mod, add-zero}
use native.Mathlib.Omega.{arith}
use lib.ListN.{length, take}
use lib.Seq.{ext_get_or, get_or-take, length-take-le}
use borrow.Author.Tests.{eqb-true, eq-eqb, lt-ltb, le-ltb}
use Rattle.base.specs.Rules.{Answer, given}
use Rattle.base.specs.Sum.{unit}
use Rattle.base.specs.Search.{first_vec, Vec}
use Rattle.base.specs.Fill.{tab}
use Rattle.base.proofs.Sum.{sum-split, unit-same}
use Rattle.base.proofs.Search.{every-at, every-all, first_found, first-missing, first_vec-sound, first_vec-complete, first_vec-none}
use Rattle.base.proofs.Fill.{get_d-tab, tab-vec, tab-is}
use Rattle.field.proofs.Congruence.{cong-add}
use Rattle.field.specs.Dot.{at, dot, RowFor}
use Rattle.field.proofs.Dot.{dot-comm, dot-ext, dot-mod, dot-mod-right, dot-unit, dot-zero, dot-assoc, row_reads}
use Rattle.scheme.specs.Setup.{Setup, dim}
use Rattle.scheme.specs.Answers.{is_a_row, is_a_vector, is_neither, undetermined, inconsistent}
use Rattle.scheme.specs.Sets.{members, has_row, has_sweep, row_steps, kind, determines}
use Rattle.scheme.specs.Opening.{gives, opened_by, opening}
use Rattle.scheme.proofs.Sets.{count, rows, unit-mod, is-row, is-sweep, sweep-zeros, sweep-begins, ARow, AVector, row-there, sweep-there, the_row, the_row-is, same-entry}

pub is_false : (b : Bool) → (b ≡ true → ⊥) → b ≡ false
is_false true h = absurd (h refl)
is_false false h = refl

zero_right : (p d : ℕ) (u v : ℕ → ℕ) → ((j : ℕ) → j < d → v j % p ≡ 0) → dot d u v % p ≡ 0
zero_right p d u v h = ap (λ x. x % p) (dot-comm d u v) ∙ dot-zero p d v u h

-- a vector's residues, as a list
pub residues : ℕ → ℕ → (ℕ → ℕ) → List ℕ
residues p d v = tab d (λ c. v c % p)

pub residues-vec : (p d : ℕ) (v : ℕ → ℕ) → 0 < p → Vec p d (residues p d v)
unfolding residues
residues-vec p d v h = tab-vec p d _ (λ c l. mod-lt (v c) h)

pub residues-at : (p d : ℕ) (v : ℕ → ℕ) (c : ℕ) → c < d → at (residues p d v) c ≡ v c % p
unfolding residues
residues-at p d v c l = get_d-tab d _ 0 c l

pub residues-mod : (p d : ℕ) (v : ℕ → ℕ) (c : ℕ) → c < d → at (residues p d v) c % p ≡ v c % p
residues-mod p d v c l = ap (λ x. x % p) (residues-at p d v c l) ∙ mod-mod (v c) p

-- a vector that begins with the unit vector at q reads entry q off a vector that is 0 from place l on
reads : (p l e q : ℕ) (u w : ℕ → ℕ) → q < l → ((j : ℕ) → j < e → u (l + j) % p ≡ 0) → ((j : ℕ) → j < l → w j ≡ unit q j)
    → dot (l + e) u w % p ≡ u q % p
unfolding dot
reads p l e q u w h zeros begins =
    ap (λ x. x % p) (sum-split l e _)
    ∙ cong-add p _ (u q) _ 0
    (ap (λ x. x % p) (dot-ext l u w (unit q) begins ∙ dot-comm l u (unit q) ∙ dot-unit l q u h))
    (dot-zero p e (λ j. u (l + j)) (λ j. w (l + j)) zeros ∙ sym (zero-mod p))
    ∙ ap (λ x. x % p) (add-zero (u q))

module _ (S : Setup) (X : ℕ → Bool) (q : ℕ) where
  -- ROWS
  pub row-in-hand : 1 < S.p → (r : ℕ → ℕ) → RowFor S.p (count S X) (dim S) (rows S X) q r → has_row S X q ≡ true
  row-in-hand big r h =
      (row-there S X q).1 (record {
        entries = residues S.p (count S X) r;
        ok = residues-vec S.p (count S X) r (omega arith);
        is = is-row S (members S.n X) q _ big
            (record { gives = λ c l. dot-mod S.p (count S X) _ r _ (residues-mod S.p (count S X) r) ∙ h.gives c l });
      })

  -- a vector that every member's row takes to 0, and that is not 0 at q
  pub no_row : (w : ℕ → ℕ) → q < dim S → ((a : ℕ) → a < count S X → dot (dim S) (rows S X a) w % S.p ≡ 0) → (w q % S.p ≡ 0 → ⊥)
      → has_row S X q ≡ false
  no_row w l zeros ne = is_false (has_row S X q) (λ has. ne (is_zero has))
    where
      is_zero : has_row S X q ≡ true → w q % S.p ≡ 0
      is_zero has =
          sym (row_reads S.p (count S X) (dim S) (rows S X) q (at (the_row S X q)) l (the_row-is S X q has) w)
          ∙ zero_right S.p (count S X) (at (the_row S X q)) (λ a. dot (dim S) (rows S X a) w) zeros

  -- SWEEPING VECTORS
  pub sweep-in-hand : 1 < S.p → (w : ℕ → ℕ) → ((a : ℕ) → a < count S X → dot (dim S) (rows S X a) w % S.p ≡ 0)
      → ((c : ℕ) → c < S.l → w c % S.p ≡ unit q c % S.p) → has_sweep S X q ≡ true
  sweep-in-hand big w zeros begins =
      (sweep-there S X q).1 (record {
        entries = residues S.p (dim S) w;
        ok = residues-vec S.p (dim S) w (omega arith);
        is = is-sweep S (members S.n X) q _
            (λ a l. dot-mod-right S.p (dim S) (rows S X a) _ w (residues-mod S.p (dim S) w) ∙ zeros a l)
            (λ c l. residues-at S.p (dim S) w c (omega arith) ∙ begins c l ∙ unit-mod S.p q c big);
      })

  pub zeros_of : (v : AVector S X q) (a : ℕ) → a < count S X → dot (dim S) (rows S X a) (at v.entries) % S.p ≡ 0
  zeros_of v = sweep-zeros S (members S.n X) q v.entries v.is

  pub begins-of : (v : AVector S X q) (c : ℕ) → c < S.l → at v.entries c ≡ unit q c
  begins-of v = sweep-begins S (members S.n X) q v.entries v.is

  -- a combination of the members' rows that is 0 at the columns from ℓ on, and not 0 at column q
  pub no-sweep : (y : ℕ → ℕ) → q < S.l → ((j : ℕ) → j < S.e → dot (count S X) y (λ a. rows S X a (S.l + j)) % S.p ≡ 0)
      → (dot (count S X) y (λ a. rows S X a q) % S.p ≡ 0 → ⊥) → has_sweep S X q ≡ false
  no-sweep y l zeros ne = is_false (has_sweep S X q) (λ has. ne (is_zero ((sweep-there S X q).0 has)))
    where
      is_zero : AVector S X q → dot (count S X) y (λ a. rows S X a q) % S.p ≡ 0
      is_zero v =
          sym (reads S.p S.l S.e q (λ c. dot (count S X) y (λ a. rows S X a c)) (at v.entries) l zeros (begins-of v))
          ∙ ap (λ x. x % S.p) (sym (dot-assoc (count S X) (dim S) y (at v.entries) (rows S X)))
          ∙ zero_right S.p (count S X) y _ (zeros_of v)

  -- a row and a sweeping vector never exist together
  pub never_both : 1 < S.p → q < S.l → has_row S X q ≡ true → has_sweep S X q ≡ true → ⊥
  never_both big l has swept =
      let v = (sweep-there S X q).0 swept in
      let one : at v.entries q ≡ 1 = begins-of v q l ∙ unit-same q in
      let ne : at v.entries q % S.p ≡ 0 → ⊥ = λ z. omega (arith, sym (mod-eq_of_lt big) ∙ ap (λ x. x % S.p) (sym one) ∙ z) in
      false≢true (sym (no_row (at v.entries) (omega arith) (zeros_of v) ne) ∙ has)

  -- THE JUDGEMENT
  pub kind_row : has_row S X q ≡ true → kind S X q ≡ is_a_row (row_steps S X q)
  unfolding kind
  kind_row r = rw r

  pub kind-vector : 1 < S.p → q < S.l → has_sweep S X q ≡ true → kind S X q ≡ is_a_vector (row_steps S X q)
  unfolding kind
  kind-vector big l v = rw (is_false (has_row S X q) (λ r. never_both big l r v), v)

  pub kind-neither : has_row S X q ≡ false → has_sweep S X q ≡ false → kind S X q ≡ is_neither (row_steps S X q)
  unfolding kind
  kind-neither r v = rw (r, v)

-- "row, vector or neither, each exactly when that is the fact"
pub record KindIs (S : Setup) (X : ℕ → Bool) (q : ℕ) : Type 0 where
  pub one : (kind S X q ≡ is_a_row (row_steps S X q)) ⊎ ((kind S X q ≡ is_a_vector (row_steps S X q)) ⊎ (kind S X q ≡ is_neither (row_steps S X q)))
  pub row : (kind S X q ≡ is_a_row (row_steps S X q)) ↔ ARow S X q
  pub vector : (kind S X q ≡ is_a_vector (row_steps S X q)) ↔ AVector S X q
  pub neither : (kind S X q ≡ is_neither (row_steps S X q)) ↔ ((ARow S X q → ⊥) × (AVector S X q → ⊥))

-- two answers that are one have the same first value
same_first : (a b c : Answer) → a ≡ b → a ≡ c → at b.values 0 ≡ at c.values 0
same_first a b c e f = ap (λ x. at x.values 0) (sym e ∙ f)

pub kind-is : (S : Setup) (X : ℕ → Bool) (q : ℕ) → 1 < S.p → q < S.l → KindIs S X q
kind-is S X q big l = go (has_row S X q) refl (has_sweep S X q) refl
  where
    not_there : has_row S X q ≡ false → ARow S X q → ⊥
    not_there e r = false≢true (sym e ∙ (row-there S X q).1 r)

    not-swept : has_sweep S X q ≡ false → AVector S X q → ⊥
    not-swept e v = false≢true (sym e ∙ (sweep-there S X q).1 v)

    go : (r : Bool) → has_row S X q ≡ r → (v : Bool) → has_sweep S X q ≡ v → KindIs S X q
    go true er v ev =
        let k = kind_row S X q er in
        let r = (row-there S X q).0 er in
        record {
          one = inl k;
          row = (λ e. r, λ r. k);
          vector = (λ e. absurd (omega (arith, same_first _ _ _ k e)), λ v. absurd (never_both S X q big l er ((sweep-there S X q).1 v)));
          neither = (λ e. absurd (omega (arith, same_first _ _ _ k e)), λ n. absurd (n.0 r));
        }
    go false er true ev =
        let k = kind-vector S X q big l ev in
        let v = (sweep-there S X q).0 ev in
        record {
          one = inr (inl k);
          row = (λ e. absurd (omega (arith, same_first _ _ _ k e)), λ r. absurd (not_there er r));
          vector = (λ e. v, λ v. k);
          neither = (λ e. absurd (omega (arith, same_first _ _ _ k e)), λ n. absurd (n.1 v));
        }
    go false er false ev =
        let k = kind-neither S X q er ev in
        record {
          one = inr (inr k);
          row = (λ e. absurd (omega (arith, same_first _ _ _ k e)), λ r. absurd (not_there er r));
          vector = (λ e. absurd (omega (arith, same_first _ _ _ k e)), λ v. absurd (not-swept ev v));
          neither = (λ e. (not_there er, not-swept ev), λ n. k);
        }

-- OPENINGS
module _ (S : Setup) (X : ℕ → Bool) (xs : List ℕ) where
  pub gives_at : (v : List ℕ) → gives S (members S.n X) xs v ≡ true → (a : ℕ) → a < count S X → dot (dim S) (rows S X a) (at v) % S.p ≡ at xs a
  unfolding gives
  gives_at v g a l = eqb-true _ _ (every-at (count S X) _ g a l)

  pub gives_all : (v : List ℕ) → ((a : ℕ) → a < count S X → dot (dim S) (rows S X a) (at v) % S.p ≡ at xs a) → gives S (members S.n X) xs v ≡ true
  unfolding gives
  gives_all v h = every-all (count S X) _ (λ a l. eq-eqb _ _ (h a l))

  -- every vector that gives the shares of a determining set begins with the same ℓ entries
  pub opening-any : determines S X ≡ true → (v w : List ℕ) → Vec S.p (dim S) v → Vec S.p (dim S) w
      → gives S (members S.n X) xs v ≡ true → gives S (members S.n X) xs w ≡ true → take S.l v ≡ take S.l w
  unfolding determines
  opening-any det v w okv okw gv gw = ext_get_or 0 (take S.l v) (take S.l w) (long v okv ∙ sym (long w okw)) (λ q m. same q (omega (arith, long v okv)))
    where
      long : (u : List ℕ) → Vec S.p (dim S) u → length (take S.l u) ≡ S.l
      long u ok = length-take-le S.l u (omega (arith, ok.size))

      same : (q : ℕ) → q < S.l → at (take S.l v) q ≡ at (take S.l w) q
      same q l =
          get_or-take S.l v q 0 l
          ∙ sym (mod-eq_of_lt (okv.small q (omega arith)))
          ∙ same-entry S X q (every-at S.l (has_row S X) det q l) (omega arith) (at v) (at w) (λ a n. gives_at v gv a n ∙ sym (gives_at w gw a n))
          ∙ mod-eq_of_lt (okw.small q (omega arith))
          ∙ sym (get_or-take S.l w q 0 l)

  -- determined: what the search for a vector gives
  pub by-search : determines S X ≡ true → opening S X xs ≡ opened_by S.l (first_vec S.p (dim S) (gives S (members S.n X) xs))
  unfolding opening determines
  by-search det = rw (first-missing _ S.l (λ q l. ap not (every-at S.l (has_row S X) det q l)), le-ltb S.l S.l (omega arith))

  -- determined, and a vector that gives every share
  pub opened-in-hand : determines S X ≡ true → (v : List ℕ) → Vec S.p (dim S) v → gives S (members S.n X) xs v ≡ true
      → opening S X xs ≡ given (take S.l v)
  opened-in-hand det v ok g =
      let f = first_vec-complete S.p (dim S) (gives S (members S.n X) xs) v ok g in
      let s = first_vec-sound S.p (dim S) (gives S (members S.n X) xs) f.0 f.1 in
      by-search det ∙ ap (opened_by S.l) f.1 ∙ ap given (opening-any det f.0 v s.0 ok s.1 g)

  -- the same from a vector modulo p
  pub opened-by : 0 < S.p → determines S X ≡ true → (v : ℕ → ℕ) → ((a : ℕ) → a < count S X → dot (dim S) (rows S X a) v % S.p ≡ at xs a)
      → opening S X xs ≡ given (tab S.l (λ q. v q % S.p))
  opened-by pos det v h = opened-in-hand det u ok all ∙ ap given (tab-is S.l _ 0 (take S.l u) (length-take-le S.l u (omega (arith, ok.size))) each)
    where
      u : List ℕ
      u = residues S.p (dim S) v

      ok : Vec S.p (dim S) u
      ok = residues-vec S.p (dim S) v pos

      all : gives S (members S.n X) xs u ≡ true
      all = gives_all u (λ a l. dot-mod-right S.p (dim S) (rows S X a) (at u) v (residues-mod S.p (dim S) v) ∙ h a l)

      each : (q : ℕ) → q < S.l → at (take S.l u) q ≡ v q % S.p
      each q l = get_or-take S.l u q 0 l ∙ residues-at S.p (dim S) v q (omega arith)

  -- determined, and a combination of the members' rows that is 0 everywhere, and of the shares that is not 0
  pub inconsistent-in-hand : determines S X ≡ true → (y : ℕ → ℕ) → ((c : ℕ) → c < dim S → dot (count S X) y (λ a. rows S X a c) % S.p ≡ 0)
      → (dot (count S X) y (at xs) % S.p ≡ 0 → ⊥) → opening S X xs ≡ inconsistent
  inconsistent-in-hand det y zeros ne =
      by-search det ∙ ap (opened_by S.l) (first_vec-none S.p (dim S) (gives S (members S.n X) xs) (λ v ok g. ne (is_zero v g)))
    where
      is_zero : (v : List ℕ) → gives S (members S.n X) xs v ≡ true → dot (count S X) y (at xs) % S.p ≡ 0
      is_zero v g =
          dot-mod-right S.p (count S X) y (at xs) (λ a. dot (dim S) (rows S X a) (at v)) (λ a l. ap (λ x. x % S.p) (sym (gives_at v g a l)) ∙ mod-mod _ S.p)
          ∙ ap (λ x. x % S.p) (dot-assoc (count S X) (dim S) y (at v) (rows S X))
          ∙ dot-zero S.p (dim S) _ (at v) zeros

  -- the lowest position with no row
  pub undetermined-in-hand : (q : ℕ) → q < S.l → ((j : ℕ) → j < q → has_row S X j ≡ true) → has_row S X q ≡ false → opening S X xs ≡ undetermined q
  unfolding opening
  undetermined-in-hand q l below lacks = rw (first_found _ S.l q l (ap not lacks) (λ j m. ap not (below j m)), lt-ltb q S.l l)
