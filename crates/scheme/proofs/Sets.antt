-- What rows and sweeping vectors say as congruences, and that the members of a determining set fix the secrets.
-- count, rows: how many members a set has, and their rows of M
-- ARow, AVector: a reconstruction row and a sweeping vector, as document 01 has them
-- the_row: the row that the search finds
use mathlib.Core.Path.{◌≡◌, refl, ap, sym, ◌∙◌}
use mathlib.Core.Bool.{Bool, true, false≢true}
use mathlib.Core.List.{List, []}
use mathlib.Core.Logic.{◌↔◌}
use mathlib.Core.Option.{Option, none, some, get_or}
use Prim.Native.Nat.{ℕ, ◌%◌, ◌<◌}
use native.Mathlib.Nat.{mod-mod, mod-eq_of_lt}
use native.Mathlib.Omega.{arith}
use lib.ListN.{length}
use borrow.Author.Tests.{eqb-true, eq-eqb}
use Rattle.base.specs.Sum.{unit}
use Rattle.base.specs.Search.{every, Vec}
use Rattle.base.proofs.Choice.{either, and_left, and_right, and_both}
use Rattle.base.proofs.Sum.{unit-same, unit-other}
use Rattle.base.proofs.Search.{every-at, every-all, first_vec-sound, first_vec-complete}
use Rattle.field.specs.Dot.{at, dot, RowFor}
use Rattle.field.proofs.Dot.{row-fixes}
use Rattle.scheme.specs.Setup.{Setup, dim, row}
use Rattle.scheme.specs.Sets.{members, row_at, is_row, find_row, is_there, has_row, is_sweep, find_sweep, has_sweep, determines}
use Rattle.scheme.proofs.Members.{member-at}

abbrev pub count : Setup → (ℕ → Bool) → ℕ
count S X = length (members S.n X)

abbrev pub rows : Setup → (ℕ → Bool) → ℕ → ℕ → ℕ
rows S X = row_at S (members S.n X)

pub unit-mod : (p q c : ℕ) → 1 < p → unit q c % p ≡ unit q c
unit-mod p q c h =
    either q c (unit q c % p ≡ unit q c)
    (λ e. rw (e, unit-same c) (mod-eq_of_lt h))
    (λ e. rw (unit-other q c e) (mod-eq_of_lt (omega arith)))

-- ROWS
module _ (S : Setup) (ms : List ℕ) (q : ℕ) (r : List ℕ) where
  pub row-for : is_row S ms q r ≡ true → RowFor S.p (length ms) (dim S) (row_at S ms) q (at r)
  unfolding is_row
  row-for t = record { gives = λ c l. sym (mod-mod _ S.p) ∙ ap (λ x. x % S.p) (eqb-true _ _ (every-at (dim S) _ t c l)) }

  pub is-row : 1 < S.p → RowFor S.p (length ms) (dim S) (row_at S ms) q (at r) → is_row S ms q r ≡ true
  unfolding is_row
  is-row big h = every-all (dim S) _ (λ c l. eq-eqb _ _ (h.gives c l ∙ unit-mod S.p q c big))

-- SWEEPING VECTORS
module _ (S : Setup) (ms : List ℕ) (q : ℕ) (w : List ℕ) where
  pub sweep-zeros : is_sweep S ms q w ≡ true → (a : ℕ) → a < length ms → dot (dim S) (row_at S ms a) (at w) % S.p ≡ 0
  unfolding is_sweep
  sweep-zeros t a l = eqb-true _ _ (every-at (length ms) _ (and_left (every (length ms) _) (every S.l _) t) a l)

  pub sweep-begins : is_sweep S ms q w ≡ true → (c : ℕ) → c < S.l → at w c ≡ unit q c
  unfolding is_sweep
  sweep-begins t c l = eqb-true _ _ (every-at S.l _ (and_right (every (length ms) _) (every S.l _) t) c l)

  pub is-sweep : ((a : ℕ) → a < length ms → dot (dim S) (row_at S ms a) (at w) % S.p ≡ 0) → ((c : ℕ) → c < S.l → at w c ≡ unit q c)
      → is_sweep S ms q w ≡ true
  unfolding is_sweep
  is-sweep zeros begins =
      and_both (every (length ms) _) (every S.l _)
      (every-all (length ms) _ (λ a l. eq-eqb _ _ (zeros a l))) (every-all S.l _ (λ c l. eq-eqb _ _ (begins c l)))

-- WHAT THE SEARCHES FIND
pub record ARow (S : Setup) (X : ℕ → Bool) (q : ℕ) : Type 0 where
  pub entries : List ℕ
  pub ok : Vec S.p (count S X) entries
  pub is : is_row S (members S.n X) q entries ≡ true

pub record AVector (S : Setup) (X : ℕ → Bool) (q : ℕ) : Type 0 where
  pub entries : List ℕ
  pub ok : Vec S.p (dim S) entries
  pub is : is_sweep S (members S.n X) q entries ≡ true

abbrev pub the_row : Setup → (ℕ → Bool) → ℕ → List ℕ
the_row S X q = get_or (find_row S X q) []

pub there : (o : Option (List ℕ)) → is_there o ≡ true → o ≡ some (get_or o [])
there none t = absurd (false≢true t)
there (some v) t = refl

module _ (S : Setup) (X : ℕ → Bool) (q : ℕ) where
  row-found : has_row S X q ≡ true → Vec S.p (count S X) (the_row S X q) × (is_row S (members S.n X) q (the_row S X q) ≡ true)
  unfolding has_row find_row
  row-found has = first_vec-sound S.p (count S X) (is_row S (members S.n X) q) (the_row S X q) (there (find_row S X q) has)

  -- the search answers exactly where there is one
  pub row-there : (has_row S X q ≡ true) ↔ ARow S X q
  unfolding has_row find_row
  row-there = (
    λ has. let r = row-found has in record { entries = the_row S X q; ok = r.0; is = r.1 },
    λ r. ap is_there (first_vec-complete S.p (count S X) (is_row S (members S.n X) q) r.entries r.ok r.is).1,
  )

  pub sweep-there : (has_sweep S X q ≡ true) ↔ AVector S X q
  unfolding has_sweep find_sweep
  sweep-there = (
    λ has.
        let w = get_or (find_sweep S X q) [] in
        let r = first_vec-sound S.p (dim S) (is_sweep S (members S.n X) q) w (there (find_sweep S X q) has) in
        record { entries = w; ok = r.0; is = r.1 },
    λ w. ap is_there (first_vec-complete S.p (dim S) (is_sweep S (members S.n X) q) w.entries w.ok w.is).1,
  )

  pub the_row-is : has_row S X q ≡ true → RowFor S.p (count S X) (dim S) (rows S X) q (at (the_row S X q))
  the_row-is has = row-for S (members S.n X) q (the_row S X q) (row-found has).1

  pub row_of : has_row S X q ≡ true → (r : List ℕ) × Vec S.p (count S X) r × RowFor S.p (count S X) (dim S) (rows S X) q (at r)
  row_of has = (the_row S X q, (row-found has).0, the_row-is has)

  -- two vectors that give the members the same shares agree at position q
  pub same-entry : has_row S X q ≡ true → q < dim S → (v w : ℕ → ℕ)
      → ((a : ℕ) → a < count S X → dot (dim S) (rows S X a) v % S.p ≡ dot (dim S) (rows S X a) w % S.p) → v q % S.p ≡ w q % S.p
  same-entry has l v w same = row-fixes S.p (count S X) (dim S) (rows S X) q (at (the_row S X q)) l (the_row-is has) v w same

-- so where the set determines the secrets they agree at every position below ℓ
pub same-secrets : (S : Setup) (X : ℕ → Bool) → determines S X ≡ true → (v w : ℕ → ℕ)
    → ((i : ℕ) → i < S.n → X i ≡ true → dot (dim S) (row S i) v % S.p ≡ dot (dim S) (row S i) w % S.p)
    → (q : ℕ) → q < S.l → v q % S.p ≡ w q % S.p
unfolding determines
same-secrets S X det v w same q l =
    same-entry S X q (every-at S.l (has_row S X) det q l) (omega arith) v w
    (λ a m. let h = member-at S.n X a m in same (at (members S.n X) a) h.0 h.1)
