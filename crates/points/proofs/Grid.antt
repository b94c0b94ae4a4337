-- The laws of the points matrix as it is worked out, and of the table of its call without the last rule.
use Prim.Native.Nat.{ℕ, ◌+◌, ◌*◌, ◌/◌, ◌%◌, ◌≤◌, ◌<◌}
use mathlib.Core.Path.{◌≡◌, refl, ◌∙◌}
use mathlib.Core.Bool.{true}
use mathlib.Core.List.{List, []}
use mathlib.Core.Logic.{◌≢◌, ⊎_elim}
use native.Mathlib.Numerals.{add-one}
use native.Mathlib.Omega.{arith}
use lib.Dec.{eqb, ltb}
use lib.ListN.{length, get_or}
use Rattle.base.specs.Choice.{pick}
use Rattle.base.specs.Rules.{or_when, refusal}
use Rattle.base.specs.Fill.{tab, filled}
use Rattle.base.specs.Matrix.{flat}
use Rattle.base.proofs.Fill.{length-filled, get_d-filled, filled-all, tab-ext}
use Rattle.base.proofs.Matrix.{place_at}
use Rattle.field.proofs.Congruence.{mul-mod-mod, mod-mul-mod}
use Rattle.field.specs.Fields.{is_field}
use Rattle.field.proofs.Fields.{field-five}
use Rattle.polynomial.specs.Polynomial.{minus, basis, lagrange, point}
use Rattle.scheme.specs.Setup.{Setup, dim}
use Rattle.scheme.specs.Calls.{setup_rules, points_rules}
use Rattle.points.specs.Inner.{zeros, weight_of, weights_of, points_row, row_entry, HasRows}

-- a basis begins at 1 and takes one factor more, reduced
pub basis-none : (p j : ℕ) (a : ℕ → ℕ) (x : ℕ) → basis p 0 j a x ≡ 1
unfolding basis
basis-none p j a x = refl

pub basis-turn : (p n j : ℕ) (a : ℕ → ℕ) (x : ℕ)
    → basis p n j a x % p * (pick (eqb n j) 1 (minus p x (a n)) % p) % p ≡ basis p (n + 1) j a x % p
unfolding basis
basis-turn p n j a x = rw (add-one n) (mul-mod-mod _ _ p ∙ mod-mul-mod _ _ p)

-- an entry of the local weights, and what it gives
pub weights-at : (p d j : ℕ) → d ≤ 16 → j < d → get_or (weights_of p d) j 0 ≡ weight_of p d j
unfolding zeros weights_of
weights-at p d j hd hj = get_d-filled (weight_of p d) d zeros j 0 hj (omega arith)

pub weighed : (p d i j : ℕ) → weight_of p d j * (basis p d j (λ t. t) (d + i) % p) % p ≡ point p d i j
unfolding point lagrange weight_of
weighed p d i j = mul-mod-mod _ _ p

-- the n rows, and that their entries written flat are the matrix
module _ (p d n : ℕ) (z : List (List ℕ)) (small : d ≤ 16) (room : n ≤ length z) where
  row_at : (i : ℕ) → i < n → get_or (filled (points_row p d) n z) i [] ≡ filled (point p d i) d zeros
  unfolding points_row
  row_at i h = get_d-filled (points_row p d) n z i [] h (omega arith)

  pub has-rows : HasRows d n (filled (points_row p d) n z)
  unfolding zeros
  has-rows = record {
    count = omega (arith, length-filled (points_row p d) n z);
    wide = λ i h. rw (row_at i h) (omega (arith, length-filled (point p d i) d zeros));
  }

  rows_at : (i j : ℕ) → i < n → j < d → row_entry (filled (points_row p d) n z) i j ≡ point p d i j
  unfolding zeros
  rows_at i j h l = rw (row_at i h) (get_d-filled (point p d i) d zeros j 0 l (omega arith))

  pub rows-flat : (x : List ℕ) → length x ≡ n * d
      → filled (flat d (row_entry (filled (points_row p d) n z))) (n * d) x ≡ tab (n * d) (flat d (point p d))
  rows-flat x e =
      filled-all _ (n * d) x e
      ∙ tab-ext (n * d) _ (flat d (point p d)) (λ t h. let w = place_at d n t h in rows_at (t / d) (t % d) w.1 w.2)

-- of the five, what is none of four is the fifth
pub largest : (p : ℕ) → is_field p ≡ true → p ≢ 2 → p ≢ 7 → p ≢ 251 → p ≢ 257 → p ≡ 65521
largest p t i j k l =
    ⊎_elim (λ e. absurd (i e)) (⊎_elim (λ e. absurd (j e)) (⊎_elim (λ e. absurd (k e)) (⊎_elim (λ e. absurd (l e)) (λ e. e)))) (field-five p t)

-- the rules up to 3, and then 15, are the whole table
pub whole-table : (S : Setup) (early r d : ℕ) → early ≡ refusal (setup_rules S (length S.M)) → d ≡ dim S → r ≡ or_when early 15 (ltb S.p (d + S.n))
    → r ≡ refusal (points_rules S)
whole-table S early r d a b c = rw (c, a, b) refl
