-- Why the weights give the values of the polynomial through a column's first seven shares: the barycentric form of Lagrange's row, with the tables' inverses.
-- W is the table of inverses, V that of positions, ms the members, xs the shares; x a is share a of column b, f its polynomial, node a the point of member a.
use mathlib.Core.Path.{◌≡◌, refl, sym, ap, ◌∙◌}
use mathlib.Core.List.{List}
use Prim.Native.Nat.{ℕ, zero, suc, ◌+◌, ◌-◌, ◌*◌, ◌%◌, ◌≤◌, ◌<◌}
use native.Mathlib.Nat.{mod-mod, mod-eq_of_lt}
use native.Mathlib.Omega.{arith}
use lib.Dec.{eqb}
use lib.ListN.{length}
use borrow.Author.Tests.{eq-eqb, ne_eqb}
use Rattle.base.specs.Sum.{sum, unit}
use Rattle.base.specs.Matrix.{entry}
use Rattle.base.proofs.Choice.{either}
use Rattle.base.proofs.Sum.{sum-ext}
use Rattle.field.specs.Dot.{at, dot}
use Rattle.field.proofs.Congruence.{cong-by, cong-mul, Cong, ~refl, ~trans, ~mul, ~mod}
use Rattle.field.proofs.Prime.{prime-257}
use Rattle.field.proofs.Dot.{dot-mod, dot-comm, dot-assoc, dot-unit}
use Rattle.polynomial.specs.Polynomial.{Poly, minus, basis, prod}
use Rattle.polynomial.proofs.Polynomial.{Distinct}
use Rattle.polynomial.proofs.Interpolation.{differ, lagrange-poly, lagrange-node}
use Rattle.polynomial.proofs.Barycentric.{whole, inverse-whole, inverse-basis, barycentric}
use Rattle.key_weights.specs.Inner.{away, spread}
use Rattle.key_values.specs.Inner.{Tables, Ready, curve}
use Rattle.key_weights.proofs.Lanes.{apart, spread_at}

abbrev pub node : List ℕ → ℕ → ℕ
node ms a = 7 + at ms a

-- differences of points modulo 257, from numbers that do not go below 0
minus-node : (i j : ℕ) → j ≤ 15 → minus 257 (7 + i) (7 + j) ≡ (15 - j + i + 242) + (6 + j) * 257
unfolding minus
minus-node i j l = omega arith

minus-behind : (q j : ℕ) → j ≤ 15 → minus 257 q (7 + j) ≡ (250 + q - j) + (6 + j) * 257
unfolding minus
minus-behind q j l = omega arith

drop-multiple : (u x y k : ℕ) → x ≡ y + k * 257 → u * y % 257 ≡ 1 → Cong 257 (u * x) 1
drop-multiple u x y k e h = record { eq = cong-by 257 (u * k) (u * x) (u * y) (rw e (omega arith)) ∙ h }

-- two equations that say the same
eqb_same : (a b c d : ℕ) → (a ≡ b → c ≡ d) → (c ≡ d → a ≡ b) → eqb a b ≡ eqb c d
eqb_same a b c d to from = either a b _ (λ e. eq-eqb a b e ∙ sym (eq-eqb c d (to e))) (λ h. ne_eqb a b h ∙ sym (ne_eqb c d (λ e. h (from e))))

-- the product of the differences, from those that do not go below 0
whole-behind : (ms : List ℕ) (q n : ℕ) → ((a : ℕ) → a < n → at ms a < 16) → Cong 257 (prod n (λ a. 250 + q - at ms a)) (whole 257 n (node ms) q)
unfolding prod whole
whole-behind ms q zero h = ~refl 257 1
whole-behind ms q (suc n) h =
    ~mul (whole-behind ms q n (λ a l. h a (omega arith)))
    (record { eq = sym (cong-by 257 (6 + at ms n) _ _ (minus-behind q (at ms n) (omega (arith, h n (omega arith))))) })

module _ {W V' ms xs : List ℕ} (T : Tables W V') (R : Ready ms xs) (b : ℕ) where
  -- the members' places
  place-below : (a : ℕ) → a < length ms → at ms a < 16
  place-below = R.rising.below

  abbrev pub x : ℕ → ℕ
  x = entry (length ms) xs b

  abbrev pub f : ℕ → ℕ
  f = curve ms xs b

  abbrev pub weight : ℕ → ℕ
  weight i = prod 7 (λ a. away W (at ms a) i) % 257

  -- THE POLYNOMIAL
  nodes : Distinct 257 7 (node ms)
  nodes i j l m h =
      differ (omega (arith, place-below i (omega (arith, R.seven)))) (omega (arith, place-below j (omega (arith, R.seven))))
      (λ e. apart ms R.rising i j (omega (arith, R.seven)) (omega (arith, R.seven)) h (omega (arith, e)))

  poly : Poly 257 7 f
  unfolding curve
  poly = lagrange-poly 257 prime-257 (node ms) 7 nodes x

  at-node : (a : ℕ) → a < 7 → f (node ms a) % 257 ≡ x a % 257
  unfolding curve
  at-node a l = lagrange-node 257 prime-257 (node ms) 7 nodes x a l

  -- THE WEIGHTS
  away-inverse : (i j : ℕ) → i < 16 → j < 16 → (i ≡ j → ⊥) → Cong 257 (away W j i * minus 257 (7 + i) (7 + j)) 1
  away-inverse i j l m h =
      drop-multiple (away W j i) _ (15 - j + i + 242) (6 + j) (minus-node i j (omega arith))
      (T.others (15 - j + i) (omega arith) (λ e. h (omega (arith, e))))

  own-away : (i : ℕ) → i < 16 → away W i i ≡ 1
  own-away i l = ap (at W) (omega arith) ∙ T.own

  own-weight : (a : ℕ) → a < 7 → Cong 257 (weight (at ms a) * basis 257 7 a (node ms) (node ms a)) 1
  own-weight a l =
      let m : a < length ms = omega (arith, R.seven) in
      ~trans (~mul (~mod 257 _) (~refl 257 _))
      (inverse-basis 257 (node ms) (node ms a) 7 a (λ t. away W (at ms t) (at ms a))
      (λ t n h. away-inverse (at ms a) (at ms t) (place-below a m) (place-below t (omega (arith, R.seven)))
      (λ e. apart ms R.rising t a (omega (arith, R.seven)) m h (sym e)))
      (own-away (at ms a) (place-below a m)))

  -- THE POSITIONS
  behind-inverse : (q j : ℕ) → q < 4 → j < 16 → Cong 257 (at V' (16 * q + j) * minus 257 q (7 + j)) 1
  behind-inverse q j l m = drop-multiple (at V' (16 * q + j)) _ (250 + q - j) (6 + j) (minus-behind q j (omega arith)) (T.behind q j l m)

  -- a sum over the lanes is one over the members
  abbrev pub lane : ℕ → ℕ
  lane i = spread ms 7 x i * weight i % 257

  members-sum : (u v : ℕ → ℕ) → dot 16 (λ i. spread ms 7 x i * u i) v ≡ dot 7 (λ a. x a * u (at ms a)) (λ a. v (at ms a))
  unfolding spread dot
  members-sum u v =
      sum-ext 16 _ (λ i. (u i * v i) * sum 7 (λ a. unit (at ms a) i * x a)) (λ i l. omega arith)
      ∙ dot-assoc 16 7 (λ i. u i * v i) x (λ i a. unit (at ms a) i)
      ∙ sum-ext 7 _ (λ a. x a * u (at ms a) * v (at ms a))
      (λ a l. ap (λ z. z * x a) (dot-comm 16 (λ i. u i * v i) (unit (at ms a)) ∙ dot-unit 16 (at ms a) (λ i. u i * v i) (place-below a (omega (arith, R.seven))))
      ∙ omega arith)

  -- the lanes' sum modulo 257, with the shares as values of the polynomial
  lanes-sum : (v : ℕ → ℕ) → dot 16 lane v % 257 ≡ dot 7 (λ a. f (node ms a) * weight (at ms a)) (λ a. v (at ms a)) % 257
  lanes-sum v =
      dot-mod 257 16 lane (λ i. spread ms 7 x i * weight i) v (λ i l. mod-mod _ 257)
      ∙ ap (λ z. z % 257) (members-sum weight v)
      ∙ dot-mod 257 7 _ _ _ (λ a l. cong-mul 257 (x a) (f (node ms a)) _ _ (sym (at-node a l)) refl)

  pub position : (q : ℕ) → q < 4 → dot 16 lane (λ i. at V' (16 * q + i)) % 257 * (prod 7 (λ a. 250 + q - at ms a) % 257) % 257 ≡ f q % 257
  position q l =
      cong-mul 257 _ _ _ _ (mod-mod _ 257 ∙ lanes-sum (λ i. at V' (16 * q + i)))
      (mod-mod _ 257 ∙ (whole-behind ms q 7 (λ a m. place-below a (omega (arith, R.seven)))).eq)
      ∙ ap (λ z. z % 257) (omega arith)
      ∙ sym (barycentric 257 prime-257 (node ms) 7 nodes poly q (λ a. weight (at ms a)) (λ a. at V' (16 * q + at ms a)) own-weight
      (λ a m. behind-inverse q (at ms a) l (place-below a (omega (arith, R.seven))))).eq

  -- A FURTHER SHARE, at place y: the test by weights is the test by the polynomial
  module _ (y : ℕ) (far : 7 ≤ y) (l : y < length ms) where
    other : (a : ℕ) → a < 7 → at ms y ≡ at ms a → ⊥
    other a m e = apart ms R.rising y a l (omega (arith, R.seven)) (omega (arith, far, m)) e

    away-here : (a : ℕ) → a < 7 → Cong 257 (away W (at ms a) (at ms y) * minus 257 (node ms y) (node ms a)) 1
    away-here a m = away-inverse (at ms y) (at ms a) (place-below y l) (place-below a (omega (arith, R.seven))) (other a m)

    abbrev total : ℕ
    total = dot 7 (λ a. f (node ms a) * weight (at ms a)) (λ a. away W (at ms a) (at ms y))

    by_whole : Cong 257 (f (node ms y)) (whole 257 7 (node ms) (node ms y) * total)
    by_whole =
        barycentric 257 prime-257 (node ms) 7 nodes poly (node ms y) (λ a. weight (at ms a)) (λ a. away W (at ms a) (at ms y)) own-weight away-here

    inverse : Cong 257 (weight (at ms y) * whole 257 7 (node ms) (node ms y)) 1
    inverse = ~trans (~mul (~mod 257 _) (~refl 257 _)) (inverse-whole 257 (node ms) (node ms y) 7 (λ a. away W (at ms a) (at ms y)) away-here)

    lane-at : (a : ℕ) → a < 7 → lane (at ms a) % 257 ≡ (f (node ms a) * weight (at ms a)) % 257
    lane-at a m =
        mod-mod _ 257 ∙ ap (λ z. z * weight (at ms a) % 257) (spread_at ms R.rising x 7 a R.seven m)
        ∙ cong-mul 257 (x a) (f (node ms a)) _ _ (sym (at-node a m)) refl

    abbrev pub wanted : ℕ
    wanted = dot 7 (λ a. lane (at ms a)) (λ a. away W (at ms a) (at ms y)) % 257

    wanted-total : wanted ≡ total % 257
    wanted-total = dot-mod 257 7 _ _ _ lane-at

    fits : x y % 257 ≡ x y
    fits = mod-eq_of_lt (R.small _)

    to-curve : x y * weight (at ms y) % 257 ≡ wanted → f (node ms y) % 257 ≡ x y
    to-curve e =
        let N = whole 257 7 (node ms) (node ms y) in
        by_whole.eq ∙ cong-mul 257 N N total (x y * weight (at ms y)) refl (sym (e ∙ wanted-total)) ∙ ap (λ z. z % 257) (omega arith)
        ∙ cong-mul 257 (x y) (x y) (weight (at ms y) * N) 1 refl inverse.eq ∙ ap (λ z. z % 257) (omega arith) ∙ fits

    from-curve : f (node ms y) % 257 ≡ x y → x y * weight (at ms y) % 257 ≡ wanted
    from-curve e =
        let N = whole 257 7 (node ms) (node ms y) in
        let w = weight (at ms y) in
        cong-mul 257 (x y) (f (node ms y)) w w (fits ∙ sym e) refl
        ∙ cong-mul 257 (f (node ms y)) (N * total) w w by_whole.eq refl ∙ ap (λ z. z % 257) (omega arith)
        ∙ cong-mul 257 (w * N) 1 total total inverse.eq refl ∙ ap (λ z. z % 257) (omega arith) ∙ sym wanted-total

    pub same_test : eqb (x y * weight (at ms y) % 257) wanted ≡ eqb (f (node ms y) % 257) (x y)
    same_test = eqb_same _ _ _ _ to-curve from-curve
