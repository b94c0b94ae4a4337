-- From what the functions write to the polynomials' values: the lanes are the weights and the shares times the weights, so the positions are the
-- polynomials' values at 0 to 3, and the tests of the further shares are tests against their values.
use mathlib.Core.Path.{◌≡◌, refl, sym, ap, ◌∙◌}
use mathlib.Core.Bool.{Bool}
use mathlib.Core.List.{List, []}
use Prim.Native.Nat.{ℕ, ◌+◌, ◌*◌, ◌/◌, ◌%◌, ◌≤◌, ◌<◌}
use native.Mathlib.Omega.{arith}
use lib.Dec.{eqb}
use lib.ListN.{length, get_or}
use Rattle.base.specs.Fill.{tab}
use Rattle.base.specs.Matrix.{entry}
use Rattle.base.proofs.Fill.{get_d-tab, tab-ext}
use Rattle.field.specs.Dot.{at, dot}
use Rattle.field.proofs.Dot.{dot-same}
use Rattle.polynomial.specs.Polynomial.{prod}
use Rattle.key_weights.specs.Inner.{away, behind, spread, scaled_at}
use Rattle.key_values.specs.Inner.{Tables, Ready, read_at, expected, agrees, AllAgreed, all, differs, curve, Interpolates}
use Rattle.key_values.proofs.Curve.{lane, weight, position, wanted, same_test}

-- tests that answer alike
other-tests : {k : ℕ} {t u : ℕ → ℕ → Bool} {r : Bool} → AllAgreed k t r → ((b y : ℕ) → b < 4 → 7 ≤ y → y < k → u b y ≡ t b y) → AllAgreed k u r
other-tests (all h) e = all (λ b y l m n. e b y l m n ∙ h b y l m n)
other-tests (differs b y l m n h) e = differs b y l m n (e b y l m n ∙ h)

module _ {W V' ms xs weights products : List ℕ} {scaled : List (List ℕ)} (T : Tables W V') (R : Ready ms xs)
    (ws : weights ≡ tab 16 (λ i. prod 7 (λ a. away W (at ms a) i) % 257))
    (ps : products ≡ tab 16 (λ c. prod 7 (λ a. behind (at ms a) c) % 257))
    (ss : scaled ≡ tab 4 (scaled_at ms xs (length ms) weights)) where
  weight-at : (b i : ℕ) → i < 16 → at weights i ≡ weight T R b i
  weight-at b i l = ap (λ z. get_or z i 0) ws ∙ get_d-tab 16 (λ i. prod 7 (λ a. away W (at ms a) i) % 257) 0 i l

  lane-at : (b i : ℕ) → b < 4 → i < 16 → at (get_or scaled b []) i ≡ lane T R b i
  lane-at b i l m =
      ap (λ z. at (get_or z b []) i) ss ∙ ap (λ z. at z i) (get_d-tab 4 (scaled_at ms xs (length ms) weights) [] b l)
      ∙ get_d-tab 16 (λ i. spread ms 7 (λ a. at xs (b * length ms + a)) i * at weights i % 257) 0 i m
      ∙ ap (λ z. spread ms 7 (entry (length ms) xs b) i * z % 257) (weight-at b i m)

  read_is : (c : ℕ) → c < 16 → read_at scaled V' products c ≡ curve ms xs (c / 4) (c % 4) % 257
  read_is c l =
      let b = c / 4 in
      let q = c % 4 in
      ap (λ z. z % 257 * at products c % 257) (dot-same 16 (at (get_or scaled b [])) (lane T R b) _ _ (λ i m. lane-at b i (omega arith) m) (λ i m. refl))
      ∙ ap (λ z. dot 16 (lane T R b) (λ i. at V' (16 * q + i)) % 257 * z % 257)
      (ap (λ z. get_or z c 0) ps ∙ get_d-tab 16 (λ c. prod 7 (λ a. behind (at ms a) c) % 257) 0 c l)
      ∙ position T R b q (omega arith)

  test-is : (b y : ℕ) → b < 4 → 7 ≤ y → y < length ms
      → eqb (curve ms xs b (7 + at ms y) % 257) (entry (length ms) xs b y) ≡ agrees (tab 16 (expected W ms (get_or scaled b []))) weights xs (b * length ms) ms y
  test-is b y l far m =
      let i = at ms y in
      let below : i < 16 = R.rising.below y m in
      sym (same_test T R b y far m)
      ∙ ap (λ z. eqb (entry (length ms) xs b y * z % 257) (wanted T R b y far m)) (sym (weight-at b i below))
      ∙ ap (eqb (entry (length ms) xs b y * at weights i % 257))
      (ap (λ z. z % 257) (dot-same 7 _ _ _ _ (λ a n. sym (lane-at b (at ms a) l (R.rising.below a (omega (arith, R.seven))))) (λ a n. refl))
      ∙ sym (get_d-tab 16 (expected W ms (get_or scaled b [])) 0 i below))

  pub interpolates : {values : List ℕ} {r : Bool} → values ≡ tab 16 (read_at scaled V' products)
      → AllAgreed (length ms) (λ b. agrees (tab 16 (expected W ms (get_or scaled b []))) weights xs (b * length ms) ms) r
      → Interpolates ms xs r values
  interpolates e h = record { positions = e ∙ tab-ext 16 _ _ read_is; further = other-tests h test-is }
