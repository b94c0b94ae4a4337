-- What the loops over lanes need: one factor and one share more, and that lanes hold field elements.
-- lanes-below: lanes that are reduced
-- lanes_are, columns_are: sixteen lanes, and four columns, that a function gives
-- away_part: sixteen inverses in a row
-- among: one of the first seven members
-- prod-next: a product modulo 257, one factor more; factors-none, factors-next: so in all lanes
-- apart: different members are different depots
-- spread_at, spread-other: the share at a member's place, and 0 at every other
-- place_none, place-next: one share more at its place
-- placed_below, scaled-column: a column of shares, and these times the weights
use mathlib.Core.Path.{◌≡◌, refl, sym, ap, ◌∙◌}
use mathlib.Core.List.{List, []}
use Prim.Native.Nat.{ℕ, zero, suc, ◌+◌, ◌-◌, ◌*◌, ◌%◌, ◌≤◌, ◌<◌}
use native.Mathlib.Nat.{mod-lt}
use native.Mathlib.Decide.{dec_lt}
use native.Mathlib.Numerals.{add-one}
use native.Mathlib.Omega.{arith}
use lib.ListN.{length, get_or, set, length-set, replicate, take, drop}
use Rattle.std.proofs.lemmas.List.{get_or-take, get_or-drop, length-take, length-take-le, length-drop}
use lib.Seq.{get_or-set_same, get_or-set_other}
use Rattle.base.specs.Sum.{sum, unit}
use Rattle.base.specs.Fill.{tab, tab_from}
use Rattle.base.specs.Matrix.{Below}
use Rattle.base.proofs.Choice.{either}
use Rattle.base.proofs.Sum.{unit-same, unit-other}
use Rattle.base.proofs.Fill.{length-tab, get_d-tab, tab-is, tab-ext}
use Rattle.base.proofs.Matrix.{below-tab}
use Rattle.field.specs.Dot.{at, dot}
use Rattle.field.proofs.Congruence.{mod-mul-mod}
use Rattle.field.proofs.Dot.{dot-step, dot-same, dot-unit, dot-none}
use Rattle.polynomial.specs.Polynomial.{prod}
use Rattle.key_weights.specs.Inner.{Depots, spread, away, placed_at, scaled_at}

-- lanes below 257
pub lanes-below : (f : ℕ → ℕ) (l : List ℕ) → l ≡ tab 16 (λ i. f i % 257) → Below 257 l
lanes-below f l e = rw e (below-tab 257 16 (λ i. f i % 257) (omega arith) (λ k m. mod-lt (f k) (omega arith)))

-- lanes that a function gives
pub lanes_are : (f : ℕ → ℕ) (l : List ℕ) → length l ≡ 16 → ((k : ℕ) → k < 16 → at l k ≡ f k) → l ≡ tab 16 f
lanes_are f l size each = tab-is 16 f 0 l size each

-- sixteen of the inverses, from that at which depot 0 stands
pub away_part : (t : List ℕ) (j : ℕ) → length t ≡ 31 → j < 16 → take ((15 - j + 16) - (15 - j)) (drop (15 - j) t) ≡ tab 16 (away t j)
away_part t j size small =
    let s : (15 - j + 16) - (15 - j) ≡ 16 = omega arith in
    lanes_are (away t j) _ (rw s (length-take-le 16 (drop (15 - j) t) (omega (arith, length-drop (15 - j) t))))
    (λ k l. rw s (get_or-take 16 (drop (15 - j) t) k 0 l ∙ get_or-drop (15 - j) t k 0))

-- a member among the first seven
pub among : (ms : List ℕ) (a : ℕ) → a < length (take 7 ms) → at (take 7 ms) a ≡ at ms a
among ms a l = get_or-take 7 ms a 0 (omega (arith, l, length-take 7 ms))

-- FACTORS
pub prod-next : (n : ℕ) (f : ℕ → ℕ) → (prod n f % 257 * f n) % 257 ≡ prod (n + 1) f % 257
unfolding prod
prod-next n f = rw (add-one n) (mod-mul-mod (prod n f) (f n) 257)

pub factors-none : (f : ℕ → ℕ → ℕ) → replicate 16 1 ≡ tab 16 (λ i. prod 0 (λ a. f a i) % 257)
unfolding prod tab tab_from
factors-none f = refl

pub factors-next : (n : ℕ) (f : ℕ → ℕ → ℕ) (x w : List ℕ) → x ≡ tab 16 (λ i. prod n (λ a. f a i) % 257) → w ≡ tab 16 (f n)
    → tab 16 (λ i. at x i * at w i % 257) ≡ tab 16 (λ i. prod (n + 1) (λ a. f a i) % 257)
factors-next n f x w e h =
    tab-ext 16 _ _ (λ i l. ap (λ (z : List ℕ). at z i * at w i % 257) e ∙ ap (λ (z : List ℕ). at (tab 16 (λ i. prod n (λ a. f a i) % 257)) i * at z i % 257) h
    ∙ rw (get_d-tab 16 (λ i. prod n (λ a. f a i) % 257) 0 i l, get_d-tab 16 (f n) 0 i l) (prod-next n (λ a. f a i)))

-- SHARES
pub apart : (ms : List ℕ) {k : ℕ} → Depots k ms → (a b : ℕ) → a < k → b < k → (a ≡ b → ⊥) → at ms a ≡ at ms b → ⊥
apart ms D a b l m h e = go (dec_lt a b)
  where
    go : Dec (a < b) → ⊥
    go (yes j) = omega (arith, D.rise a b j m, e)
    go (no j) = omega (arith, D.rise b a (omega (arith, h, j)) l, e)

module _ (ms : List ℕ) {k : ℕ} (D : Depots k ms) (x : ℕ → ℕ) where
  pub spread_at : (n a : ℕ) → n ≤ k → a < n → spread ms n x (at ms a) ≡ x a
  unfolding spread
  spread_at n a l m =
      dot-same n (λ b. unit (at ms b) (at ms a)) (unit a) x x
      (λ b j. either b a _ (λ e. rw e (unit-same (at ms a) ∙ sym (unit-same a)))
      (λ h. unit-other (at ms b) (at ms a) (apart ms D b a (omega arith) (omega arith) h) ∙ sym (unit-other a b (λ e. h (sym e)))))
      (λ b j. refl)
      ∙ dot-unit n a x m

  pub spread-other : (n i : ℕ) → ((a : ℕ) → a < n → at ms a ≡ i → ⊥) → spread ms n x i ≡ 0
  unfolding spread
  spread-other n i h = dot-none n _ x (λ a l. unit-other (at ms a) i (h a l))

  spread-step : (n i : ℕ) → spread ms (n + 1) x i ≡ spread ms n x i + unit (at ms n) i * x n
  unfolding spread
  spread-step n i = dot-step n (λ a. unit (at ms a) i) x

  pub spread-skip : (n i : ℕ) → (at ms n ≡ i → ⊥) → spread ms (suc n) x i ≡ spread ms n x i
  spread-skip n i h = ap (λ z. spread ms z x i) (sym (add-one n)) ∙ spread-step n i ∙ rw (unit-other (at ms n) i h) (omega arith)

  pub place-next : (n : ℕ) (r : List ℕ) → n < k → r ≡ tab 16 (spread ms n x) → set r (at ms n) (x n) ≡ tab 16 (spread ms (n + 1) x)
  place-next n r l e =
      let size : length r ≡ 16 = ap length e ∙ length-tab 16 (spread ms n x) in
      tab-is 16 _ 0 (set r (at ms n) (x n)) (length-set r (at ms n) (x n) ∙ size)
      (λ i m. either i (at ms n) _
      (λ q. rw q (get_or-set_same r (at ms n) (x n) 0 (omega (arith, size, D.below n l)) ∙ sym (spread_at (n + 1) n (omega arith) (omega arith))))
      (λ q. get_or-set_other r (at ms n) i (x n) 0 q ∙ ap (λ z. get_or z i 0) e ∙ get_d-tab 16 (spread ms n x) 0 i m
      ∙ sym (spread-step n i ∙ rw (unit-other (at ms n) i (λ p. q (sym p))) (omega arith))))

-- nothing is placed yet
pub place_none : (ms : List ℕ) (x : ℕ → ℕ) → replicate 16 0 ≡ tab 16 (spread ms 0 x)
unfolding spread dot sum tab tab_from
place_none ms x = refl

-- what is placed is a share or 0
pub spread-below : (ms : List ℕ) {k : ℕ} (D : Depots k ms) (x : ℕ → ℕ) → ((a : ℕ) → x a < 257) → (n i : ℕ) → n ≤ k → spread ms n x i < 257
spread-below ms D x small zero i l = rw (spread-other ms D x 0 i (λ a m. absurd (omega (arith, m)))) (omega arith)
spread-below ms {k} D x small (suc n) i l =
    either (at ms n) i _
    (λ e. rw (← e, spread_at ms D x (suc n) n l (omega arith)) (small n))
    (λ h. rw (spread-skip ms D x n i h) (spread-below ms D x small n i (omega arith)))

-- COLUMNS
pub columns_are : (f : ℕ → List ℕ) (l : List (List ℕ)) → length l ≡ 4 → ((b : ℕ) → b < 4 → get_or l b [] ≡ f b) → l ≡ tab 4 f
columns_are f l size each = tab-is 4 f [] l size each

module _ (ms xs : List ℕ) (k : ℕ) (D : Depots 7 ms) (small : Below 257 xs) {placed : List (List ℕ)} (e : placed ≡ tab 4 (λ b. placed_at ms xs (b * k)))
    (b : ℕ) (l : b < 4) where
  column : get_or placed b [] ≡ placed_at ms xs (b * k)
  column = ap (λ z. get_or z b []) e ∙ get_d-tab 4 (λ b. placed_at ms xs (b * k)) [] b l

  pub placed_below : Below 257 (get_or placed b [])
  placed_below = rw column (below-tab 257 16 _ (omega arith) (λ i m. spread-below ms D _ (λ a. small _) 7 i (omega arith)))

  pub scaled-column : (weights : List ℕ) → tab 16 (λ i. at (get_or placed b []) i * at weights i % 257) ≡ scaled_at ms xs k weights b
  scaled-column weights =
      rw column (tab-ext 16 _ _ (λ i m. ap (λ z. z * at weights i % 257) (get_d-tab 16 (spread ms 7 (λ a. at xs (b * k + a))) 0 i m)))
