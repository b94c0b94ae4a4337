-- The laws of parts: where lines and lanes lie, and parts written holder by holder or eight holders at a time.
use Prim.Native.Nat.{ℕ, ◌+◌, ◌-◌, ◌*◌, ◌/◌, ◌%◌, ◌≤◌, ◌<◌}
use mathlib.Core.Path.{◌≡◌, refl, ap, ◌∙◌}
use mathlib.Core.Bool.{true}
use mathlib.Core.List.{List}
use native.Mathlib.Nat.{mul-le-mul, mul-le-mul_right, div-add-mod'}
use native.Mathlib.Omega.{arith}
use lib.ListN.{length, get_or, set, length-set}
use lib.Seq.{get_or-set_same, get_or-set_other}
use Rattle.base.specs.Fill.{tab, laid, filled}
use Rattle.base.specs.Matrix.{flat, Below}
use Rattle.base.proofs.Choice.{either}
use Rattle.base.proofs.Fill.{get_d-tab, tab-ext, laid_none, laid-parts, flat-at, laid_filled}
use Rattle.base.proofs.Matrix.{row_fits, entry-fits, below_set, below-tab, place_at}
use Rattle.field.specs.Fields.{is_field}
use Rattle.field.specs.Dot.{at, dot, along}
use Rattle.field.proofs.Fields.{five-elim, field-five}
use Rattle.field.proofs.Dot.{dot-step, dot-same, dot-comm, dot-le}
use Rattle.lanes.proofs.Laws.{product_le}
use Rattle.parts.specs.Inner.{line_entry, entry_g, PartRoom, AllRoom, past, lane, lane_entry, Column, Held, EightRoom}

-- ROOM
-- F lies in the array
pub square-fits : (d : ℕ) → d ≤ 16 → d * d ≤ 256
square-fits d h = mul-le-mul {n₁ = d} {m₁ = d} {n₂ = 16} {m₂ = 16} h h

pub rows_fit : (d i c n : ℕ) → i + c ≤ n → i * d + c * d ≤ n * d
rows_fit d i c n h = omega (arith, mul-le-mul_right d h)

-- entry k of row j of F, and entry k of its column j
pub lines-inside : (d : ℕ) → d ≤ 16 → (j k : ℕ) → j < d → k < d → (j * d + k * 1 < 256) × (j * 1 + k * d < 256)
lines-inside d h j k l m = (omega (arith, entry-fits d d j k l m, square-fits d h), omega (arith, entry-fits d d k j m l, square-fits d h))

-- the one field above 257
pub largest : (p : ℕ) → is_field p ≡ true → 257 < p → p ≡ 65521
largest p e = five-elim p (λ q. 257 < q → q ≡ 65521) (λ l. absurd (omega arith)) (λ l. absurd (omega arith)) (λ l. absurd (omega arith)) (λ l. absurd (omega arith)) (λ l. refl) (field-five p e)

-- ONE HOLDER AFTER THE OTHER
pub part_room : (p d n : ℕ) (m F gs hs out : List ℕ) (i a s : ℕ) → AllRoom p d n m F gs hs → i < n → length out ≡ n * d
    → ((j k : ℕ) → j < d → k < d → j * a + k * s < length F) → PartRoom p d m i F a s out (i * d)
part_room p d n m F gs hs out i a s r l e q =
    let w = row_fits n d i l in
    record { above = r.above; small = r.small; row = omega (arith, w, r.rows); lines = q; fits = omega (arith, w, e) }

module _ (d : ℕ) (e : ℕ → ℕ → ℕ) (i : ℕ) where
  pub past-none : (l : List ℕ) → l ≡ past d e i i l
  unfolding past
  past-none l = let z : i * d - i * d ≡ 0 = omega arith in rw z (laid_none _ _ l)

  pub past_row : (k : ℕ) (x l : List ℕ) → i ≤ k → l ≡ past d e i k x → laid (e k) (k * d) d l ≡ past d e i (k + 1) x
  unfolding past
  past_row k x l h q =
      let w : i * d ≤ k * d = mul-le-mul_right d h in
      let a : k * d ≡ i * d + (k * d - i * d) = omega (arith, w) in
      let b : k * d - i * d + d ≡ (k + 1) * d - i * d = omega (arith, w) in
      rw q
      (ap (λ t. laid (e k) t d (laid (λ t. flat d e (i * d + t)) (i * d) (k * d - i * d) x)) a
      ∙ laid-parts (λ t. flat d e (i * d + t)) (e k) (i * d) (k * d - i * d) d x (λ j m. flat-at d e k j m ∙ ap (flat d e) (omega (arith, w)))
      ∙ ap (λ n. laid (λ t. flat d e (i * d + t)) (i * d) n x) b)

  pub past-filled : (n : ℕ) (x l : List ℕ) → i ≤ n → l ≡ filled (flat d e) (i * d) x → past d e i n l ≡ filled (flat d e) (n * d) x
  unfolding past
  past-filled n x l h q =
      let w : i * d ≤ n * d = mul-le-mul_right d h in
      laid_filled _ (flat d e) (i * d) (n * d - i * d) x l q (λ j m. refl) ∙ ap (λ t. filled (flat d e) t x) (omega (arith, w))

-- SUMS IN LANES
module _ (table : List ℕ) (a w : ℕ) (v : ℕ → ℕ) where
  pub lanes-below : (k : ℕ) (sums : List ℕ) → Below 257 table → ((j : ℕ) → v j < 257) → k ≤ 16 → sums ≡ tab 8 (λ t. dot k (lane table a w t) v) → Below 1048577 sums
  lanes-below k sums h g l e =
      rw e (below-tab 1048577 8 _ (omega arith) (λ t m. omega (arith, dot-le k 65536 (lane table a w t) v (λ j q. product_le _ _ (h _) (g j)))))

  pub lanes_step : (k : ℕ) (sums next : List ℕ) → sums ≡ tab 8 (λ t. dot k (lane table a w t) v)
      → next ≡ tab 8 (λ t. get_or sums t 0 + v k * at table (a + k * w + t)) → next ≡ tab 8 (λ t. dot (k + 1) (lane table a w t) v)
  lanes_step k sums next e n =
      n ∙ tab-ext 8 _ _ (λ t l. rw (e, get_d-tab 8 (λ t. dot k (lane table a w t) v) 0 t l, dot-step k (lane table a w t) v) (omega arith))

pub reduced : (p : ℕ) (u : ℕ → ℕ) (sums entries : List ℕ) → sums ≡ tab 8 u → entries ≡ tab 8 (λ t. get_or sums t 0 % p) → (t : ℕ) → t < 8 → at entries t ≡ u t % p
reduced p u sums entries e q t l = rw q (get_d-tab 8 (λ t. get_or sums t 0 % p) 0 t l ∙ ap (λ n. n % p) (rw e (get_d-tab 8 u 0 t l)))

-- ENTRIES OF G IN LANES
-- lane t of the rows of F from place b on is column b + t
pub lane-of-g : (p d : ℕ) (m F : List ℕ) (i b t : ℕ) → dot d (lane F b d t) (along m (i * d) 1) % p ≡ entry_g p d m F i (b + t)
unfolding line_entry
lane-of-g p d m F i b t =
    ap (λ z. z % p)
    (dot-comm d (lane F b d t) (along m (i * d) 1)
    ∙ dot-same d _ _ _ _ (λ k l. ap (λ n. get_or m n 0) (omega arith)) (λ k l. ap (λ n. get_or F n 0) (omega arith)))

-- eight lanes from an entry on lie in the array
pub lanes_fit : (d b k : ℕ) → d ≤ 16 → b < d → b % 8 ≡ 0 → k < d → b + k * d + 8 ≤ 256
lanes_fit d b k h l z m = omega (arith, mul-le-mul {n₁ = k} {m₁ = d} {n₂ = 15} {m₂ = 16} (omega arith) h)

-- COLUMNS
module _ (c : ℕ) (u : ℕ → ℕ) (a : ℕ) (x : List ℕ) where
  pub column-none : Column 0 c u a x x
  column-none = record { size = refl; written = λ t l. absurd (omega arith); kept = λ k l. refl; small = λ h. h }

  pub column-lane : (r : ℕ) (l : List ℕ) → a + r < length x → u r < 257 → Column r c u a x l → Column (r + 1) c u a x (set l (a + r) (u r))
  column-lane r l f s w =
      record {
        size = length-set l (a + r) _ ∙ w.size;
        written = λ t h m.
            either t r (at (set l (a + r) (u r)) (a + t) ≡ u t)
            (λ q. rw q (get_or-set_same l (a + r) _ 0 (omega (arith, w.size))))
            (λ q. get_or-set_other l (a + r) (a + t) _ 0 (λ z. q (omega arith)) ∙ w.written t (omega (arith, q)) m);
        kept = λ k h. get_or-set_other l (a + r) k _ 0 (λ z. absurd (omega arith)) ∙ w.kept k h;
        small = λ h. below_set 257 l (a + r) (u r) s (w.small h);
      }

  pub column-left : (r : ℕ) (l : List ℕ) → c ≤ r → Column r c u a x l → Column (r + 1) c u a x l
  column-left r l h w = record { size = w.size; written = λ t q m. w.written t (omega arith) m; kept = w.kept; small = w.small }

-- EIGHT HOLDERS
-- room for the parts of c holders from holder i on
pub eight_room : (p d n : ℕ) (m F gs hs out columns : List ℕ) (i c a s : ℕ) → AllRoom p d n m F gs hs → Below 257 F → Held d d m i c columns → c ≤ 8 → i + c ≤ n
    → length out ≡ n * d → ((j k : ℕ) → j < d → k < d → j * a + k * s < 256) → EightRoom p d columns c F a s out (i * d)
eight_room p d n m F gs hs out columns i c a s r small held few within e inside =
    record {
      above = r.above;
      few = (r.small, few);
      size = held.size;
      small = (held.small, small);
      lines = λ j k l q. omega (arith, inside j k l q, r.square);
      fits = omega (arith, rows_fit d i c n within, e);
    }

module _ (p d : ℕ) (m F : List ℕ) (i c : ℕ) (columns : List ℕ) (held : Held d d m i c columns) where
  lane-line : (a s t j : ℕ) → t < c → lane_entry p d columns F a s t j ≡ line_entry p d m F a s (i + t) j
  unfolding lane_entry line_entry
  lane-line a s t j l = ap (λ z. z % p) (dot-same d _ _ _ _ (λ k h. held.right t k l h ∙ ap (λ n. get_or m n 0) (omega arith)) (λ k h. refl))

  pub more_rows : (a s : ℕ) (x l : List ℕ) → l ≡ filled (flat d (line_entry p d m F a s)) (i * d) x
      → laid (flat d (lane_entry p d columns F a s)) (i * d) (c * d) l ≡ filled (flat d (line_entry p d m F a s)) ((i + c) * d) x
  more_rows a s x l q =
      laid_filled (flat d (lane_entry p d columns F a s)) (flat d (line_entry p d m F a s)) (i * d) (c * d) x l q
      (λ u h.
      let v = place_at d c u h in
      let y : u / d * d + u % d ≡ u = div-add-mod' u d in
      lane-line a s (u / d) (u % d) v.1 ∙ flat-at d (line_entry p d m F a s) (i + u / d) (u % d) v.2 ∙ ap (flat d (line_entry p d m F a s)) (omega (arith, y)))
      ∙ ap (λ n. filled (flat d (line_entry p d m F a s)) n x) (omega arith)
