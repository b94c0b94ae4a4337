-- The three systems: each is loaded row by row, the loaded buffer may be reduced, and reduced it shows the reduced system. Of the rows beside the shares
-- also which positions have a row.
-- beside-row, across-row, aside-row: a row more of each is loaded
-- beside-rows, beside_shares, beside-dot: what stands in the rows beside the shares, and how they multiply
-- x-asks, x-loading: what loading the system asks, and that the loaded buffers may be reduced and then show it
-- beside-fits, eliminated-le: what was eliminated lies in its buffers, and the lowest position with no row is at most ℓ
-- determines-by, determines-not: that position says whether the set determines the secrets
use mathlib.Core.Path.{◌≡◌, refl, sym, ap, ◌∙◌}
use mathlib.Core.Bool.{Bool, true, false, not}
use mathlib.Core.List.{List}
use Prim.Native.Nat.{ℕ, ◌+◌, ◌-◌, ◌*◌, ◌%◌, ◌≤◌, ◌<◌}
use native.Mathlib.Nat.{zero-add}
use native.Mathlib.Omega.{arith}
use lib.Dec.{ltb}
use lib.ListN.{length, get_or, set, take}
use borrow.Author.Tests.{lt-ltb, le-ltb, not-false, not-true}
use Rattle.base.specs.Choice.{pick}
use Rattle.base.specs.Search.{first, Vec}
use Rattle.base.specs.Fill.{filled, laid}
use Rattle.base.specs.Matrix.{entry, flat}
use Rattle.base.specs.Sum.{unit}
use Rattle.base.proofs.Choice.{either}
use Rattle.base.proofs.Search.{first-le, first-ext, missing-all, found-there, every-all, every-fails}
use Rattle.base.proofs.Sum.{unit-same, unit-other}
use Rattle.field.specs.Dot.{at, dot}
use Rattle.field.proofs.Dot.{dot-ext, dot-same}
use Rattle.read_off.specs.ReadOff.{turned, fixes, Position, fixed, free}
use Rattle.gauss.specs.Gauss.{reduced}
use Rattle.elimination.specs.Elimination.{Shows}
use Rattle.elimination.specs.Inner.{buffers, Fits}
use Rattle.read_off.proofs.Reduced.{determined}
use Rattle.read_off.proofs.Shows.{fixes-shows}
use Rattle.scheme.specs.Setup.{Setup, dim}
use Rattle.scheme.specs.Sets.{holds, members, has_row, across, row_steps, determines}
use Rattle.scheme.proofs.Sets.{rows}
use Rattle.scheme.proofs.Certificates.{row-in-hand, no_row}
use Rattle.set_systems.specs.Inner.{SetTaken, members_of, Walked, Lie, Fresh, beside, aside, lacking, BesideReduced, AcrossReduced, AsideReduced, Eliminated}
use Rattle.set_systems.proofs.Load.{row-part, row_last, Loading, loading}
use Rattle.set_systems.proofs.Members.{prime-of, wide, few, narrow, entry-small, counted, listed, lie}

-- A ROW MORE
pub beside-row : (d : ℕ) (m ms xs : List ℕ) (i from : ℕ) (x a : List ℕ) → from ≡ at ms i * d → a ≡ filled (flat (d + 1) (beside d m ms xs)) (i * (d + 1)) x
    → set (laid (λ j. get_or m (from + j) 0) (i * (d + 1)) d a) (i * (d + 1) + d) (at xs i) ≡ filled (flat (d + 1) (beside d m ms xs)) ((i + 1) * (d + 1)) x
unfolding beside
beside-row d m ms xs i from x a s e =
    let G = beside d m ms xs in
    row_last (d + 1) G i d (i * (d + 1) + d) x _ refl
    (row-part (d + 1) G i 0 (i * (d + 1)) x a (omega arith) e (λ j. get_or m (from + j) 0) d (omega arith)
    (λ j l. rw (zero-add j, lt-ltb j d l, s) refl))
    (at xs i) refl (rw (le-ltb d d (omega arith)) refl)

pub across-row : (d : ℕ) (m ms : List ℕ) (q c : ℕ) (x a : List ℕ) → a ≡ filled (flat (length ms + 1) (across d m ms q)) (c * (length ms + 1)) x
    → set (laid (λ i. entry d m (at ms i) c) (c * (length ms + 1)) (length ms) a) (c * (length ms + 1) + length ms) (unit q c)
    ≡ filled (flat (length ms + 1) (across d m ms q)) ((c + 1) * (length ms + 1)) x
unfolding across
across-row d m ms q c x a e =
    let k = length ms in
    let G = across d m ms q in
    row_last (k + 1) G c k (c * (k + 1) + k) x _ refl
    (row-part (k + 1) G c 0 (c * (k + 1)) x a (omega arith) e (λ i. entry d m (at ms i) c) k (omega arith)
    (λ i l. rw (zero-add i, lt-ltb i k l) refl))
    (unit q c) refl (rw (le-ltb k k (omega arith)) refl)

pub aside-row : (l e : ℕ) (m ms : List ℕ) (i from : ℕ) (x a : List ℕ) → from ≡ at ms i * (l + e)
    → a ≡ filled (flat (l + e) (aside l e m ms)) (i * (l + e)) x
    → laid (λ j. get_or m (from + j) 0) (i * (l + e) + e) l (laid (λ j. get_or m (from + l + j) 0) (i * (l + e)) e a)
    ≡ filled (flat (l + e) (aside l e m ms)) ((i + 1) * (l + e)) x
unfolding turned
aside-row l e m ms i from x a s h =
    let G = aside l e m ms in
    row-part (l + e) G i e (i * (l + e) + e) x _ refl
    (row-part (l + e) G i 0 (i * (l + e)) x a (omega arith) h (λ j. get_or m (from + l + j) 0) e (omega arith)
    (λ j o. rw (zero-add j, lt-ltb j e o) (ap (λ k. get_or m k 0) (omega arith))))
    (λ j. get_or m (from + j) 0) l (omega arith)
    (λ j o. rw (le-ltb (e + j) e (omega arith)) (ap (λ k. get_or m k 0) (omega arith)))
    ∙ ap (λ k. filled (flat (l + e) G) k x) (omega arith)

-- WHICH POSITIONS HAVE A ROW
module _ (S : Setup) (s : ℕ) (xs : List ℕ) where
  pub beside-rows : (i j : ℕ) → j < dim S → beside (dim S) S.M (members_of S s) xs i j ≡ rows S (holds s) i j
  unfolding beside
  beside-rows i j l = rw (lt-ltb j (dim S) l)

  pub beside_shares : (i : ℕ) → beside (dim S) S.M (members_of S s) xs i (dim S) ≡ at xs i
  unfolding beside
  beside_shares i = rw (le-ltb (dim S) (dim S) (omega arith))

  pub beside-dot : (i : ℕ) (x : ℕ → ℕ) → dot (dim S) (rows S (holds s) i) x ≡ dot (dim S) (beside (dim S) S.M (members_of S s) xs i) x
  beside-dot i x = dot-same (dim S) _ _ _ _ (λ j l. sym (beside-rows i j l)) (λ j l. refl)

module _ {S : Setup} {s : ℕ} (ok : SetTaken S s) (xs : List ℕ) where
  abbrev A : ℕ → ℕ → ℕ
  A = beside (dim S) S.M (members_of S s) xs

  abbrev k : ℕ
  k = length (members_of S s)

  -- a position is determined exactly where it has a row
  fixes-has : (q : ℕ) → q < S.l → fixes k (dim S) (reduced S.p k (dim S) A) q ≡ has_row S (holds s) q
  fixes-has q l = go (fixes k (dim S) (reduced S.p k (dim S) A) q) (determined S.p (prime-of ok) k (dim S) A q (omega arith))
    where
      go : (b : Bool) → Position S.p k (dim S) A q b → b ≡ has_row S (holds s) q
      go b (fixed r h) =
          sym (row-in-hand S (holds s) q (prime-of ok).big r (record {
            gives = λ j m. ap (λ z. z % S.p) (dot-ext k r _ _ (λ i n. sym (beside-rows S s xs i j m))) ∙ h.gives j m;
          }))
      go b (free t h) =
          sym (no_row S (holds s) q t (omega arith) (λ i n. ap (λ z. z % S.p) (beside-dot S s xs i t) ∙ h.zeros i n) h.there)

  lowest-is : (a u : List ℕ) → Shows S.p k (dim S + 1) (buffers a u) (reduced S.p k (dim S) A)
      → lacking k (dim S + 1) (dim S) S.l (buffers a u) ≡ first (λ q. not (has_row S (holds s) q)) S.l
  lowest-is a u shows =
      first-ext _ _ S.l (λ q l. ap not (fixes-shows S.p k (dim S + 1) (buffers a u) _ shows (dim S) (omega arith) q ∙ fixes-has q l))

-- LOADED AND REDUCED
unit-small : (p q c : ℕ) → 1 < p → unit q c < p
unit-small p q c h = either q c (unit q c < p) (λ e. rw (e, unit-same c) h) (λ e. rw (unit-other q c e) (omega arith))

module _ {S : Setup} {s : ℕ} (ok : SetTaken S s) {k : ℕ} {out before : List ℕ} (W : Walked s k before out) where
  module _ {d : ℕ} (D : d ≡ dim S) {xs : List ℕ} (v : Vec S.p (length (members 32 (holds s))) xs) {x u : List ℕ}
      (room : Fresh (length (members 32 (holds s))) (dim S + 1) x u) where
    pub beside-asks : ((d ≤ 16) × (length (take k out) ≡ length xs) × (length x ≡ length (take k out) * (d + 1))) × Lie d S.M (take k out)
    beside-asks = (rw (W.list, D) (narrow ok, sym v.size, room.size), lie ok W D)

    beside-small : (i j : ℕ) → i < length (members_of S s) → j < dim S + 1 → beside (dim S) S.M (members_of S s) xs i j < S.p
    unfolding beside
    beside-small i j l m = go (ltb j (dim S))
      where
        go : (b : Bool) → pick b (entry (dim S) S.M (at (members_of S s) i) j) (at xs i) < S.p
        go true = entry-small ok (at (members_of S s) i) j
        go false = v.small i (omega (arith, ap length (wide ok)))

    pub beside-loading : Loading S.p k (d + 1) d (flat (d + 1) (beside d S.M (take k out) xs)) x u
        (λ b w n. (r : ℕ) → r ≡ lacking k (d + 1) d S.l (buffers b w) → Eliminated S s xs b w r)
    beside-loading =
        rw (listed ok W, D, counted ok W) (loading (prime-of ok) _ beside-small (rw (wide ok) at room) (omega (arith, narrow ok)) (dim S) (omega arith) _
        (λ b w n h g r e. record { system = record { shows = h }; lowest = e ∙ lowest-is ok xs b w h }))

  module _ {d : ℕ} (D : d ≡ dim S) (q : ℕ) {x u : List ℕ} (room : Fresh (dim S) (length (members 32 (holds s)) + 1) x u) where
    pub across-asks : ((d ≤ 16) × (length (take k out) ≤ 32) × (length x ≡ d * (length (take k out) + 1))) × Lie d S.M (take k out)
    across-asks = (rw (D, listed ok W) (narrow ok, few ok, rw (wide ok) at room.size), lie ok W D)

    across-small : (i j : ℕ) → i < dim S → j < length (members_of S s) + 1 → across (dim S) S.M (members_of S s) q i j < S.p
    unfolding across
    across-small i j l m = go (ltb j (length (members_of S s)))
      where
        go : (b : Bool) → pick b (entry (dim S) S.M (at (members_of S s) j) i) (unit q i) < S.p
        go true = entry-small ok (at (members_of S s) j) i
        go false = unit-small S.p q i (prime-of ok).big

    pub across-loading : Loading S.p d (k + 1) k (flat (length (take k out) + 1) (across d S.M (take k out) q)) x u (AcrossReduced S s q)
    unfolding row_steps
    across-loading =
        rw (listed ok W, D, counted ok W) (loading (prime-of ok) _ across-small (rw (wide ok) at room) (omega (arith, few ok)) _ (omega arith) _
        (λ b w n h g. record { shows = h; steps = g }))

  module _ {x u : List ℕ} (room : Fresh (length (members 32 (holds s))) (dim S) x u) where
    pub aside-asks : ((dim S ≤ 16) × (length (take k out) ≤ 32) × (length x ≡ length (take k out) * dim S)) × Lie (dim S) S.M (take k out)
    aside-asks = (rw (listed ok W) (narrow ok, few ok, rw (wide ok) at room.size), lie ok W refl)

    aside-small : (i j : ℕ) → i < length (members_of S s) → j < dim S → aside S.l S.e S.M (members_of S s) i j < S.p
    unfolding turned
    aside-small i j l m = go (ltb j S.e)
      where
        go : (b : Bool)
            → pick b (entry (dim S) S.M (at (members_of S s) i) (S.l + j)) (entry (dim S) S.M (at (members_of S s) i) (j - S.e)) < S.p
        go true = entry-small ok (at (members_of S s) i) (S.l + j)
        go false = entry-small ok (at (members_of S s) i) (j - S.e)

    pub aside-loading : Loading S.p k (dim S) S.e (flat (dim S) (aside S.l S.e S.M (take k out))) x u (λ b w n. AsideReduced S s b w)
    aside-loading =
        rw (listed ok W, counted ok W) (loading (prime-of ok) _ aside-small (rw (wide ok) at room) (omega (arith, narrow ok)) S.e (omega arith) _
        (λ b w n h g. record { shows = h }))

-- n rows of d + 1 entries, reduced
pub beside-fits : {S : Setup} {s : ℕ} (ok : SetTaken S s) {xs a u : List ℕ} {n d : ℕ} → n ≡ length (members 32 (holds s)) → d ≡ dim S
    → BesideReduced S s xs a u → Fits n (d + 1) a u
beside-fits ok K D R =
    rw (D, K, wide ok) (record { size = R.shows.size; marks = R.shows.marks; narrow = omega (arith, narrow ok) })

pub eliminated-le : {S : Setup} {s : ℕ} {xs a u : List ℕ} {r : ℕ} → Eliminated S s xs a u r → r ≤ S.l
eliminated-le {S} {s} E = rw E.lowest (first-le (λ q. not (has_row S (holds s) q)) S.l)

module _ (S : Setup) (X : ℕ → Bool) (r : ℕ) (e : r ≡ first (λ q. not (has_row S X q)) S.l) where
  pub determines-by : S.l ≤ r → determines S X ≡ true
  unfolding determines
  determines-by l = every-all S.l (has_row S X) (λ q m. not-false _ (missing-all (λ q. not (has_row S X q)) S.l (rw (← e) l) q m))

  pub determines-not : r < S.l → determines S X ≡ false
  unfolding determines
  determines-not l = every-fails S.l (has_row S X) r l (not-true _ (rw e (found-there (λ q. not (has_row S X q)) S.l (rw e at l))))
