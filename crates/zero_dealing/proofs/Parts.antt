-- The laws of a zero dealing's parts: where the entries of F lie, that its first rows are the array's zeros, and that the last entries of a whole column are
-- the holder's h.
use Prim.Native.Nat.{ℕ, ◌+◌, ◌-◌, ◌*◌, ◌/◌, ◌%◌, ◌≤◌, ◌<◌}
use mathlib.Core.Path.{◌≡◌, refl, sym, ap, ◌∙◌}
use mathlib.Core.Bool.{Bool, true, false}
use mathlib.Core.List.{List, ◌++◌}
use mathlib.Core.Logic.{inl}
use native.Mathlib.Nat.{mul-le-mul}
use native.Mathlib.Decide.{dec_lt}
use native.Mathlib.Omega.{arith}
use borrow.Author.Tests.{lt-ltb, le-ltb, ltb-true, ltb-false}
use lib.Dec.{ltb}
use lib.ListN.{length, get_or, take, drop, replicate, length-append, length-drop, length-replicate, get_or-replicate, get_or-append}
use lib.Seq.{ext_get_or, get_or-take, length-take-le}
use Rattle.base.specs.Choice.{pick}
use Rattle.base.specs.Fill.{filled, laid}
use Rattle.base.specs.Matrix.{flat}
use Rattle.base.proofs.Fill.{length-tab, get_d-tab, tab-is, tab-ext, length-laid, laid_in, laid_out, laid-ext, laid-whole, length-filled, get_d-filled, get_d-filled-past, filled-all}
use Rattle.base.proofs.Matrix.{place_at, entry-fits}
use Rattle.field.specs.Dot.{at, along}
use Rattle.scheme.specs.Setup.{Setup, dim, IsSetup}
use Rattle.scheme.specs.Dealing.{zero_entry, dealt_zero, part_h, part_zero_h}
use Rattle.scheme.specs.Calls.{to_all, to_each}
use Rattle.scheme.proofs.Calls.{DealZeroOk, limits-pos, below-vec}
use Rattle.dealing.specs.Inner.{sized}
use Rattle.scheme.proofs.Zero.{padded}
use Rattle.dealing.proofs.Deals.{part-of-all}
use Rattle.dealing.proofs.Parts.{Array, few, rest-laid, filled-array, held-h}
use Rattle.zero_dealing.specs.Inner.{ZeroRoom, last_of}

-- F
-- entries that are as they were
filled-same : (f : ℕ → ℕ) (n : ℕ) (l : List ℕ) → ((k : ℕ) → k < n → k < length l → f k ≡ get_or l k 0) → l ≡ filled f n l
filled-same f n l h = ext_get_or 0 l (filled f n l) (sym (length-filled f n l)) (λ k m. go k m (dec_lt k n))
  where
    go : (k : ℕ) → k < length l → Dec (k < n) → get_or l k 0 ≡ get_or (filled f n l) k 0
    go k m (yes q) = sym (get_d-filled f n l k 0 q m ∙ h k q m)
    go k m (no q) = sym (get_d-filled-past f n l k 0 (omega arith))

module _ (l e : ℕ) (random : List ℕ) where
  abbrev E : ℕ → ℕ → ℕ
  E = zero_entry (sized 0 l e) random

  zeros-stay : replicate 256 0 ≡ filled (flat (l + e) E) (l * (l + e)) (replicate 256 0)
  unfolding zero_entry
  zeros-stay =
      filled-same (flat (l + e) E) (l * (l + e)) (replicate 256 0)
      (λ t m q. rw (lt-ltb (t / (l + e)) l (place_at (l + e) l t m).1) (sym (get_or-replicate {A = ℕ} 256 t 0 0 (omega (arith, length-replicate {A = ℕ} 256 0)))))

  of-random : (q r : ℕ) → along random 0 1 (q * (l + e) + r) ≡ E (l + q) r
  unfolding zero_entry
  of-random q r =
      let h : l + q - l ≡ q = omega arith in
      rw (le-ltb (l + q) l (omega arith), h) (ap (λ t. get_or random t 0) (omega arith))

  pub zero-filled : (f : List ℕ) → f ≡ replicate 256 0
      → laid (λ j. get_or random (0 + j) 0) (l * (l + e)) (e * (l + e)) f ≡ filled (flat (l + e) E) ((l + e) * (l + e)) (replicate 256 0)
  zero-filled f z =
      laid-ext _ (along random 0 1) _ (e * (l + e)) f (λ j m. ap (λ t. get_or random t 0) (omega arith))
      ∙ rest-laid l e E random 0 of-random (replicate 256 0) f (z ∙ zeros-stay)

module _ (S : Setup) (random : List ℕ) (ok : DealZeroOk S random) where
  pub zero_room : ZeroRoom S.l S.e random (replicate 256 0)
  zero_room = let L = ok.setup.limits in record { small = (L.secret.1, L.random.1); entries = ok.entries.size; zeros = refl }

  entry-below : (k b : ℕ) → zero_entry (sized 0 S.l S.e) random k b < S.p
  unfolding zero_entry
  entry-below k b = go (ltb k S.l) _
    where
      pos : 0 < S.p
      pos = limits-pos S ok.setup.limits

      go : (t : Bool) (x : ℕ) → pick t 0 (at random x) < S.p
      go true x = pos
      go false x = below-vec S.p _ random pos ok.entries x

  pub zero-array : (F : List ℕ) → F ≡ filled (flat (dim S) (zero_entry (sized 0 S.l S.e) random)) (dim S * dim S) (replicate 256 0)
      → Array S F (dealt_zero S random)
  unfolding dealt_zero zero_entry
  zero-array F is = filled-array S (zero_entry (sized 0 S.l S.e) random) F ok.setup entry-below is

-- H
-- what is left where the front of an array of zeros was lent
pub refilled : (k m : ℕ) (w v : List ℕ) → w ≡ v → length v ≡ k → k ≤ m → length (w ++ drop k (replicate m 0)) ≡ m
refilled k m w v is size few =
    omega (arith, length-append w (drop k (replicate {A = ℕ} m 0)), length-drop k (replicate {A = ℕ} m 0), length-replicate {A = ℕ} m 0, ap length is, size)

pub columns-few : (S : Setup) → IsSetup S → S.n * dim S ≤ 512
columns-few S ok = mul-le-mul {n₁ = S.n} {m₁ = dim S} {n₂ = 32} {m₂ = 16} ok.limits.holders.1 (few S ok)

pub column-length : (S : Setup) (F : List ℕ) (i : ℕ) → length (part_h S F i) ≡ dim S
unfolding part_h
column-length S F i = length-tab (dim S) _

-- the last e entries of a whole column
module _ (S : Setup) (F A : List ℕ) (array : Array S F A) where
  pub last-part : (i : ℕ) (w z h : List ℕ) → w ≡ part_h S F i → length h ≡ S.e → laid (λ j. get_or (w ++ z) (S.l + j) 0) 0 S.e h ≡ part_zero_h S A i
  unfolding part_zero_h
  last-part i w z h is size =
      laid-whole _ _ S.e 0 h size
      (λ k m. get_or-append w z 0 (S.l + k) (omega (arith, ap length is, column-length S F i)) ∙ ap (λ l. at l (S.l + k)) (is ∙ held-h S F A array i))

-- and of every holder's, one after the other
pub last-parts : (S : Setup) (A w z hs : List ℕ) → w ≡ to_all S (part_h S A) → length hs ≡ S.n * S.e
    → filled (flat S.e (last_of S.l S.e (w ++ z))) (S.n * S.e) hs ≡ to_each S.e S (part_zero_h S A)
unfolding part_zero_h
last-parts S A w z hs is size =
    filled-all _ _ hs size ∙ tab-ext (S.n * S.e) _ _ (λ t m. let q = place_at S.e S.n t m in go (t / S.e) (t % S.e) q.1 q.2)
  where
    long : length w ≡ S.n * dim S
    long = ap length is ∙ length-tab (S.n * dim S) _

    go : (i k : ℕ) → i < S.n → k < S.e → last_of S.l S.e (w ++ z) i k ≡ at (part_zero_h S A i) k
    go i k l m =
        get_or-append w z 0 (i * dim S + (S.l + k)) (omega (arith, long, entry-fits S.n (dim S) i (S.l + k) l (omega arith)))
        ∙ ap (λ t. at t (i * dim S + (S.l + k))) is
        ∙ part-of-all (dim S) S (part_h S A) i l (S.l + k) (omega arith)
        ∙ sym (get_d-tab S.e (λ k. at (part_h S A i) (S.l + k)) 0 k m)

-- JUDGE
-- h behind ℓ zeros, at the front of an array
pub padded-is : (S : Setup) (h : List ℕ) → dim S ≤ 16 → take (dim S) (laid (λ j. get_or h (0 + j) 0) S.l S.e (replicate 16 0)) ≡ padded S h
unfolding padded
padded-is S h few =
    tab-is (dim S) _ 0 (take (dim S) a) (length-take-le (dim S) a (omega (arith, size))) (λ c m. get_or-take (dim S) a c 0 m ∙ go c m (ltb c S.l) refl)
  where
    a : List ℕ
    a = laid (λ j. get_or h (0 + j) 0) S.l S.e (replicate 16 0)

    size : length a ≡ 16
    size = length-laid _ S.l S.e (replicate 16 0) ∙ length-replicate {A = ℕ} 16 0

    high : (c k : ℕ) → S.l + k ≡ c → k < S.e → get_or a c 0 ≡ at h k
    high c k e m =
        ap (λ t. get_or a t 0) (sym e)
        ∙ laid_in (λ j. get_or h (0 + j) 0) S.l S.e (replicate 16 0) k 0 (omega (arith, length-replicate {A = ℕ} 16 0)) m
        ∙ ap (at h) (omega arith)

    go : (c : ℕ) → c < dim S → (b : Bool) → ltb c S.l ≡ b → get_or a c 0 ≡ pick b 0 (at h (c - S.l))
    go c m true e =
        laid_out (λ j. get_or h (0 + j) 0) S.l S.e (replicate 16 0) c 0 (inl (ltb-true c S.l e)) ∙ get_or-replicate {A = ℕ} 16 c 0 0 (omega arith)
    go c m false e = let l = ltb-false c S.l e in high c (c - S.l) (omega (arith, l)) (omega (arith, l))
