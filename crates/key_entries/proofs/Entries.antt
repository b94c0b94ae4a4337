-- F's entries: where each stands in the key or among the random entries, and that it is below 257; seven of them as a list.
use Prim.Native.Nat.{ℕ, ◌+◌, ◌-◌, ◌*◌, ◌<◌}
use mathlib.Core.Path.{◌≡◌, refl, ap, ◌∙◌}
use mathlib.Core.Bool.{Bool, true, false, ◌&&◌}
use mathlib.Core.List.{List, [], ◌∷◌}
use native.Mathlib.Omega.{arith}
use borrow.Author.Tests.{lt-ltb, le-ltb}
use mir.Syntax.{w8, w16}
use mir.Val.{Fits}
use lib.ListN.{length, take, drop}
use Rattle.std.proofs.lemmas.List.{get_or-take, get_or-drop, length-take-le, length-drop}
use lib.Dec.{ltb}
use Rattle.base.specs.Choice.{pick}
use Rattle.base.specs.Fill.{tab, tab_from}
use Rattle.base.specs.Matrix.{Below}
use Rattle.base.proofs.Fill.{tab-is}
use Rattle.base.proofs.Matrix.{below-tab}
use Rattle.field.specs.Dot.{at}
use Rattle.scheme.specs.Dealing.{place, dealt_entry}
use Rattle.scheme.proofs.Calls.{below-vec}
use Rattle.key_entries.specs.Inner.{Lent, key_entry}

pub seven : {A : Type 0} (f : ℕ → A) {s t u v w x y : A} → s ≡ f 0 → t ≡ f 1 → u ≡ f 2 → v ≡ f 3 → w ≡ f 4 → x ≡ f 5 → y ≡ f 6
    → s ∷ t ∷ u ∷ v ∷ w ∷ x ∷ y ∷ [] ≡ tab 7 f
unfolding tab tab_from
seven f a b c d e g h = rw (a, b, c, d, e, g, h) refl

-- a byte is a number of 16 bits
pub wide : (x : ℕ) → Fits w8 x → Fits w16 x
wide x h = omega (arith, h)

module _ (key random : List ℕ) where
  -- byte 4b + k of the key
  pub of-key : (k b t : ℕ) → k < 4 → b < 4 → t ≡ 4 * b + k → at key t ≡ key_entry key random k b
  unfolding key_entry dealt_entry
  of-key k b t h m e = rw (lt-ltb k 4 h, lt-ltb b 4 m) (ap (at key) (omega (arith, e)))

  -- three random entries in each of the first four rows, then seven
  pub of_row : (k b t : ℕ) → k < 4 → t ≡ 3 * k + b → at random t ≡ key_entry key random k (4 + b)
  unfolding key_entry dealt_entry place
  of_row k b t h e = rw (lt-ltb k 4 h, le-ltb (4 + b) 4 (omega arith)) (ap (at random) (omega (arith, e)))

  pub of-rest : (k b t : ℕ) → t ≡ 12 + 7 * k + b → at random t ≡ key_entry key random (4 + k) b
  unfolding key_entry dealt_entry place
  of-rest k b t e =
      let h : 4 + k - 4 ≡ k = omega arith in
      rw (le-ltb (4 + k) 4 (omega arith), h) (ap (at random) (omega (arith, e)))

  pub row_part : (k : ℕ) → k < 3 → length random ≡ 33 → take ((12 + 7 * k + 7) - (12 + 7 * k)) (drop (12 + 7 * k) random) ≡ tab 7 (key_entry key random (4 + k))
  row_part k h size =
      let t = 12 + 7 * k in
      let s : (t + 7) - t ≡ 7 = omega arith in
      tab-is 7 (key_entry key random (4 + k)) 0 _ (rw s (length-take-le 7 (drop t random) (omega (arith, h, size, length-drop t random))))
      (λ b l. rw s (get_or-take 7 (drop t random) b 0 l ∙ get_or-drop t random b 0 ∙ of-rest k b (t + b) refl))

  module _ (ok : Lent key random) where
    entry-below : (k b : ℕ) → key_entry key random k b < 257
    unfolding key_entry dealt_entry
    entry-below k b = go (ltb k 4 && ltb b 4) _ _
      where
        go : (t : Bool) (x y : ℕ) → pick t (at key x) (at random y) < 257
        go true x y = omega (arith, below-vec 256 16 key (omega arith) ok.bytes x)
        go false x y = below-vec 257 33 random (omega arith) ok.elements y

    pub row_below : (k : ℕ) (x : List ℕ) → x ≡ tab 7 (key_entry key random k) → Below 257 x
    row_below k x e = rw e (below-tab 257 7 _ (omega arith) (λ b l. entry-below k b))

    pub column-below : (b : ℕ) (x : List ℕ) → x ≡ tab 7 (λ k. key_entry key random k b) → Below 257 x
    column-below b x e = rw e (below-tab 257 7 _ (omega arith) (λ k l. entry-below k b))
