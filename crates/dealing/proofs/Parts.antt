-- The laws of a dealing's parts: where the entries of F lie, and that the parts are scheme's.
-- Holds: the first d * d entries of an array are the matrix A by rows
-- Array: so it is, and the array has 256 entries, all in the field
use Prim.Native.Nat.{ℕ, ◌+◌, ◌-◌, ◌*◌, ◌/◌, ◌%◌, ◌≤◌, ◌<◌}
use mathlib.Core.Path.{◌≡◌, refl, sym, ap, ◌∙◌}
use mathlib.Core.List.{List}
use mathlib.Core.Bool.{Bool, true, false, ◌&&◌}
use native.Mathlib.Nat.{div-add-mod', add_assoc}
use native.Mathlib.Omega.{arith}
use borrow.Author.Tests.{lt-ltb, le-ltb}
use lib.Dec.{ltb}
use lib.ListN.{length, get_or, replicate, length-replicate}
use Rattle.base.specs.Choice.{pick}
use Rattle.base.specs.Fill.{tab, filled, laid}
use Rattle.base.specs.Matrix.{entry, flat, Below}
use Rattle.base.proofs.Fill.{get_d-tab, tab-ext, length-filled, get_d-filled, flat-at, laid_filled, laid-whole, filled-all}
use Rattle.base.proofs.Matrix.{row_fits, entry-fits, place_at, below-zeros, below-filled}
use Rattle.field.specs.Fields.{is_field}
use Rattle.field.specs.Dot.{at, dot, along}
use Rattle.field.proofs.Dot.{dot-comm, dot-ext, dot-same}
use Rattle.scheme.specs.Setup.{Setup, dim, row, IsSetup}
use Rattle.scheme.specs.Dealing.{place, dealt_entry, dealt, part_g, part_h}
use Rattle.scheme.specs.Calls.{to_all}
use Rattle.scheme.proofs.Calls.{DealOk, limits-pos, below-vec}
use Rattle.parts.specs.Inner.{line_entry, entry_h, entry_g, PartRoom, AllRoom}
use Rattle.parts.proofs.Parts.{square-fits}
use Rattle.dealing.specs.Inner.{sized, DealtRoom, HolderRoom}

-- ENTRIES
-- an array that is filled up to row l, and then to its end from a lent list in order
pub rest-laid : (l e : ℕ) (E : ℕ → ℕ → ℕ) (lent : List ℕ) (a : ℕ) → ((q r : ℕ) → along lent a 1 (q * (l + e) + r) ≡ E (l + q) r)
    → (x f : List ℕ) → f ≡ filled (flat (l + e) E) (l * (l + e)) x
    → laid (along lent a 1) (l * (l + e)) (e * (l + e)) f ≡ filled (flat (l + e) E) ((l + e) * (l + e)) x
rest-laid l e E lent a of x f s =
    laid_filled _ (flat (l + e) E) _ (e * (l + e)) x f s (λ t m. place' t (place_at (l + e) e t m))
    ∙ ap (λ n. filled (flat (l + e) E) n x) (omega arith)
  where
    place' : (t : ℕ) → (0 < l + e) × (t / (l + e) < e) × (t % (l + e) < l + e) → along lent a 1 t ≡ flat (l + e) E (l * (l + e) + t)
    place' t w =
        let q = t / (l + e) in
        let r = t % (l + e) in
        let s : q * (l + e) + r ≡ t = div-add-mod' t (l + e) in
        ap (along lent a 1) (sym s) ∙ of q r ∙ flat-at (l + e) E (l + q) r w.2 ∙ ap (flat (l + e) E) (omega (arith, s))

-- F by rows: secrets and e random entries in a row below ℓ, then random entries alone
module _ (l e : ℕ) (secrets random : List ℕ) where
  of-secrets : (k b : ℕ) → k < l → b < l → along secrets k l b ≡ dealt_entry (sized 0 l e) secrets random k b
  unfolding dealt_entry
  of-secrets k b h m = rw (lt-ltb k l h, lt-ltb b l m) (ap (λ t. get_or secrets t 0) (omega arith))

  of-random : (k j : ℕ) → k < l → along random (k * e) 1 j ≡ dealt_entry (sized 0 l e) secrets random k (l + j)
  unfolding dealt_entry place
  of-random k j h = rw (lt-ltb k l h, le-ltb (l + j) l (omega arith)) (ap (λ t. get_or random t 0) (omega arith))

  of-rest : (q r : ℕ) → along random (l * e) 1 (q * (l + e) + r) ≡ dealt_entry (sized 0 l e) secrets random (l + q) r
  unfolding dealt_entry place
  of-rest q r =
      let h : l + q - l ≡ q = omega arith in
      rw (le-ltb (l + q) l (omega arith), h) (ap (λ t. get_or random t 0) (omega arith))

  module _ (x f : List ℕ) where
    abbrev F : ℕ → ℕ
    F = flat (l + e) (dealt_entry (sized 0 l e) secrets random)

    pub row-begun : (k : ℕ) → k < l → f ≡ filled F (k * (l + e)) x → laid (along secrets k l) (k * (l + e)) l f ≡ filled F (k * (l + e) + l) x
    row-begun k h s =
        laid_filled _ F _ l x f s (λ b m. of-secrets k b h m ∙ flat-at (l + e) (dealt_entry (sized 0 l e) secrets random) k b (omega arith))

    pub row-ended : (k : ℕ) → k < l → f ≡ filled F (k * (l + e) + l) x → laid (along random (k * e) 1) (k * (l + e) + l) e f ≡ filled F ((k + 1) * (l + e)) x
    row-ended k h s =
        laid_filled _ F _ e x f s
        (λ j m. of-random k j h ∙ flat-at (l + e) (dealt_entry (sized 0 l e) secrets random) k (l + j) (omega arith) ∙ ap F (sym (add_assoc (k * (l + e)) l j)))
        ∙ ap (λ n. filled F n x) (omega arith)

    pub rest_ended : f ≡ filled F (l * (l + e)) x → laid (along random (l * e) 1) (l * (l + e)) (e * (l + e)) f ≡ filled F ((l + e) * (l + e)) x
    rest_ended s = rest-laid l e (dealt_entry (sized 0 l e) secrets random) random (l * e) of-rest x f s

-- an entry of F is one of the lent ones, or 0 past their ends
dealt-entry-below : (S : Setup) (secrets random : List ℕ) → DealOk S secrets random → (k b : ℕ) → dealt_entry (sized 0 S.l S.e) secrets random k b < S.p
unfolding dealt_entry
dealt-entry-below S secrets random ok k b = go (ltb k S.l && ltb b S.l) _ _
  where
    pos : 0 < S.p
    pos = limits-pos S ok.setup.limits

    go : (t : Bool) (x y : ℕ) → pick t (at secrets x) (at random y) < S.p
    go true x y = below-vec S.p _ secrets pos ok.vectors x
    go false x y = below-vec S.p _ random pos ok.entries y

-- what the arrays need of inputs that are in order
pub dealt-room : (S : Setup) (secrets random F : List ℕ) → DealOk S secrets random → length F ≡ 256 → DealtRoom S.l S.e secrets random F
dealt-room S secrets random F ok e =
    let L = ok.setup.limits in
    record { small = (L.secret.1, L.random.1); vectors = ok.vectors.size; entries = ok.entries.size; square = e }

-- ARRAYS
module _ (S : Setup) (F A : List ℕ) where
  abbrev Holds : Type 0
  Holds = (k b : ℕ) → k < dim S → b < dim S → entry (dim S) F k b ≡ entry (dim S) A k b

pub record Array (S : Setup) (F A : List ℕ) : Type 0 where
  pub long : length F ≡ 256
  pub small : Below S.p F
  pub holds : Holds S F A

pub few : (S : Setup) → IsSetup S → dim S ≤ 16
few S ok = omega (arith, ok.limits.secret, ok.limits.random)

pub filled-array : (S : Setup) (E : ℕ → ℕ → ℕ) (F : List ℕ) → IsSetup S → ((k b : ℕ) → E k b < S.p)
    → F ≡ filled (flat (dim S) E) (dim S * dim S) (replicate 256 0) → Array S F (tab (dim S * dim S) (flat (dim S) E))
filled-array S E F ok below is =
    let pos = limits-pos S ok.limits in
    let long = length-replicate {A = ℕ} 256 0 in
    record {
      long = ap length is ∙ length-filled _ _ _ ∙ long;
      small = rw is (below-filled S.p _ _ _ pos (λ t l. below (t / dim S) (t % dim S)) (below-zeros S.p 256 pos));
      holds = λ k b h m.
          let w = entry-fits (dim S) (dim S) k b h m in
          ap (λ l. entry (dim S) l k b) is
          ∙ get_d-filled _ (dim S * dim S) (replicate 256 0) _ 0 w (omega (arith, long, square-fits (dim S) (few S ok)))
          ∙ sym (get_d-tab (dim S * dim S) _ 0 _ w);
    }

pub dealt-array : (S : Setup) (secrets random F : List ℕ) → DealOk S secrets random
    → F ≡ filled (flat (dim S) (dealt_entry (sized 0 S.l S.e) secrets random)) (dim S * dim S) (replicate 256 0) → Array S F (dealt S secrets random)
unfolding dealt dealt_entry place
dealt-array S secrets random F ok is =
    filled-array S (dealt_entry (sized 0 S.l S.e) secrets random) F ok.setup (dealt-entry-below S secrets random ok) is

-- PARTS: what is written along the lines of an array are its parts
module _ (S : Setup) (F : List ℕ) where
  entry-h : (i k : ℕ) → entry_h S.p (dim S) S.M F i k ≡ dot (dim S) (λ b. entry (dim S) F k b) (row S i) % S.p
  unfolding line_entry
  entry-h i k =
      ap (λ n. n % S.p)
      (dot-comm (dim S) (along S.M (i * dim S) 1) (along F (k * dim S) 1)
      ∙ dot-same (dim S) _ _ _ _ (λ b m. ap (λ t. get_or F t 0) (omega arith)) (λ b m. ap (λ t. get_or S.M t 0) (omega arith)))

  entry-g : (i b : ℕ) → entry_g S.p (dim S) S.M F i b ≡ dot (dim S) (row S i) (λ k. entry (dim S) F k b) % S.p
  unfolding line_entry
  entry-g i b =
      ap (λ n. n % S.p) (dot-same (dim S) _ _ _ _ (λ k h. ap (λ t. get_or S.M t 0) (omega arith)) (λ k h. ap (λ t. get_or F t 0) (omega arith)))

  pub one-g : (i : ℕ) (g : List ℕ) → length g ≡ dim S → laid (entry_g S.p (dim S) S.M F i) 0 (dim S) g ≡ part_g S F i
  unfolding part_g
  one-g i g e = laid-whole _ _ (dim S) 0 g e (λ b m. entry-g i b)

  pub one-h : (i : ℕ) (h : List ℕ) → length h ≡ dim S → laid (entry_h S.p (dim S) S.M F i) 0 (dim S) h ≡ part_h S F i
  unfolding part_h
  one-h i h e = laid-whole _ _ (dim S) 0 h e (λ k m. entry-h i k)

  pub lines-room : (i : ℕ) (g h out : List ℕ) (a s : ℕ) → HolderRoom S F i g h → length out ≡ dim S
      → ((j k : ℕ) → j < dim S → k < dim S → j * a + k * s < 256) → PartRoom S.p (dim S) S.M i F a s out 0
  lines-room i g h out a s r e inside =
      record {
        above = limits-pos S r.setup.limits;
        small = few S r.setup;
        row = omega (arith, row_fits S.n (dim S) i r.one, r.setup.matrix.size);
        lines = λ j k m q. omega (arith, inside j k m q, r.square);
        fits = omega (arith, e);
      }

-- and the parts of the matrix that it holds
module _ (S : Setup) (F A : List ℕ) (array : Array S F A) where
  pub held-g : (i : ℕ) → part_g S F i ≡ part_g S A i
  unfolding part_g
  held-g i = tab-ext (dim S) _ _ (λ b m. ap (λ n. n % S.p) (dot-ext (dim S) _ _ _ (λ k l. array.holds k b l m)))

  pub held-h : (i : ℕ) → part_h S F i ≡ part_h S A i
  unfolding part_h
  held-h i = tab-ext (dim S) _ _ (λ k m. ap (λ n. n % S.p) (dot-same (dim S) _ _ _ _ (λ b l. array.holds k b m l) (λ b l. refl)))

  to-all : (e : ℕ → ℕ → ℕ) (part : ℕ → List ℕ) (all : List ℕ) → ((i b : ℕ) → b < dim S → e i b ≡ at (part i) b)
      → length all ≡ S.n * dim S → filled (flat (dim S) e) (S.n * dim S) all ≡ to_all S part
  to-all e part all same q =
      filled-all _ _ all q ∙ tab-ext (S.n * dim S) _ _ (λ t m. same (t / dim S) (t % dim S) (place_at (dim S) S.n t m).2)

  pub all-g : (gs : List ℕ) → length gs ≡ S.n * dim S → filled (flat (dim S) (entry_g S.p (dim S) S.M F)) (S.n * dim S) gs ≡ to_all S (part_g S A)
  unfolding part_g
  all-g gs = to-all _ (part_g S A) gs (λ i b m. entry-g S F i b ∙ sym (get_d-tab (dim S) _ 0 b m) ∙ ap (λ l. at l b) (held-g i))

  pub all-h : (hs : List ℕ) → length hs ≡ S.n * dim S → filled (flat (dim S) (entry_h S.p (dim S) S.M F)) (S.n * dim S) hs ≡ to_all S (part_h S A)
  unfolding part_h
  all-h hs = to-all _ (part_h S A) hs (λ i k m. entry-h S F i k ∙ sym (get_d-tab (dim S) _ 0 k m) ∙ ap (λ l. at l k) (held-h i))

  -- what the work on all needs
  pub all_room : IsSetup S → (gs hs : List ℕ) → length gs ≡ S.n * dim S → length hs ≡ S.n * dim S
      → AllRoom S.p (dim S) S.n S.M F gs hs × (Below S.p S.M × (Below S.p F × (is_field S.p ≡ true)))
  all_room ok gs hs a b =
      let pos = limits-pos S ok.limits in (
        record { above = pos; small = few S ok; rows = ok.matrix.size; square = array.long; fits = (a, b) },
        (below-vec S.p _ S.M pos ok.matrix, (array.small, ok.limits.field)),
      )
