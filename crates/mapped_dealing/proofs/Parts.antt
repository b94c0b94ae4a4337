-- The laws of the parts of a dealing with a map: where the entries of F_φ lie, and that its array is scheme's.
use Prim.Native.Nat.{ℕ, ◌+◌, ◌-◌, ◌*◌, ◌/◌, ◌%◌, ◌<◌}
use mathlib.Core.Path.{◌≡◌, refl, ap, ◌∙◌}
use mathlib.Core.List.{List}
use mathlib.Core.Bool.{Bool, true, false}
use native.Mathlib.Nat.{mod-lt}
use native.Mathlib.Omega.{arith}
use borrow.Author.Tests.{lt-ltb, le-ltb}
use lib.Dec.{ltb}
use lib.ListN.{length, get_or, replicate}
use Rattle.base.specs.Choice.{pick}
use Rattle.base.specs.Search.{Vec}
use Rattle.base.specs.Fill.{filled, laid}
use Rattle.base.specs.Matrix.{entry, flat}
use Rattle.base.proofs.Fill.{tab-ext, laid-ext, laid-row}
use Rattle.base.proofs.Matrix.{place_at}
use Rattle.field.specs.Dot.{at, along}
use Rattle.field.proofs.Dot.{dot-ext, dot-same}
use Rattle.scheme.specs.Setup.{Setup, dim}
use Rattle.scheme.specs.Dealing.{image_at, mapped_entry, dealt_mapped}
use Rattle.scheme.specs.Calls.{buffers}
use Rattle.scheme.proofs.Calls.{DealMappedOk, limits-pos, below-vec}
use Rattle.parts.specs.Inner.{line_entry}
use Rattle.dealing.specs.Inner.{sized}
use Rattle.dealing.proofs.Parts.{Array, rest-laid, filled-array}
use Rattle.mapped_dealing.specs.Inner.{MappedRoom}

-- F_φ by rows: products of a row of φ and the columns of F in a row below ℓ, then the second random entries
module _ (p l e : ℕ) (phi random2 F : List ℕ) where
  abbrev E2 : ℕ → ℕ → ℕ
  E2 = mapped_entry (sized p l e) F phi random2

  of_map : (k b : ℕ) → k < l → line_entry p l phi F 1 (l + e) k b ≡ E2 k b
  unfolding line_entry mapped_entry image_at
  of_map k b h =
      rw (lt-ltb k l h)
      (ap (λ n. n % p) (dot-same l _ _ _ _ (λ c m. ap (λ t. get_or phi t 0) (omega arith)) (λ c m. ap (λ t. get_or F t 0) (omega arith))))

  of-second : (q r : ℕ) → along random2 0 1 (q * (l + e) + r) ≡ E2 (l + q) r
  unfolding mapped_entry
  of-second q r =
      let h : l + q - l ≡ q = omega arith in
      rw (le-ltb (l + q) l (omega arith), h) (ap (λ t. get_or random2 t 0) (omega arith))

  module _ (x f : List ℕ) where
    pub row-mapped : (k : ℕ) → k < l → f ≡ filled (flat (l + e) E2) (k * (l + e)) x
        → laid (line_entry p l phi F 1 (l + e) k) (k * (l + e)) (l + e) f ≡ filled (flat (l + e) E2) ((k + 1) * (l + e)) x
    row-mapped k h s = laid-ext _ (E2 k) _ (l + e) f (λ b m. of_map k b h) ∙ laid-row (l + e) E2 k x f s

    pub mapped-ended : f ≡ filled (flat (l + e) E2) (l * (l + e)) x
        → laid (along random2 0 1) (l * (l + e)) (e * (l + e)) f ≡ filled (flat (l + e) E2) ((l + e) * (l + e)) x
    mapped-ended s = rest-laid l e E2 random2 0 of-second x f s

-- one of F_φ is a remainder or a lent one
mapped-entry-below : (S : Setup) (phi random2 F : List ℕ) → 0 < S.p → Vec S.p (S.e * dim S) random2
    → (k b : ℕ) → mapped_entry (sized S.p S.l S.e) F phi random2 k b < S.p
unfolding mapped_entry image_at
mapped-entry-below S phi random2 F pos v k b = go (ltb k S.l) _ _
  where
    go : (t : Bool) (x y : ℕ) → pick t (x % S.p) (at random2 y) < S.p
    go true x y = mod-lt x pos
    go false x y = below-vec S.p _ random2 pos v y

-- what the arrays need of inputs that are in order
pub mapped-room : (S : Setup) (secrets random phi random2 F F2 : List ℕ) → DealMappedOk S secrets random phi random2 → length F ≡ 256 → length F2 ≡ 256
    → MappedRoom S.p S.l S.e phi random2 F F2
mapped-room S secrets random phi random2 F F2 ok a b =
    let L = ok.first.setup.limits in
    record { above = limits-pos S L; small = (L.secret.1, L.random.1); map = ok.map.size; entries = ok.entries.size; squares = (a, b) }

module _ (S : Setup) (secrets random phi random2 A F F2 : List ℕ) (ok : DealMappedOk S secrets random phi random2) (first : Array S F A) where
  same-entry : (k b : ℕ) → b < dim S → mapped_entry (sized S.p S.l S.e) F phi random2 k b ≡ mapped_entry S A phi random2 k b
  unfolding mapped_entry image_at
  same-entry k b m =
      ap (λ n. pick (ltb k S.l) (n % S.p) (at random2 ((k - S.l) * dim S + b))) (dot-ext S.l _ _ _ (λ c l. first.holds c b (omega arith) m))

  pub mapped-array : F2 ≡ filled (flat (dim S) (mapped_entry (sized S.p S.l S.e) F phi random2)) (dim S * dim S) (replicate 256 0)
      → Array S F2 (dealt_mapped S A phi random2)
  unfolding dealt_mapped
  mapped-array is =
      let L = ok.first.setup in
      let w = filled-array S (mapped_entry (sized S.p S.l S.e) F phi random2) F2 L (mapped-entry-below S phi random2 F (limits-pos S L.limits) ok.entries) is in
      record {
        long = w.long;
        small = w.small;
        holds = λ k b l m.
            w.holds k b l m
            ∙ ap (λ t. entry (dim S) t k b) (tab-ext (dim S * dim S) _ _ (λ t q. same-entry (t / dim S) (t % dim S) (place_at (dim S) (dim S) t q).2));
      }

pub same-buffers : {a b c d e f g h : List ℕ} → a ≡ e → b ≡ f → c ≡ g → d ≡ h → buffers a b c d ≡ buffers e f g h
same-buffers p q r s = rw (p, q, r, s) refl
