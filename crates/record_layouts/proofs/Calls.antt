-- What an accepted reader says of what it was lent and of the record: the lengths that the code relies on, and that an SU read is a setup.
use mathlib.Core.Path.{◌≡◌, refl, sym, ap, ◌∙◌}
use mathlib.Core.Bool.{Bool, false}
use mathlib.Core.List.{List, [], ◌∷◌, ◌++◌}
use Prim.Native.Nat.{ℕ, zero, suc, ◌+◌, ◌*◌, ◌≤◌}
use native.Mathlib.Omega.{arith}
use native.Mathlib.Nat.{add-zero, mul-le-mul}
use lib.Dec.{ltb, T}
use lib.ListN.{length}
use borrow.Author.Tests.{ltb-false}
use Rattle.base.specs.Rules.{Rule, ◌when◌, refusal_from, refusal}
use Rattle.base.proofs.Rules.{positive, clear, clear-left, joined, stays, refusal-after}
use Rattle.scheme.specs.Setup.{Setup, dim, Limits, IsSetup}
use Rattle.scheme.specs.Calls.{Lent, limits, size, beyond_field}
use Rattle.scheme.proofs.Calls.{limits-are, limits-pos, size_is, size-clear, vec_of, InOrder, in_order}
use Rattle.record_words.specs.Words.{words_at}
use Rattle.record_words.proofs.Words.{length-words, below-words, every-none}
use Rattle.record_layouts.specs.Records.{due, Layout, setup_size, setup_at, due_setup, read_setup_rules, read_matrix_rules, lists_rules, standing_rules, read_rules}
use Rattle.record_layouts.specs.Records.{dealing_size, dealing_at, dealing_g, parts_h, dealing_h, dealing_faults, parts_layout_of, dealing_layout, dealing_lent, read_dealing_rules}
use Rattle.record_layouts.specs.Records.{zero_size, zero_layout, zero_lent, read_zero_rules, mark_df, mapped_size, mapped_layout, mapped_lent, read_mapped_rules}
use Rattle.record_layouts.specs.Inner.{list_rules, parts_rules}
use Rattle.record_layouts.proofs.Layouts.{Lawful, dealing-lawful, zero_lawful, mapped-lawful}

-- a rule that does not hold leaves what stands
pub passed_over : (r k : ℕ) (l : List Rule) → refusal_from r ((k when false) ∷ l) ≡ refusal_from r l
passed_over zero k l = refl
passed_over (suc r) k l = refl

-- a table in two parts, gone through with a return between them: what the first part gives stays; where it gives nothing, the second decides
pub by_first : (first then : List Rule) (a : ℕ) → a ≡ refusal first → (a ≡ 0 → ⊥) → a ≡ refusal (first ++ then)
by_first first then a e n = e ∙ stays (refusal first) then (λ z. n (e ∙ z)) ∙ sym (joined 0 first then)

pub by-second : (first then : List Rule) (a r : ℕ) → T (positive first) → a ≡ refusal first → a ≡ 0 → r ≡ refusal then → r ≡ refusal (first ++ then)
by-second first then a r t e z f = f ∙ sym (refusal-after first then (clear first t (sym e ∙ z)))

pub dim-small : (S : Setup) → Limits S → dim S ≤ 16
dim-small S L = omega (arith, L.secret, L.random)

pub matrix-small : (S : Setup) → Limits S → S.n * dim S ≤ 512
matrix-small S L = mul-le-mul {n₁ = S.n} {m₁ = dim S} {n₂ = 32} {m₂ = 16} L.holders.1 (dim-small S L)

pub map-small : (S : Setup) → Limits S → S.l * S.l ≤ 64
map-small S L = mul-le-mul {n₁ = S.l} {m₁ = S.l} {n₂ = 8} {m₂ = 8} L.secret.1 L.secret.1

-- THE START OF A RECORD that its mark and its length do not refuse: it is there whole
pub due-length : (mark needed : ℕ) (s : List ℕ) → refusal (due mark needed s) ≡ 0 → needed ≤ length s
due-length mark needed s e = ltb-false (length s) needed (clear (due mark needed s) tt e).1.1.0

-- SU
-- an SU that is not refused is a setup, and it stands there whole
pub setup-read : (s : List ℕ) → refusal (read_setup_rules s) ≡ 0 → IsSetup (setup_at s) × (setup_size (setup_at s) ≤ length s)
setup-read s e =
    let S = setup_at s in
    let c = (clear (read_setup_rules s) tt e).1.1.1 in
    let L : Limits S = limits-are S (clear-left (limits S) ((3 when ltb (length s) (setup_size S)) ∷ beyond_field S.p S.M ∷ []) c) in
    let q = c.1.1.1.1 in (
      record { limits = L; matrix = vec_of S.p (S.n * dim S) S.M (limits-pos S L) (length-words s 5 (S.n * dim S)) q.1.0 },
      ltb-false (length s) (setup_size S) q.0,
    )

-- with a lent matrix of the length needed both readers of SU have the same refusal
pub matrix-as-setup : (s : List ℕ) (k : ℕ) → k ≡ (setup_at s).n * dim (setup_at s) → refusal (read_matrix_rules s k) ≡ refusal (read_setup_rules s)
matrix-as-setup s k e =
    let last = beyond_field (setup_at s).p (setup_at s).M ∷ [] in
    joined 0 (due_setup s) (size k ((setup_at s).n * dim (setup_at s)) ∷ last)
    ∙ ap (λ (t : Bool). refusal_from (refusal (due_setup s)) ((3 when t) ∷ last)) (size-clear k _ e)
    ∙ passed_over (refusal (due_setup s)) 3 last
    ∙ sym (joined 0 (due_setup s) last)

pub matrix-room : (s : List ℕ) (k : ℕ) → refusal (read_matrix_rules s k) ≡ 0
    → (k ≡ (setup_at s).n * dim (setup_at s)) × (setup_size (setup_at s) ≤ length s)
matrix-room s k e =
    let r = (clear (read_matrix_rules s k) tt e).1.1.1.1.1.1.1 in
    (size_is k _ r.1.0, ltb-false (length s) (setup_size (setup_at s)) r.0)

-- DL, DZ AND DF
-- with no elements behind h these are the rules of DL and of DZ
pub none-behind : (mark : ℕ) (size many : Setup → ℕ) (S : Setup) (s : List ℕ) → 6 + 2 * (dim S + many S) ≡ size S
    → refusal (parts_rules mark (many S) 0 S s) ≡ refusal (standing_rules (parts_layout_of mark size many) S s)
none-behind mark size many S s e =
    let before : List Rule = due mark (size S) s ++ beyond_field S.p (dealing_g S s) ∷ beyond_field S.p (parts_h (many S) S s) ∷ [] in
    let after = dealing_faults S (dealing_at s) in
    let b = below-words S.p s (3 + dim S + many S) 0 ∙ every-none _ in
    rw (add-zero (dim S + many S), e, b)
    (joined 0 before ((4 when false) ∷ after) ∙ passed_over (refusal before) 4 after ∙ sym (joined 0 before after))

-- with ℓ * ℓ elements behind h they are those of DF
module _ (S : Setup) (s : List ℕ) where
  abbrev map_to : ℕ → ℕ → List Rule
  map_to n i =
      due mark_df n s ++ (beyond_field S.p (dealing_g S s) ∷ beyond_field S.p (dealing_h S s) ∷ beyond_field S.p (words_at s i (S.l * S.l)) ∷ [])

  pub map-lists-behind : refusal (list_rules mark_df (dim S) (S.l * S.l) S s) ≡ refusal (lists_rules mapped_layout S s)
  map-lists-behind =
      ap (λ n. refusal (map_to n (3 + dim S + dim S))) (omega arith) ∙ ap (λ i. refusal (map_to (mapped_size S) i)) (omega arith)

  pub map-parts-behind : refusal (parts_rules mark_df (dim S) (S.l * S.l) S s) ≡ refusal (standing_rules mapped_layout S s)
  map-parts-behind =
      let after = dealing_faults S (dealing_at s) in
      ap (λ n. refusal (map_to n (3 + dim S + dim S) ++ after)) (omega arith) ∙ ap (λ i. refusal (map_to (mapped_size S) i ++ after)) (omega arith)

-- a reader that is not refused: all that is lent is as needed, and the record stands there whole
read-room : {A : Type 0} (L : Layout A) (W : Lawful A L) (S : Setup) (lent : List Lent) (s : List ℕ) → refusal (read_rules L S lent s) ≡ 0
    → InOrder S.p lent × (L.size S ≤ length s)
read-room L W S lent s e =
    let r = in_order S lent (standing_rules L S s) (W.positive-read S (L.at S s)) e in
    (r.lent, ltb-false (length s) (L.size S) r.own.1.1.0)

pub parts-room : (S : Setup) (s : List ℕ) (j k : ℕ) → refusal (read_dealing_rules S s j k) ≡ 0
    → (j ≡ dim S) × (k ≡ dim S) × (dealing_size S ≤ length s)
parts-room S s j k e = let r = read-room dealing_layout dealing-lawful S (dealing_lent S j k) s e in (r.0.0, r.0.1.0, r.1)

pub zero_room : (S : Setup) (s : List ℕ) (j k : ℕ) → refusal (read_zero_rules S s j k) ≡ 0
    → (j ≡ dim S) × (k ≡ S.e) × (zero_size S ≤ length s)
zero_room S s j k e = let r = read-room zero_layout zero_lawful S (zero_lent S j k) s e in (r.0.0, r.0.1.0, r.1)

pub mapped-room : (S : Setup) (s : List ℕ) (i j k : ℕ) → refusal (read_mapped_rules S s i j k) ≡ 0
    → (i ≡ dim S) × (j ≡ dim S) × (k ≡ S.l * S.l) × (mapped_size S ≤ length s)
mapped-room S s i j k e = let r = read-room mapped_layout mapped-lawful S (mapped_lent S i j k) s e in (r.0.0, r.0.1.0, r.0.1.1.0, r.1)
