-- A zero dealing is a dealing whose column parts begin with ℓ zeros that are not sent: with these put back it is judged as a dealing is.
-- padded: the column part with its ℓ zeros
use mathlib.Core.Path.{◌≡◌, refl, ap, sym, ◌∙◌}
use mathlib.Core.Bool.{Bool, true, false, not}
use mathlib.Core.List.{List}
use Prim.Native.Nat.{ℕ, ◌+◌, ◌-◌, ◌*◌, ◌%◌, ◌<◌}
use native.Mathlib.Nat.{zero-mod}
use native.Mathlib.Omega.{arith}
use borrow.Author.Tests.{lt-ltb, le-ltb, ltb-true, ltb-false}
use lib.Arith.{digits_lt}
use lib.Dec.{eqb, ltb}
use lib.ListN.{length}
use Rattle.base.specs.Choice.{pick}
use Rattle.base.specs.Search.{Vec}
use Rattle.base.specs.Fill.{tab}
use Rattle.base.specs.Matrix.{entry, flat}
use Rattle.base.proofs.Sum.{sum-split, sum-ext, sum-none}
use Rattle.base.proofs.Search.{first-ext}
use Rattle.base.proofs.Fill.{length-tab, get_d-tab, tab-is, tab-vec, flat-at}
use Rattle.field.specs.Dot.{at, dot}
use Rattle.field.proofs.Dot.{dot-none}
use Rattle.scheme.specs.Setup.{Setup, dim, row}
use Rattle.scheme.specs.declared.Judgement.{Judgement}
use Rattle.scheme.specs.declared.Judgement.TheVariants.{Accept, Reject}
use Rattle.scheme.specs.Dealing.{part_h, expected, differs, judgement_of, zero_entry, dealt_zero, part_zero_h, expected_zero, differs_zero, judgement_zero}
use Rattle.scheme.proofs.Calls.{below-vec, JudgeOk, JudgeZeroOk, limits-pos}

unfoldable pub padded : Setup → List ℕ → List ℕ
padded S h = tab (dim S) (λ c. pick (ltb c S.l) 0 (at h (c - S.l)))

module _ (S : Setup) (h : List ℕ) where
  pub padded-length : length (padded S h) ≡ dim S
  unfolding padded
  padded-length = length-tab (dim S) _

  pub padded-low : (c : ℕ) → c < S.l → at (padded S h) c ≡ 0
  unfolding padded
  padded-low c l = get_d-tab (dim S) _ 0 c (omega arith) ∙ rw (lt-ltb c S.l l) refl

  pub padded-high : (k : ℕ) → k < S.e → at (padded S h) (S.l + k) ≡ at h k
  unfolding padded
  padded-high k l = get_d-tab (dim S) _ 0 (S.l + k) (omega arith) ∙ rw (le-ltb (S.l + k) S.l (omega arith)) (ap (at h) (omega arith))

  pub padded-vec : 0 < S.p → Vec S.p S.e h → Vec S.p (dim S) (padded S h)
  unfolding padded
  padded-vec pos v = tab-vec S.p (dim S) _ (λ c l. go c (ltb c S.l))
    where
      go : (c : ℕ) (b : Bool) → pick b 0 (at h (c - S.l)) < S.p
      go c true = pos
      go c false = below-vec S.p S.e h pos v (c - S.l)

  -- it is judged alike
  pub padded-expected : (j : ℕ) → expected S (padded S h) j ≡ expected_zero S h j
  unfolding expected expected_zero dot
  padded-expected j =
      let low = sum-none S.l (λ c. row S j c * at (padded S h) c) (λ c l. rw (padded-low c l) (omega arith)) in
      let high = sum-ext S.e (λ k. row S j (S.l + k) * at (padded S h) (S.l + k)) (λ k. row S j (S.l + k) * at h k) (λ k l. ap (λ z. row S j (S.l + k) * z) (padded-high k l)) in
      ap (λ z. z % S.p) (sum-split S.l S.e (λ c. row S j c * at (padded S h) c) ∙ omega (arith, low, high))

  pub padded-judgement : (values : List ℕ) → judgement_of S (padded S h) values ≡ judgement_zero S h values
  unfolding judgement_of judgement_zero differs differs_zero
  padded-judgement values =
      ap (λ j. pick {A = Judgement} (ltb j S.n) (Reject j) Accept)
      (first-ext _ _ S.n (λ j l. ap (λ z. not (eqb (at values j) z)) (padded-expected j)))

  pub padded-ok : (values : List ℕ) → JudgeZeroOk S h values → JudgeOk S (padded S h) values
  padded-ok values k = record { setup = k.setup; part = padded-vec (limits-pos S k.setup.limits) k.part; received = k.received }

-- the first ℓ rows are 0
zero-rows : (S : Setup) (random : List ℕ) (k b : ℕ) → k < S.l → b < dim S → entry (dim S) (dealt_zero S random) k b ≡ 0
unfolding dealt_zero zero_entry
zero-rows S random k b l o =
    get_d-tab (dim S * dim S) (flat (dim S) (zero_entry S random)) 0 (k * dim S + b) (digits_lt (omega arith) o)
    ∙ sym (flat-at (dim S) (zero_entry S random) k b o)
    ∙ rw (lt-ltb k S.l l) refl

-- so a dealt column part, padded, is the whole column F m_i
pub part-padded : (S : Setup) (random : List ℕ) (i : ℕ) → padded S (part_zero_h S (dealt_zero S random) i) ≡ part_h S (dealt_zero S random) i
unfolding part_h part_zero_h
part-padded S random i =
    tab-is (dim S) due 0 (padded S (part_zero_h S F i)) (padded-length S (part_zero_h S F i)) (λ k o. go k o (ltb k S.l) refl)
  where
    F : List ℕ
    F = dealt_zero S random

    due : ℕ → ℕ
    due k = dot (dim S) (λ b. entry (dim S) F k b) (row S i) % S.p

    high : (k c : ℕ) → S.l + c ≡ k → c < S.e → at (padded S (part_zero_h S F i)) k ≡ due k
    high k c e o =
        ap (at (padded S (part_zero_h S F i))) (sym e)
        ∙ padded-high S (part_zero_h S F i) c o
        ∙ get_d-tab S.e (λ c. at (part_h S F i) (S.l + c)) 0 c o
        ∙ ap (at (part_h S F i)) e
        ∙ get_d-tab (dim S) due 0 k (omega arith)

    go : (k : ℕ) → k < dim S → (b : Bool) → ltb k S.l ≡ b → at (padded S (part_zero_h S F i)) k ≡ due k
    go k o true e =
        padded-low S (part_zero_h S F i) k (ltb-true k S.l e)
        ∙ sym (ap (λ z. z % S.p) (dot-none (dim S) (λ b. entry (dim S) F k b) (row S i) (λ b m. zero-rows S random k b (ltb-true k S.l e) m)) ∙ zero-mod S.p)
    go k o false e = high k (k - S.l) (omega (arith, ltb-false k S.l e)) (omega (arith, ltb-false k S.l e))
