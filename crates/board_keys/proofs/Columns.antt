-- What the shares give by interpolation is what the four openings are, by scheme's laws of openings on a points matrix.
-- key-values: every share on its column's polynomial: the key from the positions
-- key-differs: some share is not: refusal 7
-- Ends: the answer of an opening whose table passes, and what it leaves; ends-few, ends-differs, ends-no-byte and ends-key are its four ways
use mathlib.Core.Path.{◌≡◌, refl, sym, ap, ◌∙◌}
use mathlib.Core.Bool.{Bool, true, false, not, true≢false}
use mathlib.Core.List.{List, []}
use Prim.Native.Nat.{ℕ, ◌+◌, ◌*◌, ◌/◌, ◌%◌, ◌^◌, ◌≤◌, ◌<◌}
use native.Mathlib.Omega.{arith}
use borrow.Author.Tests.{eqb-true, eqb-false, not-true, not-false}
use lib.Dec.{eqb}
use lib.ListN.{length}
use Rattle.base.specs.Rules.{Answer, refused, given, left_by}
use Rattle.base.specs.Search.{Vec}
use Rattle.base.specs.Fill.{tab}
use Rattle.base.specs.Matrix.{entry, Below, all_below}
use Rattle.base.proofs.Fill.{length-tab, get_d-tab, tab-is, tab-ext}
use Rattle.base.proofs.Matrix.{below_by, below-is}
use Rattle.field.specs.Dot.{at, dot}
use Rattle.field.proofs.Dot.{dot-ext}
use Rattle.polynomial.specs.Polynomial.{lagrange}
use Rattle.scheme.specs.Answers.{undetermined, inconsistent}
use Rattle.scheme.specs.Sets.{holds, members}
use Rattle.scheme.specs.Opening.{opening}
use Rattle.scheme.specs.Calls.{open_answer}
use Rattle.scheme.proofs.Members.{members-wide}
use Rattle.scheme.proofs.Certificates.{opened-in-hand}
use Rattle.scheme.proofs.PointSets.{node}
use Rattle.scheme.proofs.Interpolated as paper
use Rattle.key_values.specs.Inner.{AllAgreed, all, differs, depots, curve, Interpolates}
use Rattle.board_keys.specs.Keys.{key_setup, member_count, column_shares, column_opened, key_opening}
use Rattle.board_keys.specs.Inner.{KeyTaken}
use Rattle.board_keys.proofs.Setup.{key-points}
use Rattle.board_keys.proofs.Opened.{key-members, failed-fewer, few-open, column-at, column-vec, key_of, four-answered, KeyOpeningIs, positions, no_row, no-vector, key_opening-is}

module _ (s : ℕ) (xs : List ℕ) (inside : s < 2 ^ 16) (many : 7 ≤ member_count s) (ok : Vec 257 (4 * member_count s) xs) where
  same : depots s ≡ members 16 (holds s)
  same = members-wide 16 32 s inside (omega arith)

  -- column b's polynomial, as the scheme's laws have it
  abbrev poly : ℕ → ℕ → ℕ
  poly b = paper.curve key_setup (holds s) (column_shares s xs b)

  same-curve : (b z : ℕ) → curve (depots s) xs b z ≡ poly b z
  unfolding curve
  same-curve b z =
      ap (λ ms. dot 7 (lagrange 257 (λ a. 7 + at ms a) 7 z) (entry (length ms) xs b)) same
      ∙ dot-ext 7 (lagrange 257 (node key_setup (holds s)) 7 z) _ _ (λ a l. sym (column-at s xs b a (omega (arith, many))))

  vec : (b : ℕ) → b < 4 → Vec 257 (member_count s) (column_shares s xs b)
  vec b l = column-vec s xs b l ok

  -- the test of the share at place a of column b
  abbrev test : ℕ → ℕ → Type 0
  test b a = poly b (node key_setup (holds s) a) % 257 ≡ at (column_shares s xs b) a

  abbrev tests : ℕ → ℕ → Bool
  tests b a = eqb (curve (depots s) xs b (7 + at (depots s) a) % 257) (entry (length (depots s)) xs b a)

  module _ {values : List ℕ} {r : Bool} (I : Interpolates (depots s) xs r values) where
    size : length (depots s) ≡ member_count s
    size = ap length same

    here : (b a : ℕ) → curve (depots s) xs b (7 + at (depots s) a) % 257 ≡ poly b (node key_setup (holds s) a) % 257
    here b a = ap (λ z. z % 257) (same-curve b (7 + at (depots s) a) ∙ ap (λ ms. poly b (7 + at ms a)) same)

    there : (b a : ℕ) → a < member_count s → entry (length (depots s)) xs b a ≡ at (column_shares s xs b) a
    there b a l = ap (λ k. entry k xs b a) size ∙ sym (column-at s xs b a l)

    opens : r ≡ true → (b : ℕ) → b < 4 → column_opened s xs b ≡ given (tab 4 (λ q. poly b q % 257))
    unfolding column_opened
    opens e b l = paper.through key_setup key-points (holds s) many (column_shares s xs b) (vec b l) (go e I.further)
      where
        go : {r : Bool} → r ≡ true → AllAgreed (length (depots s)) tests r → (a : ℕ) → 7 ≤ a → a < member_count s → test b a
        go e (all h) a m n = sym (here b a) ∙ eqb-true _ _ (h b a l m (omega (arith, size, n))) ∙ there b a n
        go e (differs c d k m n h) a i j = absurd (true≢false (sym e))

    pub key-values : r ≡ true → key_opening s xs ≡ key_of values
    key-values e =
        four-answered s xs (λ b. tab 4 (λ q. poly b q % 257)) (opens e)
        ∙ ap key_of (tab-ext 16 _ _ (λ t l. get_d-tab 4 (λ q. poly (t / 4) q % 257) 0 (t % 4) (omega arith) ∙ sym (ap (λ z. z % 257) (same-curve (t / 4) (t % 4))))
        ∙ sym I.positions)

    pub key-differs : r ≡ false → key_opening s xs ≡ inconsistent
    unfolding column_opened
    key-differs e = go e I.further
      where
        by : (b : ℕ) → b < 4 → opening key_setup (holds s) (column_shares s xs b) ≡ inconsistent → KeyOpeningIs s xs → key_opening s xs ≡ inconsistent
        by b l f (positions d h k) =
            let v = h b l in
            absurd (true≢false (sym (ap (λ (a : Answer). a.answered) (opened-in-hand key_setup (holds s) (column_shares s xs b) d v.vector v.ok v.all))
            ∙ ap (λ (a : Answer). a.answered) f))
        by b l f (no_row d q k) = absurd (omega (arith, many, failed-fewer s d))
        by b l f (no-vector d n k) = k

        go : {r : Bool} → r ≡ false → AllAgreed (length (depots s)) tests r → key_opening s xs ≡ inconsistent
        go e (all h) = absurd (true≢false e)
        go e (differs b a l m n h) =
            let k : a < member_count s = omega (arith, size, n) in
            by b l
            (paper.off key_setup key-points (holds s) many (column_shares s xs b) (vec b l) a m k
            (λ t. eqb-false _ _ h (here b a ∙ t ∙ sym (there b a k))))
            (key_opening-is s xs)

-- HOW AN OPENING IN ORDER ENDS: its answer and what stands in the key
abbrev pub Ends : (s : ℕ) (xs out : List ℕ) → Answer → List ℕ → Type 0
Ends s xs out a left = (a ≡ open_answer (key_opening s xs)) × (left ≡ left_by (key_opening s xs).number (key_opening s xs).values out)

module _ (s : ℕ) (xs out : List ℕ) (ok : KeyTaken s xs out) (k : ℕ) (count : k ≡ length (members 32 (holds s))) where
  counted : k ≡ member_count s
  counted = count ∙ key-members s ok.inside

  pub asked : 7 ≤ k → (s < 2 ^ 16) × (((7 ≤ length (depots s)) × (length xs ≡ 4 * length (depots s))) × Below 257 xs)
  asked l =
      let size = ok.shares.size ∙ ap (λ z. 4 * z) (sym (key-members s ok.inside)) in
      let small = below_by 257 xs (omega arith) (below-is 257 xs (λ t m. ok.shares.small t (omega (arith, m, ok.shares.size)))) in
      (ok.inside, ((omega (arith, l, count), size), small))

  pub ends-few : k < 7 → Ends s xs out (undetermined 0) out
  ends-few l = rw (few-open s xs (omega (arith, l, counted))) (refl, refl)

  module _ (many : 7 ≤ k) {values : List ℕ} {r : Bool} (I : Interpolates (depots s) xs r values) where
    enough : 7 ≤ member_count s
    enough = omega (arith, many, counted)

    pub ends-differs : not r ≡ true → Ends s xs out inconsistent out
    ends-differs e = rw (key-differs s xs ok.inside enough ok.shares I (not-true r e)) (refl, refl)

    module _ (all : not r ≡ false) where
      pub is_key : key_opening s xs ≡ key_of values
      is_key = key-values s xs ok.inside enough ok.shares I (not-false r all)

      pub ends-no-byte : not (all_below 256 values) ≡ true → Ends s xs out (refused 16) out
      ends-no-byte e = rw (is_key, not-true (all_below 256 values) e) (refl, refl)

      pub ends-key : not (all_below 256 values) ≡ false → {left : List ℕ} → left ≡ tab 16 (at values) → Ends s xs out (given []) left
      ends-key e h =
          rw (is_key, not-false (all_below 256 values) e)
          (refl, h ∙ sym (tab-is 16 (at values) 0 values (ap length I.positions ∙ length-tab 16 _) (λ t l. refl)))
