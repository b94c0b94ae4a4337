-- Rounds of a key, column by column.
-- agree-tab: a list's rounds agree exactly where each is the first
-- column-agrees: what the test of one column says
-- one-round: all the rounds one number, so those of each column
use mathlib.Core.Path.{◌≡◌, refl, ap, ◌∙◌}
use mathlib.Core.Bool.{Bool, true, false}
use mathlib.Core.List.{List, [], ◌∷◌}
use Prim.Native.Nat.{ℕ, ◌+◌, ◌-◌, ◌*◌, ◌<◌}
use native.Mathlib.Omega.{arith}
use lib.Arith.{digits_lt}
use lib.Dec.{eqb}
use lib.ListN.{length, take, drop}
use Rattle.std.proofs.lemmas.List.{get_or-take, get_or-drop, length-take-le, length-drop}
use Rattle.base.specs.Search.{every}
use Rattle.base.specs.Fill.{tab, tab_from}
use Rattle.base.specs.Matrix.{entry, all_are}
use Rattle.base.proofs.Search.{every-all, every-ext}
use Rattle.base.proofs.Fill.{length-tab, get_d-tab, tab-is}
use Rattle.base.proofs.Matrix.{row_fits}
use Rattle.field.specs.Dot.{at}
use Rattle.scheme.specs.Sets.{members, members_from}
use Rattle.scheme.specs.Opening.{agree, round_of}
use Rattle.scheme.proofs.Rounds.{round-first, agree_at, agree-is}
use Rattle.board_keys.specs.Keys.{column_shares, columns_agree}

pub agree-tab : (k : ℕ) (f : ℕ → ℕ) → agree (tab k f) ≡ every k (λ a. eqb (f a) (f 0))
unfolding all_are
agree-tab k f =
    ap (λ n. every n (λ a. eqb (at (tab k f) a) (round_of (tab k f)))) (length-tab k f)
    ∙ every-ext k _ _ (λ a l. rw (get_d-tab k f 0 a l, round-first (tab k f) ∙ get_d-tab k f 0 0 (omega arith)) refl)

-- a column of the rounds, as a part of their list
column-part : (k b : ℕ) (rs : List ℕ) → length rs ≡ 4 * k → b < 4 → take ((b * k + k) - b * k) (drop (b * k) rs) ≡ tab k (entry k rs b)
column-part k b rs e l =
    let s : (b * k + k) - b * k ≡ k = omega arith in
    tab-is k (entry k rs b) 0 _ (rw s (length-take-le k (drop (b * k) rs) (omega (arith, e, row_fits 4 k b l, length-drop (b * k) rs))))
    (λ a m. rw s (get_or-take k (drop (b * k) rs) a 0 m ∙ get_or-drop (b * k) rs a 0))

pub column-agrees : (k b : ℕ) (rs : List ℕ) (n : ℕ) (r : Bool) → length rs ≡ 4 * k → b < 4 → let column = take ((b * k + k) - b * k) (drop (b * k) rs) in
    n ≡ round_of column → r ≡ all_are n column → r ≡ agree (tab k (entry k rs b))
column-agrees k b rs n r e l f h =
    h ∙ ap (λ z. all_are z (take ((b * k + k) - b * k) (drop (b * k) rs))) f ∙ ap agree (column-part k b rs e l)

pub one-round : (k : ℕ) (rs : List ℕ) → length rs ≡ 4 * k → agree rs ≡ true → every 4 (λ b. agree (tab k (entry k rs b))) ≡ true
one-round k rs e h =
    every-all 4 (λ b. agree (tab k (entry k rs b))) (λ b l. agree-is (round_of rs) (tab k (entry k rs b)) (λ a m.
    let n : a < k = omega (arith, m, length-tab k (entry k rs b)) in
    let t : b * k + a < 4 * k = digits_lt l n in
    get_d-tab k (entry k rs b) 0 a n ∙ agree_at rs h (b * k + a) (omega (arith, e, t))))

-- BY COMPUTATION, two depots: four columns may stand at four rounds, and one that stands at two is noticed, the last too
four-rounds : columns_agree 3 (5 ∷ 5 ∷ 0 ∷ 0 ∷ 7 ∷ 7 ∷ 6 ∷ 6 ∷ []) ≡ true
unfolding tab tab_from members members_from every all_are column_shares
four-rounds = refl

two-in-the-last : columns_agree 3 (5 ∷ 5 ∷ 5 ∷ 5 ∷ 5 ∷ 5 ∷ 5 ∷ 6 ∷ []) ≡ false
unfolding tab tab_from members members_from every all_are column_shares
two-in-the-last = refl
