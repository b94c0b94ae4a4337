-- What stands behind the call OPEN A KEY: its table, the columns in the list of shares, and what the four openings make of the key.
-- seven-determine, determined-seven, fewer-fail, failed-fewer, fewer-rows: which depots determine the secrets
-- OpenKeyOk: what an accepted call says of its inputs; open_key-ok and open_key-accepts are the two ways
-- open_key-first, open_key-left, open_key-sized: the table but for its last rule, and what it says of the rounds' number where it passes
-- open_key-by-shares: all but the shares' elements and their rounds in order, the refusal is 4 where some share is no field element, and else 19 where the
-- rounds of some column differ
-- column-vec, columns-below, column_shares-flat: a column of the list, and the list of its columns
-- key-columns: the key from its columns
-- key_of: the key from its sixteen positions, or 16
-- four-answered, one-refused: the key where all four columns are answered, and the lowest column that is not
-- few-open: the opening by fewer than seven depots
-- KeyOpeningIs: the opening of a key is that of its positions, or 6, or 7
-- open_key-gives: the call and its buffer where its table passes
use mathlib.Core.Path.{◌≡◌, refl, ap, sym, ◌∙◌}
use mathlib.Core.Bool.{Bool, true, false, not, false≢true}
use mathlib.Core.List.{List, [], ◌∷◌, ◌++◌}
use mathlib.Core.Logic.{◌⊎◌, inl, inr}
use Prim.Native.Nat.{ℕ, ◌+◌, ◌*◌, ◌/◌, ◌%◌, ◌^◌, ◌≤◌, ◌<◌}
use native.Mathlib.Nat.{div-add-mod'}
use native.Mathlib.Omega.{arith}
use lib.Arith.{digits_lt}
use lib.ListN.{length, get_or}
use borrow.Author.Tests.{lt-ltb, le-leb, leb-true, lt-leb, leb-false, not-true, not-false}
use Rattle.base.specs.Choice.{pick}
use Rattle.base.specs.Rules.{Rule, ◌when◌, or_when, refusal, Answer, refused, given, left_by}
use Rattle.base.specs.Search.{every, first, First, found, missing, Vec}
use Rattle.base.specs.Fill.{tab}
use Rattle.base.specs.Matrix.{entry, flat, all_below}
use Rattle.base.proofs.Rules.{refusal-after, clear, declined, unchanged}
use Rattle.base.proofs.Search.{first-is, first_found, first-missing}
use Rattle.base.proofs.Fill.{length-tab, get_d-tab, tab-is, tab-ext, tab-vec, flat-at}
use Rattle.base.proofs.Matrix.{below-is, place_at}
use Rattle.field.specs.Dot.{at}
use Rattle.scheme.specs.Answers.{undetermined, inconsistent}
use Rattle.scheme.specs.Answering.{Behind}
use Rattle.scheme.specs.Sets.{holds, members, has_row, determines}
use Rattle.scheme.specs.Opening.{agree}
use Rattle.scheme.specs.Calls.{Lent, elements, room, limits, size, beyond_field, sizes, in_field, beyond, open_answer}
use Rattle.scheme.proofs.PointSets.{point-sets}
use Rattle.scheme.proofs.Members.{members-wide}
use Rattle.scheme.proofs.Calls.{limits-clear, size_is, SetOk, in_order, by-own}
use Rattle.scheme.proofs.Certificates.{undetermined-in-hand}
use Rattle.scheme.proofs.Answering.{OpeningIs, secrets, by-six, by-seven, opening-is}
use Rattle.board_keys.specs.Keys.{key_setup, member_count, column_shares, column_opened, opened, columns_agree, key_opening, open_key_rules, open_key_call, open_key_left}
use Rattle.board_keys.specs.Answering.{AllBehind}
use Rattle.board_keys.proofs.Setup.{key-points, key-limits, key-setup}

-- THE SET
pub key_set : (s : ℕ) → s < 2 ^ 16 → SetOk key_setup s
key_set s l = record { setup = key-setup; inside = l }

-- seven depots determine the secrets, and no fewer; fewer have no row for any position
module _ (s : ℕ) where
  pub seven-determine : 7 ≤ member_count s → determines key_setup (holds s) ≡ true
  seven-determine l = (point-sets key_setup key-points (holds s)).exactly (omega arith) ∙ le-leb 7 (member_count s) l

  pub fewer-fail : member_count s < 7 → determines key_setup (holds s) ≡ false
  fewer-fail l = (point-sets key_setup key-points (holds s)).exactly (omega arith) ∙ lt-leb 7 (member_count s) l

  pub fewer-rows : member_count s < 7 → has_row key_setup (holds s) 0 ≡ false
  fewer-rows l = (point-sets key_setup key-points (holds s)).too_few l 0 (omega arith)

  pub determined-seven : determines key_setup (holds s) ≡ true → 7 ≤ member_count s
  determined-seven d = leb-true 7 (member_count s) (sym ((point-sets key_setup key-points (holds s)).exactly (omega arith)) ∙ d)

  pub failed-fewer : determines key_setup (holds s) ≡ false → member_count s < 7
  failed-fewer d = leb-false 7 (member_count s) (sym ((point-sets key_setup key-points (holds s)).exactly (omega arith)) ∙ d)

-- the set's members among all 32 bits are those among the sixteen depots
pub key-members : (s : ℕ) → s < 2 ^ 16 → length (members 32 (holds s)) ≡ member_count s
key-members s l = ap length (members-wide 16 32 s l (omega arith))

-- THE TABLE
pub record OpenKeyOk (s : ℕ) (xs rs out : List ℕ) : Type 0 where
  pub inside : s < 2 ^ 16
  pub shares : Vec 257 (4 * member_count s) xs
  pub rounds : length rs ≡ 4 * member_count s
  pub one-round : columns_agree s rs ≡ true
  pub room : length out ≡ 16

module _ (s : ℕ) (xs rs out : List ℕ) where
  abbrev open_key-lent : List Lent
  open_key-lent =
      elements xs (4 * length (members 32 (holds s))) ∷ room (length rs) (4 * length (members 32 (holds s))) ∷ room (length out) 16 ∷ []

  abbrev open_key-own : List Rule
  open_key-own = (5 when beyond 16 s) ∷ (19 when not (columns_agree s rs)) ∷ []

  -- all rules but the last, on the rounds
  abbrev pub open_key-first : List Rule
  open_key-first =
      size (length xs) (4 * length (members 32 (holds s)))
      ∷ size (length rs) (4 * length (members 32 (holds s))) ∷ size (length out) 16 ∷ beyond_field 257 xs ∷ (5 when beyond 16 s) ∷ []

  -- no rule on the setup can apply
  pub open_key-left : refusal (open_key_rules s xs rs out) ≡ or_when (refusal open_key-first) 19 (not (columns_agree s rs))
  open_key-left = refusal-after (limits key_setup) (sizes open_key-lent ++ (in_field 257 open_key-lent ++ open_key-own)) (limits-clear key_setup key-limits)

  pub open_key-sized : refusal open_key-first ≡ 0 → (length rs ≡ 4 * length (members 32 (holds s))) × (s < 2 ^ 16)
  open_key-sized e =
      let c = clear open_key-first tt e in
      (size_is (length rs) (4 * length (members 32 (holds s))) c.1.0, leb-false (2 ^ 16) s c.1.1.1.1.0)

  pub open_key-ok : refusal (open_key_rules s xs rs out) ≡ 0 → OpenKeyOk s xs rs out
  open_key-ok e =
      let r = in_order key_setup open_key-lent open_key-own tt e in
      let l : s < 2 ^ 16 = leb-false (2 ^ 16) s r.own.0 in
      record {
        inside = l;
        shares = rw (key-members s l) at r.lent.0;
        rounds = rw (key-members s l) at r.lent.1.0;
        one-round = not-false (columns_agree s rs) r.own.1.0;
        room = r.lent.1.1.0;
      }

  pub open_key-by-shares : s < 2 ^ 16 → length xs ≡ 4 * member_count s → length rs ≡ 4 * member_count s → length out ≡ 16
      → refusal (open_key_rules s xs rs out) ≡ pick (all_below 257 xs) (pick (columns_agree s rs) 0 19) 4
  open_key-by-shares l a r b =
      by-own key_setup
      (room (length xs) (4 * length (members 32 (holds s))) ∷ room (length rs) (4 * length (members 32 (holds s))) ∷ room (length out) 16 ∷ [])
      (beyond_field 257 xs ∷ open_key-own) key-limits
      (rw (key-members s l) a, (rw (key-members s l) r, (b, tt)))
      ∙ rw (lt-leb (2 ^ 16) s l) (last (all_below 257 xs) (columns_agree s rs))
    where
      last : (b c : Bool) → refusal ((4 when not b) ∷ (5 when false) ∷ (19 when not c) ∷ []) ≡ pick b (pick c 0 19) 4
      last true true = refl
      last true false = refl
      last false c = refl

  pub open_key-accepts : OpenKeyOk s xs rs out → refusal (open_key_rules s xs rs out) ≡ 0
  open_key-accepts k =
      open_key-by-shares k.inside k.shares.size k.rounds k.room
      ∙ rw (below-is 257 xs (λ t m. k.shares.small t (omega (arith, m, k.shares.size))), k.one-round) refl

  -- what the call answers and leaves where its table passes
  pub open_key-gives : (a : Answer) → refusal (open_key_rules s xs rs out) ≡ 0 → key_opening s xs ≡ a
      → (open_key_call s xs rs out ≡ open_answer a) × (open_key_left s xs rs out ≡ left_by a.number a.values out)
  open_key-gives a z e = rw (z, e) (refl, refl)

  -- and where it does not
  pub open_key-declines : (r : ℕ) → (r ≡ 0 → ⊥) → refusal (open_key_rules s xs rs out) ≡ r
      → (open_key_call s xs rs out ≡ refused r) × (open_key_left s xs rs out ≡ out)
  open_key-declines r n e = rw e (sym (declined r _ n), sym (unchanged r _ _ n))

-- COLUMNS OF THE LIST
module _ (s : ℕ) where
  pub columns-counted : (rs : List ℕ) (k : ℕ) → k ≡ member_count s → every 4 (λ b. agree (tab k (entry k rs b))) ≡ columns_agree s rs
  unfolding column_shares
  columns-counted rs k e = ap (λ k. every 4 (λ b. agree (tab k (entry k rs b)))) e

  pub column-at : (xs : List ℕ) (b a : ℕ) → a < member_count s → at (column_shares s xs b) a ≡ entry (member_count s) xs b a
  unfolding column_shares
  column-at xs b a l = get_d-tab (member_count s) (entry (member_count s) xs b) 0 a l

  pub column-length : (xs : List ℕ) (b : ℕ) → length (column_shares s xs b) ≡ member_count s
  unfolding column_shares
  column-length xs b = length-tab (member_count s) (entry (member_count s) xs b)

  pub column-vec : (xs : List ℕ) (b : ℕ) → b < 4 → Vec 257 (4 * member_count s) xs → Vec 257 (member_count s) (column_shares s xs b)
  unfolding column_shares
  column-vec xs b h v = tab-vec 257 (member_count s) (entry (member_count s) xs b) (λ a l. v.small (b * member_count s + a) (digits_lt h l))

  -- every column is in the field, so the list is
  pub columns-below : (xs : List ℕ) → length xs ≡ 4 * member_count s → ((b : ℕ) → b < 4 → Vec 257 (member_count s) (column_shares s xs b)) → all_below 257 xs ≡ true
  columns-below xs e each =
      below-is 257 xs (λ t l.
      let p = place_at (member_count s) 4 t (omega (arith, e)) in
      let m = member_count s in
      let q : t / m * m + t % m ≡ t = div-add-mod' t m in
      rw (ap (λ k. get_or xs k 0) (sym q) ∙ sym (column-at xs (t / m) (t % m) p.2)) ((each (t / m) p.1).small (t % m) p.2))

  -- a list that is given column by column
  pub column_shares-flat : (f : ℕ → ℕ → ℕ) (b : ℕ) → b < 4 → column_shares s (tab (4 * member_count s) (flat (member_count s) f)) b ≡ tab (member_count s) (f b)
  unfolding column_shares
  column_shares-flat f b h =
      tab-ext (member_count s) _ (f b) (λ a l.
      get_d-tab (4 * member_count s) (flat (member_count s) f) 0 (b * member_count s + a) (digits_lt h l) ∙ sym (flat-at (member_count s) f b a l))

-- sixteen positions whose four columns are those of the key are the key
pub key-columns : (key : List ℕ) (vs : ℕ → List ℕ) → length key ≡ 16 → ((b k : ℕ) → b < 4 → k < 4 → at (vs b) k ≡ entry 4 key b k)
    → tab 16 (flat 4 (λ b. at (vs b))) ≡ key
key-columns key vs e h =
    sym (tab-is 16 (flat 4 (λ b. at (vs b))) 0 key e (λ t l. ap (at key) (sym (div-add-mod' t 4)) ∙ sym (h (t / 4) (t % 4) (omega arith) (omega arith))))

-- THE FOUR OPENINGS
abbrev pub key_of : List ℕ → Answer
key_of ps = pick (all_below 256 ps) (given ps) (refused 16)

module _ (s : ℕ) (xs : List ℕ) where
  pub all-answered : ((b : ℕ) → b < 4 → (column_opened s xs b).answered ≡ true) → key_opening s xs ≡ key_of (opened s xs)
  unfolding key_opening
  all-answered h = rw (first-missing (λ b. not (column_opened s xs b).answered) 4 (λ b l. ap not (h b l))) refl

  pub one-refused : (b : ℕ) → b < 4 → ((j : ℕ) → j < b → (column_opened s xs j).answered ≡ true) → (column_opened s xs b).answered ≡ false
      → key_opening s xs ≡ column_opened s xs b
  unfolding key_opening
  one-refused b l below e =
      rw (first_found (λ b. not (column_opened s xs b).answered) 4 b l (ap not e) (λ j m. ap not (below j m)), lt-ltb b 4 l) refl

  pub opened-at : (vs : ℕ → List ℕ) → ((b : ℕ) → b < 4 → column_opened s xs b ≡ given (vs b)) → opened s xs ≡ tab 16 (flat 4 (λ b. at (vs b)))
  unfolding opened
  opened-at vs h = tab-ext 16 _ _ (λ t l. ap (λ (a : Answer). at a.values (t % 4)) (h (t / 4) (omega arith)))

  pub four-answered : (vs : ℕ → List ℕ) → ((b : ℕ) → b < 4 → column_opened s xs b ≡ given (vs b)) → key_opening s xs ≡ key_of (tab 16 (flat 4 (λ b. at (vs b))))
  four-answered vs h = all-answered (λ b l. ap (λ (a : Answer). a.answered) (h b l)) ∙ ap key_of (opened-at vs h)

  -- each column answered or inconsistent
  pub key-or-seven : (vs : ℕ → List ℕ) → ((b : ℕ) → b < 4 → (column_opened s xs b ≡ given (vs b)) ⊎ (column_opened s xs b ≡ inconsistent))
      → (key_opening s xs ≡ key_of (tab 16 (flat 4 (λ b. at (vs b))))) ⊎ (key_opening s xs ≡ inconsistent)
  key-or-seven vs each = go (first lacks 4) (first-is lacks 4)
    where
      lacks : ℕ → Bool
      lacks b = not (column_opened s xs b).answered

      says : (b : ℕ) → (column_opened s xs b ≡ given (vs b)) ⊎ (column_opened s xs b ≡ inconsistent) → (column_opened s xs b).answered ≡ true
          → column_opened s xs b ≡ given (vs b)
      says b (inl e) t = e
      says b (inr e) t = absurd (false≢true (sym (ap (λ (a : Answer). a.answered) e) ∙ t))

      not-given : (b : ℕ) → (column_opened s xs b ≡ given (vs b)) ⊎ (column_opened s xs b ≡ inconsistent) → (column_opened s xs b).answered ≡ false
          → column_opened s xs b ≡ inconsistent
      not-given b (inl e) t = absurd (false≢true (sym t ∙ ap (λ (a : Answer). a.answered) e))
      not-given b (inr e) t = e

      go : (r : ℕ) → First lacks 4 r → (key_opening s xs ≡ key_of (tab 16 (flat 4 (λ b. at (vs b))))) ⊎ (key_opening s xs ≡ inconsistent)
      go r (found l t below) = inr (one-refused r l (λ j m. not-false _ (below j m)) (not-true _ t) ∙ not-given r (each r l) (not-true _ t))
      go r (missing e all) = inl (four-answered vs (λ b l. says b (each b l) (not-false _ (all b l))))

-- THE OPENING OF A KEY
-- the opening by fewer than seven
pub few-open : (s : ℕ) (xs : List ℕ) → member_count s < 7 → key_opening s xs ≡ undetermined 0
unfolding column_opened
few-open s xs few =
    let o : column_opened s xs 0 ≡ undetermined 0
    = undetermined-in-hand key_setup (holds s) (column_shares s xs 0) 0 (omega arith) (λ j m. absurd (omega arith)) (fewer-rows s few) in
    one-refused s xs 0 (omega arith) (λ j m. absurd (omega arith)) (ap (λ (a : Answer). a.answered) o) ∙ o

pub data KeyOpeningIs (s : ℕ) (xs : List ℕ) : Type 0 where
  positions : determines key_setup (holds s) ≡ true → AllBehind s xs → key_opening s xs ≡ key_of (opened s xs) → KeyOpeningIs s xs
  no_row : determines key_setup (holds s) ≡ false → (q : ℕ) → key_opening s xs ≡ undetermined q → KeyOpeningIs s xs
  no-vector : determines key_setup (holds s) ≡ true → (AllBehind s xs → ⊥) → key_opening s xs ≡ inconsistent → KeyOpeningIs s xs

pub key_opening-is : (s : ℕ) (xs : List ℕ) → KeyOpeningIs s xs
unfolding column_opened
key_opening-is s xs = start (determines key_setup (holds s)) refl
  where
    each : (b : ℕ) → OpeningIs key_setup s (column_shares s xs b)
    each b = opening-is key_setup s (column_shares s xs b)

    lacks : ℕ → Bool
    lacks b = not (column_opened s xs b).answered

    behind : (b : ℕ) → (column_opened s xs b).answered ≡ true → OpeningIs key_setup s (column_shares s xs b) → Behind key_setup s (column_shares s xs b)
    behind b t (secrets d h vs e) = h
    behind b t (by-six d q e) = absurd (false≢true (sym (ap (λ (a : Answer). a.answered) e) ∙ t))
    behind b t (by-seven d n e) = absurd (false≢true (sym (ap (λ (a : Answer). a.answered) e) ∙ t))

    refused-by : determines key_setup (holds s) ≡ true → (b : ℕ) → b < 4 → (column_opened s xs b).answered ≡ false → key_opening s xs ≡ column_opened s xs b
        → OpeningIs key_setup s (column_shares s xs b) → KeyOpeningIs s xs
    refused-by d b l t k (secrets _ h vs e) = absurd (false≢true (sym t ∙ ap (λ (a : Answer). a.answered) e))
    refused-by d b l t k (by-six f q e) = absurd (false≢true (sym f ∙ d))
    refused-by d b l t k (by-seven _ n e) = no-vector d (λ h. n (h b l)) (k ∙ e)

    go : determines key_setup (holds s) ≡ true → (r : ℕ) → First lacks 4 r → KeyOpeningIs s xs
    go d r (found l t below) =
        refused-by d r l (not-true _ t) (one-refused s xs r l (λ j m. not-false _ (below j m)) (not-true _ t)) (each r)
    go d r (missing e all) =
        positions d (λ b l. behind b (not-false _ (all b l)) (each b)) (all-answered s xs (λ b l. not-false _ (all b l)))

    none-determined : determines key_setup (holds s) ≡ false → OpeningIs key_setup s (column_shares s xs 0) → KeyOpeningIs s xs
    none-determined f (secrets d h vs e) = absurd (false≢true (sym f ∙ d))
    none-determined f (by-seven d n e) = absurd (false≢true (sym f ∙ d))
    none-determined f (by-six d q e) =
        let o : column_opened s xs 0 ≡ undetermined q = e in
        no_row f q (one-refused s xs 0 (omega arith) (λ j m. absurd (omega arith)) (ap (λ (a : Answer). a.answered) o) ∙ o)

    start : (d : Bool) → determines key_setup (holds s) ≡ d → KeyOpeningIs s xs
    start true d = go d (first lacks 4) (first-is lacks 4)
    start false d = none-determined d (each 0)
