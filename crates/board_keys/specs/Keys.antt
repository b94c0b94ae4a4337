-- Board keys (document 02, A3: "sixteen bytes in and sixteen bytes out", "for p 257, ℓ 4, e 3, n 16, points matrix"): the fixed setup and the two calls
-- of the product, over the definitions of document 01's calls (crate scheme, specs/Calls.antt).
-- key_setup: the setup of every board key
-- deal_key_call, deal_key_left_g, deal_key_left_h: DEAL A KEY, and what it leaves in the lent buffers
-- column_shares: the shares of one column in the list that an opening takes, or their rounds
-- column_opened: the opening of that column
-- opened: the sixteen positions opened, in the order of the key's bytes
-- columns_agree: the rounds of each column agree
-- key_opening: the key as values, or the first refusal of the four openings, or 16
-- open_key_rules, open_key_call, open_key_left: OPEN A KEY
use Rattle.std.specs.Prelude.{Bool, not, List, [], ◌∷◌, ℕ, ◌*◌, ltb, length}
use Rattle.base.specs.Choice.{pick}
use Rattle.base.specs.Rules.{Rule, ◌when◌, refusal, Answer, refused, given, answer_by, left_by}
use Rattle.base.specs.Search.{every, first}
use Rattle.base.specs.Fill.{tab}
use Rattle.base.specs.Matrix.{entry, flat, all_below}
use Rattle.field.specs.Dot.{at}
use Rattle.scheme.specs.Setup.{Setup}
use Rattle.scheme.specs.Points.{points_matrix}
use Rattle.scheme.specs.Sets.{holds, members}
use Rattle.scheme.specs.Opening.{opening, agree}
use Rattle.scheme.specs.Calls.{elements, room, table, beyond, deal_all_call, deal_all_left_g, deal_all_left_h, open_answer}

abbrev pub key_setup : Setup
key_setup = record { p = 257; l = 4; e = 3; n = 16; M = points_matrix 257 7 16 }

-- DEAL A KEY, to all sixteen depots. "Byte 4b + k of the key is position k of column b": deal-to-all takes position k of vector b at b * 4 + k, so the
-- bytes are its secrets as they stand
abbrev pub deal_key_call : (key random gs hs : List ℕ) → Answer
deal_key_call key random gs hs = deal_all_call key_setup key random gs hs

abbrev pub deal_key_left_g : (key random gs hs : List ℕ) → List ℕ
deal_key_left_g key random gs hs = deal_all_left_g key_setup key random gs hs

abbrev pub deal_key_left_h : (key random gs hs : List ℕ) → List ℕ
deal_key_left_h key random gs hs = deal_all_left_h key_setup key random gs hs

-- OPEN A KEY, by the set s, its shares, those of column 0 by rising holder, then those of columns 1, 2 and 3, and their rounds in the same order
abbrev pub member_count : ℕ → ℕ
member_count s = length (members 16 (holds s))

unfoldable pub column_shares : ℕ → List ℕ → ℕ → List ℕ
column_shares s xs b = tab (member_count s) (entry (member_count s) xs b)

-- "Four openings give the key."
unfoldable pub column_opened : ℕ → List ℕ → ℕ → Answer
column_opened s xs b = opening key_setup (holds s) (column_shares s xs b)

unfoldable pub opened : ℕ → List ℕ → List ℕ
opened s xs = tab 16 (flat 4 (λ b. at (column_opened s xs b).values))

-- "16, an opened position is 256 and so no byte, given after all other refusals"
unfoldable pub key_opening : ℕ → List ℕ → Answer
key_opening s xs =
    let b = first (λ b. not (column_opened s xs b).answered) 4 in
    pick (ltb b 4) (column_opened s xs b) (pick (all_below 256 (opened s xs)) (given (opened s xs)) (refused 16))

-- "Shares combined or opened together come with their rounds, which must agree, in a key column by column" (document 02, A8)
abbrev pub columns_agree : ℕ → List ℕ → Bool
columns_agree s rs = every 4 (λ b. agree (column_shares s rs b))

abbrev pub open_key_rules : ℕ → (xs rs out : List ℕ) → List Rule
open_key_rules s xs rs out =
    let k = 4 * length (members 32 (holds s)) in
    table key_setup (elements xs k ∷ room (length rs) k ∷ room (length out) 16 ∷ []) ((5 when beyond 16 s) ∷ (19 when not (columns_agree s rs)) ∷ [])

abbrev pub open_key_call : ℕ → (xs rs out : List ℕ) → Answer
open_key_call s xs rs out = answer_by (refusal (open_key_rules s xs rs out)) (open_answer (key_opening s xs))

abbrev pub open_key_left : ℕ → (xs rs out : List ℕ) → List ℕ
open_key_left s xs rs out =
    left_by (refusal (open_key_rules s xs rs out)) (left_by (key_opening s xs).number (key_opening s xs).values out) out
