-- When the two calls of board keys answer (document 01, "What a call gives when it declines"; document 02, A3), as scheme's specs/Answering.antt has it for
-- the calls below; proofs/Answering.antt proves it.
-- KeysLowest: each gives the lowest number that applies
-- KeysMarked: each answer says that the call answered exactly where the refusal's number is 0
-- KeyOpenAnswers: what an opening answers whose inputs break nothing
-- KeysAnswering: a call whose inputs break nothing answers
use Rattle.std.specs.Prelude.{◌≡◌, true, false, List, ◌↔◌, ℕ, ◌*◌, ◌^◌, ◌≤◌, ◌<◌, length}
use Rattle.base.specs.Rules.{Lowest}
use Rattle.base.specs.Search.{Vec}
use Rattle.base.specs.Matrix.{all_below}
use Rattle.scheme.specs.Calls.{deal_all_rules}
use Rattle.scheme.specs.Answering.{Marked, Answers, Behind}
use Rattle.board_keys.specs.Keys.{key_setup, deal_key_call, member_count, column_shares, columns_agree, opened, open_key_rules, open_key_call}

pub record KeysLowest : Type 0 where
  pub deal : (key random gs hs : List ℕ) → Lowest (deal_all_rules key_setup key random gs hs)
  pub opening : (s : ℕ) (xs rs out : List ℕ) → Lowest (open_key_rules s xs rs out)

pub record KeysMarked : Type 0 where
  pub deal : (key random gs hs : List ℕ) → Marked (deal_key_call key random gs hs)
  pub opening : (s : ℕ) (xs rs out : List ℕ) → Marked (open_key_call s xs rs out)

-- some vector gives every share of each column
abbrev pub AllBehind : ℕ → List ℕ → Type 0
AllBehind s xs = (b : ℕ) → b < 4 → Behind key_setup s (column_shares s xs b)

-- 7 in any column comes before a 256 in any other
pub record KeyOpenAnswers (s : ℕ) (xs rs out : List ℕ) : Type 0 where
  pub answers : Answers (open_key_call s xs rs out) ↔ ((7 ≤ member_count s) × AllBehind s xs × (all_below 256 (opened s xs) ≡ true))
  pub six : ((open_key_call s xs rs out).number ≡ 6) ↔ (member_count s < 7)
  pub seven : ((open_key_call s xs rs out).number ≡ 7) ↔ ((7 ≤ member_count s) × (AllBehind s xs → ⊥))
  pub sixteen : ((open_key_call s xs rs out).number ≡ 16) ↔ ((7 ≤ member_count s) × AllBehind s xs × (all_below 256 (opened s xs) ≡ false))

pub record KeysAnswering : Type 0 where
  pub deal : (key random gs hs : List ℕ) → Vec 256 16 key → Vec 257 33 random → length gs ≡ 112 → length hs ≡ 112 → Answers (deal_key_call key random gs hs)
  pub opening : (s : ℕ) (xs rs out : List ℕ) → s < 2 ^ 16 → Vec 257 (4 * member_count s) xs → length rs ≡ 4 * member_count s → columns_agree s rs ≡ true
      → length out ≡ 16 → KeyOpenAnswers s xs rs out
