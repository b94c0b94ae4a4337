-- What holds of board keys (document 02, A3), in every round (A8: "in a key column by column"), over the calls' own definitions; proofs/ proves it. Quoted lines
-- are document 02's.
-- KeySets: which of the sixteen depots open a key, and which are private
-- KeyBack: a dealt key comes back
-- KeyHanded, KeyFound: demand 3 for a key
-- KeyLevel: the openers' shares of each column stand at one round
-- HonestKey: where all follow the rules
-- BoardKeys: all of it
use Rattle.std.specs.Prelude.{◌≡◌, true, false, ◌&&◌, List, [], ◌↔◌, ◌⊎◌, ℕ, ◌*◌, ◌^◌, ◌≤◌, ◌<◌, length}
use Rattle.base.specs.Rules.{refused, given}
use Rattle.base.specs.Search.{Vec}
use Rattle.base.specs.Fill.{tab}
use Rattle.base.specs.Matrix.{entry, flat, all_below}
use Rattle.field.specs.Dot.{at}
use Rattle.scheme.specs.Answers.{yes, no, undetermined, inconsistent}
use Rattle.scheme.specs.Sets.{holds, members}
use Rattle.scheme.specs.Calls.{determines_call, private_call}
use Rattle.board_keys.specs.Keys.{key_setup, deal_key_call, deal_key_left_g, member_count, column_shares, columns_agree, open_key_call, open_key_left}
use Rattle.demand.specs.Demand.{Dealing, Member, Done, DoneZero, Slip, Slips, Applied, one_column, Present, Handed, Level, hands_in, values_by, rounds_by, Array, column, ExactlyOne, Honest}

-- WHICH DEPOTS: "every seven depots" bring the key back, and no fewer; three and no more are private: every position has a sweeping vector. That a private
-- set learns nothing is request A14
pub record KeySets (s : ℕ) : Type 0 where
  pub seven : 7 ≤ member_count s → determines_call key_setup s ≡ yes
  pub fewer : member_count s < 7 → determines_call key_setup s ≡ no
  -- "6 and the lowest position with no row": it is 0
  pub six : member_count s < 7 → (xs rs out : List ℕ) → Vec 257 (4 * member_count s) xs → length rs ≡ 4 * member_count s → columns_agree s rs ≡ true → length out ≡ 16
      → (open_key_call s xs rs out ≡ undetermined 0) × (open_key_left s xs rs out ≡ out)
  pub three : member_count s ≤ 3 → private_call key_setup s ≡ yes
  pub four : 3 < member_count s → private_call key_setup s ≡ no

-- the opening gives the sixteen bytes, into any lent buffer of 16
pub record KeyOpens (s : ℕ) (xs rs out key : List ℕ) : Type 0 where
  pub answer : open_key_call s xs rs out ≡ given []
  pub buffer : open_key_left s xs rs out ≡ key

-- THE KEY COMES BACK: "A user who deals a key gets it back from every seven depots", and from more. The shares of column b that the dealt parts gs give:
-- entry b of each member's g; column b at the round `named b`, "a new dealing takes the round that the caller names"
abbrev pub dealt_shares : (s : ℕ) (gs : List ℕ) → List ℕ
dealt_shares s gs = tab (4 * member_count s) (flat (member_count s) (λ b a. entry 7 gs (at (members 16 (holds s)) a) b))

abbrev pub named_rounds : (s : ℕ) (named : ℕ → ℕ) → List ℕ
named_rounds s named = tab (4 * member_count s) (flat (member_count s) (λ b a. named b))

abbrev pub KeyBack : Type 0
KeyBack =
    (key random gs hs : List ℕ) → Vec 256 16 key → deal_key_call key random gs hs ≡ given []
    → (s : ℕ) → s < 2 ^ 16 → 7 ≤ member_count s → (out : List ℕ) → length out ≡ 16 → (named : ℕ → ℕ)
    → KeyOpens s (dealt_shares s (deal_key_left_g key random gs hs)) (named_rounds s named) out key

-- DEMAND 3 FOR A KEY
-- what the openers hand in for each of the four columns of dealing t: the group's members by the rules, the others any values and any rounds; the four columns may
-- stand at different rounds
pub record KeyHanded (group : ℕ) {I : Type 0} (slip : Slips I) (t : I) (openers : ℕ) (handed rounds : List ℕ) : Type 0 where
  pub count : length handed ≡ 4 * member_count openers
  pub count-rounds : length rounds ≡ 4 * member_count openers
  pub columns : (b : ℕ) → b < 4 → Handed key_setup group slip (one_column t b) openers (column_shares openers handed b) (column_shares openers rounds b)

-- the openers' shares of each column stand at one round
abbrev pub KeyLevel : {I : Type 0} → Slips I → I → ℕ → Type 0
KeyLevel slip t openers = (b : ℕ) → b < 4 → Level key_setup slip (one_column t b) openers

-- the sixteen positions of an array, position k of column b at 4b + k
abbrev pub positions : Array → List ℕ
positions A = tab 16 (flat 4 (λ b. at (column A b)))

-- refused, and the lent bytes stay: 4, a share handed in is no field element; 19, the rounds handed in for some column differ; 7, no vector gives all shares
-- of some column; 16, a position of the array is 256
pub data KeyRefused (openers : ℕ) (handed rounds out : List ℕ) (A : Array) : Type 0 where
  by-four : open_key_call openers handed rounds out ≡ refused 4 → open_key_left openers handed rounds out ≡ out → KeyRefused openers handed rounds out A
  by-nineteen : columns_agree openers rounds ≡ false → open_key_call openers handed rounds out ≡ refused 19 → open_key_left openers handed rounds out ≡ out
      → KeyRefused openers handed rounds out A
  by-seven : open_key_call openers handed rounds out ≡ inconsistent → open_key_left openers handed rounds out ≡ out → KeyRefused openers handed rounds out A
  by-sixteen : all_below 256 (positions A) ≡ false → open_key_call openers handed rounds out ≡ refused 16 → open_key_left openers handed rounds out ≡ out
      → KeyRefused openers handed rounds out A

-- "a crooked dealing, under the mission's conditions, still yields one key or none, and never none where every opener is a rule-keeper and no position of
-- its array is 256"; and so in every round: A is what the members have applied
pub record KeyFound (group : ℕ) {I J : Type 0} (D : I → Dealing) (Z : J → Dealing) (t : I) : Type 0 where
  pub array : Array
  pub one : ExactlyOne key_setup group (D t) array
  -- one key or none
  pub opens : (A : Applied key_setup group D Z) (openers : ℕ) (handed rounds out : List ℕ) → KeyHanded group A.slip t openers handed rounds → length out ≡ 16
      → KeyOpens openers handed rounds out (positions array) ⊎ KeyRefused openers handed rounds out array
  -- at most one: all openings that give sixteen bytes give the same, in whichever rounds
  pub same : (A A' : Applied key_setup group D Z) (openers others : ℕ) (handed rounds handed' rounds' out out' : List ℕ)
      → KeyHanded group A.slip t openers handed rounds → KeyHanded group A'.slip t others handed' rounds' → length out ≡ 16 → length out' ≡ 16
      → open_key_call openers handed rounds out ≡ given [] → open_key_call others handed' rounds' out' ≡ given []
      → open_key_left openers handed rounds out ≡ open_key_left others handed' rounds' out'
  -- never none
  pub never-refused : (A : Applied key_setup group D Z) (openers : ℕ) (handed rounds out : List ℕ)
      → KeyHanded group A.slip t openers handed rounds → length out ≡ 16
      → ((i : ℕ) → Member key_setup openers i → Member key_setup group i) → KeyLevel A.slip t openers
      → all_below 256 (positions array) ≡ true → KeyOpens openers handed rounds out (positions array)
  pub no_byte : (A : Applied key_setup group D Z) (openers : ℕ) (handed rounds out : List ℕ)
      → KeyHanded group A.slip t openers handed rounds → length out ≡ 16
      → ((i : ℕ) → Member key_setup openers i → Member key_setup group i) → KeyLevel A.slip t openers
      → all_below 256 (positions array) ≡ false → (open_key_call openers handed rounds out ≡ refused 16) × (open_key_left openers handed rounds out ≡ out)
  -- where one of them lags behind another in some column, it is 19
  pub lagging : (A : Applied key_setup group D Z) (openers : ℕ) (handed rounds out : List ℕ)
      → KeyHanded group A.slip t openers handed rounds → length out ≡ 16
      → ((i : ℕ) → Member key_setup openers i → Member key_setup group i)
      → (b i k : ℕ) → b < 4 → Member key_setup openers i → Member key_setup openers k → ((A.slip t b i).round ≡ (A.slip t b k).round → ⊥)
      → (open_key_call openers handed rounds out ≡ refused 19) × (open_key_left openers handed rounds out ≡ out)

-- lists handed in for a key: column by column as `hands_in` has it, every other opener i handing in `others b i` for column b
abbrev pub key_hands_in : (group : ℕ) {I : Type 0} (slip : Slips I) (t : I) (others : ℕ → ℕ → Slip) → ℕ → ℕ → Slip
key_hands_in group slip t others b = hands_in key_setup group slip (one_column t b) (others b)

abbrev pub key_values_by : (openers : ℕ) → (ℕ → ℕ → Slip) → List ℕ
key_values_by openers slip = tab (4 * member_count openers) (flat (member_count openers) (λ b. at (values_by key_setup openers (slip b))))

abbrev pub key_rounds_by : (openers : ℕ) → (ℕ → ℕ → Slip) → List ℕ
key_rounds_by openers slip = tab (4 * member_count openers) (flat (member_count openers) (λ b. at (rounds_by key_setup openers (slip b))))

-- WHERE ALL FOLLOW THE RULES and every message arrives, for a group of seven or more: it has done what demand 3 asks, and the positions of the array found
-- are the sixteen elements dealt; so a key comes back from every opening by members of the group at one round, column by column, and elements that are no key
-- are refused by 16. The group's own opening is one.
pub record HonestKey (key : List ℕ) (D : Dealing) (group : ℕ) {J : Type 0} (Z : J → Dealing) : Type 0 where
  pub done : Done key_setup group (λ (t : Unit {0}). D)
  pub array : (F : KeyFound group (λ (t : Unit {0}). D) Z tt) → positions F.array ≡ key
  pub opens : Vec 256 16 key → (A : Applied key_setup group (λ (t : Unit {0}). D) Z) (openers : ℕ) (handed rounds out : List ℕ)
      → KeyHanded group A.slip tt openers handed rounds → length out ≡ 16
      → ((i : ℕ) → Member key_setup openers i → Member key_setup group i) → KeyLevel A.slip tt openers
      → KeyOpens openers handed rounds out key
  pub no_byte : all_below 256 key ≡ false → (A : Applied key_setup group (λ (t : Unit {0}). D) Z) (openers : ℕ) (handed rounds out : List ℕ)
      → KeyHanded group A.slip tt openers handed rounds → length out ≡ 16
      → ((i : ℕ) → Member key_setup openers i → Member key_setup group i) → KeyLevel A.slip tt openers
      → (open_key_call openers handed rounds out ≡ refused 16) × (open_key_left openers handed rounds out ≡ out)
  pub own : (A : Applied key_setup group (λ (t : Unit {0}). D) Z) (others : ℕ → ℕ → Slip)
      → let slip = key_hands_in group A.slip tt others in KeyHanded group A.slip tt group (key_values_by group slip) (key_rounds_by group slip)
  -- and so what the group's members have brings the key back, refreshed as it may be
  pub back : Vec 256 16 key → (A : Applied key_setup group (λ (t : Unit {0}). D) Z) → KeyLevel A.slip tt group → (out : List ℕ) → length out ≡ 16
      → KeyOpens group (key_values_by group (A.slip tt)) (key_rounds_by group (A.slip tt)) out key

pub record BoardKeys : Type 1 where
  pub sets : (s : ℕ) → s < 2 ^ 16 → KeySets s
  pub back : KeyBack
  -- the mission's "the rule-keepers present determine all positions by themselves": seven of the group are among the openers
  pub present : (group openers : ℕ) → Present key_setup group openers ↔ (7 ≤ length (members 16 (λ i. holds openers i && holds group i)))
  pub found : (group : ℕ) {I J : Type 0} (D : I → Dealing) (Z : J → Dealing) → Done key_setup group D → DoneZero key_setup group Z → (t : I) → KeyFound group D Z t
  -- `found` speaks of every opening: whatever the members have applied and the others hand in, there are lists handed in
  pub met : (group : ℕ) {I J : Type 0} (D : I → Dealing) (Z : J → Dealing) → Done key_setup group D → DoneZero key_setup group Z
      → (A : Applied key_setup group D Z) (t : I) (openers : ℕ) → openers < 2 ^ 16 → Present key_setup group openers → (others : ℕ → ℕ → Slip)
      → let slip = key_hands_in group A.slip t others in KeyHanded group A.slip t openers (key_values_by openers slip) (key_rounds_by openers slip)
  pub honest : (key random : List ℕ) (D : Dealing) → Honest key_setup key random D → (group : ℕ) → group < 2 ^ 16 → 7 ≤ member_count group
      → {J : Type 0} (Z : J → Dealing) → DoneZero key_setup group Z → HonestKey key D group Z
  -- there is such a run for every key, and for every sixteen field elements that are none
  pub run : (key random : List ℕ) → Vec 257 16 key → Vec 257 33 random → (D : Dealing) × Honest key_setup key random D
