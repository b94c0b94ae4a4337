-- When a call answers (document 01, "What a call gives when it declines"), for each call in the order of Calls.antt; proofs/Answering.antt proves it.
-- The calls that write and read records, and the call for a holder's file, have the like beside their own definitions.
-- AllLowest: every call gives the lowest number that applies
-- Marked: an answer says that the call answered exactly where the refusal's number is 0
-- AllMarked: every call's answer does
-- Answers: the call answered, that is, it was not refused
-- Sized: buffers as long as needed
-- Behind: some vector gives every share handed in
-- OpenAnswers: what an opening answers whose inputs break nothing
-- Answering: a call whose inputs break nothing answers: p, ℓ, e and n within the limits, lent lengths as needed, elements below p, indices in range, rounds that agree
use Rattle.std.specs.Prelude.{◌≡◌, true, false, List, ◌↔◌, ℕ, ◌+◌, ◌-◌, ◌*◌, ◌^◌, ◌≤◌, ◌<◌, eqb, length}
use Rattle.base.specs.Rules.{Lowest, Answer}
use Rattle.base.specs.Search.{Vec}
use Rattle.field.specs.Fields.{is_field}
use Rattle.scheme.specs.Setup.{Setup, dim, Limits, IsSetup}
use Rattle.scheme.specs.Sets.{holds, members, determines}
use Rattle.scheme.specs.Opening.{gives, agree}
use Rattle.scheme.specs.Calls.{Buffers, points_rules, deal_rules, deal_all_rules, deal_mapped_rules, deal_mapped_all_rules, deal_zero_rules, deal_zero_all_rules, pair_value_rules, judge_rules, judge_mapped_rules, judge_zero_rules, outcome_rules, rehearse_rules, set_rules, judge_set_rules, open_rules, combine_rules, refresh_rules}
use Rattle.scheme.specs.Calls.{points_call, deal_call, deal_all_call, deal_mapped_call, deal_mapped_all_call, deal_zero_call, deal_zero_all_call, pair_value_call, judge_call, judge_mapped_call, judge_zero_call, outcome_call, rehearse_call, determines_call, private_call, judge_set_call, open_call, combine_call, refresh_call}

-- THE LOWEST NUMBER: "In a call the lowest number that applies is given"
pub record AllLowest : Type 0 where
  pub points : (S : Setup) → Lowest (points_rules S)
  pub deal : (S : Setup) (secrets random : List ℕ) (i : ℕ) (g h : List ℕ) → Lowest (deal_rules S secrets random i g h)
  pub deal-all : (S : Setup) (secrets random gs hs : List ℕ) → Lowest (deal_all_rules S secrets random gs hs)
  pub deal-mapped : (S : Setup) (secrets random phi random2 : List ℕ) (i : ℕ) (B : Buffers) → Lowest (deal_mapped_rules S secrets random phi random2 i B)
  pub deal-mapped-all : (S : Setup) (secrets random phi random2 : List ℕ) (B : Buffers) → Lowest (deal_mapped_all_rules S secrets random phi random2 B)
  pub deal-zero : (S : Setup) (random : List ℕ) (i : ℕ) (g h : List ℕ) → Lowest (deal_zero_rules S random i g h)
  pub deal-zero-all : (S : Setup) (random gs hs : List ℕ) → Lowest (deal_zero_all_rules S random gs hs)
  pub pair-value : (S : Setup) (g : List ℕ) (i : ℕ) → Lowest (pair_value_rules S g i)
  pub judge : (S : Setup) (h values : List ℕ) → Lowest (judge_rules S h values)
  pub judge-mapped : (S : Setup) (h values phi h2 values2 : List ℕ) → Lowest (judge_mapped_rules S h values phi h2 values2)
  pub judge-zero : (S : Setup) (h values : List ℕ) → Lowest (judge_zero_rules S h values)
  pub outcome : (S : Setup) (g verdicts out : List ℕ) → Lowest (outcome_rules S g verdicts out)
  pub rehearse : (S : Setup) (gs hs : List ℕ) → Lowest (rehearse_rules S gs hs)
  pub set : (S : Setup) (s : ℕ) → Lowest (set_rules S s)
  pub judge-set : (S : Setup) (s q : ℕ) (out : List ℕ) → Lowest (judge_set_rules S s q out)
  pub opening : (S : Setup) (s : ℕ) (xs rs out : List ℕ) → Lowest (open_rules S s xs rs out)
  pub combine : (p : ℕ) (cs xs rs : List ℕ) → Lowest (combine_rules p cs xs rs)
  pub refresh : (p x round z : ℕ) → Lowest (refresh_rules p x round z)

-- THE MARK OF AN ANSWER
abbrev pub Marked : Answer → Type 0
Marked a = a.answered ≡ eqb a.number 0

-- whatever the call is given
pub record AllMarked : Type 0 where
  pub points : (S : Setup) → Marked (points_call S)
  pub deal : (S : Setup) (secrets random : List ℕ) (i : ℕ) (g h : List ℕ) → Marked (deal_call S secrets random i g h)
  pub deal-all : (S : Setup) (secrets random gs hs : List ℕ) → Marked (deal_all_call S secrets random gs hs)
  pub deal-mapped : (S : Setup) (secrets random phi random2 : List ℕ) (i : ℕ) (B : Buffers) → Marked (deal_mapped_call S secrets random phi random2 i B)
  pub deal-mapped-all : (S : Setup) (secrets random phi random2 : List ℕ) (B : Buffers) → Marked (deal_mapped_all_call S secrets random phi random2 B)
  pub deal-zero : (S : Setup) (random : List ℕ) (i : ℕ) (g h : List ℕ) → Marked (deal_zero_call S random i g h)
  pub deal-zero-all : (S : Setup) (random gs hs : List ℕ) → Marked (deal_zero_all_call S random gs hs)
  pub pair-value : (S : Setup) (g : List ℕ) (i : ℕ) → Marked (pair_value_call S g i)
  pub judge : (S : Setup) (h values : List ℕ) → Marked (judge_call S h values)
  pub judge-mapped : (S : Setup) (h values phi h2 values2 : List ℕ) → Marked (judge_mapped_call S h values phi h2 values2)
  pub judge-zero : (S : Setup) (h values : List ℕ) → Marked (judge_zero_call S h values)
  pub outcome : (S : Setup) (g verdicts out : List ℕ) → Marked (outcome_call S g verdicts out)
  pub rehearse : (S : Setup) (gs hs : List ℕ) → Marked (rehearse_call S gs hs)
  pub determines : (S : Setup) (s : ℕ) → Marked (determines_call S s)
  pub private : (S : Setup) (s : ℕ) → Marked (private_call S s)
  pub judge-set : (S : Setup) (s q : ℕ) (out : List ℕ) → Marked (judge_set_call S s q out)
  pub opening : (S : Setup) (s : ℕ) (xs rs out : List ℕ) → Marked (open_call S s xs rs out)
  pub combine : (p : ℕ) (cs xs rs : List ℕ) → Marked (combine_call p cs xs rs)
  pub refresh : (p x round z : ℕ) → Marked (refresh_call p x round z)

-- INPUTS THAT BREAK NOTHING
abbrev pub Answers : Answer → Type 0
Answers a = a.answered ≡ true

-- four buffers of k entries each
pub record Sized (k : ℕ) (B : Buffers) : Type 0 where
  pub g : length B.g ≡ k
  pub h : length B.h ≡ k
  pub g2 : length B.g2 ≡ k
  pub h2 : length B.h2 ≡ k

-- of an opening: "any vector of d entries that gives every share"
pub record Behind (S : Setup) (s : ℕ) (xs : List ℕ) : Type 0 where
  pub vector : List ℕ
  pub ok : Vec S.p (dim S) vector
  pub all : gives S (members S.n (holds s)) xs vector ≡ true

-- "6: the opening set doesn't determine the secrets"; "7: determined, but no vector gives all the shares"; else it answers
pub record OpenAnswers (S : Setup) (s : ℕ) (xs rs out : List ℕ) : Type 0 where
  pub answers : Answers (open_call S s xs rs out) ↔ ((determines S (holds s) ≡ true) × Behind S s xs)
  pub six : ((open_call S s xs rs out).number ≡ 6) ↔ (determines S (holds s) ≡ false)
  pub seven : ((open_call S s xs rs out).number ≡ 7) ↔ ((determines S (holds s) ≡ true) × (Behind S s xs → ⊥))

pub record Answering : Type 0 where
  pub points : (S : Setup) → Limits S → length S.M ≡ S.n * dim S → dim S + S.n ≤ S.p → Answers (points_call S)
  pub deal : (S : Setup) (secrets random : List ℕ) (i : ℕ) (g h : List ℕ) → IsSetup S
      → Vec S.p (S.l * S.l) secrets → Vec S.p (dim S * dim S - S.l * S.l) random → i < S.n → length g ≡ dim S → length h ≡ dim S
      → Answers (deal_call S secrets random i g h)
  pub deal-all : (S : Setup) (secrets random gs hs : List ℕ) → IsSetup S
      → Vec S.p (S.l * S.l) secrets → Vec S.p (dim S * dim S - S.l * S.l) random → length gs ≡ S.n * dim S → length hs ≡ S.n * dim S
      → Answers (deal_all_call S secrets random gs hs)
  pub deal-mapped : (S : Setup) (secrets random phi random2 : List ℕ) (i : ℕ) (B : Buffers) → IsSetup S
      → Vec S.p (S.l * S.l) secrets → Vec S.p (dim S * dim S - S.l * S.l) random → Vec S.p (S.l * S.l) phi → Vec S.p (S.e * dim S) random2
      → i < S.n → Sized (dim S) B → Answers (deal_mapped_call S secrets random phi random2 i B)
  pub deal-mapped-all : (S : Setup) (secrets random phi random2 : List ℕ) (B : Buffers) → IsSetup S
      → Vec S.p (S.l * S.l) secrets → Vec S.p (dim S * dim S - S.l * S.l) random → Vec S.p (S.l * S.l) phi → Vec S.p (S.e * dim S) random2
      → Sized (S.n * dim S) B → Answers (deal_mapped_all_call S secrets random phi random2 B)
  pub deal-zero : (S : Setup) (random : List ℕ) (i : ℕ) (g h : List ℕ) → IsSetup S → Vec S.p (S.e * dim S) random → i < S.n → length g ≡ dim S → length h ≡ S.e
      → Answers (deal_zero_call S random i g h)
  pub deal-zero-all : (S : Setup) (random gs hs : List ℕ) → IsSetup S → Vec S.p (S.e * dim S) random → length gs ≡ S.n * dim S → length hs ≡ S.n * S.e
      → Answers (deal_zero_all_call S random gs hs)
  pub pair-value : (S : Setup) (g : List ℕ) (i : ℕ) → IsSetup S → Vec S.p (dim S) g → i < S.n → Answers (pair_value_call S g i)
  pub judge : (S : Setup) (h values : List ℕ) → IsSetup S → Vec S.p (dim S) h → Vec S.p S.n values → Answers (judge_call S h values)
  pub judge-mapped : (S : Setup) (h values phi h2 values2 : List ℕ) → IsSetup S → Vec S.p (dim S) h → Vec S.p S.n values
      → Vec S.p (S.l * S.l) phi → Vec S.p (dim S) h2 → Vec S.p S.n values2 → Answers (judge_mapped_call S h values phi h2 values2)
  pub judge-zero : (S : Setup) (h values : List ℕ) → IsSetup S → Vec S.p S.e h → Vec S.p S.n values → Answers (judge_zero_call S h values)
  pub outcome : (S : Setup) (g verdicts out : List ℕ) → Limits S → Vec S.p (dim S) g → Vec 2 S.n verdicts → length out ≡ S.l
      → Answers (outcome_call S g verdicts out)
  pub rehearse : (S : Setup) (gs hs : List ℕ) → IsSetup S → Vec S.p (S.n * dim S) gs → Vec S.p (S.n * dim S) hs → Answers (rehearse_call S gs hs)
  pub determines : (S : Setup) (s : ℕ) → IsSetup S → s < 2 ^ S.n → Answers (determines_call S s)
  pub private : (S : Setup) (s : ℕ) → IsSetup S → s < 2 ^ S.n → Answers (private_call S s)
  pub judge-set : (S : Setup) (s q : ℕ) (out : List ℕ) → IsSetup S → s < 2 ^ S.n → q < S.l → length out ≡ 32 → Answers (judge_set_call S s q out)
  pub opening : (S : Setup) (s : ℕ) (xs rs out : List ℕ) → IsSetup S → s < 2 ^ S.n → Vec S.p (length (members S.n (holds s))) xs
      → length rs ≡ length xs → agree rs ≡ true → length out ≡ S.l → OpenAnswers S s xs rs out
  pub combine : (p k : ℕ) (cs xs rs : List ℕ) → is_field p ≡ true → k ≤ 64 → Vec p k cs → Vec p k xs → length rs ≡ k → agree rs ≡ true
      → Answers (combine_call p cs xs rs)
  pub refresh : (p x round z : ℕ) → is_field p ≡ true → x < p → z < p → round < 65535 → Answers (refresh_call p x round z)
