-- Dealing to all is n single deals.
-- PartOf: the k entries of `one` are holder i's among those of all holders
-- Single: the single deal to holder i, into a g and an h of d entries, is accepted and gives i's part of all
-- AllSingle: so it is for every holder, wherever dealing to all is not refused
use Rattle.std.specs.Prelude.{◌≡◌, List, ℕ, ◌+◌, ◌*◌, ◌<◌, length}
use Rattle.base.specs.Rules.{refusal}
use Rattle.field.specs.Dot.{at}
use Rattle.scheme.specs.Setup.{Setup, dim}
use Rattle.scheme.specs.Calls.{deal_rules, deal_left_g, deal_left_h, deal_all_rules, deal_all_left_g, deal_all_left_h}

abbrev pub PartOf : (k i : ℕ) → (all one : List ℕ) → Type 0
PartOf k i all one = (b : ℕ) → b < k → at all (i * k + b) ≡ at one b

pub record Single (S : Setup) (secrets random gs hs : List ℕ) (i : ℕ) (g h : List ℕ) : Type 0 where
  pub accepted : refusal (deal_rules S secrets random i g h) ≡ 0
  pub row : PartOf (dim S) i (deal_all_left_g S secrets random gs hs) (deal_left_g S secrets random i g h)
  pub column : PartOf (dim S) i (deal_all_left_h S secrets random gs hs) (deal_left_h S secrets random i g h)

abbrev pub AllSingle : Type 0
AllSingle =
    (S : Setup) (secrets random gs hs : List ℕ) → refusal (deal_all_rules S secrets random gs hs) ≡ 0 → (i : ℕ) → i < S.n
    → (g h : List ℕ) → length g ≡ dim S → length h ≡ dim S → Single S secrets random gs hs i g h
