-- Dealing zero to all is n single deals.
-- Single: the single deal of zero to holder i, into a g of d entries and an h of e, is accepted and gives i's part of all
-- AllSingle: so it is for every holder, wherever dealing zero to all is not refused
use Rattle.std.specs.Prelude.{◌≡◌, List, ℕ, ◌<◌, length}
use Rattle.base.specs.Rules.{refusal}
use Rattle.scheme.specs.Setup.{Setup, dim}
use Rattle.scheme.specs.Calls.{deal_zero_rules, deal_zero_left_g, deal_zero_left_h, deal_zero_all_rules, deal_zero_all_left_g, deal_zero_all_left_h}
use Rattle.dealing.specs.Singles.{PartOf}

pub record Single (S : Setup) (random gs hs : List ℕ) (i : ℕ) (g h : List ℕ) : Type 0 where
  pub accepted : refusal (deal_zero_rules S random i g h) ≡ 0
  pub row : PartOf (dim S) i (deal_zero_all_left_g S random gs hs) (deal_zero_left_g S random i g h)
  pub column : PartOf S.e i (deal_zero_all_left_h S random gs hs) (deal_zero_left_h S random i g h)

abbrev pub AllSingle : Type 0
AllSingle =
    (S : Setup) (random gs hs : List ℕ) → refusal (deal_zero_all_rules S random gs hs) ≡ 0 → (i : ℕ) → i < S.n
    → (g h : List ℕ) → length g ≡ dim S → length h ≡ S.e → Single S random gs hs i g h
