-- Dealing with a map to all is n single deals with it.
-- SingleMapped: the single deal to holder i, into buffers of d entries, is accepted and gives i's parts of all
-- AllSingleMapped: so it is for every holder, wherever dealing to all is not refused
use Rattle.std.specs.Prelude.{◌≡◌, List, ℕ, ◌<◌}
use Rattle.base.specs.Rules.{refusal}
use Rattle.scheme.specs.Setup.{Setup, dim}
use Rattle.scheme.specs.Calls.{Buffers, deal_mapped_rules, deal_mapped_left, deal_mapped_all_rules, deal_mapped_all_left}
use Rattle.scheme.specs.Answering.{Sized}
use Rattle.dealing.specs.Singles.{PartOf}

pub record SingleMapped (S : Setup) (secrets random phi random2 : List ℕ) (all : Buffers) (i : ℕ) (one : Buffers) : Type 0 where
  pub accepted : refusal (deal_mapped_rules S secrets random phi random2 i one) ≡ 0
  pub row : PartOf (dim S) i (deal_mapped_all_left S secrets random phi random2 all).g (deal_mapped_left S secrets random phi random2 i one).g
  pub column : PartOf (dim S) i (deal_mapped_all_left S secrets random phi random2 all).h (deal_mapped_left S secrets random phi random2 i one).h
  pub row2 : PartOf (dim S) i (deal_mapped_all_left S secrets random phi random2 all).g2 (deal_mapped_left S secrets random phi random2 i one).g2
  pub column2 : PartOf (dim S) i (deal_mapped_all_left S secrets random phi random2 all).h2 (deal_mapped_left S secrets random phi random2 i one).h2

abbrev pub AllSingleMapped : Type 0
AllSingleMapped =
    (S : Setup) (secrets random phi random2 : List ℕ) (all : Buffers) → refusal (deal_mapped_all_rules S secrets random phi random2 all) ≡ 0 → (i : ℕ) → i < S.n
    → (one : Buffers) → Sized (dim S) one → SingleMapped S secrets random phi random2 all i one
