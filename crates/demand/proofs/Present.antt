-- Why the mission's demand 3 asks that "the rule-keepers present determine all positions by themselves" (specs/Demand.antt, Present), on document 01's example
-- setup: holders 0 and 1 are a group that determines the secret 3, and kept the shares 0 and 2 of it. Holder 2 stands outside and hands in 5 for its 4, at
-- the same round. Holders 1 and 2 determine the secret too, but open to 0: of them only holder 1 is in the group, and alone it determines nothing.
use mathlib.Core.Path.{◌≡◌, refl}
use mathlib.Core.Bool.{false, ◌&&◌}
use mathlib.Core.List.{[], ◌∷◌}
use Rattle.base.specs.Sum.{sum, bit, unit}
use Rattle.base.specs.Search.{every, first, first_from, first_of, first_vec}
use Rattle.base.specs.Fill.{tab, tab_from}
use Rattle.base.specs.Matrix.{all_below, all_are}
use Rattle.field.specs.Fields.{is_field}
use Rattle.field.specs.Dot.{dot}
use Rattle.scheme.specs.Answers.{yes}
use Rattle.scheme.specs.Sets.{holds, members, members_from, is_row, find_row, has_row, determines}
use Rattle.scheme.specs.Opening.{gives, opening}
use Rattle.scheme.specs.Calls.{determines_call, open_left}
use Rattle.scheme.proofs.Cases.{ex}

pub group-determines : determines_call ex 3 ≡ yes
unfolding sum bit unit every first_of first_vec all_below is_field dot members members_from is_row find_row has_row determines
group-determines = refl

pub openers-determine : determines_call ex 6 ≡ yes
unfolding sum bit unit every first_of first_vec all_below is_field dot members members_from is_row find_row has_row determines
openers-determine = refl

pub liar-opens : open_left ex 6 (2 ∷ 5 ∷ []) (0 ∷ 0 ∷ []) (1 ∷ []) ≡ 0 ∷ []
unfolding sum bit unit every first first_from first_of first_vec tab tab_from all_below all_are is_field dot members members_from is_row find_row has_row gives opening
liar-opens = refl

pub alone-too-few : determines ex (λ i. holds 6 i && holds 3 i) ≡ false
unfolding sum bit unit every first_of first_vec dot members members_from is_row find_row has_row determines
alone-too-few = refl
