-- What the end of a search makes of an answer: a judgement from the lowest value that differs in two dealings, with the check of their map.
use mathlib.Core.Path.{◌≡◌}
use mathlib.Core.Bool.{Bool}
use mathlib.Core.List.{List}
use Prim.Native.Nat.{ℕ, ◌≤◌, ◌<◌}
use borrow.Author.Tests.{lt-ltb, le-ltb}
use Rattle.base.specs.Choice.{pick}
use Rattle.base.specs.Search.{first}
use Rattle.scheme.specs.Setup.{Setup}
use Rattle.scheme.specs.declared.Judgement.TheVariants.{Accept, Reject, RejectMap}
use Rattle.scheme.specs.Dealing.{differs_in, map_holds, judgement_mapped}

module _ (S : Setup) (h values phi h2 values2 : List ℕ) (j : ℕ) (e : j ≡ first (differs_in S h values h2 values2) S.n) where
  pub named-at : j < S.n → Reject j ≡ judgement_mapped S h values phi h2 values2
  unfolding judgement_mapped
  named-at l = rw (← e, lt-ltb j S.n l)

  pub map-decides : S.n ≤ j → (b : Bool) → b ≡ map_holds S h phi h2 → pick b Accept RejectMap ≡ judgement_mapped S h values phi h2 values2
  unfolding judgement_mapped
  map-decides l b m = rw (← e, le-ltb j S.n l, m)
