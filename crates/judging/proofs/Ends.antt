-- What the end of a search makes of an answer: a judgement from the lowest value that differs.
use mathlib.Core.Path.{◌≡◌}
use mathlib.Core.List.{List}
use Prim.Native.Nat.{ℕ, ◌≤◌, ◌<◌}
use borrow.Author.Tests.{lt-ltb, le-ltb}
use Rattle.base.specs.Search.{first}
use Rattle.scheme.specs.Setup.{Setup}
use Rattle.scheme.specs.declared.Judgement.TheVariants.{Accept, Reject}
use Rattle.scheme.specs.Dealing.{differs, judgement_of}

module _ (S : Setup) (h values : List ℕ) (j : ℕ) (e : j ≡ first (differs S h values) S.n) where
  pub rejects-at : j < S.n → Reject j ≡ judgement_of S h values
  unfolding judgement_of
  rejects-at l = rw (← e, lt-ltb j S.n l)

  pub accepts-at : S.n ≤ j → Accept ≡ judgement_of S h values
  unfolding judgement_of
  accepts-at l = rw (← e, le-ltb j S.n l)
