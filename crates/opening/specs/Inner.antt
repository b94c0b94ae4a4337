-- Contracts of inner functions: what the function behind `open` asks and leaves, as records, so that a field more moves no caller.
-- OpenTaken: the set is taken, it has as many shares, in the field, and the secrets have room; rounds that agree are forgotten
-- OpenedAs: an opening that was not refused by its inputs: the answer, and the lent secrets
use Rattle.std.specs.Prelude.{◌≡◌, List, ℕ, length}
use Rattle.base.specs.Rules.{Answer, left_by}
use Rattle.base.specs.Search.{Vec}
use Rattle.scheme.specs.Setup.{Setup}
use Rattle.scheme.specs.Sets.{holds, members}
use Rattle.scheme.specs.Opening.{opening}
use Rattle.scheme.specs.Calls.{open_answer}
use Rattle.set_systems.specs.Inner.{SetTaken}

pub record OpenTaken (S : Setup) (s : ℕ) (xs out : List ℕ) : Type 0 where
  pub set : SetTaken S s
  pub shares : Vec S.p (length (members 32 (holds s))) xs
  pub room : length out ≡ S.l

pub record OpenedAs (S : Setup) (s : ℕ) (xs out : List ℕ) (answer : Answer) (left : List ℕ) : Type 0 where
  pub answers : answer ≡ open_answer (opening S (holds s) xs)
  pub buffer : left ≡ left_by (opening S (holds s) xs).number (opening S (holds s) xs).values out
