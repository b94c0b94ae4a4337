-- Contracts of inner functions: what the function behind `open_key` asks. A record, so that a field more moves no caller.
-- KeyTaken: a set of depots, its shares in the field, and room for the key; rounds that agree are forgotten
use Rattle.std.specs.Prelude.{◌≡◌, List, ℕ, ◌*◌, ◌^◌, ◌<◌, length}
use Rattle.base.specs.Search.{Vec}
use Rattle.board_keys.specs.Keys.{member_count}

pub record KeyTaken (s : ℕ) (xs out : List ℕ) : Type 0 where
  pub inside : s < 2 ^ 16
  pub shares : Vec 257 (4 * member_count s) xs
  pub room : length out ≡ 16
