-- Contracts of inner functions: F of a board key.
-- key_entry: the entry of F in row k and column b, from the key's bytes and the random entries
-- Lent: the lists that F is read from are as long as it needs, and hold bytes and field elements
use Rattle.std.specs.Prelude.{List, [], ℕ}
use Rattle.base.specs.Search.{Vec}
use Rattle.scheme.specs.Dealing.{dealt_entry}

-- of the setup F asks ℓ and e only
unfoldable pub key_entry : (key random : List ℕ) → ℕ → ℕ → ℕ
key_entry = dealt_entry (record { p = 257; l = 4; e = 3; n = 16; M = [] })

pub record Lent (key random : List ℕ) : Type 0 where
  pub bytes : Vec 256 16 key
  pub elements : Vec 257 33 random
