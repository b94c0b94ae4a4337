-- Contracts of inner functions: what F is made of, and the last entries of each of several columns.
-- ZeroRoom: the lent list is as long as F needs, and the array for F holds zeros
-- LastRoom: n columns of ℓ + e entries stand at the front of an array, and the list for their last e entries is there
-- last_of: entry k of the last e of column i
use Rattle.std.specs.Prelude.{ℕ, ◌+◌, ◌*◌, ◌≤◌, ◌≡◌, List, length, replicate}
use Rattle.field.specs.Dot.{at}

pub record ZeroRoom (l e : ℕ) (random F : List ℕ) : Type 0 where
  pub small : (l ≤ 8) × (e ≤ 8)
  pub entries : length random ≡ e * (l + e)
  pub zeros : F ≡ replicate 256 0

pub record LastRoom (n l e : ℕ) (columns hs : List ℕ) : Type 0 where
  pub small : (l ≤ 8) × (e ≤ 8)
  pub whole : length columns ≡ 512
  pub inside : n * (l + e) ≤ 512
  pub fits : length hs ≡ n * e

abbrev pub last_of : (l e : ℕ) → List ℕ → ℕ → ℕ → ℕ
last_of l e columns i k = at columns (i * (l + e) + (l + k))
