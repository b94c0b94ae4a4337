-- Contracts of inner functions: what F is made of, and what a holder's part needs.
-- sized: a setup of which only p, ℓ and e are asked, as F_φ asks them; F does not ask p
-- DealtRoom: the lent lists and the array for F are as long as F needs
-- HolderRoom: the setup is in order, the array is whole, i is one of the holders, and g and h have d entries each
use Rattle.std.specs.Prelude.{ℕ, ◌+◌, ◌-◌, ◌*◌, ◌<◌, ◌≤◌, ◌≡◌, List, [], length}
use Rattle.scheme.specs.Setup.{Setup, dim, IsSetup}

abbrev pub sized : ℕ → ℕ → ℕ → Setup
sized p l e = record { p = p; l = l; e = e; n = 0; M = [] }

pub record DealtRoom (l e : ℕ) (secrets random F : List ℕ) : Type 0 where
  pub small : (l ≤ 8) × (e ≤ 8)
  pub vectors : length secrets ≡ l * l
  pub entries : length random ≡ (l + e) * (l + e) - l * l
  pub square : length F ≡ 256

pub record HolderRoom (S : Setup) (F : List ℕ) (i : ℕ) (g h : List ℕ) : Type 0 where
  pub setup : IsSetup S
  pub square : length F ≡ 256
  pub one : i < S.n
  pub fits : (length g ≡ dim S) × (length h ≡ dim S)
