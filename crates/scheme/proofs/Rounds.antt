-- Rounds of shares: they agree exactly where all are one number, which is then their round.
use mathlib.Core.Path.{◌≡◌, refl, sym, ◌∙◌}
use mathlib.Core.Bool.{true}
use mathlib.Core.List.{List, [], ◌∷◌}
use Prim.Native.Nat.{ℕ, ◌<◌}
use native.Mathlib.Omega.{arith}
use lib.ListN.{length}
use Rattle.base.proofs.Matrix.{are_at, are-is}
use Rattle.field.specs.Dot.{at}
use Rattle.scheme.specs.Opening.{round_of, agree}

pub round-first : (rs : List ℕ) → round_of rs ≡ at rs 0
round-first [] = refl
round-first (r ∷ rs) = refl

pub agree_at : (rs : List ℕ) → agree rs ≡ true → (k : ℕ) → k < length rs → at rs k ≡ round_of rs
agree_at rs e k l = are_at (round_of rs) rs e k l

pub agree-is : (r : ℕ) (rs : List ℕ) → ((k : ℕ) → k < length rs → at rs k ≡ r) → agree rs ≡ true
agree-is r rs h = are-is (round_of rs) rs (λ k l. h k l ∙ sym (round-first rs ∙ h 0 (omega arith)))
