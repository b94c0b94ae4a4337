-- What the end of a search makes of an answer: an outcome from the lowest holder that said reject.
use mathlib.Core.Path.{◌≡◌, refl, ap}
use mathlib.Core.Bool.{Bool, true, false}
use mathlib.Core.List.{List}
use Prim.Native.Nat.{ℕ, ◌≤◌, ◌<◌}
use native.Mathlib.Omega.{arith}
use borrow.Author.Tests.{lt-ltb, le-ltb}
use Rattle.base.specs.Choice.{pick}
use Rattle.base.specs.Search.{first}
use Rattle.field.specs.Dot.{at}
use Rattle.scheme.specs.Setup.{Setup}
use Rattle.scheme.specs.declared.Fate.{Fate}
use Rattle.scheme.specs.declared.Fate.TheVariants.{Kept, Aborted}
use Rattle.scheme.specs.Answers.{paper_fate}
use Rattle.scheme.specs.Dealing.{said_reject, is_kept, fate_of}

module _ (S : Setup) (verdicts : List ℕ) (i : ℕ) (e : i ≡ first (said_reject verdicts) S.n) where
  pub aborted-at : i < S.n → Aborted i ≡ fate_of S verdicts
  unfolding fate_of is_kept
  aborted-at l = rw (← e, lt-ltb i S.n l)

  pub kept_at : S.n ≤ i → Kept ≡ fate_of S verdicts
  unfolding fate_of is_kept
  kept_at l = rw (← e, le-ltb i S.n l)

-- and what a fate says of the shares
pub not-kept : (S : Setup) (verdicts : List ℕ) (i : ℕ) → Aborted i ≡ fate_of S verdicts → is_kept S verdicts ≡ false
unfolding fate_of
not-kept S verdicts i = go (is_kept S verdicts)
  where
    go : (b : Bool) → Aborted i ≡ pick b Kept (Aborted (first (said_reject verdicts) S.n)) → b ≡ false
    go true e = absurd (let z : ◌≡◌ {A = ℕ} 0 1 = ap (λ (f : Fate). at (paper_fate f).values 0) e in omega arith)
    go false e = refl
