-- The columns before b agree.
use Prim.Native.Nat.{ℕ, ◌*◌, ◌≤◌, ◌<◌}
use mathlib.Core.Bool.{true}
use mathlib.Core.List.{[]}
use mathlib.Core.Path.{◌≡◌}
use lib.ListN.{get_or}
use Rattle.base.specs.Fill.{tab}
use Rattle.key_values.specs.Inner.{expected, agrees}
use Rattle.key_values.proofs.all_agree.Given as goal

abbrev pub invariant-loop-b : goal.invariant-loop-b
invariant-loop-b l =
    (c x : ℕ) → c < l.b → 7 ≤ x → x < l.k → agrees (tab 16 (expected l.inverses l.members (get_or l.scaled c []))) l.weights l.shares (c * l.k) l.members x ≡ true
