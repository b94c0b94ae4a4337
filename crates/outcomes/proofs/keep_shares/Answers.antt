-- After b turns the first b shares are the first b entries of g.
use Prim.Native.Nat.{ℕ, ◌≤◌}
use mathlib.Core.List.{List}
use mathlib.Core.Path.{◌≡◌, refl, sym, ◌∙◌}
use native.Mathlib.Omega.{arith}
use lib.ListN.{length, take, length-set}
use lib.Seq.{length-take-le, get_or-take}
use Rattle.base.specs.Fill.{tab}
use Rattle.base.proofs.Fill.{filled_none, filled-store, filled-whole, tab-is}
use Rattle.field.specs.Dot.{at}
use Rattle.outcomes.proofs.keep_shares.Goals as goal

-- the first k entries of a list as a table
first-entries : (g : List ℕ) (k : ℕ) → k ≤ length g → take k g ≡ tab k (at g)
first-entries g k h = tab-is k (at g) 0 (take k g) (length-take-le k g h) (λ i l. get_or-take k g i 0 l)

pub loop-b-init : goal.loop-b-init
loop-b-init c = (refl, filled_none _ _)

pub loop-b-preserved : goal.loop-b-preserved
loop-b-preserved c =
    let l = c.loop-b in
    (simp length-set l.invariant.0, filled-store (at c.args.g.now) l.b _ _ _ l.invariant.1 refl)

pub returns : goal.returns
returns c =
    let x = c.args in
    let l = c.loop-b in
    let e : l.b ≡ length x.shares.now = omega arith in
    l.invariant.1 ∙ rw e (filled-whole (at x.g.now) 0 x.shares.now) ∙ sym (first-entries x.g.now _ c.requires)
