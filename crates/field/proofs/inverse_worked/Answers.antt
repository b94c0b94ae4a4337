-- a times `acc` is `cur` throughout; `cur` falls and stays above 0 because no number between 1 and the prime p divides it.
use Prim.Native.Nat.{◌-◌, ◌*◌, ◌/◌, ◌%◌, ◌<◌}
use mathlib.Core.Path.{◌∙◌}
use native.Mathlib.Nat.{mod-lt}
use native.Mathlib.Omega.{arith}
use Rattle.field.proofs.Prime.{inverse-turn, inverse-by}
use Rattle.field.proofs.inverse_worked.Goals as goal

pub loop-cur-preserved : goal.loop-cur-preserved
loop-cur-preserved c =
    let x = c.args in
    let l = c.loop-cur in
    let low : x.p % l.cur < l.cur = mod-lt x.p (omega arith) in (
      omega (arith, c.requires.prime.indivisible l.cur (omega arith) (omega arith)),
      omega arith,
      rw c.product-acc.ensures (mod-lt (l.acc * (x.p - x.p / l.cur)) (omega arith)),
      rw c.product-acc.ensures (inverse-turn x.p x.a l.acc l.cur (omega arith) (omega arith) l.invariant.3),
    )

pub returns : goal.returns
returns c =
    let l = c.loop-cur in
    inverse-by c.args.p c.requires.prime c.args.a l.acc (omega arith) (omega arith) l.invariant.2 (l.invariant.3 ∙ omega arith)
