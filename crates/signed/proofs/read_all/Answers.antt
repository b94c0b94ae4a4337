-- The entries passed are what the residues are read back to.
use native.Mathlib.Omega.{arith}
use lib.IntN.{pos}
use Rattle.base.proofs.Fill.{tab-is}
use Rattle.base.proofs.Matrix.{below_by}
use Rattle.field.specs.Dot.{at}
use Rattle.signed.specs.Corrections.{correction, corrections}
use Rattle.signed.proofs.read_all.Goals as goal

pub correction-requires : goal.correction-requires
correction-requires c = below_by 65521 c.args.held.now (omega arith) c.requires.held_value c.loop-i.i

pub returns : goal.returns
unfolding corrections
returns c =
    tab-is _ (λ k. correction (at c.args.held.now k)) (pos 0) _ (omega (arith, c.loop-i.invariant.0, c.requires.integers_len)) (λ k l. c.loop-i.invariant.1 k (omega arith))
