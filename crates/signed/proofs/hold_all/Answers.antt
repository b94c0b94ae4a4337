-- A correction that was read fits an i32, so that it is the list's.
use native.Mathlib.Omega.{arith}
use borrow.Author.Rules.{rules}
use mir.Syntax.{w32}
use mir.Val.{SFits}
use mir.Facts.{to_z-of_z}
use lib.ListN.{length}
use Rattle.base.proofs.Fill.{tab-is}
use Rattle.base.proofs.Search.{every-at}
use Rattle.signed.specs.Integers.{integer_at}
use Rattle.signed.specs.Corrections.{in_range, all_in_range, residue, residues}
use Rattle.signed.proofs.hold_all.Goals as goal

pub residue-requires : goal.residue-requires
unfolding all_in_range
residue-requires c =
    let zs = c.args.integers.now in
    let fits : SFits w32 (integer_at zs c.loop-i.i) = search rules in
    rw (to_z-of_z fits) (every-at (length zs) (λ k. in_range (integer_at zs k)) c.requires.integers_value c.loop-i.i c.loop-i-test.true)

pub returns : goal.returns
unfolding residues
returns c =
    tab-is _ (λ k. residue (integer_at c.args.integers.now k)) 0 _ (omega (arith, c.loop-i.invariant.0, c.requires.held_len)) (λ k l. c.loop-i.invariant.1 k (omega arith))
