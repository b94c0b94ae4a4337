-- Up to 32760 a residue is read back as itself, from there on as 65521 less.
use mathlib.Core.Path.{◌≡◌, sym, ◌∙◌}
use Prim.Native.Nat.{◌<◌, ◌-◌}
use native.Mathlib.Omega.{arith}
use borrow.Author.Tests.{leb-true, leb-false}
use lib.IntN.{pos, negsuc}
use mir.Syntax.{w32}
use mir.Val.{to_z, of_z}
use mir.Facts.{to_z-of_z}
use Rattle.signed.proofs.Corrections.{correction-low, correction-high, less}
use Rattle.signed.proofs.correction.Goals as goal

pub returns-then-x-le32760 : goal.returns-then-x-le32760
returns-then-x-le32760 c =
    let plain : to_z w32 (of_z w32 c.from-x.result) ≡ pos c.args.r = to_z-of_z {w = w32} (record { sfits = c.from-x.type_inv }) ∙ c.from-x.ensures in
    rw plain (sym (correction-low c.args.r (leb-true c.args.r 32760 (rw plain at c.if-x-le32760.true))))

pub returns-else-x-le32760 : goal.returns-else-x-le32760
returns-else-x-le32760 c =
    let plain : to_z w32 (of_z w32 c.from-x.result) ≡ pos c.args.r = to_z-of_z {w = w32} (record { sfits = c.from-x.type_inv }) ∙ c.from-x.ensures in
    let high : 32760 < c.args.r = leb-false c.args.r 32760 (rw plain at c.if-x-le32760.false) in
    rw (plain, less c.args.r c.requires)
    (to_z-of_z {w = w32} {z = negsuc (65520 - c.args.r)} (record { sfits = omega arith }) ∙ sym (correction-high c.args.r high c.requires))
