-- A correction and 65521 together are a natural number, whose remainder is the correction's.
use native.Mathlib.Omega.{arith}
use mir.Syntax.{w32}
use mir.Facts.{to_z_pos}
use Rattle.signed.proofs.Corrections.{lifted, lifted-code}
use Rattle.signed.proofs.residue.Goals as goal

pub overflow_add-above : goal.overflow_add-above
overflow_add-above c =
    let sum = lifted c.args.x c.requires in
    rw (lifted-code c.args.x c.ranges.x c.requires) (record { sfits = omega (arith, sum.small) })

pub overflow_cast-above : goal.overflow_cast-above
overflow_cast-above c =
    let sum = lifted c.args.x c.requires in
    rw (lifted-code c.args.x c.ranges.x c.requires, to_z_pos w32 {n = sum.number} (omega (arith, sum.small))) (tt, record { fits = omega (arith, sum.small) })

pub returns : goal.returns
returns c =
    let sum = lifted c.args.x c.requires in
    rw (lifted-code c.args.x c.ranges.x c.requires, to_z_pos w32 {n = sum.number} (omega (arith, sum.small))) sum.rest
