-- Each arm of the match is the loop with the number itself as its modulus; what is left is 65521.
use mathlib.Core.Path.{◌≡◌}
use native.Mathlib.Omega.{arith}
use borrow.Author.Rules.{rules}
use Rattle.points.proofs.Grid.{largest}
use Rattle.points.proofs.fill_rows.Goals as goal

pub fill_rows_by-requires-in_default : goal.fill_rows_by-requires-in_default
fill_rows_by-requires-in_default c =
    let e : c.args.p ≡ 65521 = largest c.args.p c.requires.p_value (omega arith) (omega arith) (omega arith) (omega arith) in
    let w = rw e at c.requires.d_bound.2 in
    search (rules, w)

pub returns-in_default : goal.returns-in_default
returns-in_default c =
    rw (largest c.args.p c.requires.p_value (omega arith) (omega arith) (omega arith) (omega arith)) c.fill_rows_by-in_default.ensures
