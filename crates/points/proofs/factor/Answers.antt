-- Where t is the node left out the factor is 1, else what `minus` says.
use mathlib.Core.Path.{sym}
use native.Mathlib.Nat.{mod-eq_of_lt}
use borrow.Author.Tests.{eq-eqb, ne_eqb}
use Rattle.polynomial.specs.Polynomial.{minus}
use Rattle.points.proofs.factor.Goals as goal

pub returns-then-t-j : goal.returns-then-t-j
returns-then-t-j c = let x = c.args in rw (eq-eqb x.t x.j c.if-t-j.true) (sym (mod-eq_of_lt c.requires.0))

pub returns : goal.returns
unfolding minus
returns c = let x = c.args in rw (ne_eqb x.t x.j c.if-t-j.false) (rw c.from.ensures at c.residue.ensures)
