-- The first b entries are written; each is the product of row k of φ and the first ℓ entries of line b of F.
use Prim.Native.Nat.{◌*◌}
use mathlib.Core.Path.{◌≡◌}
use Rattle.base.specs.Fill.{laid}
use Rattle.parts.specs.Inner.{line_entry}
use Rattle.mapped_dealing.proofs.map_row.Given as goal

abbrev pub invariant-loop-b : goal.invariant-loop-b
invariant-loop-b l = l.f2 ≡ laid (line_entry l.p l.l l.phi l.f l.apart l.step l.k) (l.k * l.d) l.b l.initial.f2
