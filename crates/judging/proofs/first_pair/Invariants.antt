-- The loops go through the pairs in their order: what the search gives from the place i * n + j on is what it gives of the whole, and the two products
-- are the pair value and the value due.
use Prim.Native.Nat.{◌+◌, ◌*◌}
use mathlib.Core.Path.{◌≡◌}
use Rattle.scheme.specs.Setup.{setup_of}
use Rattle.scheme.specs.declared.Rehearsal.TheVariants.{Fair}
use Rattle.judging.proofs.Pairs.{Ahead}
use Rattle.judging.proofs.first_pair.Given as goal

abbrev pub invariant-loop-j : goal.invariant-loop-j
invariant-loop-j l = (l.answer ≡ Fair) × Ahead (setup_of l.s l.matrix) l.gs l.hs (l.i * l.n + l.j)

abbrev pub invariant-holders : goal.invariant-holders
invariant-holders l = (l.answer ≡ Fair) × Ahead (setup_of l.s l.matrix) l.gs l.hs (l.i * l.n)
