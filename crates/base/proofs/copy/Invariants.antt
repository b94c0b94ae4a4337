-- The loop writes the entries in order.
use Rattle.std.proofs.Common.{◌≡◌, ◌+◌, length, get_or}
use Rattle.base.specs.Fill.{laid}
use Rattle.base.proofs.copy.Given as goal

abbrev pub invariant-loop-j : goal.invariant-loop-j
invariant-loop-j l = (length l.a ≡ length l.initial.a) × (l.a ≡ laid (λ j. get_or l.m (l.from + j) 0) l.t l.j l.initial.a)
