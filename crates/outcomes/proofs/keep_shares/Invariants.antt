-- After b turns the first b shares are the first b entries of g.
use Rattle.std.proofs.Common.{◌≡◌, length}
use Rattle.base.specs.Fill.{filled}
use Rattle.field.specs.Dot.{at}
use Rattle.outcomes.proofs.keep_shares.Given as goal

abbrev pub invariant-loop-b : goal.invariant-loop-b
invariant-loop-b l = (length l.shares ≡ length l.initial.shares) × (l.shares ≡ filled (at l.g) l.b l.initial.shares)
