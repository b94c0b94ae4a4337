-- In each turn the lowest member of what is left of the number is written at the next place.
use mathlib.Core.Path.{◌≡◌}
use lib.ListN.{length}
use Rattle.base.specs.Fill.{filled}
use Rattle.field.specs.Dot.{at}
use Rattle.scheme.specs.Sets.{holds, members}
use Rattle.scheme.proofs.Members.{Left}
use Rattle.set_systems.proofs.walk.Given as goal

abbrev pub invariant-loop-rest : goal.invariant-loop-rest
invariant-loop-rest l = Left 32 (members 32 (holds l.set)) l.rest l.k × (length l.out ≡ 32) × (l.out ≡ filled (at (members 32 (holds l.set))) l.k l.initial.out)

abbrev pub decreases-loop-rest : goal.decreases-loop-rest
decreases-loop-rest l = l.rest
