-- The parts of the holders from `first` to i are written, each at its place.
use mathlib.Core.Path.{◌≡◌}
use Rattle.parts.specs.Inner.{entry_h, entry_g, past}
use Rattle.parts.proofs.write_each.Given as goal

abbrev pub invariant-loop-i : goal.invariant-loop-i
invariant-loop-i l = (l.gs ≡ past l.d (entry_g l.p l.d l.matrix l.f) l.first l.i l.initial.gs) × (l.hs ≡ past l.d (entry_h l.p l.d l.matrix l.f) l.first l.i l.initial.hs)
