-- A set has as many members as its number has ones.
use mathlib.Core.Path.{sym}
use lib.Count.{ones-le}
use Rattle.scheme.proofs.Members.{members-count}
use Rattle.set_systems.proofs.size.Goals as goal

pub returns : goal.returns
returns c = (sym (members-count 32 _ c.ranges.set.fits), ones-le 32 _ c.ranges.set.fits)
