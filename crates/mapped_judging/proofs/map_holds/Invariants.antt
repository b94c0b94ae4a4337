-- Every position passed is the map's, by the product of its row; the first that is not ends the loop.
use Prim.Native.Nat.{ℕ}
use mathlib.Core.Path.{◌≡◌}
use mathlib.Core.Bool.{true, Bool}
use mathlib.Core.List.{[], List}
use Rattle.base.specs.Search.{every}
use Rattle.scheme.specs.Setup.{setup_of, Setup}
use lib.Dec.{eqb}
use Rattle.field.specs.Dot.{at}
use Rattle.scheme.specs.Dealing.{image_at}
use Rattle.mapped_judging.proofs.map_holds.Given as goal

abbrev pub mapped : Setup → List ℕ → List ℕ → List ℕ → ℕ → Bool
mapped S h phi h2 k = eqb (at h2 k) (image_at S phi (at h) k)

abbrev pub invariant-loop-k : goal.invariant-loop-k
invariant-loop-k l = every l.k (mapped (setup_of l.s []) l.h l.phi l.h2) ≡ true
