-- The sum of no columns where nothing was dealt: an honest dealing of zeros is family enough, since a list of no terms looks at no share of it.
use mathlib.Core.Path.{◌≡◌, refl}
use mathlib.Core.List.{List, []}
use Prim.Native.Nat.{ℕ, ◌-◌, ◌*◌, ◌<◌}
use native.Mathlib.Omega.{arith}
use lib.ListN.{replicate, length-replicate, get_or-replicate}
use Rattle.base.specs.Search.{Vec}
use Rattle.base.specs.Fill.{tab, tab_from}
use Rattle.scheme.specs.Setup.{Setup, dim}
use Rattle.scheme.specs.Answers.{yes}
use Rattle.scheme.specs.Calls.{determines_call}
use Rattle.scheme.proofs.Calls.{limits-pos, DealOk, determines-ok}
use Rattle.demand.specs.Demand.{Terms, FoundUnrefreshed, NothingDealt}
use Rattle.demand.proofs.Demand.{demand3}
use Rattle.demand.proofs.Honest.{run, run-done}

zeros : (p k : ℕ) → 0 < p → Vec p k (replicate k 0)
zeros p k pos = record { size = length-replicate {A = ℕ} k 0; small = λ i l. rw (get_or-replicate {A = ℕ} k i 0 0 l) pos }

inputs : (S : Setup) (group : ℕ) → determines_call S group ≡ yes → DealOk S (replicate (S.l * S.l) 0) (replicate (dim S * dim S - S.l * S.l) 0)
inputs S group e =
    let ok = (determines-ok S group e).0.setup in
    let pos = limits-pos S ok.limits in
    record { setup = ok; vectors = zeros S.p _ pos; entries = zeros S.p _ pos }

pub nothing-dealt : NothingDealt
unfolding tab tab_from
nothing-dealt S group e openers handed rounds out below count count-rounds present by room =
    let F : FoundUnrefreshed S group (λ (t : Unit {0}). run S _ _ (inputs S group e)) = demand3.before S group _ (run-done S _ _ (inputs S group e) group e) in
    let none : Terms (Unit {0}) = record { count = 0; constant = λ t. 0; dealing = λ t. tt; column = λ t. 0 } in
    rw (F.no-columns none refl) at (F.opens (λ t. 0) none openers handed rounds out
    (record {
      limits = record { few = omega arith; columns = λ t l. absurd (omega arith); constants = λ t l. absurd (omega arith) };
      below = below;
      count = count;
      count-rounds = count-rounds;
      by-rule = λ a l t. by a (omega (arith, count)) t;
      present = present;
    }) room)
