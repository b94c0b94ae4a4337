-- The theorem on numbers: two dealings of corrections on the points matrix of p 65521, ℓ 2, e 1 and four holders, all of whom follow the rules. What demand 3
-- asks is met; −2 times a column of the first and 3 times one of the second open, by all four at the round named, to the sums 997 and −219.
use mathlib.Core.Path.{◌≡◌, refl}
use mathlib.Core.Bool.{Bool, true, false, ◌&&◌}
use mathlib.Core.List.{List, [], ◌∷◌}
use Prim.Native.Nat.{ℕ, zero, suc, ◌<◌}
use native.Mathlib.Omega.{arith}
use lib.IntN.{ℤ, pos, negsuc}
use lib.ListN.{length, get_or}
use lib.Seq.{ext_get_or}
use Rattle.base.specs.Search.{Vec, every}
use Rattle.base.specs.Matrix.{all_below}
use Rattle.field.specs.Fields.{is_field}
use Rattle.field.specs.Dot.{at}
use Rattle.field.proofs.Prime.{prime-65521}
use Rattle.scheme.specs.Setup.{Setup, IsSetup}
use Rattle.scheme.specs.Answers.{yes}
use Rattle.scheme.specs.Points.{points_matrix}
use Rattle.scheme.specs.Sets.{holds, members, members_from, determines}
use Rattle.scheme.specs.Calls.{determines_call}
use Rattle.scheme.proofs.Calls.{set-accepts, vec_of}
use Rattle.scheme.proofs.Points.{points-vec}
use Rattle.scheme.proofs.PointSets.{point-sets}
use Rattle.signed.specs.Integers.{integer_at, total}
use Rattle.signed.specs.Corrections.{in_range, all_in_range, residues}
use Rattle.signed.specs.Calls.{open_signed_left}
use Rattle.demand.specs.Demand.{Dealing, DoneZero, Slip, Applied, unrefreshed, Present, hands_in, values_by, rounds_by, Honest}
use Rattle.demand.proofs.Demand.{demand3}
use Rattle.signed_demand.specs.Signed.{SignedTerms, held, SignedInLimits, SignedHanded, OpensExactly, dealt_exactly, SignedHonest}
use Rattle.signed_demand.proofs.Signed.{door-timings}

abbrev four : Setup
four = record { p = 65521; l = 2; e = 1; n = 4; M = points_matrix 65521 3 4 }

setup : IsSetup four
unfolding is_field
setup =
    record {
      limits = record { field = refl; secret = (omega arith, omega arith); random = (omega arith, omega arith); holders = (omega arith, omega arith) };
      matrix = points-vec 65521 prime-65521 3 4 (omega arith);
    }

enough : determines four (holds 15) ≡ true
unfolding members members_from
enough = (point-sets four (record { matrix = refl; prime = prime-65521; fits = omega arith }) (holds 15)).exactly (omega arith)

present : Present four 15 15
unfolding members members_from
present = (point-sets four (record { matrix = refl; prime = prime-65521; fits = omega arith }) (λ i. holds 15 i && holds 15 i)).exactly (omega arith)

determined : determines_call four 15 ≡ yes
determined = rw (set-accepts four 15 (record { setup = setup; inside = omega arith }), enough) refl

-- position k of column b at 2b + k: columns (−500, 120) and (32760, −32760), then (0, 1) and (−1, 7)
abbrev corrections : Bool → List ℤ
corrections false = negsuc 499 ∷ pos 120 ∷ pos 32760 ∷ negsuc 32759 ∷ []
corrections true = pos 0 ∷ pos 1 ∷ negsuc 0 ∷ pos 7 ∷ []

in-range : (t : Bool) → all_in_range (corrections t) ≡ true
unfolding all_in_range every
in-range false = refl
in-range true = refl

random : Vec 65521 5 (1 ∷ 22 ∷ 333 ∷ 4444 ∷ 55555 ∷ [])
unfolding all_below every
random = vec_of 65521 5 (1 ∷ 22 ∷ 333 ∷ 4444 ∷ 55555 ∷ []) (omega arith) refl refl

pub dealing : (t : Bool) → (D : Dealing) × Honest four (residues (corrections t)) (1 ∷ 22 ∷ 333 ∷ 4444 ∷ 55555 ∷ []) D
dealing false = door-timings.run four (corrections false) _ setup refl refl random
dealing true = door-timings.run four (corrections true) _ setup refl refl random

abbrev D : Bool → Dealing
D t = (dealing t).0

-- no zero dealing; both at round 3
abbrev Z : ⊥ → Dealing
Z j = absurd j

none_done : DoneZero four 15 Z
none_done = demand3.none_yet four 15 determined

all-follow : SignedHonest four corrections D Z
all-follow = door-timings.honest four corrections (λ t. 1 ∷ 22 ∷ 333 ∷ 4444 ∷ 55555 ∷ []) D Z refl in-range (λ t. (dealing t).1)

abbrev A : Applied four 15 D Z
A = unrefreshed four 15 D Z (λ t. 3)

-- −2 times column 0 of the first, 3 times column 1 of the second
abbrev terms : SignedTerms Bool
terms =
    record {
      count = 2;
      constant = λ t. get_or (negsuc 1 ∷ pos 3 ∷ []) t (pos 0);
      dealing = λ t. get_or (false ∷ true ∷ []) t false;
      column = at (0 ∷ 1 ∷ []);
    }

limits : SignedInLimits four terms
limits = record { few = omega arith; columns = columns; constants = constants }
  where
    columns : (t : ℕ) → t < 2 → at (0 ∷ 1 ∷ []) t < 2
    columns zero l = omega arith
    columns (suc zero) l = omega arith
    columns (suc (suc t)) l = absurd (omega arith)

    constants : (t : ℕ) → t < 2 → in_range (get_or (negsuc 1 ∷ pos 3 ∷ []) t (pos 0)) ≡ true
    constants zero l = refl
    constants (suc zero) l = refl
    constants (suc (suc t)) l = absurd (omega arith)

abbrev slip : ℕ → Slip
slip = hands_in four 15 A.slip (held terms) (λ i. record { value = 0; round = 0 })

handed : SignedHanded four 15 A.slip terms 15 (values_by four 15 slip) (rounds_by four 15 slip)
handed =
    door-timings.met four 15 D Z refl (all-follow.done 15 determined) none_done A terms limits 15 (omega arith) present (λ i m n t u l o. refl)
    (λ i. record { value = 0; round = 0 })

pub opened : (out : List ℤ) → length out ≡ 2 → open_signed_left four 15 (values_by four 15 slip) (rounds_by four 15 slip) out ≡ pos 997 ∷ negsuc 218 ∷ []
unfolding total
opened out room = ext_get_or (pos 0) _ (pos 997 ∷ negsuc 218 ∷ []) o.size each
  where
    o : OpensExactly four 15 (values_by four 15 slip) (rounds_by four 15 slip) out (dealt_exactly four corrections terms)
    o = all-follow.opens 15 determined none_done A terms 15 _ _ out handed room (λ i m. m) (λ t i k l m n. refl)

    each : (k : ℕ) → k < length (open_signed_left four 15 (values_by four 15 slip) (rounds_by four 15 slip) out)
        → integer_at (open_signed_left four 15 (values_by four 15 slip) (rounds_by four 15 slip) out) k ≡ integer_at (pos 997 ∷ negsuc 218 ∷ []) k
    each zero l = o.equals 0 (omega arith) refl
    each (suc zero) l = o.equals 1 (omega arith) refl
    each (suc (suc k)) l = absurd (omega (arith, o.size))
