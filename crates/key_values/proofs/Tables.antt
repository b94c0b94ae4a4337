-- The constant tables hold the inverses that the weights need, by computed tests; and the walk lists the depots of a set.
-- inverse-at, behind-at: the test of one entry
use mathlib.Core.Bool.{Bool, true, ◌||◌}
use mathlib.Core.List.{List}
use mathlib.Core.Path.{◌≡◌}
use Prim.Native.Nat.{ℕ, ◌+◌, ◌-◌, ◌*◌, ◌%◌, ◌^◌, ◌≤◌, ◌<◌}
use native.Mathlib.Omega.{arith}
use borrow.Author.Tests.{eqb-true, ne_eqb}
use lib.Dec.{eqb}
use lib.ListN.{length}
use Rattle.base.specs.Matrix.{Below, all_below}
use Rattle.base.specs.Search.{every}
use Rattle.base.proofs.Matrix.{below_by}
use Rattle.base.proofs.Search.{every-at}
use Rattle.field.specs.Dot.{at}
use Rattle.scheme.specs.Sets.{holds}
use Rattle.scheme.proofs.Members.{member-at, members-rise, members-le, members-wide}
use Rattle.key_values.specs.Inner.{Tables, Ready, depots}

abbrev pub inverse-at : List ℕ → ℕ → Bool
inverse-at W c = eqb c 15 || eqb (at W c * (c + 242) % 257) 1

abbrev pub behind-at : List ℕ → ℕ → ℕ → Bool
behind-at P q i = eqb (at P (16 * q + i) * (250 + q - i) % 257) 1

pub tables : (W P : List ℕ) → at W 15 ≡ 1 → every 31 (inverse-at W) ≡ true → every 4 (λ q. every 16 (behind-at P q)) ≡ true
    → all_below 257 W ≡ true → all_below 257 P ≡ true → Tables W P
tables W P own inverses positions below small = record {
  own = own;
  others = λ k l h. eqb-true (at W k * (k + 242) % 257) 1 (rw (ne_eqb k 15 h) at (every-at 31 (inverse-at W) inverses k l));
  behind = λ q i l m. eqb-true (at P (16 * q + i) * (250 + q - i) % 257) 1
      (every-at 16 (behind-at P q) (every-at 4 (λ q. every 16 (behind-at P q)) positions q l) i m);
  below = below_by 257 W (omega arith) below;
  small = below_by 257 P (omega arith) small;
}

pub ready : (s : ℕ) (xs : List ℕ) → s < 2 ^ 16 → 7 ≤ length (depots s) → length xs ≡ 4 * length (depots s) → Below 257 xs → Ready (depots s) xs
ready s xs l seven size small =
    let e = members-wide 16 32 s l (omega arith) in
    record {
      rising = record {
        fits = omega arith;
        below = λ a m. rw (← e) at (member-at 16 (holds s) a (rw e at m)).0;
        rise = λ a b m n. members-rise 32 (holds s) a b m n;
      };
      seven = seven;
      sixteen = rw (← e) at (members-le 16 (holds s));
      size = size;
      small = small;
    }
