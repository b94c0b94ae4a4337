-- Contracts of inner functions: what the functions of sets ask and leave, and the three systems that they make. Records, so that a field more moves no
-- caller. m is the matrix M of rows of d entries, ms the members by rising holder, xs their shares.
-- SetTaken: the table of the calls on sets refuses nothing
-- members_of: the members of the set s, by rising holder
-- Walked: the members stand at the start of the list, k of them, and what stands behind them is as it was before
-- Lie: the members' rows lie in the matrix
-- Fresh: buffers for R rows of W entries, no row used
-- beside: the members' rows with the shares beside them; d + 1 columns
-- aside: the members' rows with the last e columns first and the ℓ secret columns beside them, for a sweeping vector
-- lacking: the lowest position below ℓ that the reduced rows do not determine, or ℓ
-- BesideReduced, AcrossReduced, AsideReduced: the buffers show the system, reduced; of the rows as columns, n is the number of row steps
-- Eliminated: the rows beside the shares are reduced, and r is the lowest position with no row
use Rattle.std.specs.Prelude.{◌≡◌, not, List, ℕ, ◌+◌, ◌*◌, ◌≤◌, ◌<◌, ltb, length, take, drop}
use Rattle.base.specs.Choice.{pick}
use Rattle.base.specs.Matrix.{entry}
use Rattle.base.specs.Rules.{refusal}
use Rattle.base.specs.Search.{first}
use Rattle.field.specs.Dot.{at}
use Rattle.read_off.specs.ReadOff.{turned, flat_fixes}
use Rattle.gauss.specs.Gauss.{reduced}
use Rattle.elimination.specs.Elimination.{Flat, Shows}
use Rattle.elimination.specs.Inner.{buffers}
use Rattle.scheme.specs.Setup.{Setup, dim}
use Rattle.scheme.specs.Sets.{holds, members, has_row, across, row_steps}
use Rattle.scheme.specs.Calls.{set_rules}

-- MEMBERS AND BUFFERS
pub record SetTaken (S : Setup) (s : ℕ) : Type 0 where
  pub accepted : refusal (set_rules S s) ≡ 0

abbrev pub members_of : Setup → ℕ → List ℕ
members_of S s = members S.n (holds s)

pub record Walked (s k : ℕ) (before out : List ℕ) : Type 0 where
  pub count : k ≡ length (members 32 (holds s))
  pub fits : k ≤ length out
  pub list : take k out ≡ members 32 (holds s)
  pub behind : drop k out ≡ drop k before

pub record Lie (d : ℕ) (m ms : List ℕ) : Type 0 where
  pub rows : (i : ℕ) → i < length ms → at ms i * d + d ≤ length m

pub record Fresh (R W : ℕ) (a u : List ℕ) : Type 0 where
  pub size : length a ≡ R * W
  pub marks : length u ≡ R
  pub unused : (i : ℕ) → i < R → at u i ≡ 0

-- THE SYSTEMS
unfoldable pub beside : ℕ → List ℕ → List ℕ → List ℕ → ℕ → ℕ → ℕ
beside d m ms xs i j = pick (ltb j d) (entry d m (at ms i) j) (at xs i)

abbrev pub aside : ℕ → ℕ → List ℕ → List ℕ → ℕ → ℕ → ℕ
aside l e m ms = turned l e (λ i. entry (l + e) m (at ms i))

-- REDUCED
pub record BesideReduced (S : Setup) (s : ℕ) (xs a u : List ℕ) : Type 0 where
  pub shows : Shows S.p (length (members_of S s)) (dim S + 1) (buffers a u)
      (reduced S.p (length (members_of S s)) (dim S) (beside (dim S) S.M (members_of S s) xs))

pub record AcrossReduced (S : Setup) (s q : ℕ) (a u : List ℕ) (n : ℕ) : Type 0 where
  pub shows : Shows S.p (dim S) (length (members_of S s) + 1) (buffers a u)
      (reduced S.p (dim S) (length (members_of S s)) (across (dim S) S.M (members_of S s) q))
  pub steps : n ≡ row_steps S (holds s) q

pub record AsideReduced (S : Setup) (s : ℕ) (a u : List ℕ) : Type 0 where
  pub shows : Shows S.p (length (members_of S s)) (dim S) (buffers a u)
      (reduced S.p (length (members_of S s)) S.e (aside S.l S.e S.M (members_of S s)))

abbrev pub lacking : (R W C l : ℕ) → Flat → ℕ
lacking R W C l s = first (λ q. not (flat_fixes R W C s q)) l

pub record Eliminated (S : Setup) (s : ℕ) (xs a u : List ℕ) (r : ℕ) : Type 0 where
  pub system : BesideReduced S s xs a u
  pub lowest : r ≡ first (λ q. not (has_row S (holds s) q)) S.l
