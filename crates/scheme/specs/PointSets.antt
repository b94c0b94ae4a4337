-- Which sets determine the secrets on a points matrix and which are private, for every prime p and all sizes, and for any set; proofs/PointSets.antt
-- proves it. On a points matrix a set determines the secrets exactly if it has at least d members, and is private exactly if it has at most e.
-- OnPoints: M is the points matrix, and there is one: p is prime, and d + n is at most p
-- PointSets: at least d members have a reconstruction row for every position, fewer for none; so d members and no fewer determine the secrets. At most e
-- members have a sweeping vector for every position, more for none; so e members and no more are private
use Rattle.std.specs.Prelude.{◌≡◌, Bool, true, false, ℕ, ◌+◌, ◌≤◌, ◌<◌, leb, length}
use Rattle.field.specs.Prime.{Prime}
use Rattle.scheme.specs.Setup.{Setup, dim}
use Rattle.scheme.specs.Points.{points_matrix}
use Rattle.scheme.specs.Sets.{members, has_row, has_sweep, determines, is_private}

-- "There is one only where d + n is at most p"
pub record OnPoints (S : Setup) : Type 0 where
  pub matrix : S.M ≡ points_matrix S.p (dim S) S.n
  pub prime : Prime S.p
  pub fits : dim S + S.n ≤ S.p

pub record PointSets (S : Setup) (X : ℕ → Bool) : Type 0 where
  pub enough : dim S ≤ length (members S.n X) → (q : ℕ) → q < dim S → has_row S X q ≡ true
  pub too_few : length (members S.n X) < dim S → (q : ℕ) → q < dim S → has_row S X q ≡ false
  pub exactly : 1 ≤ S.l → determines S X ≡ leb (dim S) (length (members S.n X))
  pub swept : length (members S.n X) ≤ S.e → (q : ℕ) → q < S.l → has_sweep S X q ≡ true
  pub not-swept : S.e < length (members S.n X) → (q : ℕ) → q < S.l → has_sweep S X q ≡ false
  -- document 02, A5: "For a points matrix, show that this is the old count of e members"
  pub private : 1 ≤ S.l → is_private S X ≡ leb (length (members S.n X)) S.e
