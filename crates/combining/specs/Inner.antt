-- Contracts of inner functions: two tests.
-- even: two elements are at most `most`, and the round at their place is the one given
-- as_long: as many shares as constants, and as many rounds, and at most 64
use Rattle.std.specs.Prelude.{Bool, ◌&&◌, List, ℕ, eqb, leb}
use Rattle.field.specs.Dot.{at}

unfoldable pub even : (most : ℕ) (us vs rs : List ℕ) (round : ℕ) → ℕ → Bool
even most us vs rs round i = (leb (at us i) most && leb (at vs i) most) && eqb (at rs i) round

abbrev pub as_long : (constants shares rounds : ℕ) → Bool
as_long n a b = (eqb a n && eqb b n) && leb n 64
