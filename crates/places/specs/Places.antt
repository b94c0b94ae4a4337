-- How an exported call hands out what document 01 says of its answer: it returns the refusal's number, 0 where there is none, and writes each value into
-- a place that the caller lends.
-- setup: a setup from the numbers that an exported call takes and the matrix lent beside them
-- place: what the lent place for value k holds: that value, or what it held where the answer has none
-- named_place: what the lent place for the holder that a rejection names holds; 65535, which is no holder, where the rejection names none
-- answered_place, refused_place: the same where only an answer, or only a refusal, has a value for that place
use Rattle.std.specs.Prelude.{List, ℕ, eqb, get_or}
use Rattle.base.specs.Choice.{pick}
use Rattle.base.specs.Rules.{Answer}
use Rattle.scheme.specs.Setup.{Setup}

abbrev pub setup : (p l e n : ℕ) → List ℕ → Setup
setup p l e n m = record { p = p; l = l; e = e; n = n; M = m }

abbrev pub place : ℕ → Answer → ℕ → ℕ
place k a old = get_or a.values k old

-- a verdict of 0 with no holder beside it is `reject map`
abbrev pub named_place : Answer → ℕ → ℕ
named_place a old = place 1 a (pick (eqb (place 0 a 1) 0) 65535 old)

abbrev pub answered_place : ℕ → Answer → ℕ → ℕ
answered_place k a old = pick a.answered (place k a old) old

abbrev pub refused_place : ℕ → Answer → ℕ → ℕ
refused_place k a old = pick a.answered old (place k a old)
