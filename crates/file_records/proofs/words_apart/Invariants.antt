-- The first j words are written.
use Prim.Native.Nat.{ℕ, ◌+◌, ◌*◌, ◌<◌}
use mathlib.Core.Path.{◌≡◌}
use lib.ListN.{length}
use Rattle.field.specs.Dot.{at}
use Rattle.record_words.specs.Words.{word_at}
use Rattle.file_records.proofs.words_apart.Given as goal

abbrev pub invariant-loop-j : goal.invariant-loop-j
invariant-loop-j l = (length l.out ≡ 32) × ((k : ℕ) → k < l.j → at l.out k ≡ word_at l.t (l.i + l.step * k))
