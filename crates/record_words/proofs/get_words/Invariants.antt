-- Each turn fills one entry more with the word at its place.
use Prim.Native.Nat.{◌+◌}
use mathlib.Core.Path.{◌≡◌}
use Rattle.base.specs.Fill.{filled}
use Rattle.record_words.specs.Words.{word_at}
use Rattle.record_words.proofs.get_words.Given as goal

abbrev pub invariant-loop-k : goal.invariant-loop-k
invariant-loop-k l = l.out ≡ filled (λ j. word_at l.s (l.i + j)) l.k l.initial.out
