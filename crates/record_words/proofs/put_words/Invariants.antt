-- The bytes still to be stored, stored from here, always give the whole run.
use Prim.Native.Nat.{◌+◌, ◌*◌}
use mathlib.Core.Path.{◌≡◌}
use lib.Seq.{sets}
use lib.ListN.{drop}
use Rattle.record_words.specs.Words.{bytes}
use Rattle.record_words.proofs.put_words.Given as goal

abbrev pub invariant-loop-k : goal.invariant-loop-k
invariant-loop-k l = sets l.out (2 * (l.i + l.k)) (bytes (drop l.k l.ws)) ≡ sets l.initial.out (2 * l.i) (bytes l.ws)
