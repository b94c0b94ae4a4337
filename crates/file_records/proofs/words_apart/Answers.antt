-- The n words that are written.
use Prim.Native.Nat.{◌+◌, ◌*◌}
use mathlib.Core.Path.{◌∙◌}
use native.Mathlib.Omega.{arith}
use lib.Seq.{get_or-take, length-take-le}
use Rattle.base.proofs.Fill.{tab-is}
use Rattle.record_words.specs.Words.{word_at}
use Rattle.file_records.proofs.words_apart.Goals as goal

pub returns : goal.returns
returns c =
    let x = c.args in
    let l = c.loop-j in (
      l.invariant.0,
      tab-is x.n (λ k. word_at x.t.now (x.i + x.step * k)) 0 _ (length-take-le x.n l.out (omega arith))
          (λ k m. get_or-take x.n l.out k 0 m ∙ l.invariant.1 k (omega arith)),
    )
