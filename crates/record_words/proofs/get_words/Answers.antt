-- Each turn fills one entry more with the word at its place.
use Prim.Native.Nat.{ℕ, ◌+◌}
use mathlib.Core.Path.{◌≡◌, ap, ◌∙◌}
use native.Mathlib.Omega.{arith}
use lib.ListN.{length}
use Rattle.base.specs.Fill.{filled}
use Rattle.base.proofs.Fill.{filled_none, filled-store, filled-whole}
use Rattle.record_words.specs.Words.{word_at, words_at}
use Rattle.record_words.proofs.get_words.Goals as goal

pub loop-k-init : goal.loop-k-init
loop-k-init c = filled_none _ _

pub loop-k-preserved : goal.loop-k-preserved
loop-k-preserved c = filled-store _ _ _ _ _ c.loop-k.invariant c.whole.ensures

pub returns : goal.returns
unfolding words_at
returns c =
    let x = c.args in
    let e : c.loop-k.k ≡ length x.out.now = omega arith in
    let f : ℕ → ℕ = λ j. word_at x.s.now (x.i + j) in
    c.loop-k.invariant ∙ ap (λ n. filled f n x.out.now) e ∙ filled-whole f 0 x.out.now
