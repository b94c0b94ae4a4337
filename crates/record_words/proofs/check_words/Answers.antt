-- The test is a fold over the places of the words.
use Prim.Native.Nat.{◌+◌}
use mathlib.Core.Bool.{Bool, false, ◌||◌}
use mathlib.Core.Path.{ap, refl, ◌∙◌}
use native.Mathlib.Omega.{arith}
use borrow.Author.Rules.{rules}
use borrow.Author.Tests.{tests}
use lib.Dec.{leb}
use Rattle.std.proofs.lemmas.Iterator.{YieldsList-from_range}
use Rattle.std.proofs.lemmas.Iterator.Consumers.{fold_from_yields_List}
use Rattle.base.specs.Rules.{or_when}
use Rattle.record_words.specs.Words.{word_at}
use Rattle.record_words.proofs.Words.{words-fold}
use Rattle.record_words.proofs.check_words.Goals as goal

pub returns : goal.returns
returns c =
    let x = c.args in
    c.refuse_if.ensures
    ∙ ap (λ b. or_when 0 4 b)
    (fold_from_yields_List _ (λ (over : Bool) n. over || leb x.p (word_at x.s.now n)) false _ c.fold-over.ensures.ran
    (YieldsList-from_range x.i (x.i + x.count) x.count refl (omega arith)) (λ a y b q k. search (rules, tests))
    ∙ words-fold x.p x.s.now x.i x.count)
