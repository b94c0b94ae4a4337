-- The five words and then the matrix are two runs that fill the buffer just up.
use mathlib.Core.List.{[], ◌∷◌}
use mathlib.Core.Path.{refl, ap, ◌∙◌}
use native.Mathlib.Omega.{arith}
use lib.Seq.{sets}
use Rattle.record_words.specs.Words.{bytes}
use Rattle.record_words.proofs.Words.{two_runs}
use Rattle.record_layouts.specs.Records.{mark_su}
use Rattle.list_writing.proofs.put_setup.Goals as goal

pub returns : goal.returns
returns c =
    let x = c.args in
    c.put_words-2.ensures
    ∙ ap (λ l. sets l 10 (bytes x.matrix.now)) c.put_words.ensures
    ∙ two_runs x.out.now (mark_su ∷ x.s.p ∷ x.s.l ∷ x.s.e ∷ x.s.n ∷ []) x.matrix.now 5 refl (omega arith)
