-- The three words, then g, then h are three runs, each of which begins where the one before it ends.
use Prim.Native.Nat.{◌+◌, ◌*◌}
use mathlib.Core.List.{[], ◌∷◌}
use mathlib.Core.Path.{refl, ap, ◌∙◌}
use lib.Seq.{sets}
use lib.ListN.{length}
use Rattle.record_words.specs.Words.{bytes}
use Rattle.record_words.proofs.Words.{three-joined}
use Rattle.list_writing.proofs.put_dealing.Goals as goal

pub returns : goal.returns
returns c =
    let x = c.args in
    let n = length x.g.now in
    c.put_words-3.ensures
    ∙ ap (λ l. sets l (2 * (3 + n)) (bytes x.h.now))
    (c.put_words-2.ensures ∙ ap (λ l. sets l 6 (bytes x.g.now)) c.put_words.ensures)
    ∙ three-joined x.out.now (x.mark ∷ x.x.dealing ∷ x.x.holder ∷ []) x.g.now x.h.now 3 (3 + n) refl refl
