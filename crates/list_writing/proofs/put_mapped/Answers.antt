-- DL's words under DF's mark and then φ are two runs that fill the buffer just up.
use Prim.Native.Nat.{◌+◌, ◌*◌}
use mathlib.Core.List.{◌∷◌, ◌++◌}
use mathlib.Core.Path.{ap, ◌∙◌}
use native.Mathlib.Omega.{arith}
use lib.Seq.{sets}
use lib.ListN.{length, length-append}
use Rattle.record_words.specs.Words.{bytes}
use Rattle.record_layouts.specs.Records.{mark_df}
use Rattle.record_words.proofs.Words.{two_runs}
use Rattle.list_writing.proofs.put_mapped.Goals as goal

pub returns : goal.returns
returns c =
    let x = c.args in
    let n = 3 + length x.g.now + length x.h.now in
    c.put_words.ensures
    ∙ ap (λ l. sets l (2 * n) (bytes x.phi.now)) c.put_dealing.ensures
    ∙ two_runs x.out.now (mark_df ∷ x.x.dealing ∷ x.x.holder ∷ x.g.now ++ x.h.now) x.phi.now n
    (omega (arith, length-append x.g.now x.h.now)) (omega arith)
