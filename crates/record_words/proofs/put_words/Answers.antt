-- The bytes still to be stored, stored from here, always give the whole run.
use Prim.Native.Nat.{◌≤◌}
use mathlib.Core.Path.{ap, ◌∙◌}
use native.Mathlib.Nat.{add-zero}
use native.Mathlib.Omega.{arith}
use lib.ListN.{drop_of_length-le, length, get_or}
use Rattle.record_words.specs.Words.{bytes}
use Rattle.record_words.proofs.Words.{put-turn}
use Rattle.record_words.proofs.put_words.Goals as goal

pub loop-k-init : goal.loop-k-init
loop-k-init c = rw (add-zero c.args.i)

pub loop-k-preserved : goal.loop-k-preserved
loop-k-preserved c =
    let x = c.args in
    put-turn c.loop-k.out x.ws.now x.i c.loop-k.k _ _ (omega arith) (ap (λ b. get_or b 0 0) c.to_le_bytes.ensures)
    (ap (λ b. get_or b 1 0) c.to_le_bytes.ensures ∙ omega (arith, c.type_inv.ws c.loop-k.k))
    ∙ c.loop-k.invariant

pub returns : goal.returns
unfolding bytes
returns c =
    let x = c.args in
    let h : length x.ws.now ≤ c.loop-k.k = omega arith in
    rw (drop_of_length-le x.ws.now h, bytes) at c.loop-k.invariant
