-- Entries below p are below 257 where p is at most 257; the one field above is 65521.
use mathlib.Core.Path.{◌∙◌}
use native.Mathlib.Nat.{zero-mul}
use native.Mathlib.Omega.{arith}
use Rattle.base.proofs.Fill.{filled_none}
use Rattle.parts.specs.Inner.{entry_h, entry_g}
use Rattle.parts.proofs.Parts.{largest, past-filled}
use Rattle.parts.proofs.write_all.Goals as goal

pub returns-then-p-gt257 : goal.returns-then-p-gt257
returns-then-p-gt257 c =
    let w = c.write_each.ensures in
    let e = largest c.args.p c.requires.p_value c.if-p-gt257.true in
    record {
      gs_after = rw e (w.gs_after ∙ past-filled _ (entry_g _ _ _ _) 0 _ _ _ (omega arith) (simp zero-mul (filled_none _ _)));
      hs_after = rw e (w.hs_after ∙ past-filled _ (entry_h _ _ _ _) 0 _ _ _ (omega arith) (simp zero-mul (filled_none _ _)));
    }
