-- A record that is there is judged where it starts.
use Prim.Native.Nat.{◌+◌}
use mathlib.Core.Path.{◌≡◌, ap, ◌∙◌}
use native.Mathlib.Omega.{arith}
use Rattle.file_records.specs.Received.{records, record_fault}
use Rattle.file_records.proofs.Reading.{part-is, behind, record-there}
use Rattle.file_records.proofs.check_at.Goals as goal

pub returns-then-t-at : goal.returns-then-t-at
returns-then-t-at c =
    let x = c.args in
    let e : c.pair_records.result + x.h.n ≡ records x.h = omega (arith, c.pair_records.ensures.0) in
    (rw e at c.refuse_if.ensures) ∙ behind _ _ _ _ c.place-at.ensures c.if-t-at.true

pub returns : goal.returns
returns c =
    let x = c.args in
    c.check_record.ensures ∙ ap (record_fault x.h x.k) (part-is x.t.now c.place-at.result)
    ∙ record-there x.h x.t.now x.k _ c.place-at.ensures c.if-t-at.false
