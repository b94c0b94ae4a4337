-- The first record that is faulty or missing is the first of all.
use mathlib.Core.Path.{◌≡◌, sym, ap, ◌∙◌}
use mathlib.Core.Bool.{not}
use Prim.Native.Nat.{◌+◌}
use native.Mathlib.Omega.{arith}
use lib.Dec.{eqb}
use borrow.Author.Tests.{eq-eqb, ne_eqb}
use Rattle.base.proofs.Search.{first_found, first-missing}
use Rattle.file_records.proofs.Reading.{refused-some}
use Rattle.file_records.specs.Received.{records, fault_at, reached}
use Rattle.file_records.proofs.reached.Goals as goal

pub returns-then-is_err : goal.returns-then-is_err
unfolding reached
returns-then-is_err c =
    let l = c.loop-k in
    let h = c.args.h in
    let t = c.args.t.now in
    sym (first_found (λ j. not (eqb (fault_at h t j) 0)) (records h) l.k (omega (arith, c.loop-k-test.true, c.pair_records.ensures.0))
    (ap not (ne_eqb _ 0 (λ z. refused-some c.check_at.result (sym c.is_err.ensures.value ∙ c.if-is_err.true) (c.check_at.ensures ∙ z))))
    (λ j m. ap not (eq-eqb _ 0 (l.invariant j m))))

pub returns : goal.returns
unfolding reached
returns c =
    let h = c.args.h in
    let t = c.args.t.now in
    let e : c.pair_records.result + h.n ≡ records h = omega (arith, c.pair_records.ensures.0) in
    e ∙ sym (first-missing (λ j. not (eqb (fault_at h t j) 0)) (records h) (λ j m. ap not (eq-eqb _ 0 (c.loop-k.invariant j (omega (arith, m, e))))))
