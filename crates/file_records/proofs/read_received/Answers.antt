-- The record reached decides, and what was sent stands at the places of the records, whether that record is refused or not.
use mathlib.Core.Path.{ap, ◌∙◌}
use native.Mathlib.Omega.{arith}
use Rattle.file_records.specs.Received.{place, fault_at}
use Rattle.file_records.proofs.Reading.{pairs-mapped, pairs-some, reached-le, sent-are, verdicts-are}
use Rattle.file_records.proofs.read_received.Goals as goal

pub check_at-refused-requires : goal.check_at-refused-requires
check_at-refused-requires c =
    (c.requires, omega (arith, c.requires, c.reached-k.ensures, reached-le c.args.h c.args.t.now, (pairs-some c.args.h).1))

pub place-byte-requires : goal.place-byte-requires
place-byte-requires c =
    (c.requires, omega (arith, c.requires, c.reached-k.ensures, reached-le c.args.h c.args.t.now, (pairs-some c.args.h).1))

pub returns : goal.returns
returns c =
    let x = c.args in
    let m = c.from-pairs.ensures ∙ c.pair_records.ensures.0 in
    record {
      number = c.check_at-refused.ensures ∙ ap (fault_at x.h x.t.now) c.reached-k.ensures;
      byte = c.place-byte.ensures ∙ ap (place x.h) c.reached-k.ensures;
      values-size = c.words_apart-values.ensures.0;
      values2-size = c.words_apart-values2.ensures.0;
      verdicts-size = c.words_apart-verdicts.ensures.0;
      values = (rw c.from-n.ensures at c.words_apart-values.ensures.1) ∙ sent-are x.h 0 x.t.now (omega (arith, (pairs-some x.h).0));
      values2 = λ tied. (rw c.from-n.ensures at c.words_apart-values2.ensures.1) ∙ sent-are x.h x.h.n x.t.now (omega (arith, pairs-mapped x.h tied));
      verdicts = (rw c.from-n.ensures at c.words_apart-verdicts.ensures.1) ∙ rw m (verdicts-are x.h x.t.now);
    }
