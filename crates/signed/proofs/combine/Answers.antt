-- Where a first rule refuses, the whole table refuses by the same number.
use mathlib.Core.Path.{◌≡◌, ◌∙◌}
use Rattle.base.specs.Rules.{refusal, refused}
use Rattle.base.specs.Refusals.{number}
use Rattle.base.proofs.Refusals.{above_zero, declined-by}
use Rattle.std.proofs.Common.{rules}
use Rattle.signed.specs.Calls.{combine_signed_call}
use Rattle.signed.proofs.Calls.{first_rules, combine-declined}
use Rattle.signed.proofs.combine.Goals as goal

pub returns-in_err-refuse_if : goal.returns-in_err-refuse_if
returns-in_err-refuse_if c =
    let x = c.args in
    let k = c.in_err-refuse_if.field-0.0 in
    let first : number k ≡ refusal (first_rules x.p x.constants.now) = search rules in
    let whole = first ∙ combine-declined x.p x.constants.now x.shares.now x.rounds.now (λ z. above_zero k (first ∙ z)) in
    let declined : refused (number k) ≡ combine_signed_call x.p x.constants.now x.shares.now x.rounds.now = declined-by k _ _ whole in
    search rules
