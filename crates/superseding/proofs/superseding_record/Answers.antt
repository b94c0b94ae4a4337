-- The reader refuses the first record, or else the second, or else the two are compared.
use mathlib.Core.List.{[]}
use mathlib.Core.Path.{◌∙◌}
use borrow.Author.Rules.{rules}
use Rattle.scheme.specs.Setup.{setup_of}
use Rattle.superseding.proofs.Reading.{first-refused, second-refused, both-given}
use Rattle.superseding.proofs.superseding_record.Goals as goal

pub returns-in_err-x : goal.returns-in_err-x
returns-in_err-x c =
    let x = c.args in
    let refused = first-refused (setup_of x.s []) x.first.now x.second.now _ c.in_err-x.ensures in
    search rules

pub returns-in_err-y : goal.returns-in_err-y
returns-in_err-y c =
    let x = c.args in
    let refused = second-refused (setup_of x.s []) x.first.now x.second.now _ _ c.in_ok-x.ensures c.in_err-y.ensures in
    search rules

pub returns : goal.returns
returns c =
    let x = c.args in
    c.newer.ensures ∙ both-given (setup_of x.s []) x.first.now x.second.now _ _ c.in_ok-x.ensures c.in_ok-y.ensures
