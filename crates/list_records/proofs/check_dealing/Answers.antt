-- With d entries of h and no elements behind it the rules are those of DL.
use mathlib.Core.List.{[]}
use mathlib.Core.Path.{ap, ◌∙◌}
use native.Mathlib.Omega.{arith}
use Rattle.base.specs.Rules.{refusal}
use Rattle.scheme.specs.Setup.{dim, setup_of}
use Rattle.record_layouts.specs.Records.{mark_dl, dealing_size}
use Rattle.record_layouts.specs.Inner.{parts_rules}
use Rattle.record_layouts.proofs.Calls.{none-behind}
use Rattle.list_records.proofs.check_dealing.Goals as goal

pub returns : goal.returns
returns c =
    let x = c.args in
    c.check_parts.ensures
    ∙ ap (λ k. refusal (parts_rules mark_dl k 0 (setup_of x.s []) x.part.now)) c.dim.ensures.0
    ∙ none-behind mark_dl dealing_size (λ S. dim S) (setup_of x.s []) x.part.now (omega arith)
