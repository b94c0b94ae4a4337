-- With e entries of h and no elements behind it the rules are those of DZ.
use mathlib.Core.List.{[]}
use mathlib.Core.Path.{◌∙◌}
use native.Mathlib.Omega.{arith}
use Rattle.scheme.specs.Setup.{setup_of}
use Rattle.record_layouts.specs.Records.{mark_dz, zero_size}
use Rattle.record_layouts.proofs.Calls.{none-behind}
use Rattle.list_records.proofs.check_zero.Goals as goal

pub returns : goal.returns
returns c =
    let x = c.args in
    c.check_parts.ensures ∙ none-behind mark_dz zero_size (λ S. S.e) (setup_of x.s []) x.part.now (omega arith)
