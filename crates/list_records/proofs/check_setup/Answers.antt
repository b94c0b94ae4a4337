-- With the length that the numbers read ask for, the rule of the lent matrix does not apply.
use Prim.Native.Nat.{◌+◌, ◌*◌}
use mathlib.Core.Path.{ap, ◌∙◌}
use Rattle.scheme.specs.declared.Params.{Params}
use Rattle.record_layouts.proofs.Calls.{matrix-as-setup}
use Rattle.list_records.proofs.check_setup.Goals as goal

pub returns : goal.returns
returns c =
    c.check_matrix.ensures
    ∙ matrix-as-setup c.args.s.now c.matrix_len-len.result
    (c.matrix_len-len.ensures ∙ ap (λ (y : Params). y.n * (y.l + y.e)) c.params_at.ensures)
