-- The judgement of one dealing names a holder wherever it rejects.
use mathlib.Core.Path.{ap, ◌∙◌}
use Rattle.base.specs.Rules.{Answer}
use Rattle.places.specs.Places.{setup, named_place}
use Rattle.places.proofs.Named.{judge-zero-names}
use Rattle.c_api.proofs.mavdrusek_judge_zero.Goals as goal

pub returns-clause-named : goal.returns-clause-named
returns-clause-named c =
    let x = c.args in
    c.judged.ensures.named_after ∙ ap (λ (a : Answer). named_place a x.named.now) c.judge_zero-answer.ensures
    ∙ judge-zero-names (setup x.p x.l x.e x.n x.matrix.now) x.h.now x.values.now x.named.now
