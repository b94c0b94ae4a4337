-- Where nothing is refused, the answer is the fate of the dealing, and the shares are written only where it is kept.
use mathlib.Core.Path.{refl, sym, ap, ◌∙◌}
use mathlib.Core.List.{[]}
use Rattle.scheme.specs.Setup.{setup_of}
use Rattle.scheme.specs.Answers.{paper_fate}
use Rattle.scheme.proofs.Calls.{outcome-ok}
use Rattle.scheme.proofs.Verdicts.{kept-means}
use Rattle.outcomes.proofs.Ends.{not-kept}
use Rattle.outcomes.proofs.outcome.Goals as goal

pub returns-in-Kept-clause-left : goal.returns-in-Kept-clause-left
returns-in-Kept-clause-left c =
    let x = c.args in
    let S = setup_of x.s [] in
    let z = sym c.in_ok-check_outcome.ensures in
    let ok = outcome-ok S x.g.now x.verdicts.now x.shares.now z in
    rw (z, kept-means S x.verdicts.now (sym (ap paper_fate (sym c.in-Kept.is ∙ c.fate-fate.ensures))), ← ok.room) c.keep_shares.ensures

pub returns-in_default-clause-left : goal.returns-in_default-clause-left
returns-in_default-clause-left c =
    let z = sym c.in_ok-check_outcome.ensures in
    rw (z, not-kept (setup_of c.args.s []) c.args.verdicts.now _ (sym c.in_default.is ∙ c.fate-fate.ensures)) refl
