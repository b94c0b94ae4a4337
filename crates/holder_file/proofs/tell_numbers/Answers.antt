-- Each number in its place.
use mathlib.Core.Path.{refl}
use Rattle.holder_file.proofs.Laws.{numbers-told}
use Rattle.holder_file.proofs.tell_numbers.Goals as goal

pub returns : goal.returns
returns c =
    (numbers-told c.args.t _ _ _ _ _ c.requires.0 c.requires.1 c.verdict_said-a.ensures c.outcome_said-b.ensures c.kind_said-m.ensures, refl)
