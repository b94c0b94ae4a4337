-- The copy fills the whole array.
use mathlib.Core.Path.{refl, ◌∙◌}
use Rattle.base.proofs.Fill.{laid-whole}
use Rattle.row_steps.proofs.eight.Goals as goal

pub returns : goal.returns
returns c = c.copy.ensures ∙ laid-whole _ _ 8 0 _ refl (λ k l. refl)
