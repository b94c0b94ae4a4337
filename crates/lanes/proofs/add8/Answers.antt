-- Each lane by its own entries.
use borrow.Author.Rules.{rules}
use Rattle.base.proofs.Fill.{tab-from_fn}
use Rattle.lanes.proofs.add8.Goals as goal

pub returns : goal.returns
returns c = tab-from_fn _ _ _ 0 _ _ c.from_fn.ensures.items (λ i y q l k. search rules)
