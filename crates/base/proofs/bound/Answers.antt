-- The bound is one more than what a fold finds to be the largest entry.
use mathlib.Core.Path.{◌∙◌}
use Prim.Native.Nat.{ℕ, max}
use native.Mathlib.Numerals.{add-one}
use borrow.Author.Rules.{rules}
use borrow.Author.Tests.{tests}
use Rattle.std.specs.List.{fold}
use Rattle.std.proofs.lemmas.Iterator.{YieldsList-from_slice}
use Rattle.std.proofs.lemmas.Iterator.Consumers.{fold_from_yields_List}
use Rattle.base.proofs.Matrix.{none-below, most-fold}
use Rattle.base.proofs.bound.Goals as goal

pub returns-then-is_empty : goal.returns-then-is_empty
returns-then-is_empty c p = none-below p c.args.s.now (search (rules, tests))

pub returns : goal.returns
returns c p =
    let x = c.args in
    let e = fold_from_yields_List _ (λ (m : ℕ) y. max m y) 0 _ c.fold.ensures.ran (YieldsList-from_slice x.s.now cc) (λ a y b q k. search (rules, tests)) in
    rw (c.from.ensures ∙ e, add-one (fold max 0 x.s.now)) (most-fold p x.s.now (search (rules, tests)))
