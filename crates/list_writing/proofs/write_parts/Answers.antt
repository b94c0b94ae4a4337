-- The record's words fill the buffer just up.
-- parts_in, lawful: the layout, and that it obeys what one must
use Prim.Native.Nat.{ℕ, ◌+◌, ◌*◌}
use mathlib.Core.List.{[]}
use mathlib.Core.Path.{◌≡◌, refl, sym, ◌∙◌}
use lib.ListN.{length}
use Rattle.base.specs.Rules.{refusal}
use Rattle.base.proofs.Rules.{written}
use Rattle.scheme.specs.Setup.{dim, setup_of}
use Rattle.record_layouts.specs.Records.{Layout, DealingParts, write_rules, parts, parts_layout_of}
use Rattle.record_layouts.proofs.Layouts.{Lawful, filled, parts-lawful}
use Rattle.list_writing.proofs.write_parts.Goals as goal

abbrev parts_in : ℕ → ℕ → Layout DealingParts
parts_in mark many = parts_layout_of mark (λ S. 6 + 2 * (dim S + many)) (λ S. many)

lawful : (mark many : ℕ) → Lawful DealingParts (parts_in mark many)
lawful mark many = parts-lawful mark (λ S. 6 + 2 * (dim S + many)) (λ S. many) (λ S. refl)

pub returns-clause-buffer : goal.returns-clause-buffer
returns-clause-buffer c =
    let x = c.args in
    let S = setup_of x.s [] in
    let y = parts x.x x.g.now x.h.now in
    let lengths = rw c.dim.ensures.0 at c.in_ok-check_lengths.ensures in
    let none : refusal (write_rules (parts_in x.mark x.many) S y (length x.out.now)) ≡ 0 = rw (← lengths, ← c.in_ok-check_lists.ensures) (sym c.in_ok-check_dealing.ensures) in
    written _ _ _ _ none (c.put_dealing.ensures ∙ filled (parts_in x.mark x.many) (lawful x.mark x.many) S y x.out.now none)
