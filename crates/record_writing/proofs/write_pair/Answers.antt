-- The record's words fill the buffer just up.
use mathlib.Core.List.{[]}
use mathlib.Core.Path.{◌≡◌, sym, ◌∙◌}
use lib.ListN.{length}
use Rattle.base.specs.Rules.{refusal}
use Rattle.base.proofs.Rules.{written}
use Rattle.scheme.specs.Setup.{setup_of}
use Rattle.record_layouts.specs.Records.{write_rules, pair_layout_of}
use Rattle.record_layouts.proofs.Layouts.{filled, pair-lawful}
use Rattle.record_writing.proofs.write_pair.Goals as goal

pub returns-clause-buffer : goal.returns-clause-buffer
returns-clause-buffer c =
    let x = c.args in
    let S = setup_of x.s [] in
    let none : refusal (write_rules (pair_layout_of x.mark) S x.x (length x.out.now)) ≡ 0 = rw (← c.in_ok-check_limits.ensures, ← c.in_ok-check_size.ensures) (sym c.in_ok-check_pair.ensures) in
    written _ _ _ _ none (c.put_words.ensures ∙ filled (pair_layout_of x.mark) (pair-lawful x.mark) S x.x x.out.now none)
