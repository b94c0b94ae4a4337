-- The record's words fill the buffer just up.
use mathlib.Core.List.{[]}
use mathlib.Core.Path.{◌≡◌, sym, ◌∙◌}
use lib.ListN.{length}
use Rattle.base.specs.Rules.{refusal}
use Rattle.base.proofs.Rules.{written}
use Rattle.scheme.specs.Setup.{setup_of}
use Rattle.record_layouts.specs.Records.{write_rules, share_layout}
use Rattle.record_layouts.proofs.Layouts.{filled, share-lawful}
use Rattle.record_writing.proofs.write_share.Goals as goal

pub returns-clause-buffer : goal.returns-clause-buffer
returns-clause-buffer c =
    let x = c.args in
    let S = setup_of x.s [] in
    let none : refusal (write_rules share_layout S x.x (length x.out.now)) ≡ 0 = rw (← c.in_ok-check_limits.ensures, ← c.in_ok-check_size.ensures) (sym c.in_ok-check_share.ensures) in
    written _ _ _ _ none (c.put_words.ensures ∙ filled share_layout share-lawful S x.x x.out.now none)
