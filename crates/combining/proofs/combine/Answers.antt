-- Where p is a field's, and nothing is odd or the table refuses nothing, the reduced sum is the combination.
use mathlib.Core.Path.{◌≡◌, sym, ap, ◌∙◌}
use mathlib.Core.List.{[], ◌∷◌}
use Prim.Native.Nat.{◌+◌, ◌%◌}
use borrow.Author.Tests.{eq-eqb}
use lib.ListN.{length}
use Rattle.base.specs.Rules.{or_when, refusal, given}
use Rattle.base.specs.Search.{every}
use Rattle.scheme.specs.Opening.{combine}
use Rattle.scheme.specs.Calls.{combine_rules}
use Rattle.combining.specs.Inner.{even}
use Rattle.combining.proofs.Even.{in-range, is-field, combine-fine}
use Rattle.combining.proofs.combine.Goals.{then-not-as_long+in_ok-check_combine, else-not-as_long, then-odd-ne0+in_ok-check_combine-2, else-odd-ne0}
use Rattle.combining.proofs.combine.Goals as goal

pub residue-value-requires : goal.residue-value-requires
residue-value-requires c = (in-range c.args.p (is-field _ _ c.no_field.ensures (ap (or_when 0 1) (sym c.if-no_field.false)))).0

pub returns : goal.returns
unfolding combine
returns c =
    let x = c.args in
    let cs = x.constants.now in
    let r = c.round_of-round in
    let fine : refusal (combine_rules x.p x.constants.now x.shares.now x.rounds.now) ≡ 0 = elim c.if-odd-ne0.branch [
      | then-odd-ne0+in_ok-check_combine-2 w ↦ sym w.in_ok-check_combine-2.ensures
      | else-odd-ne0 w ↦ elim c.if-not-as_long.branch [
        | then-not-as_long+in_ok-check_combine v ↦ sym v.in_ok-check_combine.ensures
        | else-not-as_long v ↦
            combine-fine x.p cs x.shares.now x.rounds.now (is-field _ _ c.no_field.ensures (ap (or_when 0 1) (sym c.if-no_field.false)))
            (sym c.as_long.ensures ∙ v.if-not-as_long.false)
            (sym (c.odd-odd.ensures
            ∙ ap (λ y. every (length cs) (even ((x.p + 65535) % 65536) cs x.shares.now x.rounds.now y)) r.ensures)
            ∙ eq-eqb c.odd-odd.result 0 w.if-odd-ne0.false)
      ]
    ] in
    rw (fine, ← r.ensures) (ap (λ v. given (v ∷ r.result ∷ [])) (c.residue-value.ensures ∙ ap (λ n. n % x.p) c.products-sum.ensures))
