-- Where nothing is refused, g has d entries and row `to` lies in the matrix, so that the product is the pair value.
use mathlib.Core.Path.{sym, ap}
use mathlib.Core.List.{[], ◌∷◌}
use native.Mathlib.Omega.{arith}
use Rattle.base.specs.Rules.{given}
use Rattle.scheme.specs.Setup.{setup_of}
use Rattle.scheme.proofs.Calls.{pair_value-ok, limits-pos}
use Rattle.judging.proofs.Products.{row_inside, part-inside, is-pair-value}
use Rattle.judging.proofs.pair_value.Goals as goal

pub rows_product-value-requires : goal.rows_product-value-requires
rows_product-value-requires c =
    let x = c.args in
    let S = setup_of x.s x.matrix.now in
    let ok = pair_value-ok S x.g.now x.to (sym c.in_ok-check_pair_value.ensures) in
    let e = c.dim.ensures.0 in (
      limits-pos S ok.setup.limits,
      omega (arith, ok.setup.limits.secret, ok.setup.limits.random, e),
      part-inside S _ e x.g.now ok.part.size,
      row_inside S _ e x.matrix.now _ ok.setup.matrix.size (omega (arith, ok.to)),
    )

pub returns : goal.returns
returns c =
    let x = c.args in
    let z = sym c.in_ok-check_pair_value.ensures in
    rw z (ap (λ v. given (v ∷ [])) (is-pair-value (setup_of x.s x.matrix.now) _ c.dim.ensures.0 _ x.g.now x.to c.rows_product-value.ensures))
