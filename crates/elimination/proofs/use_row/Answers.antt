-- The code scales row k by the inverse of its entry and clears the column by it, as the definition does. Scaling is no row step.
use Prim.Native.Nat.{ℕ}
use mathlib.Core.Path.{ap, ◌∙◌}
use mathlib.Core.List.{List}
use native.Mathlib.Omega.{arith}
use Rattle.base.specs.Matrix.{entry}
use Rattle.gauss.specs.Gauss.{others}
use Rattle.row_steps.proofs.Rows.{below-scale}
use Rattle.elimination.proofs.Flat.{scaling-counts, used-is}
use Rattle.elimination.proofs.use_row.Goals as goal

pub clear_column-requires-clause-below : goal.clear_column-requires-clause-below
clear_column-requires-clause-below c =
    let x = c.args in rw c.scale_row.ensures (below-scale x.p _ _ x.width x.a.now (omega (arith, c.requires.ready.prime.big)) c.requires.ready.below)

pub returns : goal.returns
returns c =
    let x = c.args in
    let inverse = c.inverse_by-scale in
    let mark = c.mark in
    let scaled = c.scale_row in
    let cleared = c.clear_column in
    record {
      state = used-is x.p x.rows x.width x.k x.col x.a.now x.used.now scaled.new.a _ inverse.result mark.result
          inverse.ensures.is scaled.ensures cleared.ensures.matrix mark.ensures;
      steps = cleared.ensures.steps ∙ ap (λ (a : List ℕ). others x.rows x.k (λ i. entry x.width a i x.col)) scaled.ensures
          ∙ scaling-counts x.p x.width x.k x.col x.rows inverse.result x.a.now c.requires.k_lt_rows.1;
    }
