-- The loop passes column by column, by whether it has a pivot, and counts as the definition does.
use Prim.Native.Nat.{ℕ, ◌+◌, ◌*◌, ◌≤◌, ◌<◌}
use mathlib.Core.Path.{◌≡◌, refl}
use mathlib.Core.List.{List}
use native.Mathlib.Nat.{mul-le-mul_right}
use native.Mathlib.Omega.{arith}
use Rattle.elimination.specs.Elimination.{flat_reduce, flat_steps, flat_pivot}
use Rattle.elimination.specs.Inner.{buffers, RowUsed, Reduction}
use Rattle.elimination.proofs.Flat.{column-some, column-none, counts_some, counts-none, passes, renamed, counted-le, below-reduce}
use Rattle.elimination.proofs.reduce.Goals as goal
use Rattle.elimination.proofs.reduce.Goals.{then-k-rows, else-k-rows}

-- what the next column leaves, where it has a pivot and where it has none
used-next : {p rows width col : ℕ} {a used b v x y : List ℕ} {total n : ℕ} (k : ℕ) → Reduction p rows width col a used b v total
    → k ≡ flat_pivot rows width col (buffers b v) → k < rows → RowUsed p rows width k col b v x y n → Reduction p rows width (col + 1) a used x y (total + n)
used-next {p} {rows} {width} {col} {a} {used} {b} {v} {x} {y} {total} {n} k so e there it =
    passes so x y (column-some p rows width col (buffers b v) (buffers x y) k e there it.state) n (counts_some p rows width col (buffers b v) k n e there it.steps)

same_next : {p rows width col : ℕ} {a used b v : List ℕ} {total : ℕ} (k : ℕ) → Reduction p rows width col a used b v total
    → k ≡ flat_pivot rows width col (buffers b v) → rows ≤ k → Reduction p rows width (col + 1) a used b v (total + 0)
same_next {p} {rows} {width} {col} {a} {used} {b} {v} k so e none =
    passes so b v (column-none p rows width col (buffers b v) k e none) 0 (counts-none p rows width col (buffers b v) k e none)

pub loop-col-init : goal.loop-col-init
unfolding flat_reduce flat_steps
loop-col-init c = record { state = refl; steps = refl }

pub use_row-total-requires-clause-ready : goal.use_row-total-requires-clause-ready
use_row-total-requires-clause-ready c =
    let x = c.args in
    let l = c.loop-col in
    let r = c.requires.ready in
    record {
      fits = record { size = omega (arith, r.fits.size); marks = omega (arith, r.fits.marks); narrow = r.fits.narrow };
      prime = r.prime;
      below = below-reduce x.p x.rows x.width l.col (buffers x.a.now x.used.now) _ l.invariant.state (omega (arith, r.prime.big)) r.below;
    }

pub overflow_add-total : goal.overflow_add-total
overflow_add-total c =
    let x = c.args in
    let fits : (c.loop-col.col + 1) * x.rows ≤ x.width * x.rows = mul-le-mul_right x.rows (omega (arith, c.requires.pivots_le_width)) in
    omega (arith, counted-le (used-next _ c.loop-col.invariant c.find_pivot-k.ensures c.if-k-rows.true c.use_row-total.ensures), fits, c.requires.ready.fits.size)

pub loop-col-preserved : goal.loop-col-preserved
loop-col-preserved c =
    let i = c.loop-col.invariant in
    elim c.if-k-rows.branch [
      | then-k-rows w ↦ renamed (used-next _ i c.find_pivot-k.ensures w.if-k-rows.true w.use_row-total.ensures) w.a-is w.used-is w.total-is
      | else-k-rows w ↦ renamed (same_next _ i c.find_pivot-k.ensures w.if-k-rows.false) w.a-is w.used-is (omega (arith, w.total-is))
    ]
