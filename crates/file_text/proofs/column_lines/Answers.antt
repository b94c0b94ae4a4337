-- The lines of the columns left, from the place reached, give the lines of all columns, and in the end no column is left.
use Prim.Native.Nat.{ℕ, ◌+◌, ◌*◌, ◌≤◌, ◌<◌}
use mathlib.Core.Path.{refl, sym, ap, ◌∙◌}
use native.Mathlib.Nat.{le_refl, mul-le-mul}
use native.Mathlib.Omega.{arith}
use lib.Seq.{sets}
use lib.ListN.{length, length-append}
use Rattle.file_text.specs.Lines.{column_line}
use Rattle.file_text.proofs.Text.{after, column_lines-step, column_lines-end}
use Rattle.file_text.proofs.column_lines.Goals as goal

-- the room of the columns passed is part of the room of eight

room : (column w : ℕ) → column ≤ 8 → column * (w + 12) ≤ 8 * (w + 12)
room column w h = mul-le-mul h (le_refl (w + 12))

pub loop-column-init : goal.loop-column-init
loop-column-init c = (omega arith, refl, refl, refl)

pub put_line-k-requires : goal.put_line-k-requires
put_line-k-requires c =
    let x = c.args in
    omega (arith, room (c.loop-column.column + 1) (length x.word.now) (omega arith))

pub loop-column-preserved : goal.loop-column-preserved
unfolding column_line
loop-column-preserved c =
    let x = c.args in
    let vs = x.values.now in
    let w = c.put_line-k.ensures in
    let h : c.loop-column.column < length vs = omega arith in
    let e = column_lines-step x.word.now vs c.loop-column.column h in (
      omega arith,
      omega arith,
      after w _ ∙ ap (λ t. sets c.loop-column.out c.loop-column.k t) (sym e) ∙ c.loop-column.invariant.2,
      omega (arith, simp length-append at (ap length e), simp length-append at w.place),
    )

pub returns : goal.returns
returns c =
    let x = c.args in
    let e = column_lines-end x.word.now x.values.now c.loop-column.column (omega arith) in
    record { text = rw e at c.loop-column.invariant.2; place = omega (arith, ap length e); small = omega (arith, room c.loop-column.column (length x.word.now) (omega arith)) }
