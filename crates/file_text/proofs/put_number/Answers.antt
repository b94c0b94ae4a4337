-- The kit gives the fewest digits, and those are as many as `width` says.
use Prim.Native.Nat.{ℕ, ◌≤◌}
use mathlib.Core.Path.{◌≡◌, ap, ◌∙◌}
use native.Mathlib.Omega.{arith}
use lib.ListN.{take}
use Rattle.io.specs.Digits.{last_digits}
use Rattle.file_text.specs.Lines.{width, dec}
use Rattle.file_text.proofs.Text.{fewest}
use Rattle.file_text.proofs.put_number.Goals as goal

-- how many digits there are, and what they are

pub put_text-requires : goal.put_text-requires
put_text-requires c =
    let fair : (c.decimal-k.result ≡ width c.args.x) × (c.decimal-k.result ≤ 5) = let w = rw c.from.ensures at c.decimal-k.ensures.len in
    fewest c.args.x c.decimal-k.result c.ranges.x.fits w.0 w.1 w.2 in
    omega (arith, fair.1, c.decimal-k.ensures.in_bounds.1)

pub returns : goal.returns
unfolding dec
returns c =
    let fair : (c.decimal-k.result ≡ width c.args.x) × (c.decimal-k.result ≤ 5) = let w = rw c.from.ensures at c.decimal-k.ensures.len in
    fewest c.args.x c.decimal-k.result c.ranges.x.fits w.0 w.1 w.2 in
    let told : take c.decimal-k.result c.decimal-k.new.out ≡ dec c.args.x = (rw c.from.ensures at c.decimal-k.ensures.digits) ∙ ap (λ (n : ℕ). last_digits 10 n c.args.x) fair.0 in
    let w = c.put_text.ensures in
    rw (← told) (record { text = w.text; place = w.place; small = omega (arith, w.place, fair.1, c.decimal-k.ensures.in_bounds.1) })
