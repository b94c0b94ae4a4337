-- Column 4 + b: the random entries b of the first four rows, and 4 + b of the last three.
use Prim.Native.Nat.{◌+◌}
use native.Mathlib.Omega.{arith}
use Rattle.key_entries.specs.Inner.{key_entry}
use Rattle.key_entries.proofs.Entries.{seven, of_row, of-rest}
use Rattle.key_entries.proofs.random_column.Goals as goal

pub returns : goal.returns
returns c =
    let x = c.args in
    let random = x.random.now in
    let b = x.b in
    λ key.
    seven (λ k. key_entry key random k (4 + b))
    (of_row key random 0 b b (omega arith) (omega arith))
    (of_row key random 1 b (3 + b) (omega arith) (omega arith))
    (of_row key random 2 b (6 + b) (omega arith) (omega arith))
    (of_row key random 3 b (9 + b) (omega arith) (omega arith))
    (of-rest key random 0 (4 + b) (16 + b) (omega arith))
    (of-rest key random 1 (4 + b) (23 + b) (omega arith))
    (of-rest key random 2 (4 + b) (30 + b) (omega arith))
