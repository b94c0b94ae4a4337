-- Column b: the key's bytes 4b to 4b + 3, and entry b of each of the random rows.
use Prim.Native.Nat.{◌+◌, ◌*◌}
use mathlib.Core.Path.{◌∙◌}
use native.Mathlib.Omega.{arith}
use Rattle.key_entries.specs.Inner.{key_entry}
use Rattle.key_entries.proofs.Entries.{seven, of-key, of-rest}
use Rattle.key_entries.proofs.key_column.Goals as goal

pub returns : goal.returns
returns c =
    let x = c.args in
    let key = x.key.now in
    let random = x.random.now in
    let b = x.b in
    let h = c.requires.b_bound in
    seven (λ k. key_entry key random k b)
    (c.from.ensures ∙ of-key key random 0 b (4 * b) (omega arith) h (omega arith))
    (c.from-2.ensures ∙ of-key key random 1 b (4 * b + 1) (omega arith) h (omega arith))
    (c.from-3.ensures ∙ of-key key random 2 b (4 * b + 2) (omega arith) h (omega arith))
    (c.from-4.ensures ∙ of-key key random 3 b (4 * b + 3) (omega arith) h (omega arith))
    (of-rest key random 0 b (12 + b) (omega arith))
    (of-rest key random 1 b (19 + b) (omega arith))
    (of-rest key random 2 b (26 + b) (omega arith))
