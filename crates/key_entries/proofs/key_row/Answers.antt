-- Row k: the key's bytes k, 4 + k, 8 + k and 12 + k, and the random entries 3k to 3k + 2.
use Prim.Native.Nat.{◌+◌, ◌*◌}
use mathlib.Core.Path.{◌∙◌}
use native.Mathlib.Omega.{arith}
use Rattle.key_entries.specs.Inner.{key_entry}
use Rattle.key_entries.proofs.Entries.{seven, of-key, of_row}
use Rattle.key_entries.proofs.key_row.Goals as goal

pub returns : goal.returns
returns c =
    let x = c.args in
    let key = x.key.now in
    let random = x.random.now in
    let k = x.k in
    let h = c.requires.k_bound in
    seven (key_entry key random k)
    (c.from.ensures ∙ of-key key random k 0 k h (omega arith) (omega arith))
    (c.from-2.ensures ∙ of-key key random k 1 (4 + k) h (omega arith) (omega arith))
    (c.from-3.ensures ∙ of-key key random k 2 (8 + k) h (omega arith) (omega arith))
    (c.from-4.ensures ∙ of-key key random k 3 (12 + k) h (omega arith) (omega arith))
    (of_row key random k 0 (3 * k) h (omega arith))
    (of_row key random k 1 (3 * k + 1) h (omega arith))
    (of_row key random k 2 (3 * k + 2) h (omega arith))
