-- The first c entries of every part are written.
use Prim.Native.Nat.{◌%◌}
use mathlib.Core.Path.{◌≡◌}
use mathlib.Core.List.{[]}
use lib.ListN.{length, get_or}
use Rattle.base.proofs.Rows.{Begun}
use Rattle.field.specs.Dot.{at, dot}
use Rattle.key_parts.specs.Inner.{matrix_entry}
use Rattle.key_parts.proofs.write_products.Given as goal

abbrev pub invariant-loop-c : goal.invariant-loop-c
invariant-loop-c l = (length l.out ≡ 112) × Begun 7 16 0 (λ i c. dot 7 (matrix_entry l.columns i) (at (get_or l.lines c [])) % 257) l.c l.out
