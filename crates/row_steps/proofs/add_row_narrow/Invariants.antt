-- Both loops write the row from left to right.
use Prim.Native.Nat.{◌%◌, ◌≤◌}
use mathlib.Core.Path.{◌≡◌}
use Rattle.row_steps.specs.Rows.{add_row}
use Rattle.row_steps.proofs.add_row_narrow.Given as goal

abbrev pub invariant-loop-c : goal.invariant-loop-c
invariant-loop-c l = record { eights : l.c % 8 ≡ 0; within : l.c ≤ l.whole; written : l.a ≡ add_row l.p l.h l.t l.q l.c l.initial.a }

abbrev pub invariant-loop-c-2 : goal.invariant-loop-c-2
invariant-loop-c-2 l = l.a ≡ add_row l.p l.h l.t l.q l.c l.fn.a
