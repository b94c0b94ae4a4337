-- The loop writes the definition column by column.
use mathlib.Core.Path.{◌≡◌}
use Rattle.row_steps.specs.Rows.{add_row}
use Rattle.row_steps.proofs.add_row_by.Given as goal

abbrev pub invariant-loop-c : goal.invariant-loop-c
invariant-loop-c l = l.a ≡ add_row l.p l.h l.t l.q l.c l.initial.a
