-- The lines of the columns left, from the place reached, give the lines of all columns, and in the end no column is left.
use Prim.Native.Nat.{◌+◌, ◌*◌, ◌≤◌}
use mathlib.Core.Path.{◌≡◌}
use lib.Seq.{sets}
use lib.ListN.{length, drop}
use Rattle.file_text.specs.Lines.{column_lines}
use Rattle.file_text.proofs.column_lines.Given as goal

abbrev pub invariant-loop-column : goal.invariant-loop-column
invariant-loop-column l = (l.k ≤ l.at + l.column * (length l.word + 12)) × (length l.out ≡ length l.initial.out)
    × (sets l.out l.k (column_lines l.word l.column (drop l.column l.values)) ≡ sets l.initial.out l.at (column_lines l.word 0 l.values))
    × (l.k + length (column_lines l.word l.column (drop l.column l.values)) ≡ l.at + length (column_lines l.word 0 l.values))
