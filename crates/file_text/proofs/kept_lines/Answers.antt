-- A dealing that was kept has the lines of the shares and then those of the mapped shares, and an aborted one has none.
use mathlib.Core.Path.{refl}
use native.Mathlib.Omega.{arith}
use Rattle.file_text.specs.Lines.{kept_lines}
use Rattle.file_text.proofs.Text.{both}
use Rattle.file_text.proofs.kept_lines.Goals as goal

pub returns-in-Kept : goal.returns-in-Kept
unfolding kept_lines
returns-in-Kept c =
    rw c.in-Kept.is (both c.column_lines-k.ensures c.column_lines.ensures)

pub returns-in-Aborted : goal.returns-in-Aborted
unfolding kept_lines
returns-in-Aborted c = rw c.in-Aborted.is (record { text = refl; place = omega arith; small = omega arith })
