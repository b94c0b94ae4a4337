-- Two share records on numbers, as the bytes that stand in the drawers: the lines of one table, proved together from the definitions; and slips that meet
-- what the laws ask. The setup is document 01's example, and one with two columns.
use mathlib.Core.Path.{◌≡◌, refl}
use mathlib.Core.List.{List, [], ◌∷◌, ◌++◌, map}
use Prim.Native.Nat.{ℕ}
use native.Mathlib.Omega.{arith}
use Rattle.base.specs.Search.{every}
use Rattle.base.specs.Matrix.{all_below}
use Rattle.field.specs.Fields.{is_field}
use Rattle.scheme.specs.Setup.{Setup}
use Rattle.scheme.specs.Opening.{refresh}
use Rattle.base.proofs.Matrix.{below_by}
use Rattle.scheme.proofs.Cases.{ex, line, Case, ◌is◌}
use Rattle.record_words.specs.Words.{bytes, Bytes}
use Rattle.record_layouts.specs.declared.ShareRecord.{ShareRecord}
use Rattle.record_layouts.specs.Records.{share_words}
use Rattle.superseding.specs.Superseding.{superseding_call, superseding_part}
use Rattle.superseding.proofs.Laws.{either_order, of-three-records, as_written}

abbrev columns : Setup
columns = record { p = 7; l = 2; e = 1; n = 3; M = [] }

-- SH of dealing d, holder i, column b, value v, and the round's two bytes
abbrev slip : (d i b v low high : ℕ) → List ℕ
slip d i b v low high = 83 ∷ 72 ∷ d ∷ 0 ∷ i ∷ 0 ∷ b ∷ 0 ∷ v ∷ 0 ∷ low ∷ high ∷ []

-- one byte short, and with the mark of VD
abbrev cut : List ℕ
cut = 83 ∷ 72 ∷ 1 ∷ 0 ∷ 1 ∷ 0 ∷ 0 ∷ 0 ∷ 2 ∷ 0 ∷ 0 ∷ []

abbrev verdict : List ℕ
verdict = 86 ∷ 68 ∷ 1 ∷ 0 ∷ 1 ∷ 0 ∷ 1 ∷ 0 ∷ 2 ∷ 0 ∷ 0 ∷ 0 ∷ []

abbrev old : List ℕ
old = slip 1 1 0 2 0 0

abbrev new : List ℕ
new = slip 1 1 0 4 1 0

-- whether it answers, the number, which one; then the part
abbrev settled : Setup → List ℕ → List ℕ → List ℕ
settled S a b = line (superseding_call S a b) ++ superseding_part S a b

abbrev table : List Case
table =
    -- the higher round, wherever it stands, low byte first; of equal ones the first; what follows is not looked at
    (settled ex old new is 1 ∷ 0 ∷ 2 ∷ new) ∷ (settled ex new old is 1 ∷ 0 ∷ 1 ∷ new) ∷ (settled ex new new is 1 ∷ 0 ∷ 1 ∷ new)
    ∷ (settled ex (slip 1 1 0 2 255 0) (slip 1 1 0 4 0 1) is 1 ∷ 0 ∷ 2 ∷ slip 1 1 0 4 0 1)
    ∷ (settled ex (old ++ 9 ∷ []) (new ++ verdict) is 1 ∷ 0 ∷ 2 ∷ new)
    -- equal rounds and unequal values
    ∷ (settled ex old (slip 1 1 0 4 0 0) is 0 ∷ 20 ∷ [])
    -- another dealing, holder or column; combinations; and 21 before 20
    ∷ (settled ex old (slip 2 1 0 4 1 0) is 0 ∷ 21 ∷ []) ∷ (settled ex old (slip 1 2 0 4 1 0) is 0 ∷ 21 ∷ []) ∷ (settled columns old (slip 1 1 1 4 1 0) is 0 ∷ 21 ∷ [])
    ∷ (settled ex (slip 0 1 0 2 0 0) (slip 0 1 0 4 1 0) is 0 ∷ 21 ∷ []) ∷ (settled ex (slip 0 1 0 2 0 0) new is 0 ∷ 21 ∷ []) ∷ (settled ex old (slip 0 1 0 4 1 0) is 0 ∷ 21 ∷ [])
    ∷ (settled ex old (slip 1 2 0 4 0 0) is 0 ∷ 21 ∷ []) ∷ (settled ex (slip 0 1 0 2 0 0) (slip 0 1 0 4 0 0) is 0 ∷ 21 ∷ [])
    -- the reader's refusals before them, all of the first before any of the second
    ∷ (settled ex old cut is 0 ∷ 3 ∷ []) ∷ (settled ex old verdict is 0 ∷ 8 ∷ []) ∷ (settled ex old (slip 2 1 0 7 0 0) is 0 ∷ 4 ∷ []) ∷ (settled ex old (slip 1 3 0 4 0 0) is 0 ∷ 5 ∷ [])
    ∷ (settled ex cut verdict is 0 ∷ 3 ∷ []) ∷ (settled ex verdict cut is 0 ∷ 8 ∷ []) ∷ (settled ex (slip 1 1 0 7 0 0) cut is 0 ∷ 4 ∷ [])
    ∷ (settled ex (slip 1 3 0 2 0 0) (slip 1 1 0 7 0 0) is 0 ∷ 5 ∷ [])
    -- a setup out of the limits before all
    ∷ (settled (record { p = 8; l = 1; e = 1; n = 3; M = [] }) cut cut is 0 ∷ 1 ∷ []) ∷ (settled (record { p = 7; l = 1; e = 1; n = 33; M = [] }) cut cut is 0 ∷ 2 ∷ [])
    ∷ []

cases : map (λ (c : Case). c.gives) table ≡ map (λ (c : Case). c.wanted) table
unfolding is_field
cases = refl

-- THE LAWS' HYPOTHESES ARE MET by three slips of rounds 0, 1 and 2
abbrev newest : List ℕ
newest = slip 1 1 0 6 2 0

old-bytes : Bytes old
unfolding every all_below
old-bytes = below_by 256 old (omega arith) refl

new-bytes : Bytes new
unfolding every all_below
new-bytes = below_by 256 new (omega arith) refl

newest-bytes : Bytes newest
unfolding every all_below
newest-bytes = below_by 256 newest (omega arith) refl

two-slips : superseding_part ex new old ≡ superseding_part ex old new
unfolding is_field
two-slips = either_order.part ex old new old-bytes new-bytes refl refl

three-slips : superseding_part ex (superseding_part ex old newest) new ≡ superseding_part ex (superseding_part ex old new) newest
unfolding is_field
three-slips = of-three-records.outer ex old new newest old-bytes new-bytes newest-bytes refl refl refl

-- holder 1's share 2 of round 0, refreshed by its zero share 2 (scheme/proofs/RoundCases.antt)
abbrev share : (v r : ℕ) → ShareRecord
share v r = record { dealing = 1; holder = 1; column = 0; value = v; round = r }

refreshed-slip : (superseding_part ex (bytes (share_words (share 2 0)) ++ []) (bytes (share_words (share 4 1)) ++ []) ≡ bytes (share_words (share 4 1)))
    × (superseding_part ex (bytes (share_words (share 4 1)) ++ []) (bytes (share_words (share 2 0)) ++ []) ≡ bytes (share_words (share 4 1)))
unfolding is_field refresh
refreshed-slip =
    as_written.refreshed ex (share 2 0) (share 4 1) 2 [] []
    (record { field = refl; secret = (omega arith, omega arith); random = (omega arith, omega arith); holders = (omega arith, omega arith) })
    (record { combination = λ e. refl; holder = omega arith; column = omega arith; value = omega arith })
    (record { dealing = refl; holder = refl; column = refl; single = λ e. omega (arith, e) })
    refl
