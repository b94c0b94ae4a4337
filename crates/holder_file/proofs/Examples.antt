-- What is printed: the text of every contents in order; and document 01's file of 90 bytes with its three variants ("The holder program on paper"), the same file with a
-- DF and a zero dealing's file, computed from the definitions, one line here for each line there; and what the last three give as numbers.
-- prints, call-prints, call-leaves: the file of contents in order prints their text
use mathlib.Core.Path.{◌≡◌, refl, ap}
use mathlib.Core.Bool.{not}
use mathlib.Core.List.{List, [], ◌∷◌, ◌++◌}
use Prim.Native.Nat.{ℕ}
use lib.ListN.{length, drop}
use borrow.Author.Tests.{eq-eqb, le-ltb}
use Rattle.base.specs.Rules.{refusal, given}
use Rattle.base.proofs.Rules.{none-applies}
use Rattle.base.specs.Sum.{sum}
use Rattle.base.specs.Search.{every, first, first_from}
use Rattle.field.specs.Dot.{dot}
use Rattle.scheme.specs.Dealing.{expected, differs, said_reject, is_kept, judgement_of, image_at, differs_in, map_holds, judgement_mapped, expected_zero, differs_zero, judgement_zero, fate_of}
use Rattle.file_text.specs.Lines.{width, dec, setup_line, dealing_line, verdict_line, outcome_line, column_line, column_lines, kept_lines, refused_line}
use Rattle.file_reading.specs.Contents.{Contents, InOrder, file_bytes}
use Rattle.file_reading.proofs.Sound.{reads-back}
use Rattle.file_reading.proofs.Examples.{worked, last-gone, rejected, contradicted, worked-read, last-gone-read, rejected-read, contradicted-read}
use Rattle.file_reading.proofs.Examples.{tied, untied, tied-read, untied-read, worked_contents, tied_contents}
use Rattle.file_reading.proofs.Examples.{zeros, wrong, zero_contents, zero-read, wrong-read}
use Rattle.holder_file.specs.Text.{text_of, line_of, file_text}
use Rattle.file_reading.specs.File.{told}
use Rattle.holder_file.specs.Calls.{lent_file, holder_file_call, holder_file_left, numbers}

pub prints : (C : Contents) → InOrder C → file_text (file_bytes C) ≡ text_of C
prints C ok = ap line_of (reads-back C ok).back

not-lent : (C : Contents) → InOrder C → (out : List ℕ) → length out ≡ 512 → refusal (lent_file (file_bytes C) out 512) ≡ 0
not-lent C ok out e =
    none-applies (lent_file (file_bytes C) out 512) (le-ltb 4096 (length (file_bytes C)) (reads-back C ok).fits, (ap not (eq-eqb (length out) 512 e), tt))

-- and so does the call, at the front of what is lent
pub call-prints : (C : Contents) → InOrder C → (out : List ℕ) → length out ≡ 512 → holder_file_call (file_bytes C) out ≡ given (length (text_of C) ∷ [])
call-prints C ok out e =
    let A = reads-back C ok in
    rw (not-lent C ok out e, A.back) refl

pub call-leaves : (C : Contents) → InOrder C → (out : List ℕ) → length out ≡ 512
    → holder_file_left (file_bytes C) out ≡ text_of C ++ drop (length (text_of C)) out
call-leaves C ok out e =
    let A = reads-back C ok in
    rw (not-lent C ok out e, A.back) refl

-- "setup 7 1 1 3", "dealing 1 holder 1", "verdict accept", "outcome kept", "share 0 2"
pub worked-text : file_text worked
    ≡ 115 ∷ 101 ∷ 116 ∷ 117 ∷ 112 ∷ 32 ∷ 55 ∷ 32 ∷ 49 ∷ 32 ∷ 49 ∷ 32 ∷ 51 ∷ 10
    ∷ 100 ∷ 101 ∷ 97 ∷ 108 ∷ 105 ∷ 110 ∷ 103 ∷ 32 ∷ 49 ∷ 32 ∷ 104 ∷ 111 ∷ 108 ∷ 100 ∷ 101 ∷ 114 ∷ 32 ∷ 49 ∷ 10
    ∷ 118 ∷ 101 ∷ 114 ∷ 100 ∷ 105 ∷ 99 ∷ 116 ∷ 32 ∷ 97 ∷ 99 ∷ 99 ∷ 101 ∷ 112 ∷ 116 ∷ 10
    ∷ 111 ∷ 117 ∷ 116 ∷ 99 ∷ 111 ∷ 109 ∷ 101 ∷ 32 ∷ 107 ∷ 101 ∷ 112 ∷ 116 ∷ 10
    ∷ 115 ∷ 104 ∷ 97 ∷ 114 ∷ 101 ∷ 32 ∷ 48 ∷ 32 ∷ 50 ∷ 10 ∷ []
unfolding text_of sum first first_from dot expected differs said_reject is_kept judgement_of fate_of width dec setup_line dealing_line verdict_line outcome_line column_line column_lines kept_lines
worked-text = ap line_of worked-read

-- "Last VD gone: `refused 11 at 82`"
pub last-gone-text : file_text last-gone
    ≡ 114 ∷ 101 ∷ 102 ∷ 117 ∷ 115 ∷ 101 ∷ 100 ∷ 32 ∷ 49 ∷ 49 ∷ 32 ∷ 97 ∷ 116 ∷ 32 ∷ 56 ∷ 50 ∷ 10 ∷ []
unfolding width dec refused_line
last-gone-text = ap line_of last-gone-read

-- "PV from 0 made 3: own VD 0 gives `verdict reject 0` and `outcome aborted 1`": no share line
pub rejected-text : file_text rejected
    ≡ 115 ∷ 101 ∷ 116 ∷ 117 ∷ 112 ∷ 32 ∷ 55 ∷ 32 ∷ 49 ∷ 32 ∷ 49 ∷ 32 ∷ 51 ∷ 10
    ∷ 100 ∷ 101 ∷ 97 ∷ 108 ∷ 105 ∷ 110 ∷ 103 ∷ 32 ∷ 49 ∷ 32 ∷ 104 ∷ 111 ∷ 108 ∷ 100 ∷ 101 ∷ 114 ∷ 32 ∷ 49 ∷ 10
    ∷ 118 ∷ 101 ∷ 114 ∷ 100 ∷ 105 ∷ 99 ∷ 116 ∷ 32 ∷ 114 ∷ 101 ∷ 106 ∷ 101 ∷ 99 ∷ 116 ∷ 32 ∷ 48 ∷ 10
    ∷ 111 ∷ 117 ∷ 116 ∷ 99 ∷ 111 ∷ 109 ∷ 101 ∷ 32 ∷ 97 ∷ 98 ∷ 111 ∷ 114 ∷ 116 ∷ 101 ∷ 100 ∷ 32 ∷ 49 ∷ 10 ∷ []
unfolding text_of sum first first_from dot expected differs said_reject is_kept judgement_of fate_of width dec setup_line dealing_line verdict_line outcome_line column_line column_lines kept_lines
rejected-text = ap line_of rejected-read

-- "own VD 1 gives `refused 13 at 90`"
pub contradicted-text : file_text contradicted
    ≡ 114 ∷ 101 ∷ 102 ∷ 117 ∷ 115 ∷ 101 ∷ 100 ∷ 32 ∷ 49 ∷ 51 ∷ 32 ∷ 97 ∷ 116 ∷ 32 ∷ 57 ∷ 48 ∷ 10 ∷ []
unfolding width dec refused_line
contradicted-text = ap line_of contradicted-read

-- the lines of the first, and "mapped 0 0"
pub tied-text : file_text tied
    ≡ 115 ∷ 101 ∷ 116 ∷ 117 ∷ 112 ∷ 32 ∷ 55 ∷ 32 ∷ 49 ∷ 32 ∷ 49 ∷ 32 ∷ 51 ∷ 10
    ∷ 100 ∷ 101 ∷ 97 ∷ 108 ∷ 105 ∷ 110 ∷ 103 ∷ 32 ∷ 49 ∷ 32 ∷ 104 ∷ 111 ∷ 108 ∷ 100 ∷ 101 ∷ 114 ∷ 32 ∷ 49 ∷ 10
    ∷ 118 ∷ 101 ∷ 114 ∷ 100 ∷ 105 ∷ 99 ∷ 116 ∷ 32 ∷ 97 ∷ 99 ∷ 99 ∷ 101 ∷ 112 ∷ 116 ∷ 10
    ∷ 111 ∷ 117 ∷ 116 ∷ 99 ∷ 111 ∷ 109 ∷ 101 ∷ 32 ∷ 107 ∷ 101 ∷ 112 ∷ 116 ∷ 10
    ∷ 115 ∷ 104 ∷ 97 ∷ 114 ∷ 101 ∷ 32 ∷ 48 ∷ 32 ∷ 50 ∷ 10
    ∷ 109 ∷ 97 ∷ 112 ∷ 112 ∷ 101 ∷ 100 ∷ 32 ∷ 48 ∷ 32 ∷ 48 ∷ 10 ∷ []
unfolding text_of sum every first first_from dot expected differs said_reject is_kept judgement_of image_at differs_in map_holds judgement_mapped fate_of width dec setup_line dealing_line verdict_line outcome_line column_line column_lines kept_lines
tied-text = ap line_of tied-read

-- φ made 3 and the own verdict 0: "verdict reject map", "outcome aborted 1"
pub untied-text : file_text untied
    ≡ 115 ∷ 101 ∷ 116 ∷ 117 ∷ 112 ∷ 32 ∷ 55 ∷ 32 ∷ 49 ∷ 32 ∷ 49 ∷ 32 ∷ 51 ∷ 10
    ∷ 100 ∷ 101 ∷ 97 ∷ 108 ∷ 105 ∷ 110 ∷ 103 ∷ 32 ∷ 49 ∷ 32 ∷ 104 ∷ 111 ∷ 108 ∷ 100 ∷ 101 ∷ 114 ∷ 32 ∷ 49 ∷ 10
    ∷ 118 ∷ 101 ∷ 114 ∷ 100 ∷ 105 ∷ 99 ∷ 116 ∷ 32 ∷ 114 ∷ 101 ∷ 106 ∷ 101 ∷ 99 ∷ 116 ∷ 32 ∷ 109 ∷ 97 ∷ 112 ∷ 10
    ∷ 111 ∷ 117 ∷ 116 ∷ 99 ∷ 111 ∷ 109 ∷ 101 ∷ 32 ∷ 97 ∷ 98 ∷ 111 ∷ 114 ∷ 116 ∷ 101 ∷ 100 ∷ 32 ∷ 49 ∷ 10 ∷ []
unfolding text_of sum every first first_from dot expected differs said_reject is_kept judgement_of image_at differs_in map_holds judgement_mapped fate_of width dec setup_line dealing_line verdict_line outcome_line column_line column_lines kept_lines
untied-text = ap line_of untied-read

-- a zero dealing's: "as a dealing's", with the share 2 and no `mapped` line
pub zero-text : file_text zeros
    ≡ 115 ∷ 101 ∷ 116 ∷ 117 ∷ 112 ∷ 32 ∷ 55 ∷ 32 ∷ 49 ∷ 32 ∷ 49 ∷ 32 ∷ 51 ∷ 10
    ∷ 100 ∷ 101 ∷ 97 ∷ 108 ∷ 105 ∷ 110 ∷ 103 ∷ 32 ∷ 49 ∷ 32 ∷ 104 ∷ 111 ∷ 108 ∷ 100 ∷ 101 ∷ 114 ∷ 32 ∷ 49 ∷ 10
    ∷ 118 ∷ 101 ∷ 114 ∷ 100 ∷ 105 ∷ 99 ∷ 116 ∷ 32 ∷ 97 ∷ 99 ∷ 99 ∷ 101 ∷ 112 ∷ 116 ∷ 10
    ∷ 111 ∷ 117 ∷ 116 ∷ 99 ∷ 111 ∷ 109 ∷ 101 ∷ 32 ∷ 107 ∷ 101 ∷ 112 ∷ 116 ∷ 10
    ∷ 115 ∷ 104 ∷ 97 ∷ 114 ∷ 101 ∷ 32 ∷ 48 ∷ 32 ∷ 50 ∷ 10 ∷ []
unfolding text_of sum first first_from dot expected_zero differs_zero said_reject is_kept judgement_zero fate_of width dec setup_line dealing_line verdict_line outcome_line column_line column_lines kept_lines
zero-text = ap line_of zero-read

-- the PV from 0 made 5 and the own verdict 0: "verdict reject 0", "outcome aborted 1"
pub wrong-text : file_text wrong
    ≡ 115 ∷ 101 ∷ 116 ∷ 117 ∷ 112 ∷ 32 ∷ 55 ∷ 32 ∷ 49 ∷ 32 ∷ 49 ∷ 32 ∷ 51 ∷ 10
    ∷ 100 ∷ 101 ∷ 97 ∷ 108 ∷ 105 ∷ 110 ∷ 103 ∷ 32 ∷ 49 ∷ 32 ∷ 104 ∷ 111 ∷ 108 ∷ 100 ∷ 101 ∷ 114 ∷ 32 ∷ 49 ∷ 10
    ∷ 118 ∷ 101 ∷ 114 ∷ 100 ∷ 105 ∷ 99 ∷ 116 ∷ 32 ∷ 114 ∷ 101 ∷ 106 ∷ 101 ∷ 99 ∷ 116 ∷ 32 ∷ 48 ∷ 10
    ∷ 111 ∷ 117 ∷ 116 ∷ 99 ∷ 111 ∷ 109 ∷ 101 ∷ 32 ∷ 97 ∷ 98 ∷ 111 ∷ 114 ∷ 116 ∷ 101 ∷ 100 ∷ 32 ∷ 49 ∷ 10 ∷ []
unfolding text_of sum first first_from dot expected_zero differs_zero said_reject is_kept judgement_zero fate_of width dec setup_line dealing_line verdict_line outcome_line column_line column_lines kept_lines
wrong-text = ap line_of wrong-read

-- AS NUMBERS: the kinds 0, 1 and 2 at place 18, between the eight shares of the dealing and those of the second
pub record AsNumbers : Type 0 where
  dealing : numbers (told worked_contents) ≡ 7 ∷ 1 ∷ 1 ∷ 3 ∷ 1 ∷ 1 ∷ 1 ∷ 0 ∷ 1 ∷ 0 ∷ 2 ∷ 0 ∷ 0 ∷ 0 ∷ 0 ∷ 0 ∷ 0 ∷ 0 ∷ 0 ∷ 0 ∷ 0 ∷ 0 ∷ 0 ∷ 0 ∷ 0 ∷ 0 ∷ 0 ∷ []
  mapped : numbers (told tied_contents) ≡ 7 ∷ 1 ∷ 1 ∷ 3 ∷ 1 ∷ 1 ∷ 1 ∷ 0 ∷ 1 ∷ 0 ∷ 2 ∷ 0 ∷ 0 ∷ 0 ∷ 0 ∷ 0 ∷ 0 ∷ 0 ∷ 1 ∷ 0 ∷ 0 ∷ 0 ∷ 0 ∷ 0 ∷ 0 ∷ 0 ∷ 0 ∷ []
  zero-dealing : numbers (told zero_contents) ≡ 7 ∷ 1 ∷ 1 ∷ 3 ∷ 1 ∷ 1 ∷ 1 ∷ 0 ∷ 1 ∷ 0 ∷ 2 ∷ 0 ∷ 0 ∷ 0 ∷ 0 ∷ 0 ∷ 0 ∷ 0 ∷ 2 ∷ 0 ∷ 0 ∷ 0 ∷ 0 ∷ 0 ∷ 0 ∷ 0 ∷ 0 ∷ []

pub as-numbers : AsNumbers
unfolding sum every first first_from dot expected differs said_reject is_kept judgement_of image_at differs_in map_holds judgement_mapped expected_zero differs_zero judgement_zero fate_of
as-numbers = record { dealing = refl; mapped = refl; zero-dealing = refl }
