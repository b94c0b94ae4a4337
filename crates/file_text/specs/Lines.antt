-- The text that the holder program prints, as a list of bytes (document 01, "The holder program on paper"; document 02, A7).
-- width: how many decimal digits a number below 65536 takes
-- dec: its decimal digits
-- setup_word .. at_word: the words, with the spaces beside them
-- newline: the line feed that ends each line
-- item, last_item: words and a number; the same at the end of a line
-- line: an item and then a last one
-- setup_line .. refused_line: the lines
-- column_lines: one line per column under a word, from column b on
-- kept_lines: the lines of the shares and of the mapped shares where the dealing was kept, and none where it was aborted
-- printed: all lines of a file that was read to its end
-- refused_text: the only line of a refused file
use Rattle.std.specs.Prelude.{cond, List, [], ◌∷◌, ◌++◌, ℕ, suc, ltb}
use Rattle.io.specs.Digits.{last_digits}
use Rattle.scheme.specs.Setup.{Setup}
use Rattle.scheme.specs.declared.Judgement.{Judgement}
use Rattle.scheme.specs.declared.Judgement.TheVariants.{Accept, Reject, RejectMap}
use Rattle.scheme.specs.declared.Fate.{Fate}
use Rattle.scheme.specs.declared.Fate.TheVariants.{Kept, Aborted}

unfoldable pub width : ℕ → ℕ
width x = cond (ltb x 10) 1 (cond (ltb x 100) 2 (cond (ltb x 1000) 3 (cond (ltb x 10000) 4 5)))

unfoldable pub dec : ℕ → List ℕ
dec x = last_digits 10 (width x) x

-- THE WORDS
-- "setup "
abbrev pub setup_word : List ℕ
setup_word = 115 ∷ 101 ∷ 116 ∷ 117 ∷ 112 ∷ 32 ∷ []

-- " "
abbrev pub space : List ℕ
space = 32 ∷ []

-- "dealing "
abbrev pub dealing_word : List ℕ
dealing_word = 100 ∷ 101 ∷ 97 ∷ 108 ∷ 105 ∷ 110 ∷ 103 ∷ 32 ∷ []

-- " holder "
abbrev pub holder_word : List ℕ
holder_word = 32 ∷ 104 ∷ 111 ∷ 108 ∷ 100 ∷ 101 ∷ 114 ∷ 32 ∷ []

-- "verdict accept"
abbrev pub accept_words : List ℕ
accept_words = 118 ∷ 101 ∷ 114 ∷ 100 ∷ 105 ∷ 99 ∷ 116 ∷ 32 ∷ 97 ∷ 99 ∷ 99 ∷ 101 ∷ 112 ∷ 116 ∷ []

-- "verdict reject "
abbrev pub reject_words : List ℕ
reject_words = 118 ∷ 101 ∷ 114 ∷ 100 ∷ 105 ∷ 99 ∷ 116 ∷ 32 ∷ 114 ∷ 101 ∷ 106 ∷ 101 ∷ 99 ∷ 116 ∷ 32 ∷ []

-- "map"
abbrev pub map_word : List ℕ
map_word = 109 ∷ 97 ∷ 112 ∷ []

-- "outcome kept"
abbrev pub kept_words : List ℕ
kept_words = 111 ∷ 117 ∷ 116 ∷ 99 ∷ 111 ∷ 109 ∷ 101 ∷ 32 ∷ 107 ∷ 101 ∷ 112 ∷ 116 ∷ []

-- "outcome aborted "
abbrev pub aborted_words : List ℕ
aborted_words = 111 ∷ 117 ∷ 116 ∷ 99 ∷ 111 ∷ 109 ∷ 101 ∷ 32 ∷ 97 ∷ 98 ∷ 111 ∷ 114 ∷ 116 ∷ 101 ∷ 100 ∷ 32 ∷ []

-- "share "
abbrev pub share_word : List ℕ
share_word = 115 ∷ 104 ∷ 97 ∷ 114 ∷ 101 ∷ 32 ∷ []

-- "mapped "
abbrev pub mapped_word : List ℕ
mapped_word = 109 ∷ 97 ∷ 112 ∷ 112 ∷ 101 ∷ 100 ∷ 32 ∷ []

-- "refused "
abbrev pub refused_word : List ℕ
refused_word = 114 ∷ 101 ∷ 102 ∷ 117 ∷ 115 ∷ 101 ∷ 100 ∷ 32 ∷ []

-- " at "
abbrev pub at_word : List ℕ
at_word = 32 ∷ 97 ∷ 116 ∷ 32 ∷ []

abbrev pub newline : List ℕ
newline = 10 ∷ []

-- THE LINES
abbrev pub item : List ℕ → ℕ → List ℕ
item words x = words ++ dec x

abbrev pub last_item : List ℕ → ℕ → List ℕ
last_item words x = words ++ dec x ++ newline

abbrev pub line : List ℕ → ℕ → List ℕ → ℕ → List ℕ
line first x second y = item first x ++ last_item second y

-- "Fields: p, ℓ, e, n": setup P L E N
unfoldable pub setup_line : ℕ → ℕ → ℕ → ℕ → List ℕ
setup_line p l e n = item setup_word p ++ item space l ++ line space e space n

-- "dealing number and holder": dealing D holder I
unfoldable pub dealing_line : ℕ → ℕ → List ℕ
dealing_line dealing holder = line dealing_word dealing holder_word holder

-- "verdict, with the holder named after `reject`": verdict accept, verdict reject J; "If only that last check fails, the verdict is `reject map`"
unfoldable pub verdict_line : Judgement → List ℕ
verdict_line Accept = accept_words ++ newline
verdict_line (Reject j) = last_item reject_words j
verdict_line RejectMap = reject_words ++ map_word ++ newline

-- "outcome, with the holder named after `aborted`": outcome kept, outcome aborted I
unfoldable pub outcome_line : Fate → List ℕ
outcome_line Kept = kept_words ++ newline
outcome_line (Aborted i) = last_item aborted_words i

-- "column and value, one line per column, none if aborted": share B V; "Kept shares of the second print last, as `mapped` with column and value":
-- mapped B V; a file without a second dealing has no mapped shares
unfoldable pub column_line : List ℕ → ℕ → ℕ → List ℕ
column_line word b v = line word b space v

unfoldable pub column_lines : List ℕ → ℕ → List ℕ → List ℕ
column_lines word b [] = []
column_lines word b (v ∷ vs) = column_line word b v ++ column_lines word (suc b) vs

unfoldable pub kept_lines : Fate → (shares mapped : List ℕ) → List ℕ
kept_lines Kept shares mapped = column_lines share_word 0 shares ++ column_lines mapped_word 0 mapped
kept_lines (Aborted i) shares mapped = []

-- "A refused file prints only `refused N at B`, B the byte where the record starts, or the file's length for 11 and 13"
unfoldable pub refused_line : ℕ → ℕ → List ℕ
refused_line number at = line refused_word number at_word at

-- THE TWO TEXTS
abbrev pub printed : Setup → (dealing holder : ℕ) → Judgement → Fate → (shares mapped : List ℕ) → List ℕ
printed S dealing holder judgement fate shares mapped =
    setup_line S.p S.l S.e S.n ++ dealing_line dealing holder ++ verdict_line judgement ++ outcome_line fate ++ kept_lines fate shares mapped

abbrev pub refused_text : (number at : ℕ) → List ℕ
refused_text number at = refused_line number at
