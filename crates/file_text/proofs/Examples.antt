-- What is printed where a dealing is aborted, of two dealings tied by a map, and the digits of the largest p, computed from the definitions. Document
-- 01's files are read and printed in holder_file.
use mathlib.Core.Path.{◌≡◌, refl}
use mathlib.Core.List.{List, [], ◌∷◌}
use Prim.Native.Nat.{ℕ}
use Rattle.scheme.specs.declared.Judgement.TheVariants.{Accept, Reject, RejectMap}
use Rattle.scheme.specs.declared.Fate.TheVariants.{Kept, Aborted}
use Rattle.file_text.specs.Lines.{width, dec, setup_line, dealing_line, verdict_line, outcome_line, column_line, column_lines, kept_lines, printed}

-- "PV from 0 made 3: own VD 0 gives `verdict reject 0` and `outcome aborted 1`": no share line, whatever the shares are
aborted : (shares mapped : List ℕ) → printed (record { p = 7; l = 1; e = 1; n = 3; M = [] }) 1 1 (Reject 0) (Aborted 1) shares mapped
    ≡ 115 ∷ 101 ∷ 116 ∷ 117 ∷ 112 ∷ 32 ∷ 55 ∷ 32 ∷ 49 ∷ 32 ∷ 49 ∷ 32 ∷ 51 ∷ 10
    ∷ 100 ∷ 101 ∷ 97 ∷ 108 ∷ 105 ∷ 110 ∷ 103 ∷ 32 ∷ 49 ∷ 32 ∷ 104 ∷ 111 ∷ 108 ∷ 100 ∷ 101 ∷ 114 ∷ 32 ∷ 49 ∷ 10
    ∷ 118 ∷ 101 ∷ 114 ∷ 100 ∷ 105 ∷ 99 ∷ 116 ∷ 32 ∷ 114 ∷ 101 ∷ 106 ∷ 101 ∷ 99 ∷ 116 ∷ 32 ∷ 48 ∷ 10
    ∷ 111 ∷ 117 ∷ 116 ∷ 99 ∷ 111 ∷ 109 ∷ 101 ∷ 32 ∷ 97 ∷ 98 ∷ 111 ∷ 114 ∷ 116 ∷ 101 ∷ 100 ∷ 32 ∷ 49 ∷ 10 ∷ []
unfolding width dec setup_line dealing_line verdict_line outcome_line kept_lines
aborted shares mapped = refl

-- two columns, shares 2 5 and mapped shares 6 1: the mapped lines are last
mapped : printed (record { p = 7; l = 2; e = 1; n = 3; M = [] }) 1 1 Accept Kept (2 ∷ 5 ∷ []) (6 ∷ 1 ∷ [])
    ≡ 115 ∷ 101 ∷ 116 ∷ 117 ∷ 112 ∷ 32 ∷ 55 ∷ 32 ∷ 50 ∷ 32 ∷ 49 ∷ 32 ∷ 51 ∷ 10
    ∷ 100 ∷ 101 ∷ 97 ∷ 108 ∷ 105 ∷ 110 ∷ 103 ∷ 32 ∷ 49 ∷ 32 ∷ 104 ∷ 111 ∷ 108 ∷ 100 ∷ 101 ∷ 114 ∷ 32 ∷ 49 ∷ 10
    ∷ 118 ∷ 101 ∷ 114 ∷ 100 ∷ 105 ∷ 99 ∷ 116 ∷ 32 ∷ 97 ∷ 99 ∷ 99 ∷ 101 ∷ 112 ∷ 116 ∷ 10
    ∷ 111 ∷ 117 ∷ 116 ∷ 99 ∷ 111 ∷ 109 ∷ 101 ∷ 32 ∷ 107 ∷ 101 ∷ 112 ∷ 116 ∷ 10
    ∷ 115 ∷ 104 ∷ 97 ∷ 114 ∷ 101 ∷ 32 ∷ 48 ∷ 32 ∷ 50 ∷ 10
    ∷ 115 ∷ 104 ∷ 97 ∷ 114 ∷ 101 ∷ 32 ∷ 49 ∷ 32 ∷ 53 ∷ 10
    ∷ 109 ∷ 97 ∷ 112 ∷ 112 ∷ 101 ∷ 100 ∷ 32 ∷ 48 ∷ 32 ∷ 54 ∷ 10
    ∷ 109 ∷ 97 ∷ 112 ∷ 112 ∷ 101 ∷ 100 ∷ 32 ∷ 49 ∷ 32 ∷ 49 ∷ 10 ∷ []
unfolding width dec setup_line dealing_line verdict_line outcome_line column_line column_lines kept_lines
mapped = refl

-- only the check of the map fails: no holder is named, and nothing is kept
map-fails : (shares mapped : List ℕ) → printed (record { p = 7; l = 1; e = 1; n = 3; M = [] }) 1 1 RejectMap (Aborted 1) shares mapped
    ≡ 115 ∷ 101 ∷ 116 ∷ 117 ∷ 112 ∷ 32 ∷ 55 ∷ 32 ∷ 49 ∷ 32 ∷ 49 ∷ 32 ∷ 51 ∷ 10
    ∷ 100 ∷ 101 ∷ 97 ∷ 108 ∷ 105 ∷ 110 ∷ 103 ∷ 32 ∷ 49 ∷ 32 ∷ 104 ∷ 111 ∷ 108 ∷ 100 ∷ 101 ∷ 114 ∷ 32 ∷ 49 ∷ 10
    ∷ 118 ∷ 101 ∷ 114 ∷ 100 ∷ 105 ∷ 99 ∷ 116 ∷ 32 ∷ 114 ∷ 101 ∷ 106 ∷ 101 ∷ 99 ∷ 116 ∷ 32 ∷ 109 ∷ 97 ∷ 112 ∷ 10
    ∷ 111 ∷ 117 ∷ 116 ∷ 99 ∷ 111 ∷ 109 ∷ 101 ∷ 32 ∷ 97 ∷ 98 ∷ 111 ∷ 114 ∷ 116 ∷ 101 ∷ 100 ∷ 32 ∷ 49 ∷ 10 ∷ []
unfolding width dec setup_line dealing_line verdict_line outcome_line kept_lines
map-fails shares mapped = refl

-- the largest p
largest : dec 65521 ≡ 54 ∷ 53 ∷ 53 ∷ 50 ∷ 49 ∷ []
unfolding width dec
largest = refl
