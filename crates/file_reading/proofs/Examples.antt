-- Document 01's file of 90 bytes and its three variants ("The holder program on paper"), files with a record out of its order, files with a DF, and files of a zero
-- dealing, read by the definitions.
-- su, dl, front, pv, vd: the bytes of SU, of DL, of both, of a PV and of a VD; df, pf: those of a DF and of a PF; dz: those of a DZ
-- worked, last-gone, rejected, contradicted: document 01's four files; worked_contents, rejected_contents: what the first and the third hold
-- numbered, numbered_contents: a file whose dealing number and holder differ, and what it holds
-- tied, tied_contents: the first with a second dealing, its secret twice the first's, and what it holds
-- untied, untied_contents: the same with another map
-- zeros, zero_contents: a zero dealing's file, and what it holds
-- wrong, wrong_contents: the same with another PV from 0, and the own VD 0
use mathlib.Core.Path.{◌≡◌, refl}
use mathlib.Core.List.{List, [], ◌∷◌, ◌++◌}
use Prim.Native.Nat.{ℕ}
use native.Mathlib.Omega.{arith}
use lib.ListN.{take}
use Rattle.base.specs.Sum.{sum}
use Rattle.base.specs.Search.{every, first, first_from}
use Rattle.base.specs.Fill.{tab, tab_from}
use Rattle.base.specs.Matrix.{all_below}
use Rattle.field.specs.Fields.{is_field}
use Rattle.field.specs.Dot.{dot}
use Rattle.scheme.specs.Dealing.{expected, differs, said_reject, is_kept, judgement_of, image_at, differs_in, map_holds, judgement_mapped, expected_zero, differs_zero, judgement_zero, fate_of}
use Rattle.scheme.proofs.Calls.{below-vec, vec_of}
use Rattle.scheme.proofs.Cases.{ex}
use Rattle.record_words.specs.Words.{bytes, words_at}
use Rattle.file_records.specs.Received.{pair_records, pair_fault, verdict_fault, mark_fault, record_fault, fault_at, reached}
use Rattle.file_reading.specs.Contents.{plain, mapped, zero, Contents, file_bytes}
use Rattle.file_reading.specs.Sound.{Written}
use Rattle.file_reading.specs.File.{whole, refused_at, setup_fault, has_zero, dealing_fault, has_map, mapped_fault, of_contents, of_received, of_mapped, of_dealing, read_file}
use Rattle.file_reading.proofs.Sound.{follows}

abbrev su : List ℕ
su = 83 ∷ 85 ∷ 7 ∷ 0 ∷ 1 ∷ 0 ∷ 1 ∷ 0 ∷ 3 ∷ 0 ∷ 6 ∷ 0 ∷ 2 ∷ 0 ∷ 5 ∷ 0 ∷ 3 ∷ 0 ∷ 4 ∷ 0 ∷ 4 ∷ 0 ∷ []

abbrev dl : List ℕ
dl = 68 ∷ 76 ∷ 1 ∷ 0 ∷ 1 ∷ 0 ∷ 2 ∷ 0 ∷ 4 ∷ 0 ∷ 4 ∷ 0 ∷ 3 ∷ 0 ∷ []

abbrev front : List ℕ
front = su ++ dl

-- of dealing 1: from a holder to holder 1, and of a holder
abbrev pv : (sender value : ℕ) → List ℕ
pv sender value = 80 ∷ 86 ∷ 1 ∷ 0 ∷ sender ∷ 0 ∷ 1 ∷ 0 ∷ value ∷ 0 ∷ []

abbrev vd : (holder verdict : ℕ) → List ℕ
vd holder verdict = 86 ∷ 68 ∷ 1 ∷ 0 ∷ holder ∷ 0 ∷ verdict ∷ 0 ∷ []

-- "The file is 90 bytes": SU, DL, the PV from 0, 1 and 2, the VD of 0, 1 and 2
abbrev pub worked : List ℕ
worked = front ++ pv 0 2 ++ pv 1 1 ++ pv 2 0 ++ vd 0 1 ++ vd 1 1 ++ vd 2 1

-- "Last VD gone"
abbrev pub last-gone : List ℕ
last-gone = front ++ pv 0 2 ++ pv 1 1 ++ pv 2 0 ++ vd 0 1 ++ vd 1 1

-- "PV from 0 made 3: own VD 0"
abbrev pub rejected : List ℕ
rejected = front ++ pv 0 3 ++ pv 1 1 ++ pv 2 0 ++ vd 0 1 ++ vd 1 0 ++ vd 2 1

-- "own VD 1"
abbrev pub contradicted : List ℕ
contradicted = front ++ pv 0 3 ++ pv 1 1 ++ pv 2 0 ++ vd 0 1 ++ vd 1 1 ++ vd 2 1

abbrev pub worked_contents : Contents
worked_contents =
    record { setup = ex; dealing = 1; holder = 1; g = 2 ∷ 4 ∷ []; h = 4 ∷ 3 ∷ []; values = 2 ∷ 1 ∷ 0 ∷ []; verdicts = 1 ∷ 1 ∷ 1 ∷ []; kind = plain }

abbrev pub rejected_contents : Contents
rejected_contents =
    record { setup = ex; dealing = 1; holder = 1; g = 2 ∷ 4 ∷ []; h = 4 ∷ 3 ∷ []; values = 3 ∷ 1 ∷ 0 ∷ []; verdicts = 1 ∷ 0 ∷ 1 ∷ []; kind = plain }

-- the first is the file of its contents
pub worked-file : file_bytes worked_contents ≡ worked
unfolding tab tab_from bytes
worked-file = refl

-- the same under dealing number 513, which is no holder's number and has two bytes that differ: 01 02
abbrev pub numbered : List ℕ
numbered =
    83 ∷ 85 ∷ 7 ∷ 0 ∷ 1 ∷ 0 ∷ 1 ∷ 0 ∷ 3 ∷ 0 ∷ 6 ∷ 0 ∷ 2 ∷ 0 ∷ 5 ∷ 0 ∷ 3 ∷ 0 ∷ 4 ∷ 0 ∷ 4 ∷ 0
    ∷ 68 ∷ 76 ∷ 1 ∷ 2 ∷ 1 ∷ 0 ∷ 2 ∷ 0 ∷ 4 ∷ 0 ∷ 4 ∷ 0 ∷ 3 ∷ 0
    ∷ 80 ∷ 86 ∷ 1 ∷ 2 ∷ 0 ∷ 0 ∷ 1 ∷ 0 ∷ 2 ∷ 0
    ∷ 80 ∷ 86 ∷ 1 ∷ 2 ∷ 1 ∷ 0 ∷ 1 ∷ 0 ∷ 1 ∷ 0
    ∷ 80 ∷ 86 ∷ 1 ∷ 2 ∷ 2 ∷ 0 ∷ 1 ∷ 0 ∷ 0 ∷ 0
    ∷ 86 ∷ 68 ∷ 1 ∷ 2 ∷ 0 ∷ 0 ∷ 1 ∷ 0
    ∷ 86 ∷ 68 ∷ 1 ∷ 2 ∷ 1 ∷ 0 ∷ 1 ∷ 0
    ∷ 86 ∷ 68 ∷ 1 ∷ 2 ∷ 2 ∷ 0 ∷ 1 ∷ 0 ∷ []

abbrev pub numbered_contents : Contents
numbered_contents =
    record { setup = ex; dealing = 513; holder = 1; g = 2 ∷ 4 ∷ []; h = 4 ∷ 3 ∷ []; values = 2 ∷ 1 ∷ 0 ∷ []; verdicts = 1 ∷ 1 ∷ 1 ∷ []; kind = plain }

pub numbered-file : file_bytes numbered_contents ≡ numbered
unfolding tab tab_from bytes
numbered-file = refl

pub worked-read : read_file worked ≡ whole worked_contents
unfolding sum every first first_from tab tab_from all_below is_field dot expected differs said_reject is_kept words_at pair_records pair_fault verdict_fault mark_fault record_fault fault_at reached judgement_of fate_of setup_fault has_zero dealing_fault has_map mapped_fault of_contents of_received of_mapped of_dealing read_file
worked-read = refl

pub numbered-read : read_file numbered ≡ whole numbered_contents
unfolding sum every first first_from tab tab_from all_below is_field dot expected differs said_reject is_kept words_at pair_records pair_fault verdict_fault mark_fault record_fault fault_at reached judgement_of fate_of setup_fault has_zero dealing_fault has_map mapped_fault of_contents of_received of_mapped of_dealing read_file
numbered-read = refl

-- the bytes of the first follow from its contents
pub worked-written : Written worked worked_contents
unfolding all_below every
worked-written = follows.written worked worked_contents (below-vec 256 90 worked (omega arith) (vec_of 256 90 worked (omega arith) refl refl)) worked-read

-- "`refused 11 at 82`"
pub last-gone-read : read_file last-gone ≡ refused_at 11 82
unfolding sum every first first_from tab tab_from all_below is_field dot expected differs said_reject is_kept words_at pair_records pair_fault verdict_fault mark_fault record_fault fault_at reached judgement_of fate_of setup_fault has_zero dealing_fault has_map mapped_fault of_contents of_received of_mapped of_dealing read_file
last-gone-read = refl

pub rejected-read : read_file rejected ≡ whole rejected_contents
unfolding sum every first first_from tab tab_from all_below is_field dot expected differs said_reject is_kept words_at pair_records pair_fault verdict_fault mark_fault record_fault fault_at reached judgement_of fate_of setup_fault has_zero dealing_fault has_map mapped_fault of_contents of_received of_mapped of_dealing read_file
rejected-read = refl

-- "`refused 13 at 90`"
pub contradicted-read : read_file contradicted ≡ refused_at 13 90
unfolding sum every first first_from tab tab_from all_below is_field dot expected differs said_reject is_kept words_at pair_records pair_fault verdict_fault mark_fault record_fault fault_at reached judgement_of fate_of setup_fault has_zero dealing_fault has_map mapped_fault of_contents of_received of_mapped of_dealing read_file
contradicted-read = refl

-- "17, a PV or VD that isn't the next one due": a PV from a later sender, a VD while a PV is due, a VD of a later holder; a PV or VD again from one holder stays 10, also
-- where all records are there; and 10 and 12 come before 17 on one record
pub record OutOfOrder : Type 0 where
  later-sender : read_file (front ++ pv 1 1 ++ pv 0 2 ++ pv 2 0 ++ vd 0 1 ++ vd 1 1 ++ vd 2 1) ≡ refused_at 17 36
  early-verdict : read_file (front ++ pv 0 2 ++ pv 1 1 ++ vd 0 1 ++ pv 2 0 ++ vd 1 1 ++ vd 2 1) ≡ refused_at 17 56
  later-holder : read_file (front ++ pv 0 2 ++ pv 1 1 ++ pv 2 0 ++ vd 1 1 ++ vd 0 1 ++ vd 2 1) ≡ refused_at 17 66
  pair-again : read_file (front ++ pv 0 2 ++ pv 1 1 ++ pv 0 2 ++ vd 0 1 ++ vd 1 1 ++ vd 2 1) ≡ refused_at 10 56
  pair-at-the-end : read_file (worked ++ pv 2 0) ≡ refused_at 10 90
  verdict-at-the-end : read_file (worked ++ vd 2 1) ≡ refused_at 10 90
  no-verdict-first : read_file (front ++ pv 0 2 ++ vd 2 2) ≡ refused_at 12 46
  again-first : read_file (front ++ pv 0 2 ++ pv 1 1 ++ pv 2 0 ++ vd 0 1 ++ vd 0 2) ≡ refused_at 10 74

pub out_of_order : OutOfOrder
unfolding sum every first first_from tab tab_from all_below is_field dot expected differs said_reject is_kept words_at pair_records pair_fault verdict_fault mark_fault record_fault fault_at reached judgement_of fate_of setup_fault has_zero dealing_fault has_map mapped_fault of_contents of_received of_mapped of_dealing read_file
out_of_order =
    record {
      later-sender = refl;
      early-verdict = refl;
      later-holder = refl;
      pair-again = refl;
      pair-at-the-end = refl;
      verdict-at-the-end = refl;
      no-verdict-first = refl;
      again-first = refl;
    }

-- WITH A MAP: φ is (2) and the second random entries are 4 and 1, so that F_φ has the rows (6, 2), (4, 1)
abbrev df : (holder phi : ℕ) → List ℕ
df holder phi = 68 ∷ 70 ∷ 1 ∷ 0 ∷ holder ∷ 0 ∷ 0 ∷ 0 ∷ 6 ∷ 0 ∷ 1 ∷ 0 ∷ 2 ∷ 0 ∷ phi ∷ 0 ∷ []

abbrev pf : (sender value : ℕ) → List ℕ
pf sender value = 80 ∷ 70 ∷ 1 ∷ 0 ∷ sender ∷ 0 ∷ 1 ∷ 0 ∷ value ∷ 0 ∷ []

abbrev pairs-sent : List ℕ
pairs-sent = pv 0 2 ++ pv 1 1 ++ pv 2 0

abbrev all_say : List ℕ
all_say = vd 0 1 ++ vd 1 1 ++ vd 2 1

abbrev pub tied : List ℕ
tied = front ++ df 1 2 ++ pairs-sent ++ pf 0 3 ++ pf 1 4 ++ pf 2 5 ++ all_say

abbrev pub tied_contents : Contents
tied_contents =
    record {
      setup = ex;
      dealing = 1;
      holder = 1;
      g = 2 ∷ 4 ∷ [];
      h = 4 ∷ 3 ∷ [];
      values = 2 ∷ 1 ∷ 0 ∷ [];
      verdicts = 1 ∷ 1 ∷ 1 ∷ [];
      kind = mapped (record { g = 0 ∷ 6 ∷ []; h = 1 ∷ 2 ∷ []; phi = 2 ∷ []; values = 3 ∷ 4 ∷ 5 ∷ [] });
    }

pub tied-file : file_bytes tied_contents ≡ tied
unfolding tab tab_from bytes
tied-file = refl

pub tied-read : read_file tied ≡ whole tied_contents
unfolding sum every first first_from tab tab_from all_below is_field dot expected differs said_reject is_kept words_at pair_records pair_fault verdict_fault mark_fault record_fault fault_at reached judgement_of image_at differs_in map_holds judgement_mapped fate_of setup_fault has_zero dealing_fault has_map mapped_fault of_contents of_received of_mapped of_dealing read_file
tied-read = refl

-- φ made 3, so that only the check of the map fails, and the own verdict 0
abbrev pub untied : List ℕ
untied = front ++ df 1 3 ++ pairs-sent ++ pf 0 3 ++ pf 1 4 ++ pf 2 5 ++ vd 0 1 ++ vd 1 0 ++ vd 2 1

abbrev pub untied_contents : Contents
untied_contents =
    record {
      setup = ex;
      dealing = 1;
      holder = 1;
      g = 2 ∷ 4 ∷ [];
      h = 4 ∷ 3 ∷ [];
      values = 2 ∷ 1 ∷ 0 ∷ [];
      verdicts = 1 ∷ 0 ∷ 1 ∷ [];
      kind = mapped (record { g = 0 ∷ 6 ∷ []; h = 1 ∷ 2 ∷ []; phi = 3 ∷ []; values = 3 ∷ 4 ∷ 5 ∷ [] });
    }

pub untied-read : read_file untied ≡ whole untied_contents
unfolding sum every first first_from tab tab_from all_below is_field dot expected differs said_reject is_kept words_at pair_records pair_fault verdict_fault mark_fault record_fault fault_at reached judgement_of image_at differs_in map_holds judgement_mapped fate_of setup_fault has_zero dealing_fault has_map mapped_fault of_contents of_received of_mapped of_dealing read_file
untied-read = refl

-- "DF may come right after DL only; a holder other than DL's gets 5. With a DF, n PF come by sender between PV and VD, under the refusals of PV and 17; without one, a PF
-- gets 8. A second DF gets 10 like a second DL"; the own verdict is held against the judgement of both dealings and the map
pub record WithMaps : Type 0 where
  map-fails : read_file (front ++ df 1 3 ++ pairs-sent ++ pf 0 3 ++ pf 1 4 ++ pf 2 5 ++ all_say) ≡ refused_at 13 136
  second-pair-fails : read_file (front ++ df 1 2 ++ pairs-sent ++ pf 0 3 ++ pf 1 4 ++ pf 2 6 ++ all_say) ≡ refused_at 13 136
  other-holder : read_file (front ++ df 0 2 ++ pairs-sent ++ pf 0 3 ++ pf 1 4 ++ pf 2 5 ++ all_say) ≡ refused_at 5 36
  map-of-7 : read_file (front ++ df 1 7 ++ pairs-sent ++ pf 0 3 ++ pf 1 4 ++ pf 2 5 ++ all_say) ≡ refused_at 4 36
  late-map : read_file (front ++ pv 0 2 ++ df 1 2 ++ pv 1 1 ++ pv 2 0 ++ all_say) ≡ refused_at 8 46
  second-map : read_file (front ++ df 1 2 ++ df 1 2 ++ pairs-sent ++ pf 0 3 ++ pf 1 4 ++ pf 2 5 ++ all_say) ≡ refused_at 10 52
  no-map : read_file (front ++ pairs-sent ++ pf 0 3 ++ pf 1 4 ++ pf 2 5 ++ all_say) ≡ refused_at 8 66
  mapped-first : read_file (front ++ df 1 2 ++ pf 0 3 ++ pf 1 4 ++ pf 2 5 ++ pairs-sent ++ all_say) ≡ refused_at 17 52
  verdict-first : read_file (front ++ df 1 2 ++ pairs-sent ++ all_say ++ pf 0 3 ++ pf 1 4 ++ pf 2 5) ≡ refused_at 17 82
  pair-again : read_file (front ++ df 1 2 ++ pairs-sent ++ pv 0 2 ++ pf 1 4 ++ pf 2 5 ++ all_say) ≡ refused_at 10 82
  mapped-again : read_file (front ++ df 1 2 ++ pairs-sent ++ pf 0 3 ++ pf 0 3 ++ pf 2 5 ++ all_say) ≡ refused_at 10 92
  ends-early : read_file (front ++ df 1 2 ++ pairs-sent ++ pf 0 3 ++ pf 1 4) ≡ refused_at 11 102

pub with-maps : WithMaps
unfolding sum every first first_from tab tab_from all_below is_field dot expected differs said_reject is_kept words_at pair_records pair_fault verdict_fault mark_fault record_fault fault_at reached judgement_of image_at differs_in map_holds judgement_mapped fate_of setup_fault has_zero dealing_fault has_map mapped_fault of_contents of_received of_mapped of_dealing read_file
with-maps =
    record {
      map-fails = refl;
      second-pair-fails = refl;
      other-holder = refl;
      map-of-7 = refl;
      late-map = refl;
      second-map = refl;
      no-map = refl;
      mapped-first = refl;
      verdict-first = refl;
      pair-again = refl;
      mapped-again = refl;
      ends-early = refl;
    }

-- OF A ZERO DEALING: its random entries are 3 and 5, so that F has the rows (0, 0), (3, 5); holder 1 has g = (2, 1) and of h = (0, 2) the last entry, and the values
-- due to it are 4, 6, 1
abbrev dz : (dealing holder h : ℕ) → List ℕ
dz dealing holder h = 68 ∷ 90 ∷ dealing ∷ 0 ∷ holder ∷ 0 ∷ 2 ∷ 0 ∷ 1 ∷ 0 ∷ h ∷ 0 ∷ []

abbrev zero-front : List ℕ
zero-front = su ++ dz 1 1 2

abbrev zeros-sent : List ℕ
zeros-sent = pv 0 4 ++ pv 1 6 ++ pv 2 1

abbrev pub zeros : List ℕ
zeros = zero-front ++ zeros-sent ++ all_say

abbrev pub zero_contents : Contents
zero_contents =
    record { setup = ex; dealing = 1; holder = 1; g = 2 ∷ 1 ∷ []; h = 2 ∷ []; values = 4 ∷ 6 ∷ 1 ∷ []; verdicts = 1 ∷ 1 ∷ 1 ∷ []; kind = zero }

pub zero-file : file_bytes zero_contents ≡ zeros
unfolding tab tab_from bytes
zero-file = refl

pub zero-read : read_file zeros ≡ whole zero_contents
unfolding sum every first first_from tab tab_from all_below is_field dot said_reject is_kept words_at pair_records pair_fault verdict_fault mark_fault record_fault fault_at reached expected_zero differs_zero judgement_zero fate_of setup_fault has_zero dealing_fault has_map mapped_fault of_contents of_received of_mapped of_dealing read_file
zero-read = refl

-- the PV from 0 made 5, and the own verdict 0
abbrev pub wrong : List ℕ
wrong = zero-front ++ pv 0 5 ++ pv 1 6 ++ pv 2 1 ++ vd 0 1 ++ vd 1 0 ++ vd 2 1

abbrev pub wrong_contents : Contents
wrong_contents =
    record { setup = ex; dealing = 1; holder = 1; g = 2 ∷ 1 ∷ []; h = 2 ∷ []; values = 5 ∷ 6 ∷ 1 ∷ []; verdicts = 1 ∷ 0 ∷ 1 ∷ []; kind = zero }

pub wrong-read : read_file wrong ≡ whole wrong_contents
unfolding sum every first first_from tab tab_from all_below is_field dot said_reject is_kept words_at pair_records pair_fault verdict_fault mark_fault record_fault fault_at reached expected_zero differs_zero judgement_zero fate_of setup_fault has_zero dealing_fault has_map mapped_fault of_contents of_received of_mapped of_dealing read_file
wrong-read = refl

-- "Its file is as a dealing's, with mark DZ (44 5A) for DL; DF has no place in it. There a DL gets 8 and a second DZ 10; a DZ after DL gets 8": right behind DZ or DL, and
-- later; an h of d entries leaves a word that is no mark; and DZ has the refusals of DL
pub record OfZeros : Type 0 where
  dealing-in-it : read_file (zero-front ++ dl ++ zeros-sent ++ all_say) ≡ refused_at 8 34
  late-dealing : read_file (zero-front ++ zeros-sent ++ dl ++ all_say) ≡ refused_at 8 64
  second-zero : read_file (zero-front ++ dz 1 1 2 ++ zeros-sent ++ all_say) ≡ refused_at 10 34
  late-zero : read_file (zero-front ++ zeros-sent ++ dz 1 1 2 ++ all_say) ≡ refused_at 10 64
  after-dealing : read_file (front ++ dz 1 1 2 ++ pairs-sent ++ all_say) ≡ refused_at 8 36
  after-pair : read_file (front ++ pv 0 2 ++ dz 1 1 2 ++ pv 1 1 ++ pv 2 0 ++ all_say) ≡ refused_at 8 46
  after_map : read_file (front ++ df 1 2 ++ dz 1 1 2 ++ pairs-sent ++ pf 0 3 ++ pf 1 4 ++ pf 2 5 ++ all_say) ≡ refused_at 8 52
  first-zero : read_file (dz 1 1 2 ++ zeros-sent ++ all_say) ≡ refused_at 8 0
  second-setup : read_file (zero-front ++ su ++ zeros-sent ++ all_say) ≡ refused_at 10 34
  map-in-it : read_file (zero-front ++ df 1 2 ++ zeros-sent ++ all_say) ≡ refused_at 8 34
  mapped-pair : read_file (zero-front ++ zeros-sent ++ pf 0 3 ++ pf 1 4 ++ pf 2 5 ++ all_say) ≡ refused_at 8 64
  cut_short : read_file (su ++ take 10 (dz 1 1 2)) ≡ refused_at 3 22
  cut-in-its-mark : read_file (su ++ take 1 (dz 1 1 2)) ≡ refused_at 3 22
  column-of-d : read_file (su ++ dz 1 1 0 ++ 2 ∷ 0 ∷ zeros-sent ++ all_say) ≡ refused_at 8 34
  column-of-7 : read_file (su ++ dz 1 1 7 ++ zeros-sent ++ all_say) ≡ refused_at 4 22
  holder-3 : read_file (su ++ dz 1 3 2 ++ zeros-sent ++ all_say) ≡ refused_at 5 22
  dealing-0 : read_file (su ++ dz 0 1 2 ++ zeros-sent ++ all_say) ≡ refused_at 9 22
  ends-early : read_file (zero-front ++ zeros-sent) ≡ refused_at 11 64
  pair-fails : read_file (zero-front ++ pv 0 5 ++ pv 1 6 ++ pv 2 1 ++ all_say) ≡ refused_at 13 88

pub of-zeros : OfZeros
unfolding sum every first first_from tab tab_from all_below is_field dot said_reject is_kept words_at pair_records pair_fault verdict_fault mark_fault record_fault fault_at reached expected_zero differs_zero judgement_zero fate_of setup_fault has_zero dealing_fault has_map mapped_fault of_contents of_received of_mapped of_dealing read_file
of-zeros =
    record {
      dealing-in-it = refl;
      late-dealing = refl;
      second-zero = refl;
      late-zero = refl;
      after-dealing = refl;
      after-pair = refl;
      after_map = refl;
      first-zero = refl;
      second-setup = refl;
      map-in-it = refl;
      mapped-pair = refl;
      cut_short = refl;
      cut-in-its-mark = refl;
      column-of-d = refl;
      column-of-7 = refl;
      holder-3 = refl;
      dealing-0 = refl;
      ends-early = refl;
      pair-fails = refl;
    }
