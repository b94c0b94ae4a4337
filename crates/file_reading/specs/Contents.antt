-- What a holder's file holds, and what follows from it.
-- Second: the second part that a DF brings: g, h, the map φ, and the n values received by PF, by sender
-- Kind: a dealing's file without a DF, or with one, or a zero dealing's file
-- Contents: the setup with its matrix, the dealing number, the holder, its part g and h, the n values that it received and the n verdicts, by sender, and its kind
-- is_mapped, is_zero: whether there is a second part, and whether it is a zero dealing's file
-- values2, shares_of: the values received by PF, and the shares that stand in the second part's g
-- verdict_of: the verdict that says a judgement
-- judgement_by, judgement, fate, kept_shares, kept_mapped: those of the contents; the shares of both parts where the dealing is kept, and none where it is aborted
-- SecondInOrder, OfKind, InOrder: contents that break nothing
-- columns: how many entries h has
-- part_layout: the layout of the record behind SU, DL's or DZ's
-- numbers, head: what its DL or DZ and its DF say beside their lists, and what its PV, PF and VD say beside holder, value and verdict
-- mapped_bytes, file_bytes: its DF, or nothing, and the contents as a file
use Rattle.std.specs.Prelude.{◌≡◌, Bool, true, false, List, [], ◌++◌, ℕ, ◌*◌, ◌≤◌, ◌<◌}
use Rattle.base.specs.Choice.{pick}
use Rattle.base.specs.Search.{Vec}
use Rattle.field.specs.Dot.{at}
use Rattle.scheme.specs.declared.Judgement.{Judgement}
use Rattle.scheme.specs.declared.Judgement.TheVariants.{Accept, Reject, RejectMap}
use Rattle.scheme.specs.declared.Fate.{Fate}
use Rattle.scheme.specs.Setup.{Setup, dim, IsSetup}
use Rattle.scheme.specs.Dealing.{judgement_of, judgement_mapped, judgement_zero, is_kept, fate_of, shares}
use Rattle.record_words.specs.Words.{bytes}
use Rattle.record_layouts.specs.Records.{Layout, all_words, mark_dl, mark_dz, setup_words, DealingParts, parts, parts_layout_of, dealing_size, zero_size, mapped_words}
use Rattle.record_layouts.specs.declared.DealingRecord.{DealingRecord}
use Rattle.file_records.specs.declared.Head.{Head}
use Rattle.file_records.specs.Received.{received}

pub record Second : Type 0 where
  pub g : List ℕ
  pub h : List ℕ
  pub phi : List ℕ
  pub values : List ℕ

pub data Kind : Type 0 where
  plain : Kind
  mapped : Second → Kind
  zero : Kind

pub record Contents : Type 0 where
  pub setup : Setup
  pub dealing : ℕ
  pub holder : ℕ
  pub g : List ℕ
  pub h : List ℕ
  pub values : List ℕ
  pub verdicts : List ℕ
  pub kind : Kind

abbrev pub is_mapped : Kind → Bool
is_mapped plain = false
is_mapped (mapped y) = true
is_mapped zero = false

abbrev pub is_zero : Kind → Bool
is_zero plain = false
is_zero (mapped y) = false
is_zero zero = true

abbrev pub values2 : Kind → List ℕ
values2 plain = []
values2 (mapped y) = y.values
values2 zero = []

abbrev pub shares_of : Setup → Kind → List ℕ
shares_of S plain = []
shares_of S (mapped y) = shares S y.g
shares_of S zero = []

-- "1 accept or 0 reject"
abbrev pub verdict_of : Judgement → ℕ
verdict_of Accept = 1
verdict_of (Reject j) = 0
verdict_of RejectMap = 0

abbrev pub judgement_by : Setup → List ℕ → List ℕ → Kind → Judgement
judgement_by S h values plain = judgement_of S h values
judgement_by S h values (mapped y) = judgement_mapped S h values y.phi y.h y.values
judgement_by S h values zero = judgement_zero S h values

abbrev pub judgement : Contents → Judgement
judgement C = judgement_by C.setup C.h C.values C.kind

abbrev pub fate : Contents → Fate
fate C = fate_of C.setup C.verdicts

abbrev pub kept_shares : Contents → List ℕ
kept_shares C = pick (is_kept C.setup C.verdicts) (shares C.setup C.g) []

abbrev pub kept_mapped : Contents → List ℕ
kept_mapped C = pick (is_kept C.setup C.verdicts) (shares_of C.setup C.kind) []

pub record SecondInOrder (S : Setup) (y : Second) : Type 0 where
  pub row : Vec S.p (dim S) y.g
  pub column : Vec S.p (dim S) y.h
  pub map : Vec S.p (S.l * S.l) y.phi
  pub received : Vec S.p S.n y.values

abbrev pub OfKind : Setup → Kind → Type 0
OfKind S plain = Unit {0}
OfKind S (mapped y) = SecondInOrder S y
OfKind S zero = Unit {0}

-- "d entries each"; of a zero dealing "e entries of h"
abbrev pub columns : Bool → Setup → ℕ
columns z S = pick z S.e (dim S)

-- "Dealing numbers are 1 to 65535"; the own verdict is that of the own judgement
pub record InOrder (C : Contents) : Type 0 where
  pub setup : IsSetup C.setup
  pub dealing : (1 ≤ C.dealing) × (C.dealing ≤ 65535)
  pub holder : C.holder < C.setup.n
  pub row : Vec C.setup.p (dim C.setup) C.g
  pub column : Vec C.setup.p (columns (is_zero C.kind) C.setup) C.h
  pub received : Vec C.setup.p C.setup.n C.values
  pub heard : Vec 2 C.setup.n C.verdicts
  pub second : OfKind C.setup C.kind
  pub own : at C.verdicts C.holder ≡ verdict_of (judgement C)

abbrev pub numbers : Contents → DealingRecord
numbers C = record { dealing = C.dealing; holder = C.holder }

abbrev pub head : Contents → Head
head C =
    record { p = C.setup.p; n = C.setup.n; dealing = C.dealing; holder = C.holder; mapped = is_mapped C.kind; zero = is_zero C.kind }

abbrev pub mapped_bytes : DealingRecord → Kind → List ℕ
mapped_bytes x plain = []
mapped_bytes x (mapped y) = bytes (mapped_words x y.g y.h y.phi)
mapped_bytes x zero = []

-- "as a dealing's, with mark DZ (44 5A) for DL"
abbrev pub part_layout : Bool → Layout DealingParts
part_layout z = parts_layout_of (pick z mark_dz mark_dl) (λ S. pick z (zero_size S) (dealing_size S)) (columns z)

-- "A holder's file is SU, then that holder's DL"; "DF may come right after DL only"; "After DL the PV records now come by rising sender, then the VD records by rising
-- holder"; "With a DF, n PF come by sender between PV and VD"
abbrev pub file_bytes : Contents → List ℕ
file_bytes C =
    bytes (setup_words C.setup) ++ (bytes (all_words (part_layout (is_zero C.kind)) (parts (numbers C) C.g C.h))
    ++ (mapped_bytes (numbers C) C.kind ++ received (head C) C.values (values2 C.kind) C.verdicts))
