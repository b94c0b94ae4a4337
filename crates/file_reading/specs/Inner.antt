-- Contracts of inner functions: what reading a file gives, stage by stage.
-- part_of, second_of: the file from the byte on where SU ends, and where DL or DZ ends
-- zero_in, tied_in: whether the file is a zero dealing's, and whether it has a DF
-- Fair: SU and DL or DZ are not refused
-- Refuses: a fault is the refusal that is read
-- FrontIn, ReadsFront: what stands in SU and DL or DZ; what the stage that reads them gives
-- MapIn, MapRefused, ReadsMap: what is read of a DF behind them, and why it is refused; what the stage that reads it gives
-- contents_in, PartsIn, ReadsParts: what stands in all records; what the stage that reads them gives
-- JudgedIn: the judgement of the contents, and the shares that stand in DL or DZ, and DF
-- TellsWhole, Tells: what the code gives is what is read
use Rattle.std.specs.Prelude.{◌≡◌, Bool, true, List, ℕ, Result, Ok, Err, length, take, drop}
use Rattle.base.specs.Search.{Vec}
use Rattle.base.specs.Refusals.{number}
use Rattle.scheme.specs.Dealing.{shares}
use Rattle.record_layouts.specs.Records.{params_at, setup_at, setup_size, dealing_at, dealing_g, parts_h}
use Rattle.file_records.specs.declared.Fault.{Fault}
use Rattle.file_reading.specs.declared.Front.{Front}
use Rattle.file_reading.specs.declared.SecondFront.{SecondFront}
use Rattle.file_reading.specs.declared.Parts.{Parts}
use Rattle.file_reading.specs.declared.Own.{Own}
use Rattle.file_reading.specs.declared.Told.{Told}
use Rattle.file_reading.specs.Contents.{Contents, columns, shares_of, judgement}
use Rattle.file_reading.specs.File.{FileRead, refused_at, whole, setup_fault, dealing_fault, has_zero, has_map, mapped_fault, first_byte, start, kind_at, contents_of, of_contents, read_file, eight, told}

abbrev pub part_of : List ℕ → List ℕ
part_of s = drop (setup_size (setup_at s)) s

abbrev pub zero_in : List ℕ → Bool
zero_in s = has_zero (part_of s)

abbrev pub second_of : List ℕ → List ℕ
second_of s = drop (first_byte (setup_at s) (zero_in s)) s

abbrev pub tied_in : List ℕ → Bool
tied_in s = has_map (zero_in s) (second_of s)

pub record Fair (s : List ℕ) : Type 0 where
  pub setup : setup_fault s ≡ 0
  pub dealing : dealing_fault (setup_at s) (part_of s) ≡ 0

pub record FrontIn (s : List ℕ) (f : Front) : Type 0 where
  pub fair : Fair s
  pub setup : f.setup ≡ params_at s
  pub dealing : f.record ≡ dealing_at (part_of s)
  pub zero : f.zero ≡ zero_in s
  pub byte : f.byte ≡ first_byte (setup_at s) (zero_in s)

-- the file is refused so
abbrev pub Refuses : FileRead → Fault → Type 0
Refuses x f = refused_at (number f.refusal) f.byte ≡ x

abbrev pub ReadsFront : List ℕ → Result Front Fault → Type 0
ReadsFront s (Ok f) = FrontIn s f
ReadsFront s (Err f) = Refuses (read_file s) f

pub record MapIn (s : List ℕ) (r : SecondFront) : Type 0 where
  pub mapped : r.mapped ≡ tied_in s
  pub fair : mapped_fault (setup_at s) (dealing_at (part_of s)) (zero_in s) (second_of s) ≡ 0
  pub byte : r.byte ≡ start (setup_at s) (zero_in s) (tied_in s)

-- the DF there is refused, by its own rules and at its start
pub record MapRefused (s : List ℕ) (f : Fault) : Type 0 where
  pub mapped : tied_in s ≡ true
  pub fault : number f.refusal ≡ mapped_fault (setup_at s) (dealing_at (part_of s)) (zero_in s) (second_of s)
  pub byte : f.byte ≡ first_byte (setup_at s) (zero_in s)
  pub read : Refuses (read_file s) f

abbrev pub ReadsMap : List ℕ → Result SecondFront Fault → Type 0
ReadsMap s (Ok r) = MapIn s r
ReadsMap s (Err f) = MapRefused s f

abbrev pub contents_in : (s values values2 verdicts : List ℕ) → Contents
contents_in s values values2 verdicts =
    let S = setup_at s in
    let t = part_of s in
    contents_of S (dealing_at t) (dealing_g S t) (parts_h (columns (zero_in s) S) S t) values verdicts (kind_at S (zero_in s) (tied_in s) (second_of s) values2)

abbrev pub contents_read : List ℕ → Parts → Contents
contents_read s r = let n = (setup_at s).n in contents_in s (take n r.values) (take n r.values2) (take n r.verdicts)

pub record PartsIn (s : List ℕ) (r : Parts) : Type 0 where
  pub fair : Fair s
  pub second : mapped_fault (setup_at s) (dealing_at (part_of s)) (zero_in s) (second_of s) ≡ 0
  pub setup : r.setup ≡ params_at s
  pub dealing : r.record ≡ dealing_at (part_of s)
  pub mapped : r.mapped ≡ tied_in s
  pub zero : r.zero ≡ zero_in s
  pub values-size : length r.values ≡ 32
  pub values2-size : length r.values2 ≡ 32
  pub verdicts-size : length r.verdicts ≡ 32
  pub received : Vec (setup_at s).p (setup_at s).n (take (setup_at s).n r.values)
  pub received2 : tied_in s ≡ true → Vec (setup_at s).p (setup_at s).n (take (setup_at s).n r.values2)
  pub heard : Vec 2 (setup_at s).n (take (setup_at s).n r.verdicts)
  pub is : of_contents (contents_read s r) (length s) ≡ read_file s

abbrev pub ReadsParts : List ℕ → Result Parts Fault → Type 0
ReadsParts s (Ok r) = PartsIn s r
ReadsParts s (Err f) = Refuses (read_file s) f

pub record JudgedIn (C : Contents) (r : Own) : Type 0 where
  pub judgement : r.judgement ≡ judgement C
  pub shares : r.shares ≡ eight (shares C.setup C.g)
  pub shares2 : r.shares2 ≡ eight (shares_of C.setup C.kind)

pub record TellsWhole (x : FileRead) (t : Told) : Type 0 where
  pub contents : Contents
  pub is : x ≡ whole contents
  pub same : t ≡ told contents

abbrev pub Tells : FileRead → Result Told Fault → Type 0
Tells x (Ok t) = TellsWhole x t
Tells x (Err f) = Refuses x f
