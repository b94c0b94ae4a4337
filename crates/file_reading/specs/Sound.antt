-- That an accepted file's bytes follow from its contents (document 02, A2: "The sentence that any order prints the same gives way to this: an accepted file's bytes
-- follow from its contents"), and that files are read: a reader that refused every file, or took accept for another number, would keep the definitions of File.antt and
-- fail here.
-- Written: an accepted file is that of the contents read from it, which break nothing
-- Accepted, ReadsBack: the file of any contents in order is accepted, and what is read is those contents
-- Follows: so bytes and contents follow from each other
-- Missing: a record is missing only where the file ends
use Rattle.std.specs.Prelude.{◌≡◌, List, ℕ, ◌≤◌, length}
use Rattle.record_words.specs.Words.{Bytes}
use Rattle.file_reading.specs.Contents.{Contents, InOrder, file_bytes}
use Rattle.file_reading.specs.File.{refused_at, whole, read_file}

pub record Written (s : List ℕ) (C : Contents) : Type 0 where
  pub in_order : InOrder C
  pub same : s ≡ file_bytes C

-- the file is one of bytes and within the limit, "It reads at most 4,096 bytes", and reads back
pub record Accepted (C : Contents) : Type 0 where
  pub bytes : Bytes (file_bytes C)
  pub fits : length (file_bytes C) ≤ 4096
  pub back : read_file (file_bytes C) ≡ whole C

abbrev pub ReadsBack : Type 0
ReadsBack = (C : Contents) → InOrder C → Accepted C

pub record Follows : Type 0 where
  pub written : (s : List ℕ) (C : Contents) → Bytes s → read_file s ≡ whole C → Written s C
  pub reads-back : ReadsBack
  -- "two accepted files with equal contents are equal byte for byte"
  pub bytes : (s t : List ℕ) (C D : Contents) → Bytes s → Bytes t → read_file s ≡ whole C → read_file t ≡ whole D → C ≡ D → s ≡ t
  -- and two accepted files with equal bytes have equal contents
  pub contents : (s t : List ℕ) (C D : Contents) → read_file s ≡ whole C → read_file t ≡ whole D → s ≡ t → C ≡ D

-- "Refusal 11 is left for files that end too soon"; "B the byte where the record starts, or the file's length for 11 and 13"
abbrev pub Missing : Type 0
Missing = (s : List ℕ) (byte : ℕ) → read_file s ≡ refused_at 11 byte → byte ≡ length s
