-- What reading and writing owe each other, for each record in the order of Records.antt; proofs/ReadBack.antt and proofs/Exact.antt prove it.
-- in_file: the part of a file from a record's first byte on, whatever stands before and after the record
-- SetupReads, DealingReads, ZeroReads, MappedReads: SU, DL, DZ and DF read as themselves, with their lists
-- ReadBack: every record written reads back as itself, wherever it stands in a file
-- Rewritten: the writer accepts, and the bytes that it leaves are those read
-- Exact: only the bytes written read as a record: what a reader accepts is what the writer would write of the fields read
use Rattle.std.specs.Prelude.{◌≡◌, List, [], ◌∷◌, ◌++◌, ℕ, ◌*◌, length, take, drop}
use Rattle.base.specs.Rules.{Answer, given}
use Rattle.scheme.specs.Setup.{Setup, dim}
use Rattle.record_words.specs.Words.{Bytes}
use Rattle.record_layouts.specs.declared.DealingRecord.{DealingRecord}
use Rattle.record_layouts.specs.declared.PairRecord.{PairRecord}
use Rattle.record_layouts.specs.declared.VerdictRecord.{VerdictRecord}
use Rattle.record_layouts.specs.declared.ShareRecord.{ShareRecord}
use Rattle.record_layouts.specs.Records.{setup_size, setup_at, write_setup_call, write_setup_left, read_setup_call, read_matrix_call, read_matrix_left}
use Rattle.record_layouts.specs.Records.{dealing_size, dealing_at, dealing_g, dealing_h, write_dealing_call, write_dealing_left, read_dealing_call, read_dealing_left_g, read_dealing_left_h}
use Rattle.record_layouts.specs.Records.{zero_size, zero_h, write_zero_call, write_zero_left, read_zero_call, read_zero_left_g, read_zero_left_h}
use Rattle.record_layouts.specs.Records.{mapped_size, mapped_phi, write_mapped_call, write_mapped_left, read_mapped_call, read_mapped_left_g, read_mapped_left_h, read_mapped_left_phi}
use Rattle.record_layouts.specs.Records.{pair_size, pair_at, pair_values, write_pair_call, write_pair_left, read_pair_call, write_mapped_pair_call, write_mapped_pair_left, read_mapped_pair_call}
use Rattle.record_layouts.specs.Records.{verdict_size, verdict_at, verdict_values, write_verdict_call, write_verdict_left, read_verdict_call}
use Rattle.record_layouts.specs.Records.{share_size, share_at, share_values, write_share_call, write_share_left, read_share_call}

-- READ BACK
abbrev pub in_file : List ℕ → List ℕ → List ℕ → List ℕ
in_file before part rest = drop (length before) (before ++ (part ++ rest))

-- the reader's four numbers are those of S, and its matrix, lent with the right length, becomes that of S
pub record SetupReads (S : Setup) (s : List ℕ) : Type 0 where
  pub numbers : read_setup_call s ≡ given (S.p ∷ S.l ∷ S.e ∷ S.n ∷ [])
  pub matrix : (m : List ℕ) → length m ≡ S.n * dim S → read_matrix_call s m ≡ given []
  pub entries : (m : List ℕ) → length m ≡ S.n * dim S → read_matrix_left s m ≡ S.M

-- the reader's numbers are those of x, and the lent buffers become g and h
pub record DealingReads (S : Setup) (x : DealingRecord) (g h s : List ℕ) : Type 0 where
  pub numbers : (a b : List ℕ) → length a ≡ dim S → length b ≡ dim S → read_dealing_call S s a b ≡ given (x.dealing ∷ x.holder ∷ [])
  pub row : (a b : List ℕ) → length a ≡ dim S → length b ≡ dim S → read_dealing_left_g S s a b ≡ g
  pub column : (a b : List ℕ) → length a ≡ dim S → length b ≡ dim S → read_dealing_left_h S s a b ≡ h

-- the same of DZ, with e entries of h
pub record ZeroReads (S : Setup) (x : DealingRecord) (g h s : List ℕ) : Type 0 where
  pub numbers : (a b : List ℕ) → length a ≡ dim S → length b ≡ S.e → read_zero_call S s a b ≡ given (x.dealing ∷ x.holder ∷ [])
  pub row : (a b : List ℕ) → length a ≡ dim S → length b ≡ S.e → read_zero_left_g S s a b ≡ g
  pub column : (a b : List ℕ) → length a ≡ dim S → length b ≡ S.e → read_zero_left_h S s a b ≡ h

-- the same of DF, with φ
pub record MappedReads (S : Setup) (x : DealingRecord) (g h phi s : List ℕ) : Type 0 where
  pub numbers : (a b c : List ℕ) → length a ≡ dim S → length b ≡ dim S → length c ≡ S.l * S.l → read_mapped_call S s a b c ≡ given (x.dealing ∷ x.holder ∷ [])
  pub row : (a b c : List ℕ) → length a ≡ dim S → length b ≡ dim S → length c ≡ S.l * S.l → read_mapped_left_g S s a b c ≡ g
  pub column : (a b c : List ℕ) → length a ≡ dim S → length b ≡ dim S → length c ≡ S.l * S.l → read_mapped_left_h S s a b c ≡ h
  pub map : (a b c : List ℕ) → length a ≡ dim S → length b ≡ dim S → length c ≡ S.l * S.l → read_mapped_left_phi S s a b c ≡ phi

pub record ReadBack : Type 0 where
  pub setup : (S : Setup) (out before rest : List ℕ) → write_setup_call S out ≡ given [] → SetupReads S (in_file before (write_setup_left S out) rest)
  pub dealing : (S : Setup) (x : DealingRecord) (g h out before rest : List ℕ) → write_dealing_call S x g h out ≡ given []
      → DealingReads S x g h (in_file before (write_dealing_left S x g h out) rest)
  pub zero : (S : Setup) (x : DealingRecord) (g h out before rest : List ℕ) → write_zero_call S x g h out ≡ given []
      → ZeroReads S x g h (in_file before (write_zero_left S x g h out) rest)
  pub mapped : (S : Setup) (x : DealingRecord) (g h phi out before rest : List ℕ) → write_mapped_call S x g h phi out ≡ given []
      → MappedReads S x g h phi (in_file before (write_mapped_left S x g h phi out) rest)
  pub pair : (S : Setup) (x : PairRecord) (out before rest : List ℕ) → write_pair_call S x out ≡ given []
      → read_pair_call S (in_file before (write_pair_left S x out) rest) ≡ given (pair_values x)
  pub mapped-pair : (S : Setup) (x : PairRecord) (out before rest : List ℕ) → write_mapped_pair_call S x out ≡ given []
      → read_mapped_pair_call S (in_file before (write_mapped_pair_left S x out) rest) ≡ given (pair_values x)
  pub verdict : (S : Setup) (x : VerdictRecord) (out before rest : List ℕ) → write_verdict_call S x out ≡ given []
      → read_verdict_call S (in_file before (write_verdict_left S x out) rest) ≡ given (verdict_values x)
  pub share : (S : Setup) (x : ShareRecord) (out before rest : List ℕ) → write_share_call S x out ≡ given []
      → read_share_call S (in_file before (write_share_left S x out) rest) ≡ given (share_values x)

-- EXACT
pub record Rewritten (answer : Answer) (left part : List ℕ) : Type 0 where
  pub accepts : answer ≡ given []
  pub same : left ≡ part

pub record Exact : Type 0 where
  pub setup : (s m out : List ℕ) → Bytes s → length out ≡ setup_size (setup_at s) → read_matrix_call s m ≡ given []
      → Rewritten (write_setup_call (setup_at s) out) (write_setup_left (setup_at s) out) (take (setup_size (setup_at s)) s)
  pub dealing : (S : Setup) (s g h out vs : List ℕ) → Bytes s → length out ≡ dealing_size S → read_dealing_call S s g h ≡ given vs
      → Rewritten (write_dealing_call S (dealing_at s) (dealing_g S s) (dealing_h S s) out)
      (write_dealing_left S (dealing_at s) (dealing_g S s) (dealing_h S s) out) (take (dealing_size S) s)
  pub zero : (S : Setup) (s g h out vs : List ℕ) → Bytes s → length out ≡ zero_size S → read_zero_call S s g h ≡ given vs
      → Rewritten (write_zero_call S (dealing_at s) (dealing_g S s) (zero_h S s) out)
      (write_zero_left S (dealing_at s) (dealing_g S s) (zero_h S s) out) (take (zero_size S) s)
  pub mapped : (S : Setup) (s g h phi out vs : List ℕ) → Bytes s → length out ≡ mapped_size S → read_mapped_call S s g h phi ≡ given vs
      → Rewritten (write_mapped_call S (dealing_at s) (dealing_g S s) (dealing_h S s) (mapped_phi S s) out)
      (write_mapped_left S (dealing_at s) (dealing_g S s) (dealing_h S s) (mapped_phi S s) out) (take (mapped_size S) s)
  pub pair : (S : Setup) (s out vs : List ℕ) → Bytes s → length out ≡ pair_size → read_pair_call S s ≡ given vs
      → Rewritten (write_pair_call S (pair_at s) out) (write_pair_left S (pair_at s) out) (take pair_size s)
  pub mapped-pair : (S : Setup) (s out vs : List ℕ) → Bytes s → length out ≡ pair_size → read_mapped_pair_call S s ≡ given vs
      → Rewritten (write_mapped_pair_call S (pair_at s) out) (write_mapped_pair_left S (pair_at s) out) (take pair_size s)
  pub verdict : (S : Setup) (s out vs : List ℕ) → Bytes s → length out ≡ verdict_size → read_verdict_call S s ≡ given vs
      → Rewritten (write_verdict_call S (verdict_at s) out) (write_verdict_left S (verdict_at s) out) (take verdict_size s)
  pub share : (S : Setup) (s out vs : List ℕ) → Bytes s → length out ≡ share_size → read_share_call S s ≡ given vs
      → Rewritten (write_share_call S (share_at s) out) (write_share_left S (share_at s) out) (take share_size s)
