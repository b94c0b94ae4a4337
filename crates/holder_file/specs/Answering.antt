-- When a call on a holder's file answers (document 01, "What a call gives when it declines"); proofs/Answering.antt proves it. Which files are read to
-- their end is said by crate file_reading.
-- FilesMarked: a call's answer says that the call answered exactly where the refusal's number is 0
-- FilesAnswering: a call on a file that is read to its end answers, with lent lengths as needed
-- IsWritten, FilesWritten: a file on which a call answers has contents, and its bytes follow from them
use Rattle.std.specs.Prelude.{◌≡◌, List, ℕ, ◌≤◌, length}
use Rattle.base.specs.Rules.{given}
use Rattle.scheme.specs.Answering.{Marked, Answers}
use Rattle.record_words.specs.Words.{Bytes}
use Rattle.file_reading.specs.Contents.{Contents}
use Rattle.file_reading.specs.File.{whole, read_file}
use Rattle.file_reading.specs.Sound.{Written}
use Rattle.holder_file.specs.Calls.{holder_file_call, file_contents_call}

-- whatever the call is given
pub record FilesMarked : Type 0 where
  pub text : (s out : List ℕ) → Marked (holder_file_call s out)
  pub contents : (s out : List ℕ) → Marked (file_contents_call s out)

-- "It reads at most 4,096 bytes"
pub record FilesAnswering : Type 0 where
  pub text : (s out : List ℕ) (C : Contents) → length s ≤ 4096 → length out ≡ 512 → read_file s ≡ whole C → Answers (holder_file_call s out)
  pub contents : (s out : List ℕ) (C : Contents) → length s ≤ 4096 → length out ≡ 27 → read_file s ≡ whole C → Answers (file_contents_call s out)

-- "an accepted file's bytes follow from its contents" (document 02, A2): one that prints no refusal
pub record IsWritten (s : List ℕ) : Type 0 where
  pub contents : Contents
  pub read : read_file s ≡ whole contents
  pub written : Written s contents

pub record FilesWritten : Type 0 where
  pub text : (s out values : List ℕ) → Bytes s → holder_file_call s out ≡ given values → IsWritten s
  pub contents : (s out values : List ℕ) → Bytes s → file_contents_call s out ≡ given values → IsWritten s
