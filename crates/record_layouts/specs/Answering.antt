-- When a call that writes or reads a record answers (document 01, "What a call gives when it declines"), for each call in the order of Records.antt;
-- proofs/Answering.antt proves it.
-- RecordsMarked: every call's answer says that the call answered exactly where the refusal's number is 0
-- WritersRising: the numbers of every writer's table rise, so that the first that applies is the lowest
-- DealingInOrder .. ShareInOrder: fields that break nothing; DF has DL's, with φ beside them, and PF has PV's; a round breaks nothing
-- RecordsAnswering: a writer whose inputs break nothing answers; so does a reader on a part of a file that begins with the bytes of such a record,
-- whatever follows them
use Rattle.std.specs.Prelude.{◌≡◌, List, ◌++◌, ℕ, ◌*◌, ◌≤◌, ◌<◌, length}
use Rattle.base.specs.Rules.{Rising}
use Rattle.base.specs.Search.{Vec}
use Rattle.scheme.specs.Setup.{Setup, dim, Limits, IsSetup}
use Rattle.scheme.specs.Answering.{Marked, Answers}
use Rattle.record_words.specs.Words.{bytes}
use Rattle.record_layouts.specs.declared.DealingRecord.{DealingRecord}
use Rattle.record_layouts.specs.declared.PairRecord.{PairRecord}
use Rattle.record_layouts.specs.declared.VerdictRecord.{VerdictRecord}
use Rattle.record_layouts.specs.declared.ShareRecord.{ShareRecord}
use Rattle.record_layouts.specs.Records.{setup_words, dealing_words, pair_words, verdict_words, share_words, setup_size, dealing_size, pair_size, verdict_size, share_size}
use Rattle.record_layouts.specs.Records.{zero_words, zero_size, zero_layout, write_zero_call, read_zero_call}
use Rattle.record_layouts.specs.Records.{MappedParts, mapped_words, mapped_size, mapped_layout, write_mapped_call, read_mapped_call, mapped_pair_words, mapped_pair_layout, write_mapped_pair_call, read_mapped_pair_call}
use Rattle.record_layouts.specs.Records.{write_rules, write_setup_rules, DealingParts, dealing_layout, pair_layout, verdict_layout, share_layout}
use Rattle.record_layouts.specs.Records.{write_setup_call, read_setup_call, read_matrix_call, write_dealing_call, read_dealing_call, write_pair_call, read_pair_call, write_verdict_call, read_verdict_call, write_share_call, read_share_call}

-- THE MARK OF AN ANSWER, whatever the call is given
pub record RecordsMarked : Type 0 where
  pub write-setup : (S : Setup) (out : List ℕ) → Marked (write_setup_call S out)
  pub read-setup : (s : List ℕ) → Marked (read_setup_call s)
  pub read-matrix : (s m : List ℕ) → Marked (read_matrix_call s m)
  pub write-dealing : (S : Setup) (x : DealingRecord) (g h out : List ℕ) → Marked (write_dealing_call S x g h out)
  pub read-dealing : (S : Setup) (s g h : List ℕ) → Marked (read_dealing_call S s g h)
  pub write-zero : (S : Setup) (x : DealingRecord) (g h out : List ℕ) → Marked (write_zero_call S x g h out)
  pub read-zero : (S : Setup) (s g h : List ℕ) → Marked (read_zero_call S s g h)
  pub write-mapped : (S : Setup) (x : DealingRecord) (g h phi out : List ℕ) → Marked (write_mapped_call S x g h phi out)
  pub read_mapped : (S : Setup) (s g h phi : List ℕ) → Marked (read_mapped_call S s g h phi)
  pub write-pair : (S : Setup) (x : PairRecord) (out : List ℕ) → Marked (write_pair_call S x out)
  pub read-pair : (S : Setup) (s : List ℕ) → Marked (read_pair_call S s)
  pub write-mapped-pair : (S : Setup) (x : PairRecord) (out : List ℕ) → Marked (write_mapped_pair_call S x out)
  pub read-mapped-pair : (S : Setup) (s : List ℕ) → Marked (read_mapped_pair_call S s)
  pub write-verdict : (S : Setup) (x : VerdictRecord) (out : List ℕ) → Marked (write_verdict_call S x out)
  pub read-verdict : (S : Setup) (s : List ℕ) → Marked (read_verdict_call S s)
  pub write-share : (S : Setup) (x : ShareRecord) (out : List ℕ) → Marked (write_share_call S x out)
  pub read-share : (S : Setup) (s : List ℕ) → Marked (read_share_call S s)

-- THE LOWEST NUMBER: "in a call the lowest number that applies is given"
pub record WritersRising : Type 0 where
  pub setup : (S : Setup) (k : ℕ) → Rising (write_setup_rules S k)
  pub dealing : (S : Setup) (x : DealingParts) (k : ℕ) → Rising (write_rules dealing_layout S x k)
  pub zero : (S : Setup) (x : DealingParts) (k : ℕ) → Rising (write_rules zero_layout S x k)
  pub mapped : (S : Setup) (x : MappedParts) (k : ℕ) → Rising (write_rules mapped_layout S x k)
  pub pair : (S : Setup) (x : PairRecord) (k : ℕ) → Rising (write_rules pair_layout S x k)
  pub mapped-pair : (S : Setup) (x : PairRecord) (k : ℕ) → Rising (write_rules mapped_pair_layout S x k)
  pub verdict : (S : Setup) (x : VerdictRecord) (k : ℕ) → Rising (write_rules verdict_layout S x k)
  pub share : (S : Setup) (x : ShareRecord) (k : ℕ) → Rising (write_rules share_layout S x k)

-- RECORDS THAT BREAK NOTHING
-- "Dealing numbers are 1 to 65535": a field of 16 bits is no more
pub record DealingInOrder (S : Setup) (x : DealingRecord) (g h : List ℕ) : Type 0 where
  pub dealing : 1 ≤ x.dealing
  pub holder : x.holder < S.n
  pub row : Vec S.p (dim S) g
  pub column : Vec S.p (dim S) h

-- "e entries of h"
pub record ZeroInOrder (S : Setup) (x : DealingRecord) (g h : List ℕ) : Type 0 where
  pub dealing : 1 ≤ x.dealing
  pub holder : x.holder < S.n
  pub row : Vec S.p (dim S) g
  pub column : Vec S.p S.e h

pub record PairInOrder (S : Setup) (x : PairRecord) : Type 0 where
  pub dealing : 1 ≤ x.dealing
  pub sender : x.sender < S.n
  pub receiver : x.receiver < S.n
  pub value : x.value < S.p

-- "1 accept or 0 reject"
pub record VerdictInOrder (S : Setup) (x : VerdictRecord) : Type 0 where
  pub dealing : 1 ≤ x.dealing
  pub holder : x.holder < S.n
  pub verdict : x.verdict ≤ 1

-- "In SH, 0 marks a combination and its column is 0"
pub record ShareInOrder (S : Setup) (x : ShareRecord) : Type 0 where
  pub combination : x.dealing ≡ 0 → x.column ≡ 0
  pub holder : x.holder < S.n
  pub column : x.column < S.l
  pub value : x.value < S.p

pub record RecordsAnswering : Type 0 where
  pub write-setup : (S : Setup) (out : List ℕ) → IsSetup S → length out ≡ setup_size S → Answers (write_setup_call S out)
  pub read-setup : (S : Setup) (rest : List ℕ) → IsSetup S → Answers (read_setup_call (bytes (setup_words S) ++ rest))
  pub read-matrix : (S : Setup) (rest m : List ℕ) → IsSetup S → length m ≡ S.n * dim S → Answers (read_matrix_call (bytes (setup_words S) ++ rest) m)
  pub write-dealing : (S : Setup) (x : DealingRecord) (g h out : List ℕ) → Limits S → DealingInOrder S x g h → length out ≡ dealing_size S
      → Answers (write_dealing_call S x g h out)
  pub read-dealing : (S : Setup) (x : DealingRecord) (g h rest a b : List ℕ) → Limits S → DealingInOrder S x g h → length a ≡ dim S → length b ≡ dim S
      → Answers (read_dealing_call S (bytes (dealing_words x g h) ++ rest) a b)
  pub write-zero : (S : Setup) (x : DealingRecord) (g h out : List ℕ) → Limits S → ZeroInOrder S x g h → length out ≡ zero_size S
      → Answers (write_zero_call S x g h out)
  pub read-zero : (S : Setup) (x : DealingRecord) (g h rest a b : List ℕ) → Limits S → ZeroInOrder S x g h → length a ≡ dim S → length b ≡ S.e
      → Answers (read_zero_call S (bytes (zero_words x g h) ++ rest) a b)
  pub write-mapped : (S : Setup) (x : DealingRecord) (g h phi out : List ℕ) → Limits S → DealingInOrder S x g h → Vec S.p (S.l * S.l) phi
      → length out ≡ mapped_size S → Answers (write_mapped_call S x g h phi out)
  pub read_mapped : (S : Setup) (x : DealingRecord) (g h phi rest a b c : List ℕ) → Limits S → DealingInOrder S x g h → Vec S.p (S.l * S.l) phi
      → length a ≡ dim S → length b ≡ dim S → length c ≡ S.l * S.l → Answers (read_mapped_call S (bytes (mapped_words x g h phi) ++ rest) a b c)
  pub write-pair : (S : Setup) (x : PairRecord) (out : List ℕ) → Limits S → PairInOrder S x → length out ≡ pair_size → Answers (write_pair_call S x out)
  pub read-pair : (S : Setup) (x : PairRecord) (rest : List ℕ) → Limits S → PairInOrder S x → Answers (read_pair_call S (bytes (pair_words x) ++ rest))
  pub write-mapped-pair : (S : Setup) (x : PairRecord) (out : List ℕ) → Limits S → PairInOrder S x → length out ≡ pair_size
      → Answers (write_mapped_pair_call S x out)
  pub read-mapped-pair : (S : Setup) (x : PairRecord) (rest : List ℕ) → Limits S → PairInOrder S x
      → Answers (read_mapped_pair_call S (bytes (mapped_pair_words x) ++ rest))
  pub write-verdict : (S : Setup) (x : VerdictRecord) (out : List ℕ) → Limits S → VerdictInOrder S x → length out ≡ verdict_size
      → Answers (write_verdict_call S x out)
  pub read-verdict : (S : Setup) (x : VerdictRecord) (rest : List ℕ) → Limits S → VerdictInOrder S x
      → Answers (read_verdict_call S (bytes (verdict_words x) ++ rest))
  pub write-share : (S : Setup) (x : ShareRecord) (out : List ℕ) → Limits S → ShareInOrder S x → length out ≡ share_size → Answers (write_share_call S x out)
  pub read-share : (S : Setup) (x : ShareRecord) (rest : List ℕ) → Limits S → ShareInOrder S x → Answers (read_share_call S (bytes (share_words x) ++ rest))
