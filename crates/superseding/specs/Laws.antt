-- What is owed of two share records and of three (document 02, A9), over the calls of Superseding.antt; proofs/Laws.antt proves it.
-- Reads: the reader accepts the record at the start of a part
-- OneShare: two records are of one share, and it is no combination's
-- Agreeing: the part is empty exactly where the number is not 0, and else a whole record
-- Refusing: the numbers in words: the reader's own for the first record, then its own for the second, then 21, then 20
-- EitherOrder: of two records that the reader accepts neither number nor bytes depend on the order, and the slice only where they are equal
-- left_first, right_first: which of three records it is, 1 to 3, where the first two, or the last two, are settled first
-- OfThree: over three records it does not matter which two are settled first
-- AsWritten: of two records written the one with the higher round; and the share that a refresh gives supersedes the one that it was made of
use Rattle.std.specs.Prelude.{◌≡◌, false, not, List, [], ◌∷◌, ◌++◌, ◌↔◌, ℕ, ◌<◌, length}
use Rattle.base.specs.Choice.{pick}
use Rattle.base.specs.Rules.{given}
use Rattle.scheme.specs.Setup.{Setup, Limits}
use Rattle.scheme.specs.Answering.{Marked}
use Rattle.scheme.specs.Calls.{refresh_call}
use Rattle.record_words.specs.Words.{bytes, Bytes}
use Rattle.record_layouts.specs.declared.ShareRecord.{ShareRecord}
use Rattle.record_layouts.specs.Records.{share_size, share_at, share_words, read_share_call}
use Rattle.record_layouts.specs.Answering.{ShareInOrder}
use Rattle.superseding.specs.Superseding.{superseding_call, superseding_part, is_second}

abbrev pub Reads : Setup → List ℕ → Type 0
Reads S s = (read_share_call S s).number ≡ 0

pub record OneShare (x y : ShareRecord) : Type 0 where
  pub dealing : x.dealing ≡ y.dealing
  pub holder : x.holder ≡ y.holder
  pub column : x.column ≡ y.column
  -- "In SH, 0 marks a combination"
  pub single : x.dealing ≡ 0 → ⊥

-- "A refusal gives an empty part, and a call beside it gives the number, 0 if there is none"
pub record Agreeing : Type 0 where
  pub marked : (S : Setup) (a b : List ℕ) → Marked (superseding_call S a b)
  pub empty : (S : Setup) (a b : List ℕ) → (superseding_part S a b ≡ []) ↔ ((superseding_call S a b).number ≡ 0 → ⊥)
  pub whole : (S : Setup) (a b : List ℕ) → (superseding_call S a b).number ≡ 0 → length (superseding_part S a b) ≡ share_size

-- "the reader's refusals, which come record by record as in a file"; "21, records of different shares or of combinations, before 20"; "20, equal rounds and unequal values"
pub record Refusing : Type 0 where
  pub first : (S : Setup) (a b : List ℕ) → (Reads S a → ⊥) → (superseding_call S a b).number ≡ (read_share_call S a).number
  pub second : (S : Setup) (a b : List ℕ) → Reads S a → (Reads S b → ⊥) → (superseding_call S a b).number ≡ (read_share_call S b).number
  pub other : (S : Setup) (a b : List ℕ) → Reads S a → Reads S b → (OneShare (share_at a) (share_at b) → ⊥) → (superseding_call S a b).number ≡ 21
  pub combination : (S : Setup) (a b : List ℕ) → Reads S a → Reads S b → (share_at b).dealing ≡ 0 → (superseding_call S a b).number ≡ 21
  pub unequal : (S : Setup) (a b : List ℕ) → Reads S a → Reads S b → OneShare (share_at a) (share_at b)
      → (share_at a).round ≡ (share_at b).round → ((share_at a).value ≡ (share_at b).value → ⊥) → (superseding_call S a b).number ≡ 20
  -- and nothing else is refused
  pub answers : (S : Setup) (a b : List ℕ) → Reads S a → Reads S b → OneShare (share_at a) (share_at b)
      → ((share_at a).round ≡ (share_at b).round → (share_at a).value ≡ (share_at b).value) → (superseding_call S a b).number ≡ 0

pub record EitherOrder : Type 0 where
  pub number : (S : Setup) (a b : List ℕ) → Reads S a → Reads S b → (superseding_call S b a).number ≡ (superseding_call S a b).number
  pub part : (S : Setup) (a b : List ℕ) → Bytes a → Bytes b → Reads S a → Reads S b → superseding_part S b a ≡ superseding_part S a b
  -- one and the same slice where the rounds differ; of equal records the one that comes first
  pub slice : (S : Setup) (a b : List ℕ) → (superseding_call S a b).number ≡ 0 → ((share_at a).round ≡ (share_at b).round → ⊥) → is_second S b a ≡ not (is_second S a b)
  pub equal : (S : Setup) (a b : List ℕ) → (share_at a).round ≡ (share_at b).round → is_second S a b ≡ false

abbrev pub left_first : Setup → List ℕ → List ℕ → List ℕ → ℕ
left_first S a b c = pick (is_second S (superseding_part S a b) c) 3 (pick (is_second S a b) 2 1)

abbrev pub right_first : Setup → List ℕ → List ℕ → List ℕ → ℕ
right_first S a b c = pick (is_second S a (superseding_part S b c)) (pick (is_second S b c) 3 2) 1

-- where the pairs settled first are not refused
pub record OfThree : Type 0 where
  pub number : (S : Setup) (a b c : List ℕ) → (superseding_call S a b).number ≡ 0 → (superseding_call S b c).number ≡ 0
      → (superseding_call S (superseding_part S a b) c).number ≡ (superseding_call S a (superseding_part S b c)).number
  pub part : (S : Setup) (a b c : List ℕ) → (superseding_call S a b).number ≡ 0 → (superseding_call S b c).number ≡ 0
      → superseding_part S (superseding_part S a b) c ≡ superseding_part S a (superseding_part S b c)
  pub slice : (S : Setup) (a b c : List ℕ) → (superseding_call S a b).number ≡ 0 → (superseding_call S b c).number ≡ 0
      → left_first S a b c ≡ right_first S a b c
  -- the first and the last settled first
  pub outer : (S : Setup) (a b c : List ℕ) → Bytes a → Bytes b → Bytes c
      → (superseding_call S a b).number ≡ 0 → (superseding_call S b c).number ≡ 0 → (superseding_call S a c).number ≡ 0
      → superseding_part S (superseding_part S a c) b ≡ superseding_part S (superseding_part S a b) c

pub record AsWritten : Type 0 where
  pub newer : (S : Setup) (x y : ShareRecord) (rest more : List ℕ) → Limits S → ShareInOrder S x → ShareInOrder S y → OneShare x y → x.round < y.round
      → (superseding_part S (bytes (share_words x) ++ rest) (bytes (share_words y) ++ more) ≡ bytes (share_words y))
      × (superseding_part S (bytes (share_words y) ++ more) (bytes (share_words x) ++ rest) ≡ bytes (share_words y))
  pub refreshed : (S : Setup) (x y : ShareRecord) (z : ℕ) (rest more : List ℕ) → Limits S → ShareInOrder S x → OneShare x y
      → refresh_call S.p x.value x.round z ≡ given (y.value ∷ y.round ∷ [])
      → (superseding_part S (bytes (share_words x) ++ rest) (bytes (share_words y) ++ more) ≡ bytes (share_words y))
      × (superseding_part S (bytes (share_words y) ++ more) (bytes (share_words x) ++ rest) ≡ bytes (share_words y))
