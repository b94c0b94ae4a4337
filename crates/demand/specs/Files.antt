-- The holders' files of an honest dealing (document 01, "The holder program on paper"; document 02, A7 and A8): where all follow the rules and every message arrives,
-- every holder's file, without a DF or with one, and of a zero dealing, is accepted under every dealing number; its judgement is accept, its outcome kept, and its shares
-- are those that the holder keeps, of both dealings where there is a DF; and so it prints.
-- contents_of_run, contents_of_mapped_run, contents_of_zero_run: what holder i has at the end of a dealing, of a dealing with a map, and of a zero dealing, under a dealing number
-- HonestFile: that statement of contents, with the shares that are kept
-- HonestFiles, HonestMappedFiles, HonestZeroFiles: it holds of every holder's file
use Rattle.std.specs.Prelude.{◌≡◌, List, [], ℕ, ◌≤◌, ◌<◌}
use Rattle.scheme.specs.declared.Judgement.TheVariants.{Accept}
use Rattle.scheme.specs.declared.Fate.TheVariants.{Kept}
use Rattle.scheme.specs.Setup.{Setup}
use Rattle.file_text.specs.Lines.{printed}
use Rattle.file_reading.specs.Contents.{plain, mapped, zero, Contents, InOrder, judgement, fate, kept_shares, kept_mapped, file_bytes}
use Rattle.file_reading.specs.File.{contents_of}
use Rattle.file_reading.specs.Sound.{Accepted}
use Rattle.holder_file.specs.Text.{file_text}
use Rattle.demand.specs.Demand.{Dealing, Honest}
use Rattle.demand.specs.Zeros.{HonestZero}
use Rattle.demand.specs.Maps.{MappedDealing, MapInputs, HonestMapped}

abbrev pub contents_of_run : Setup → Dealing → (number i : ℕ) → Contents
contents_of_run S D number i = contents_of S (record { dealing = number; holder = i }) (D.g i) (D.h i) (D.values i) (D.verdicts i) plain

abbrev pub contents_of_mapped_run : Setup → MappedDealing → (number i : ℕ) → Contents
contents_of_mapped_run S T number i =
    contents_of S (record { dealing = number; holder = i }) (T.g i) (T.h i) (T.values i) (T.verdicts i)
    (mapped (record { g = T.g2 i; h = T.h2 i; phi = T.phi i; values = T.values2 i }))

abbrev pub contents_of_zero_run : Setup → Dealing → (number i : ℕ) → Contents
contents_of_zero_run S Z number i = contents_of S (record { dealing = number; holder = i }) (Z.g i) (Z.h i) (Z.values i) (Z.verdicts i) zero

-- xs are the shares kept of the dealing, or of the first of two; ys those of the second, and none where there is no DF
pub record HonestFile (C : Contents) (xs ys : List ℕ) : Type 0 where
  pub in_order : InOrder C
  pub accepted : Accepted C
  pub accepts : judgement C ≡ Accept
  pub keeps : fate C ≡ Kept
  pub shares : kept_shares C ≡ xs
  pub shares2 : kept_mapped C ≡ ys
  pub text : file_text (file_bytes C) ≡ printed C.setup C.dealing C.holder Accept Kept xs ys

-- "Dealing numbers are 1 to 65535"
abbrev pub HonestFiles : Type 0
HonestFiles =
    (S : Setup) (secrets random : List ℕ) (D : Dealing) → Honest S secrets random D → (i : ℕ) → i < S.n → (number : ℕ) → 1 ≤ number → number ≤ 65535
    → HonestFile (contents_of_run S D number i) (D.shares i) []

abbrev pub HonestMappedFiles : Type 0
HonestMappedFiles =
    (S : Setup) (X : MapInputs) (T : MappedDealing) → HonestMapped S X T → (i : ℕ) → i < S.n → (number : ℕ) → 1 ≤ number → number ≤ 65535
    → HonestFile (contents_of_mapped_run S T number i) (T.shares i) (T.shares2 i)

abbrev pub HonestZeroFiles : Type 0
HonestZeroFiles =
    (S : Setup) (random : List ℕ) (Z : Dealing) → HonestZero S random Z → (i : ℕ) → i < S.n → (number : ℕ) → 1 ≤ number → number ≤ 65535
    → HonestFile (contents_of_zero_run S Z number i) (Z.shares i) []
