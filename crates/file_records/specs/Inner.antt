-- Contracts of inner functions.
-- Sends: what is given of the PV, PF and VD: the first fault, if there is one, the byte reached, and what the holders sent
-- Small: a setup whose lists have room
-- HoldsPart: what is given of the lists of a DL, DZ or DF whose h has k entries
use Rattle.std.specs.Prelude.{◌≡◌, true, List, ◌++◌, ℕ, ◌*◌, ◌≤◌, length, take, drop, replicate}
use Rattle.base.specs.Refusals.{refused_by}
use Rattle.scheme.specs.Setup.{Setup, dim}
use Rattle.record_words.specs.Words.{words_at}
use Rattle.record_layouts.specs.Records.{parts_h}
use Rattle.file_records.specs.declared.Head.{Head}
use Rattle.file_records.specs.declared.Sent.{Sent}
use Rattle.file_records.specs.declared.PartLists.{PartLists}
use Rattle.file_records.specs.Received.{place, fault_at, reached, sent_at, verdicts_at}

-- t is the file from the byte on where the records start; refused or not, all of it
pub record Sends (h : Head) (t : List ℕ) (r : Sent) : Type 0 where
  pub number : refused_by r.refused ≡ fault_at h t (reached h t)
  pub byte : r.byte ≡ place h (reached h t)
  pub values-size : length r.values ≡ 32
  pub values2-size : length r.values2 ≡ 32
  pub verdicts-size : length r.verdicts ≡ 32
  pub values : take h.n r.values ≡ sent_at h 0 t
  pub values2 : h.mapped ≡ true → take h.n r.values2 ≡ sent_at h h.n t
  pub verdicts : take h.n r.verdicts ≡ verdicts_at h t

pub record Small (S : Setup) : Type 0 where
  pub secret : S.l ≤ 8
  pub width : dim S ≤ 16
  pub entries : S.n * dim S ≤ 512
  pub map : S.l * S.l ≤ 64

-- the first ℓ entries of g, and h, of the record at the start of t
pub record HoldsPart (S : Setup) (k : ℕ) (t : List ℕ) (r : PartLists) : Type 0 where
  pub shares : r.shares ≡ words_at t 3 S.l ++ drop S.l (replicate 8 0)
  pub h-size : length r.h ≡ 16
  pub h : take k r.h ≡ parts_h k S t
