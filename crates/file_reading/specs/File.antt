-- A holder's file read to its end (document 01, "In a file the first faulty record decides"; document 02, A2, A7 and A8).
-- FileRead: a refusal with the byte where the faulty record starts, or the contents
-- has_zero: whether the part behind SU begins with a DZ, so that the file is a zero dealing's
-- setup_fault, dealing_fault: the refusal of the first record, and of the second
-- has_map, mapped_rules, mapped_fault: whether the part behind DL begins with a DF, and its refusal, 0 where there is none
-- first_byte, start: the byte behind DL or DZ, and the byte where the PV start
-- head_of: what PV, PF and VD are held against, from SU, DL or DZ, and DF as they were read
-- kind_at, contents_of: the contents from what stands in SU, DL or DZ, and DF and what was received
-- of_contents, of_received, of_mapped, of_dealing, read_file: what is read from the contents, from the file's PV on, from behind its DL or DZ, from there and from its start on
-- or_refused: a refusal, or what follows
-- number_of, byte_of: the refusal's number, 0 where there is none, and its byte
-- eight, params_of, told: the contents as the code tells them
use Rattle.std.specs.Prelude.{Bool, not, ◌&&◌, List, [], ◌∷◌, ◌++◌, ℕ, zero, suc, ◌+◌, ◌-◌, eqb, ltb, length, drop, replicate}
use Rattle.base.specs.Choice.{pick}
use Rattle.base.specs.Rules.{Rule, ◌when◌, refusal}
use Rattle.field.specs.Dot.{at}
use Rattle.scheme.specs.declared.Params.{Params}
use Rattle.scheme.specs.Setup.{Setup}
use Rattle.record_words.specs.Words.{word_at}
use Rattle.record_layouts.specs.declared.DealingRecord.{DealingRecord}
use Rattle.record_layouts.specs.Records.{mark_su, mark_df, mark_dz, setup_at, setup_size, mapped_size, dealing_at, dealing_g, dealing_h, parts_h, mapped_phi, read_setup_rules, lists_rules, standing_rules, mapped_layout}
use Rattle.file_records.specs.declared.Head.{Head}
use Rattle.file_records.specs.Received.{place, fault_at, reached, sent_at, verdicts_at}
use Rattle.file_reading.specs.declared.Told.{Told}
use Rattle.file_reading.specs.Contents.{Kind, plain, mapped, Contents, is_mapped, is_zero, columns, part_layout, judgement, verdict_of, fate, kept_shares, kept_mapped}
use Rattle.file_reading.specs.Contents as contents

pub data FileRead : Type 0 where
  refused_at : (number byte : ℕ) → FileRead
  whole : Contents → FileRead

-- "11: file ends with a record missing"; then SU's own refusals
unfoldable pub setup_fault : List ℕ → ℕ
setup_fault s = pick (eqb (length s) 0) 11 (refusal (read_setup_rules s))

-- of the file from the byte on where SU ends: "mark DZ (44 5A) for DL"
unfoldable pub has_zero : List ℕ → Bool
has_zero t = not (ltb (length t) 2) && eqb (word_at t 0) mark_dz

-- and "8: unknown mark, or one with no place there (SU first, DL second, then PV and VD)"; "10: a second SU or DL, by its mark alone and instead of 8"
unfoldable pub dealing_fault : Setup → List ℕ → ℕ
dealing_fault S t =
    pick (eqb (length t) 0) 11
    (pick (not (ltb (length t) 2) && eqb (word_at t 0) mark_su) 10 (refusal (standing_rules (part_layout (has_zero t)) S t)))

-- of the file from the byte on where DL or DZ ends, z where it is a DZ: "DF may come right after DL only"; of a zero dealing's file, "DF has no place in it"
unfoldable pub has_map : Bool → List ℕ → Bool
has_map z t = not z && (not (ltb (length t) 2) && eqb (word_at t 0) mark_df)

-- "a holder other than DL's gets 5"; "9: dealing number 0 outside SH, or not the file's" (the file's is not 0)
abbrev pub mapped_rules : Setup → DealingRecord → List ℕ → List Rule
mapped_rules S x t =
    lists_rules mapped_layout S t
    ++ ((5 when not (eqb (dealing_at t).holder x.holder)) ∷ (9 when not (eqb (dealing_at t).dealing x.dealing)) ∷ [])

unfoldable pub mapped_fault : Setup → DealingRecord → Bool → List ℕ → ℕ
mapped_fault S x z t = pick (has_map z t) (refusal (mapped_rules S x t)) 0

abbrev pub first_byte : Setup → Bool → ℕ
first_byte S z = setup_size S + (part_layout z).size S

-- b where there is a DF
abbrev pub start : Setup → (z b : Bool) → ℕ
start S z b = first_byte S z + pick b (mapped_size S) 0

abbrev pub head_of : Setup → DealingRecord → (z b : Bool) → Head
head_of S x z b = record { p = S.p; n = S.n; dealing = x.dealing; holder = x.holder; mapped = b; zero = z }

-- t is the file from the byte on where DL or DZ ends
abbrev pub kind_at : Setup → (z b : Bool) → (t values2 : List ℕ) → Kind
kind_at S z b t values2 =
    pick b (mapped (record { g = dealing_g S t; h = dealing_h S t; phi = mapped_phi S t; values = values2 })) (pick z contents.zero plain)

abbrev pub contents_of : Setup → DealingRecord → (g h values verdicts : List ℕ) → Kind → Contents
contents_of S x g h values verdicts kind =
    record { setup = S; dealing = x.dealing; holder = x.holder; g = g; h = h; values = values; verdicts = verdicts; kind = kind }

-- "13: own VD differs from own judgement"; "11 and 13 come last, in that order"; the file has `len` bytes
unfoldable pub of_contents : Contents → ℕ → FileRead
of_contents C len = pick (eqb (at C.verdicts C.holder) (verdict_of (judgement C))) (whole C) (refused_at 13 len)

-- a fault's number and the byte where the record starts, or what follows where there is none
abbrev pub or_refused : ℕ → ℕ → FileRead → FileRead
or_refused zero byte r = r
or_refused (suc k) byte r = refused_at (suc k) byte

-- "B the byte where the record starts, or the file's length for 11 and 13": where the file ends and a record is missing, its length is the byte where that would start
unfoldable pub of_received : Setup → DealingRecord → (g h : List ℕ) → (z b : Bool) → List ℕ → FileRead
of_received S x g h z b s =
    let from = start S z b in
    let head = head_of S x z b in
    let t = drop from s in
    let k = reached head t in
    or_refused (fault_at head t k) (from + place head k)
    (of_contents (contents_of S x g h (sent_at head 0 t) (verdicts_at head t) (kind_at S z b (drop (first_byte S z) s) (sent_at head S.n t))) (length s))

unfoldable pub of_mapped : Setup → DealingRecord → (g h : List ℕ) → Bool → List ℕ → FileRead
of_mapped S x g h z s =
    let t = drop (first_byte S z) s in
    or_refused (mapped_fault S x z t) (first_byte S z) (of_received S x g h z (has_map z t) s)

unfoldable pub of_dealing : Setup → List ℕ → FileRead
of_dealing S s =
    let t = drop (setup_size S) s in
    let z = has_zero t in
    or_refused (dealing_fault S t) (setup_size S) (of_mapped S (dealing_at t) (dealing_g S t) (parts_h (columns z S) S t) z s)

unfoldable pub read_file : List ℕ → FileRead
read_file s = or_refused (setup_fault s) 0 (of_dealing (setup_at s) s)

abbrev pub number_of : FileRead → ℕ
number_of (refused_at k byte) = k
number_of (whole C) = 0

abbrev pub byte_of : FileRead → ℕ
byte_of (refused_at k byte) = byte
byte_of (whole C) = 0

-- the shares, then zeros up to eight
abbrev pub eight : List ℕ → List ℕ
eight xs = xs ++ replicate (8 - length xs) 0

abbrev pub params_of : Setup → Params
params_of S = record { p = S.p; l = S.l; e = S.e; n = S.n }

abbrev pub told : Contents → Told
told C =
    record {
      setup = params_of C.setup;
      dealing = C.dealing;
      holder = C.holder;
      outcome = record { judgement = judgement C; fate = fate C };
      shares = eight (kept_shares C);
      mapped = is_mapped C.kind;
      shares2 = eight (kept_mapped C);
      zero = is_zero C.kind;
    }
