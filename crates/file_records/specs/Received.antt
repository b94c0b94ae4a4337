-- The PV, PF and VD of a holder's file (document 02, A2: "After DL the PV records now come by rising sender, then the VD records by rising holder"; A7: "With a DF, n PF
-- come by sender between PV and VD, under the refusals of PV and 17; without one, a PF gets 8"; A8: a zero dealing's file "is as a dealing's"). They are numbered: the PV
-- from holder j is record j, with a DF the PF from holder j is record n + j, and the VD of holder j comes j behind all of them. t is the file from the byte on where they
-- start, u a part of it where record k is due.
-- Head: what stands before them decides: p, n, the file's dealing number and holder, whether it has a DF, and whether it is a zero dealing's
-- pair_records, records: how many PV and PF there are, and how many records
-- place: the byte of t where record k starts
-- pair_fault, verdict_fault: what is faulty in a PV or PF, of which that from holder 0 is record `first`, or in a VD; x are its fields, of which len bytes are there
-- mark_fault: the refusal of a mark that is none of these
-- record_fault: what is faulty in the record at the start of u
-- fault_at: what is faulty in record k of t, which may be missing
-- reached: the first record that is faulty or missing, or their number
-- sent_at, verdicts_at: what the n holders sent, at the places of their records
-- joined: lists one after the other
-- sent, said: the PV or PF from holder j and the VD of holder j, with the value and the verdict of a list
-- pairs, verdicts: the bytes of the PV or PF by rising sender, by their mark, and of the VD by rising holder
-- received: all of them
use Rattle.std.specs.Prelude.{ℕ, ◌+◌, ◌-◌, ◌*◌, not, List, [], ◌∷◌, ◌++◌, length, drop, ltb, leb, eqb}
use Rattle.base.specs.Choice.{pick}
use Rattle.base.specs.Rules.{Rule, ◌when◌, refusal}
use Rattle.base.specs.Search.{first}
use Rattle.base.specs.Fill.{tab}
use Rattle.field.specs.Dot.{at}
use Rattle.record_words.specs.Words.{bytes, word_at}
use Rattle.record_layouts.specs.Records.{mark_su, mark_dl, mark_pv, mark_vd, mark_df, mark_pf, mark_dz, pair_size, verdict_size, all_words, pair_layout_of, verdict_words, pair_at, verdict_at}
use Rattle.record_layouts.specs.declared.PairRecord.{PairRecord}
use Rattle.record_layouts.specs.declared.VerdictRecord.{VerdictRecord}
use Rattle.file_records.specs.declared.Head.{Head}

unfoldable pub pair_records : Head → ℕ
pair_records h = pick h.mapped (2 * h.n) h.n

abbrev pub records : Head → ℕ
records h = pair_records h + h.n

-- ten bytes for each record before it, and two fewer for each VD among them
abbrev pub place : Head → ℕ → ℕ
place h k = pair_size * k - 2 * (k - pair_records h)

-- "In a file the first faulty record decides: the mark, then the length, then the lowest number". "4: a field element is p or more"; "5: holder .. out of range, in a
-- file a PV to a holder other than DL's"; "9: dealing number 0 outside SH, or not the file's" (the file's is not 0); "10: a PV or VD again from one holder"; "17, a PV
-- or VD that isn't the next one due, judged after 12 on that record"
abbrev pub pair_rules : Head → (k first len : ℕ) → PairRecord → List Rule
pair_rules h k first len x =
    (3 when ltb len pair_size) ∷ (4 when leb h.p x.value) ∷ (5 when leb h.n x.sender) ∷ (5 when not (eqb x.receiver h.holder))
    ∷ (9 when not (eqb x.dealing h.dealing)) ∷ (10 when ltb (first + x.sender) k) ∷ (17 when not (eqb (first + x.sender) k)) ∷ []

unfoldable pub pair_fault : Head → (k first len : ℕ) → PairRecord → ℕ
pair_fault h k first len x = refusal (pair_rules h k first len x)

-- "12: verdict neither 0 nor 1"
abbrev pub verdict_rules : Head → (k len : ℕ) → VerdictRecord → List Rule
verdict_rules h k len x =
    (3 when ltb len verdict_size) ∷ (5 when leb h.n x.holder) ∷ (9 when not (eqb x.dealing h.dealing)) ∷ (10 when ltb (pair_records h + x.holder) k)
    ∷ (12 when leb 2 x.verdict) ∷ (17 when not (eqb (pair_records h + x.holder) k)) ∷ []

unfoldable pub verdict_fault : Head → (k len : ℕ) → VerdictRecord → ℕ
verdict_fault h k len x = refusal (verdict_rules h k len x)

-- "8: unknown mark, or one with no place there"; "10: a second SU or DL, by its mark alone and instead of 8"; "DF may come right after DL only"; "A second DF gets 10
-- like a second DL"; of a zero dealing's file: "DF has no place in it. There a DL gets 8 and a second DZ 10; a DZ after DL gets 8"
unfoldable pub mark_fault : Head → ℕ → ℕ
mark_fault h m =
    pick (eqb m mark_su) 10
    (pick (eqb m mark_dl) (pick h.zero 8 10) (pick (eqb m mark_dz) (pick h.zero 10 8) (pick (eqb m mark_df) (pick h.mapped 10 8) 8)))

-- "A single last byte is a record cut short, 3"; "without one, a PF gets 8"
unfoldable pub record_fault : Head → ℕ → List ℕ → ℕ
record_fault h k u =
    pick (ltb (length u) 2) 3
    (pick (eqb (word_at u 0) mark_pv) (pair_fault h k 0 (length u) (pair_at u))
    (pick (eqb (word_at u 0) mark_pf) (pick h.mapped (pair_fault h k h.n (length u) (pair_at u)) 8)
    (pick (eqb (word_at u 0) mark_vd) (verdict_fault h k (length u) (verdict_at u))
    (mark_fault h (word_at u 0)))))

-- "11: file ends with a record missing": none is due behind the last
unfoldable pub fault_at : Head → List ℕ → ℕ → ℕ
fault_at h t k =
    let at = place h k in
    pick (leb (length t) at) (pick (ltb k (records h)) 11 0) (record_fault h k (drop at t))

unfoldable pub reached : Head → List ℕ → ℕ
reached h t = first (λ k. not (eqb (fault_at h t k) 0)) (records h)

-- by PV, from record 0 on, or by PF, from record n on
abbrev pub sent_at : Head → ℕ → List ℕ → List ℕ
sent_at h first t = tab h.n (λ j. (pair_at (drop (place h (first + j)) t)).value)

abbrev pub verdicts_at : Head → List ℕ → List ℕ
verdicts_at h t = tab h.n (λ j. (verdict_at (drop (place h (pair_records h + j)) t)).verdict)

-- AS BYTES, the other way round
abbrev pub joined : List (List ℕ) → List ℕ
joined [] = []
joined (a ∷ l) = a ++ joined l

abbrev pub sent : Head → List ℕ → ℕ → PairRecord
sent h values j = record { dealing = h.dealing; sender = j; receiver = h.holder; value = at values j }

abbrev pub said : Head → List ℕ → ℕ → VerdictRecord
said h heard j = record { dealing = h.dealing; holder = j; verdict = at heard j }

abbrev pub pairs : ℕ → Head → List ℕ → List ℕ
pairs mark h values = joined (tab h.n (λ j. bytes (all_words (pair_layout_of mark) (sent h values j))))

abbrev pub verdicts : Head → List ℕ → List ℕ
verdicts h heard = joined (tab h.n (λ j. bytes (verdict_words (said h heard j))))

abbrev pub received : Head → (values values2 heard : List ℕ) → List ℕ
received h values values2 heard = pairs mark_pv h values ++ (pick h.mapped (pairs mark_pf h values2) [] ++ verdicts h heard)
