-- Dealing and judging (document 01, "Dealing and judging", steps 1 to 5; source document 000, figure 3), and two dealings tied by a public map (document
-- 02, A7; source document 000, figure 4), and a dealing of zeros (document 02, A8; source document 000, figure 5).
-- place: where the entry of F in row k and column b stands in the lent random list
-- dealt: F by rows, from the secret vectors and the lent random entries
-- part_g, part_h: holder i's part
-- pair_value: the pair value for i of the holder whose row part is g
-- expected: what the value from j has to be for the holder whose column part is h
-- judgement_of: a holder's judgement of the n values it received; judge: as document 01 has it
-- is_kept, fate_of, shares: the end of a dealing, from the n verdicts received; outcome: as document 01 has it
-- rehearse: the dealer's rehearsal on all n parts
-- image_at, image: the map φ, ℓ by ℓ and by rows, of the first ℓ entries of a vector
-- dealt_mapped: F_φ by rows, from F and the second lent random entries
-- differs_in: the value from j differs in either dealing
-- map_holds: the first ℓ entries of the second h are the map of those of the first
-- judgement_mapped: a holder's judgement of both dealings; judge_mapped: as document 01 has it
-- dealt_zero: the F of a zero dealing by rows, from its lent random entries
-- part_zero_h: holder i's column part of a zero dealing; its row part is part_g
-- expected_zero, differs_zero, judgement_zero, judge_zero: the judgement of a zero dealing, in the same way
use Rattle.std.specs.Prelude.{Bool, not, ◌&&◌, ◌||◌, List, ℕ, ◌+◌, ◌-◌, ◌*◌, ◌/◌, ◌%◌, eqb, ltb, take}
use Rattle.base.specs.Choice.{pick}
use Rattle.base.specs.Rules.{Answer}
use Rattle.base.specs.Search.{first, every}
use Rattle.base.specs.Fill.{tab}
use Rattle.base.specs.Matrix.{entry, flat}
use Rattle.field.specs.Dot.{at, dot}
use Rattle.scheme.specs.Setup.{Setup, dim, row}
use Rattle.scheme.specs.declared.Judgement.{Judgement}
use Rattle.scheme.specs.declared.Judgement.TheVariants.{Accept, Reject, RejectMap}
use Rattle.scheme.specs.declared.Fate.{Fate}
use Rattle.scheme.specs.declared.Fate.TheVariants.{Kept, Aborted}
use Rattle.scheme.specs.Answers.{paper_judgement, paper_fate, fair, disagree}

-- 1. "F has d rows and d columns. Its entry in row k and column b, both below ℓ, is position k of secret vector b. The other entries are the
-- lent random ones, row by row": e of them in each row below ℓ, then d in each
unfoldable pub place : Setup → ℕ → ℕ → ℕ
place S k b = pick (ltb k S.l) (k * S.e + (b - S.l)) (S.l * S.e + (k - S.l) * dim S + b)

-- position k of secret vector b stands at b * ℓ + k
unfoldable pub dealt_entry : Setup → List ℕ → List ℕ → ℕ → ℕ → ℕ
dealt_entry S secrets random k b = pick (ltb k S.l && ltb b S.l) (entry S.l secrets b k) (at random (place S k b))

unfoldable pub dealt : Setup → List ℕ → List ℕ → List ℕ
dealt S secrets random = tab (dim S * dim S) (flat (dim S) (dealt_entry S secrets random))

-- 2. "Holder i's part is g_i = m_i F (a row) and h^i = F m_i (a column), d entries each"
unfoldable pub part_g : Setup → List ℕ → ℕ → List ℕ
part_g S F i = tab (dim S) (λ b. dot (dim S) (row S i) (λ k. entry (dim S) F k b) % S.p)

unfoldable pub part_h : Setup → List ℕ → ℕ → List ℕ
part_h S F i = tab (dim S) (λ k. dot (dim S) (λ b. entry (dim S) F k b) (row S i) % S.p)

-- 3. "Holder j's pair value for i is g_j · m_i, sent to every i, itself included"
unfoldable pub pair_value : Setup → List ℕ → ℕ → ℕ
pair_value S g i = dot (dim S) (at g) (row S i) % S.p

-- 4. "Holder i accepts if for every j the value received equals m_j · h^i. Otherwise it rejects, naming the lowest j that differs"
unfoldable pub expected : Setup → List ℕ → ℕ → ℕ
expected S h j = dot (dim S) (row S j) (at h) % S.p

unfoldable pub differs : Setup → List ℕ → List ℕ → ℕ → Bool
differs S h values j = not (eqb (at values j) (expected S h j))

unfoldable pub judgement_of : Setup → List ℕ → List ℕ → Judgement
judgement_of S h values = let j = first (differs S h values) S.n in pick (ltb j S.n) (Reject j) Accept

abbrev pub judge : Setup → List ℕ → List ℕ → Answer
judge S h values = paper_judgement (judgement_of S h values)

-- 5. "If all n verdicts are accept, holder i keeps g_i[b] as its share of column b, for b below ℓ. Otherwise the outcome is aborted, naming the
-- lowest holder that said reject"
unfoldable pub said_reject : List ℕ → ℕ → Bool
said_reject verdicts i = not (eqb (at verdicts i) 1)

unfoldable pub is_kept : Setup → List ℕ → Bool
is_kept S verdicts = not (ltb (first (said_reject verdicts) S.n) S.n)

unfoldable pub fate_of : Setup → List ℕ → Fate
fate_of S verdicts = pick (is_kept S verdicts) Kept (Aborted (first (said_reject verdicts) S.n))

abbrev pub outcome : Setup → List ℕ → Answer
outcome S verdicts = paper_fate (fate_of S verdicts)

abbrev pub shares : Setup → List ℕ → List ℕ
shares S g = take S.l g

-- "The dealer's rehearsal takes all n parts and answers fair, or the first pair that disagrees, by i and then by j, where i checks the value of
-- j." Part i of a list of n parts; the pair (i, j) as the number i * n + j, which rises by i and then by j
abbrev pub part : Setup → List ℕ → ℕ → List ℕ
part S parts i = tab (dim S) (entry (dim S) parts i)

unfoldable pub disagrees : Setup → List ℕ → List ℕ → ℕ → ℕ → Bool
disagrees S gs hs i j = not (eqb (pair_value S (part S gs j) i) (expected S (part S hs i) j))

unfoldable pub rehearse : Setup → List ℕ → List ℕ → Answer
rehearse S gs hs =
    let t = first (flat S.n (disagrees S gs hs)) (S.n * S.n) in
    pick (ltb t (S.n * S.n)) (disagree (t / S.n) (t % S.n)) fair

-- TWO DEALINGS TIED BY A MAP (document 02, A7). "keys related by an ℓ by ℓ matrix φ": position k of the map is row k of φ times the vector's first ℓ
-- entries
unfoldable pub image_at : Setup → List ℕ → (ℕ → ℕ) → ℕ → ℕ
image_at S phi v k = dot S.l (entry S.l phi k) v % S.p

abbrev pub image : Setup → List ℕ → List ℕ → List ℕ
image S phi v = tab S.l (image_at S phi (at v))

-- "a second array F_φ with the first ℓ entries of its every column the map of those of F"; its last e rows are lent random entries, row by row
unfoldable pub mapped_entry : Setup → List ℕ → List ℕ → List ℕ → ℕ → ℕ → ℕ
mapped_entry S F phi random k b = pick (ltb k S.l) (image_at S phi (λ c. entry (dim S) F c b) k) (at random ((k - S.l) * dim S + b))

unfoldable pub dealt_mapped : Setup → List ℕ → List ℕ → List ℕ → List ℕ
dealt_mapped S F phi random = tab (dim S * dim S) (flat (dim S) (mapped_entry S F phi random))

-- "Each holder gets a second part, checks its pair values too": "A rejection names the lowest sender wrong in either dealing"
unfoldable pub differs_in : Setup → List ℕ → List ℕ → List ℕ → List ℕ → ℕ → Bool
differs_in S h values h2 values2 j = differs S h values j || differs S h2 values2 j

-- "and checks that the first ℓ entries of the second h are the map of those of the first"
unfoldable pub map_holds : Setup → List ℕ → List ℕ → List ℕ → Bool
map_holds S h phi h2 = every S.l (λ k. eqb (at h2 k) (image_at S phi (at h) k))

-- "If only that last check fails, the verdict is `reject map`"
unfoldable pub judgement_mapped : Setup → List ℕ → List ℕ → List ℕ → List ℕ → List ℕ → Judgement
judgement_mapped S h values phi h2 values2 =
    let j = first (differs_in S h values h2 values2) S.n in
    pick (ltb j S.n) (Reject j) (pick (map_holds S h phi h2) Accept RejectMap)

abbrev pub judge_mapped : Setup → List ℕ → List ℕ → List ℕ → List ℕ → List ℕ → Answer
judge_mapped S h values phi h2 values2 = paper_judgement (judgement_mapped S h values phi h2 values2)

-- A ZERO DEALING (document 02, A8). "only e random rows": the first ℓ rows of F are 0, and the others are lent, row by row
unfoldable pub zero_entry : Setup → List ℕ → ℕ → ℕ → ℕ
zero_entry S random k b = pick (ltb k S.l) 0 (at random ((k - S.l) * dim S + b))

unfoldable pub dealt_zero : Setup → List ℕ → List ℕ
dealt_zero S random = tab (dim S * dim S) (flat (dim S) (zero_entry S random))

-- "e entries of h": the last e of F m_i; those before them are 0 and are not sent
unfoldable pub part_zero_h : Setup → List ℕ → ℕ → List ℕ
part_zero_h S F i = tab S.e (λ k. at (part_h S F i) (S.l + k))

-- "checked against the last e entries of each row"
unfoldable pub expected_zero : Setup → List ℕ → ℕ → ℕ
expected_zero S h j = dot S.e (λ k. row S j (S.l + k)) (at h) % S.p

unfoldable pub differs_zero : Setup → List ℕ → List ℕ → ℕ → Bool
differs_zero S h values j = not (eqb (at values j) (expected_zero S h j))

unfoldable pub judgement_zero : Setup → List ℕ → List ℕ → Judgement
judgement_zero S h values = let j = first (differs_zero S h values) S.n in pick (ltb j S.n) (Reject j) Accept

abbrev pub judge_zero : Setup → List ℕ → List ℕ → Answer
judge_zero S h values = paper_judgement (judgement_zero S h values)
