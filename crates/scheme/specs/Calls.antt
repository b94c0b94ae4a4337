-- The open calls: for each its refusals in one ordered table with document 01's numbers ("What a call gives when it declines"), then its answer,
-- then what each lent buffer holds.
-- limits: refusals 1 and 2
-- Lent: one thing that a call is lent: so many field elements, or a buffer that has, and needs, so many entries
-- sizes, in_field: refusals 3 and 4 of all that is lent
-- table: the one shape of a table: the limits, the lengths of all that is lent, the elements of all that is taken, then the call's own rules
-- matrix: the setup's matrix, lent; setup_rules: the limits and the length of a matrix, with which many tables begin
-- xRules, xCall, xLeft: the table, the answer and the buffer of call x
-- to_each, to_all: a list of k entries for every holder, one after the other; every holder's part
-- Buffers, buffers: four lent buffers, for a holder's part and its second part, or for those of all
use Rattle.std.specs.Prelude.{◌≡◌, Bool, true, not, ◌||◌, List, [], ◌∷◌, ◌++◌, ℕ, ◌+◌, ◌-◌, ◌*◌, ◌^◌, eqb, leb, ltb, length, replicate}
use Rattle.std.proofs.Math.Option.{some}
use Rattle.base.specs.Choice.{pick}
use Rattle.base.specs.Rules.{Rule, ◌when◌, refusal, Answer, given, answer_by, left_by}
use Rattle.base.specs.Search.{Vec}
use Rattle.base.specs.Fill.{tab}
use Rattle.base.specs.Matrix.{flat, all_below}
use Rattle.field.specs.Fields.{is_field}
use Rattle.field.specs.Dot.{at}
use Rattle.scheme.specs.Setup.{Setup, dim}
use Rattle.scheme.specs.Points.{points_matrix}
use Rattle.scheme.specs.Answers.{yes, no, is_a_row, is_a_vector, is_neither}
use Rattle.scheme.specs.Dealing.{dealt, part_g, part_h, pair_value, judge, outcome, is_kept, shares, rehearse, dealt_mapped, judge_mapped, dealt_zero, part_zero_h, judge_zero}
use Rattle.scheme.specs.Sets.{holds, members, one_row, is_sweep, row_steps, kind, determines, is_private}
use Rattle.scheme.specs.Opening.{opening, combine, round_of, agree, refresh}

-- "1: p is none of the five"; "2: ℓ, e or n beyond its limits"
abbrev pub outside : ℕ → ℕ → ℕ → Bool
outside low high x = ltb x low || ltb high x

abbrev pub limits : Setup → List Rule
limits S = (1 when not (is_field S.p)) ∷ (2 when outside 1 8 S.l) ∷ (2 when outside 1 8 S.e) ∷ (2 when outside 1 32 S.n) ∷ []

-- "3: a lent length isn't the one needed"; "4: a field element is p or more"
pub data Lent : Type 0 where
  elements : List ℕ → ℕ → Lent
  room : ℕ → ℕ → Lent

abbrev pub size : ℕ → ℕ → Rule
size has needed = 3 when not (eqb has needed)

abbrev pub beyond_field : ℕ → List ℕ → Rule
beyond_field p xs = 4 when not (all_below p xs)

abbrev pub sizes : List Lent → List Rule
sizes [] = []
sizes (elements xs k ∷ l) = size (length xs) k ∷ sizes l
sizes (room has k ∷ l) = size has k ∷ sizes l

abbrev pub in_field : ℕ → List Lent → List Rule
in_field p [] = []
in_field p (elements xs k ∷ l) = beyond_field p xs ∷ in_field p l
in_field p (room has k ∷ l) = in_field p l

abbrev pub table : Setup → List Lent → List Rule → List Rule
table S lent own = limits S ++ (sizes lent ++ (in_field S.p lent ++ own))

abbrev pub matrix : Setup → Lent
matrix S = elements S.M (S.n * dim S)

abbrev pub setup_rules : Setup → ℕ → List Rule
setup_rules S has = limits S ++ size has (S.n * dim S) ∷ []

-- POINTS: the points matrix into a lent matrix. "15: points matrix with d + n above p"
abbrev pub points_rules : Setup → List Rule
points_rules S = table S (room (length S.M) (S.n * dim S) ∷ []) ((15 when ltb S.p (dim S + S.n)) ∷ [])

abbrev pub points_call : Setup → Answer
points_call S = answer_by (refusal (points_rules S)) (given [])

abbrev pub points_left : Setup → List ℕ
points_left S = left_by (refusal (points_rules S)) (points_matrix S.p (dim S) S.n) S.M

-- DEAL to one holder, into the lent g and h; the secrets by vector, position k of vector b at b * ℓ + k
abbrev pub deal_lent : Setup → List ℕ → List ℕ → List Lent
deal_lent S secrets random = matrix S ∷ elements secrets (S.l * S.l) ∷ elements random (dim S * dim S - S.l * S.l) ∷ []

abbrev pub deal_rules : Setup → List ℕ → List ℕ → ℕ → List ℕ → List ℕ → List Rule
deal_rules S secrets random i g h =
    table S (deal_lent S secrets random ++ room (length g) (dim S) ∷ room (length h) (dim S) ∷ []) ((5 when leb S.n i) ∷ [])

abbrev pub deal_call : Setup → List ℕ → List ℕ → ℕ → List ℕ → List ℕ → Answer
deal_call S secrets random i g h = answer_by (refusal (deal_rules S secrets random i g h)) (given [])

abbrev pub deal_left_g : Setup → List ℕ → List ℕ → ℕ → List ℕ → List ℕ → List ℕ
deal_left_g S secrets random i g h = left_by (refusal (deal_rules S secrets random i g h)) (part_g S (dealt S secrets random) i) g

abbrev pub deal_left_h : Setup → List ℕ → List ℕ → ℕ → List ℕ → List ℕ → List ℕ
deal_left_h S secrets random i g h = left_by (refusal (deal_rules S secrets random i g h)) (part_h S (dealt S secrets random) i) h

-- DEAL TO ALL: every holder's g, one after the other, and every holder's h
abbrev pub to_each : ℕ → Setup → (ℕ → List ℕ) → List ℕ
to_each k S list = tab (S.n * k) (flat k (λ i. at (list i)))

abbrev pub to_all : Setup → (ℕ → List ℕ) → List ℕ
to_all S part = to_each (dim S) S part

abbrev pub deal_all_rules : Setup → List ℕ → List ℕ → List ℕ → List ℕ → List Rule
deal_all_rules S secrets random gs hs =
    table S (deal_lent S secrets random ++ room (length gs) (S.n * dim S) ∷ room (length hs) (S.n * dim S) ∷ []) []

abbrev pub deal_all_call : Setup → List ℕ → List ℕ → List ℕ → List ℕ → Answer
deal_all_call S secrets random gs hs = answer_by (refusal (deal_all_rules S secrets random gs hs)) (given [])

abbrev pub deal_all_left_g : Setup → List ℕ → List ℕ → List ℕ → List ℕ → List ℕ
deal_all_left_g S secrets random gs hs = left_by (refusal (deal_all_rules S secrets random gs hs)) (to_all S (part_g S (dealt S secrets random))) gs

abbrev pub deal_all_left_h : Setup → List ℕ → List ℕ → List ℕ → List ℕ → List ℕ
deal_all_left_h S secrets random gs hs = left_by (refusal (deal_all_rules S secrets random gs hs)) (to_all S (part_h S (dealt S secrets random))) hs

-- DEAL WITH A MAP (document 02, A7): both parts of one holder, into the lent g and h and the second g and h; φ by rows, and the second lent random
-- entries, e rows of d
pub record Buffers : Type 0 where
  pub g : List ℕ
  pub h : List ℕ
  pub g2 : List ℕ
  pub h2 : List ℕ

abbrev pub buffers : (g h g2 h2 : List ℕ) → Buffers
buffers g h g2 h2 = record { g = g; h = h; g2 = g2; h2 = h2 }

-- by the entries that the buffers have, each of which needs k
abbrev pub mapped_lent : Setup → (secrets random phi random2 : List ℕ) → (k g h g2 h2 : ℕ) → List Lent
mapped_lent S secrets random phi random2 k g h g2 h2 =
    deal_lent S secrets random ++ elements phi (S.l * S.l) ∷ elements random2 (S.e * dim S) ∷ room g k ∷ room h k ∷ room g2 k ∷ room h2 k ∷ []

abbrev pub deal_mapped_lent : Setup → (secrets random phi random2 : List ℕ) → (k : ℕ) → Buffers → List Lent
deal_mapped_lent S secrets random phi random2 k B =
    mapped_lent S secrets random phi random2 k (length B.g) (length B.h) (length B.g2) (length B.h2)

abbrev pub second_dealt : Setup → (secrets random phi random2 : List ℕ) → List ℕ
second_dealt S secrets random phi random2 = dealt_mapped S (dealt S secrets random) phi random2

abbrev pub deal_mapped_rules : Setup → (secrets random phi random2 : List ℕ) → ℕ → Buffers → List Rule
deal_mapped_rules S secrets random phi random2 i B =
    table S (deal_mapped_lent S secrets random phi random2 (dim S) B) ((5 when leb S.n i) ∷ [])

abbrev pub deal_mapped_call : Setup → (secrets random phi random2 : List ℕ) → ℕ → Buffers → Answer
deal_mapped_call S secrets random phi random2 i B = answer_by (refusal (deal_mapped_rules S secrets random phi random2 i B)) (given [])

abbrev pub deal_mapped_left : Setup → (secrets random phi random2 : List ℕ) → ℕ → Buffers → Buffers
deal_mapped_left S secrets random phi random2 i B =
    let k = refusal (deal_mapped_rules S secrets random phi random2 i B) in
    let F = dealt S secrets random in
    let F2 = second_dealt S secrets random phi random2 in
    record { g = left_by k (part_g S F i) B.g; h = left_by k (part_h S F i) B.h; g2 = left_by k (part_g S F2 i) B.g2; h2 = left_by k (part_h S F2 i) B.h2 }

-- the same to all
abbrev pub deal_mapped_all_rules : Setup → (secrets random phi random2 : List ℕ) → Buffers → List Rule
deal_mapped_all_rules S secrets random phi random2 B = table S (deal_mapped_lent S secrets random phi random2 (S.n * dim S) B) []

abbrev pub deal_mapped_all_call : Setup → (secrets random phi random2 : List ℕ) → Buffers → Answer
deal_mapped_all_call S secrets random phi random2 B = answer_by (refusal (deal_mapped_all_rules S secrets random phi random2 B)) (given [])

abbrev pub deal_mapped_all_left : Setup → (secrets random phi random2 : List ℕ) → Buffers → Buffers
deal_mapped_all_left S secrets random phi random2 B =
    let k = refusal (deal_mapped_all_rules S secrets random phi random2 B) in
    let F = dealt S secrets random in
    let F2 = second_dealt S secrets random phi random2 in
    record {
      g = left_by k (to_all S (part_g S F)) B.g;
      h = left_by k (to_all S (part_h S F)) B.h;
      g2 = left_by k (to_all S (part_g S F2)) B.g2;
      h2 = left_by k (to_all S (part_h S F2)) B.h2;
    }

-- DEAL ZERO (document 02, A8) to one holder, into the lent g of d entries and h of e; the lent random entries are e rows of d
abbrev pub deal_zero_rules : Setup → List ℕ → ℕ → List ℕ → List ℕ → List Rule
deal_zero_rules S random i g h =
    table S (matrix S ∷ elements random (S.e * dim S) ∷ room (length g) (dim S) ∷ room (length h) S.e ∷ []) ((5 when leb S.n i) ∷ [])

abbrev pub deal_zero_call : Setup → List ℕ → ℕ → List ℕ → List ℕ → Answer
deal_zero_call S random i g h = answer_by (refusal (deal_zero_rules S random i g h)) (given [])

abbrev pub deal_zero_left_g : Setup → List ℕ → ℕ → List ℕ → List ℕ → List ℕ
deal_zero_left_g S random i g h = left_by (refusal (deal_zero_rules S random i g h)) (part_g S (dealt_zero S random) i) g

abbrev pub deal_zero_left_h : Setup → List ℕ → ℕ → List ℕ → List ℕ → List ℕ
deal_zero_left_h S random i g h = left_by (refusal (deal_zero_rules S random i g h)) (part_zero_h S (dealt_zero S random) i) h

-- the same to all
abbrev pub deal_zero_all_rules : Setup → (random gs hs : List ℕ) → List Rule
deal_zero_all_rules S random gs hs =
    table S (matrix S ∷ elements random (S.e * dim S) ∷ room (length gs) (S.n * dim S) ∷ room (length hs) (S.n * S.e) ∷ []) []

abbrev pub deal_zero_all_call : Setup → (random gs hs : List ℕ) → Answer
deal_zero_all_call S random gs hs = answer_by (refusal (deal_zero_all_rules S random gs hs)) (given [])

abbrev pub deal_zero_all_left_g : Setup → (random gs hs : List ℕ) → List ℕ
deal_zero_all_left_g S random gs hs = left_by (refusal (deal_zero_all_rules S random gs hs)) (to_all S (part_g S (dealt_zero S random))) gs

abbrev pub deal_zero_all_left_h : Setup → (random gs hs : List ℕ) → List ℕ
deal_zero_all_left_h S random gs hs = left_by (refusal (deal_zero_all_rules S random gs hs)) (to_each S.e S (part_zero_h S (dealt_zero S random))) hs

-- PAIR VALUE of the holder with row part g, for holder i
abbrev pub pair_value_rules : Setup → List ℕ → ℕ → List Rule
pair_value_rules S g i = table S (matrix S ∷ elements g (dim S) ∷ []) ((5 when leb S.n i) ∷ [])

abbrev pub pair_value_call : Setup → List ℕ → ℕ → Answer
pair_value_call S g i = answer_by (refusal (pair_value_rules S g i)) (given (pair_value S g i ∷ []))

-- JUDGE, on the column part h and the n values received
abbrev pub judge_rules : Setup → List ℕ → List ℕ → List Rule
judge_rules S h values = table S (matrix S ∷ elements h (dim S) ∷ elements values S.n ∷ []) []

abbrev pub judge_call : Setup → List ℕ → List ℕ → Answer
judge_call S h values = answer_by (refusal (judge_rules S h values)) (judge S h values)

-- JUDGE WITH A MAP (document 02, A7), on both column parts, both lists of values received, and φ
abbrev pub judge_mapped_rules : Setup → (h values phi h2 values2 : List ℕ) → List Rule
judge_mapped_rules S h values phi h2 values2 =
    table S (matrix S ∷ elements h (dim S) ∷ elements values S.n ∷ elements phi (S.l * S.l) ∷ elements h2 (dim S) ∷ elements values2 S.n ∷ []) []

abbrev pub judge_mapped_call : Setup → (h values phi h2 values2 : List ℕ) → Answer
judge_mapped_call S h values phi h2 values2 = answer_by (refusal (judge_mapped_rules S h values phi h2 values2)) (judge_mapped S h values phi h2 values2)

-- JUDGE ZERO (document 02, A8), on the column part h of e entries and the n values received
abbrev pub judge_zero_rules : Setup → List ℕ → List ℕ → List Rule
judge_zero_rules S h values = table S (matrix S ∷ elements h S.e ∷ elements values S.n ∷ []) []

abbrev pub judge_zero_call : Setup → List ℕ → List ℕ → Answer
judge_zero_call S h values = answer_by (refusal (judge_zero_rules S h values)) (judge_zero S h values)

-- OUTCOME, on the row part g and the n verdicts received, into ℓ lent shares; it needs no matrix. "12: verdict neither 0 nor 1"
abbrev pub outcome_rules : Setup → List ℕ → List ℕ → List ℕ → List Rule
outcome_rules S g verdicts out =
    table S (elements g (dim S) ∷ room (length verdicts) S.n ∷ room (length out) S.l ∷ []) ((12 when not (all_below 2 verdicts)) ∷ [])

abbrev pub outcome_call : Setup → List ℕ → List ℕ → List ℕ → Answer
outcome_call S g verdicts out = answer_by (refusal (outcome_rules S g verdicts out)) (outcome S verdicts)

-- shares are written only where they are kept
abbrev pub outcome_left : Setup → List ℕ → List ℕ → List ℕ → List ℕ
outcome_left S g verdicts out =
    left_by (refusal (outcome_rules S g verdicts out)) (pick (is_kept S verdicts) (shares S g) out) out

-- REHEARSE, on all n parts
abbrev pub rehearse_rules : Setup → List ℕ → List ℕ → List Rule
rehearse_rules S gs hs = table S (matrix S ∷ elements gs (S.n * dim S) ∷ elements hs (S.n * dim S) ∷ []) []

abbrev pub rehearse_call : Setup → List ℕ → List ℕ → Answer
rehearse_call S gs hs = answer_by (refusal (rehearse_rules S gs hs)) (rehearse S gs hs)

-- SETS. "5: a set bit at or above n", which s has exactly where it is 2 ^ n or more
abbrev pub beyond : ℕ → ℕ → Bool
beyond n s = leb (2 ^ n) s

abbrev pub set_rules : Setup → ℕ → List Rule
set_rules S s = table S (matrix S ∷ []) ((5 when beyond S.n s) ∷ [])

abbrev pub decide : Bool → Answer
decide b = pick b yes no

abbrev pub determines_call : Setup → ℕ → Answer
determines_call S s = answer_by (refusal (set_rules S s)) (decide (determines S (holds s)))

abbrev pub private_call : Setup → ℕ → Answer
private_call S s = answer_by (refusal (set_rules S s)) (decide (is_private S (holds s)))

-- JUDGE A SET at position q, into a lent buffer of 32 entries
abbrev pub judge_set_rules : Setup → ℕ → ℕ → List ℕ → List Rule
judge_set_rules S s q out = table S (matrix S ∷ room (length out) 32 ∷ []) ((5 when beyond S.n s) ∷ (5 when leb S.l q) ∷ [])

abbrev pub judge_set_call : Setup → ℕ → ℕ → List ℕ → Answer
judge_set_call S s q out = answer_by (refusal (judge_set_rules S s q out)) (kind S (holds s) q)

-- "It writes one of the kind found in a lent buffer of 32 entries: row entries by rising holder, or the vector, then zeros; for neither, 32
-- zeros"; document 02, A6: the row is the one, and "Which sweeping vector is written is still left open, and only that"
pub data JudgeSetLeft (S : Setup) (X : ℕ → Bool) (q : ℕ) : Answer → List ℕ → Type 0 where
  of_row : (r : List ℕ) → one_row S X q ≡ some r → JudgeSetLeft S X q (is_a_row (row_steps S X q)) (r ++ replicate (32 - length r) 0)
  of-vector : (w : List ℕ) → Vec S.p (dim S) w → is_sweep S (members S.n X) q w ≡ true
      → JudgeSetLeft S X q (is_a_vector (row_steps S X q)) (w ++ replicate (32 - length w) 0)
  of-neither : JudgeSetLeft S X q (is_neither (row_steps S X q)) (replicate 32 0)

-- ROUNDS (document 02, A8). "19, rounds that differ"; "18, refreshing round 65535", which is the last; "both after 5 and before 6"
abbrev pub apart : List ℕ → Rule
apart rs = 19 when not (agree rs)

-- OPEN, by the set s, its shares by rising holder and their rounds, into ℓ lent secrets
abbrev pub open_rules : Setup → ℕ → (xs rs out : List ℕ) → List Rule
open_rules S s xs rs out =
    let k = length (members 32 (holds s)) in
    table S (matrix S ∷ elements xs k ∷ room (length rs) k ∷ room (length out) S.l ∷ []) ((5 when beyond S.n s) ∷ apart rs ∷ [])

-- the same by the number of entries that the buffer has
abbrev pub open_rules_for : Setup → ℕ → (xs rs : List ℕ) → ℕ → List Rule
open_rules_for S s xs rs has =
    let k = length (members 32 (holds s)) in
    table S (matrix S ∷ elements xs k ∷ room (length rs) k ∷ room has S.l ∷ []) ((5 when beyond S.n s) ∷ apart rs ∷ [])

-- the secrets stand in the buffer; refusals 6 and 7 are the opening's own
abbrev pub open_answer : Answer → Answer
open_answer a = record { answered = a.answered; number = a.number; values = pick (eqb a.number 0) [] a.values }

abbrev pub open_call : Setup → ℕ → (xs rs out : List ℕ) → Answer
open_call S s xs rs out = answer_by (refusal (open_rules S s xs rs out)) (open_answer (opening S (holds s) xs))

abbrev pub open_left : Setup → ℕ → (xs rs out : List ℕ) → List ℕ
open_left S s xs rs out =
    left_by (refusal (open_rules S s xs rs out)) (left_by (opening S (holds s) xs).number (opening S (holds s) xs).values out) out

-- COMBINE constants, one holder's shares and their rounds, to a share and its round. "3: a lent length isn't the one needed, over 64 terms". Empty lists are as
-- long as each other, and so are taken (NoColumns.antt).
abbrev pub combine_rules : ℕ → (cs xs rs : List ℕ) → List Rule
combine_rules p cs xs rs =
    (1 when not (is_field p)) ∷ size (length xs) (length cs) ∷ size (length rs) (length cs) ∷ (3 when ltb 64 (length cs))
    ∷ beyond_field p cs ∷ beyond_field p xs ∷ apart rs ∷ []

abbrev pub combine_call : ℕ → (cs xs rs : List ℕ) → Answer
combine_call p cs xs rs = answer_by (refusal (combine_rules p cs xs rs)) (given (combine p cs xs ∷ round_of rs ∷ []))

-- REFRESH. "A refresh takes the old share with its round, and of the zero share the value alone"
abbrev pub refresh_rules : ℕ → (x round z : ℕ) → List Rule
refresh_rules p x round z = (1 when not (is_field p)) ∷ (4 when leb p x) ∷ (4 when leb p z) ∷ (18 when leb 65535 round) ∷ []

abbrev pub refresh_call : ℕ → (x round z : ℕ) → Answer
refresh_call p x round z = answer_by (refusal (refresh_rules p x round z)) (given (refresh p x z ∷ (round + 1) ∷ []))
