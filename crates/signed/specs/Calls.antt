-- The calls on corrections and signed constants (document 02, A10), as scheme's Calls.antt has the others: each call's refusals in one ordered table, its
-- answer, then what the lent buffer holds. "A setup with another p gets 1 here. (New: 22, a correction or constant beyond the range, before all others.)"
-- beyond_range: refusal 22; other_field: refusal 1
-- xRules, xCall, xLeft: the table, the answer and the buffer of call x
use Rattle.std.specs.Prelude.{not, List, [], ◌∷◌, ℕ, eqb, ℤ, length}
use Rattle.base.specs.Rules.{Rule, ◌when◌, refusal, Answer, given, answer_by, left_of}
use Rattle.scheme.specs.Setup.{Setup}
use Rattle.scheme.specs.Sets.{holds}
use Rattle.scheme.specs.Opening.{opening, combine, round_of}
use Rattle.scheme.specs.Calls.{size, beyond_field, open_rules_for, open_answer, combine_rules}
use Rattle.signed.specs.Corrections.{all_in_range, residues, corrections}

abbrev pub beyond_range : List ℤ → Rule
beyond_range zs = 22 when not (all_in_range zs)

abbrev pub other_field : ℕ → Rule
other_field p = 1 when not (eqb p 65521)

-- HOLD corrections as residues, for dealing, in as many lent entries
abbrev pub hold_rules : ℕ → List ℤ → List ℕ → List Rule
hold_rules p zs out = beyond_range zs ∷ other_field p ∷ size (length out) (length zs) ∷ []

abbrev pub hold_call : ℕ → List ℤ → List ℕ → Answer
hold_call p zs out = answer_by (refusal (hold_rules p zs out)) (given [])

abbrev pub hold_left : ℕ → List ℤ → List ℕ → List ℕ
hold_left p zs out = left_of (refusal (hold_rules p zs out)) (residues zs) out

-- READ residues back, into as many lent corrections
abbrev pub read_rules : ℕ → List ℕ → List ℤ → List Rule
read_rules p xs out = other_field p ∷ size (length out) (length xs) ∷ beyond_field p xs ∷ []

abbrev pub read_call : ℕ → List ℕ → List ℤ → Answer
read_call p xs out = answer_by (refusal (read_rules p xs out)) (given [])

abbrev pub read_left : ℕ → List ℕ → List ℤ → List ℤ
read_left p xs out = left_of (refusal (read_rules p xs out)) (corrections xs) out

-- COMBINE one holder's shares with signed constants: "Constants are signed in the same way". Behind 22 and 1 it is the combination with their residues.
abbrev pub combine_signed_rules : ℕ → List ℤ → (xs rs : List ℕ) → List Rule
combine_signed_rules p cs xs rs = beyond_range cs ∷ other_field p ∷ combine_rules p (residues cs) xs rs

abbrev pub combine_signed_call : ℕ → List ℤ → (xs rs : List ℕ) → Answer
combine_signed_call p cs xs rs = answer_by (refusal (combine_signed_rules p cs xs rs)) (given (combine p (residues cs) xs ∷ round_of rs ∷ []))

-- OPEN by the set s into ℓ lent corrections: behind 1 the opening, its secrets read back
abbrev pub open_signed_rules : Setup → ℕ → (xs rs : List ℕ) → List ℤ → List Rule
open_signed_rules S s xs rs out = other_field S.p ∷ open_rules_for S s xs rs (length out)

abbrev pub open_signed_call : Setup → ℕ → (xs rs : List ℕ) → List ℤ → Answer
open_signed_call S s xs rs out = answer_by (refusal (open_signed_rules S s xs rs out)) (open_answer (opening S (holds s) xs))

abbrev pub open_signed_left : Setup → ℕ → (xs rs : List ℕ) → List ℤ → List ℤ
open_signed_left S s xs rs out =
    left_of (refusal (open_signed_rules S s xs rs out)) (left_of (opening S (holds s) xs).number (corrections (opening S (holds s) xs).values) out) out
