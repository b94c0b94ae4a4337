-- The five fields (document 01, "Setup": "with p one of 2, 7, 251, 257, 65521"; "What a call gives when it declines": "1, p is none of the five").
-- is_field: p is one of the five
-- field_answer: what document 01 gives for a number p, the field's p or refusal 1
-- order_of: the number of elements of a field
-- paper: document 01's number and value for each case of the constructor's answer
use Rattle.std.specs.Prelude.{Bool, ◌||◌, [], ◌∷◌, ℕ, eqb, Result}
use Rattle.base.specs.Choice.{pick}
use Rattle.base.specs.Rules.{Answer, refused, given}
use Rattle.base.specs.declared.Refusal.{Refusal}
use Rattle.base.specs.Refusals.{answer_of}
use Rattle.field.specs.declared.Field.{Field}

unfoldable pub is_field : ℕ → Bool
is_field p = eqb p 2 || (eqb p 7 || (eqb p 251 || (eqb p 257 || eqb p 65521)))

abbrev pub field_answer : ℕ → Answer
field_answer p = pick (is_field p) (given (p ∷ [])) (refused 1)

abbrev pub order_of : Field → ℕ
order_of f = f.p

abbrev pub paper : Result Field Refusal → Answer
paper r = answer_of (λ f. order_of f ∷ []) r
