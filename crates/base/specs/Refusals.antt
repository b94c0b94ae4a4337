-- The code's refusals and answers, as document 01 has them ("What a call gives when it declines").
-- number: the number of a refusal
-- refused_by: the number of the refusal that a call gives, 0 where it gives none
-- answer_of: what document 01 says of a call's answer, from the values of what it gives
use Rattle.std.specs.Prelude.{ℕ, List, Result, Ok, Err}
use Rattle.base.specs.Rules.{Answer, refused, given}
use Rattle.base.specs.declared.Refusal.{Refusal}
use Rattle.base.specs.declared.Refusal.TheVariants.{NoField, Limits, Length, Element, Range, Mark, DealingNumber, Repeated, Missing, NoVerdict, OwnVerdict, TooFewPoints, NoByte, Order, LastRound, Rounds, UnequalValues, OtherShare, Correction}

abbrev pub number : Refusal → ℕ
number NoField = 1
number Limits = 2
number Length = 3
number Element = 4
number Range = 5
number Mark = 8
number DealingNumber = 9
number Repeated = 10
number Missing = 11
number NoVerdict = 12
number OwnVerdict = 13
number TooFewPoints = 15
number NoByte = 16
number Order = 17
number LastRound = 18
number Rounds = 19
number UnequalValues = 20
number OtherShare = 21
number Correction = 22

abbrev pub refused_by : {A : Type 0} → Result A Refusal → ℕ
refused_by (Ok x) = 0
refused_by (Err k) = number k

abbrev pub answer_of : {A : Type 0} → (A → List ℕ) → Result A Refusal → Answer
answer_of values (Ok x) = given (values x)
answer_of values (Err k) = refused (number k)
