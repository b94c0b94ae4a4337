-- A refusal's number is above 0, so that an answer and a lent buffer by it are those of a declined call.
use Rattle.std.proofs.Common.{◌≡◌, ℕ, arith}
use Rattle.base.specs.Rules.{Answer, refused, answer_by, left_of}
use Rattle.base.specs.declared.Refusal.{Refusal}
use Rattle.base.specs.declared.Refusal.TheVariants.{NoField, Limits, Length, Element, Range, Mark, DealingNumber, Repeated, Missing, NoVerdict, OwnVerdict, TooFewPoints, NoByte, Order, LastRound, Rounds, UnequalValues, OtherShare, Correction}
use Rattle.base.specs.Refusals.{number}
use Rattle.base.proofs.Rules.{declined, unchanged-of}

pub above_zero : (k : Refusal) → number k ≡ 0 → ⊥
above_zero NoField e = omega (arith, e)
above_zero Limits e = omega (arith, e)
above_zero Length e = omega (arith, e)
above_zero Element e = omega (arith, e)
above_zero Range e = omega (arith, e)
above_zero Mark e = omega (arith, e)
above_zero DealingNumber e = omega (arith, e)
above_zero Repeated e = omega (arith, e)
above_zero Missing e = omega (arith, e)
above_zero NoVerdict e = omega (arith, e)
above_zero OwnVerdict e = omega (arith, e)
above_zero TooFewPoints e = omega (arith, e)
above_zero NoByte e = omega (arith, e)
above_zero Order e = omega (arith, e)
above_zero LastRound e = omega (arith, e)
above_zero Rounds e = omega (arith, e)
above_zero UnequalValues e = omega (arith, e)
above_zero OtherShare e = omega (arith, e)
above_zero Correction e = omega (arith, e)

pub declined-by : (k : Refusal) (r : ℕ) (a : Answer) → number k ≡ r → refused (number k) ≡ answer_by r a
declined-by k r a e = rw (← e) (declined (number k) a (above_zero k))

pub unchanged_of-by {ℓ} : {A : Type ℓ} (k : Refusal) (r : ℕ) (new old : A) → number k ≡ r → old ≡ left_of r new old
unchanged_of-by k r new old e = rw (← e) (unchanged-of (number k) new old (above_zero k))
