-- Refusals: an ordered table of numbers with their tests, of which the first that applies is given (document 01, "What a call gives when
-- it declines": "In a call the lowest number that applies is given").
-- _when_: one rule, a number and its test
-- refusal: the first number of a table whose test holds, or 0
-- Rising: the numbers of a table are above 0 and none stands before a lower one
-- Applies: a rule of that number holds
-- Lowest: the table gives the lowest number that applies, and 0 only where none does
-- Clear: no rule of the table holds
-- Answer: what document 01 says of an answer: whether the call answered, the refusal's number (0: none) and the values given beside it
-- answer_by, left_by: the answer and a lent buffer by the refusal's number: "buffers unchanged, in all rows" of the table of refusals
use Rattle.std.specs.Prelude.{ℕ, zero, suc, ◌≤◌, ◌<◌, Bool, true, false, ◌&&◌, List, [], ◌∷◌, ◌≡◌, leb, T}

infix 20 ◌when◌
pub data Rule : Type 0 where
  ◌when◌ : ℕ → Bool → Rule

-- a number that stands already stays; else k if its test holds
abbrev pub or_when : ℕ → ℕ → Bool → ℕ
or_when zero k true = k
or_when zero k false = 0
or_when (suc r) k b = suc r

abbrev pub refusal_from : ℕ → List Rule → ℕ
refusal_from r [] = r
refusal_from r ((k when b) ∷ l) = refusal_from (or_when r k b) l

abbrev pub refusal : List Rule → ℕ
refusal l = refusal_from 0 l

abbrev pub rising : ℕ → List Rule → Bool
rising b [] = true
rising b ((k when t) ∷ l) = leb b k && rising k l

abbrev pub Rising : List Rule → Type 0
Rising l = T (rising 1 l)

pub data Applies : List Rule → ℕ → Type 0 where
  here : {k : ℕ} {l : List Rule} → Applies ((k when true) ∷ l) k
  there : {q : Rule} {k : ℕ} {l : List Rule} → Applies l k → Applies (q ∷ l) k

pub record Lowest (l : List Rule) : Type 0 where
  pub least : (k : ℕ) → Applies l k → (0 < refusal l) × (refusal l ≤ k)
  pub applies : 0 < refusal l → Applies l (refusal l)

abbrev pub Clear : List Rule → Type 0
Clear [] = Unit {0}
Clear ((k when b) ∷ l) = (b ≡ false) × Clear l

pub record Answer : Type 0 where
  pub answered : Bool
  pub number : ℕ
  pub values : List ℕ

abbrev pub refused : ℕ → Answer
refused k = record { answered = false; number = k; values = [] }

abbrev pub given : List ℕ → Answer
given vs = record { answered = true; number = 0; values = vs }

abbrev pub answer_by : ℕ → Answer → Answer
answer_by zero a = a
answer_by (suc k) a = refused (suc k)

abbrev pub left_by : ℕ → List ℕ → List ℕ → List ℕ
left_by zero new old = new
left_by (suc k) new old = old

abbrev pub left_of {ℓ} : {A : Type ℓ} → ℕ → A → A → A
left_of zero new old = new
left_of (suc k) new old = old
