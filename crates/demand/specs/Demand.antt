-- Demand 3 of the mission, with the meaning that document 01 gives its words ("What demand 3 speaks of"), in every round (document 02, A8), as one
-- statement over all dealings, zero dealings, refreshes, combinations and openings together. It is stated over the calls' own definitions (Calls.antt), so
-- that nothing is assumed which a call does not check; proofs/Rounds.antt and proofs/Demand.antt prove it. Quoted lines are document 01's, but for those
-- marked as of another document.
--
-- The mission's demand 3: "Found afterwards, whatever the dealers and all others sent: exactly one array of secrets per dealing agrees with the shares
-- that the rule-keepers kept, and for every list of columns from such dealings with their constants, within document 01's limits, each opening of that
-- combination gives exactly that combination of those secrets or is refused, but never where every opener is a rule-keeper. Done before: one setup, one
-- group of rule-keeping holders, the same in every dealing, that determines all positions, their pair values to one another and themselves delivered,
-- each having kept its shares by the rules. At the opening the rule-keepers present determine all positions by themselves and combine the same columns
-- and constants. Where all follow the rules and every message arrives, everyone accepts, and the array is the one dealt."
--
-- A8: "What the mission says of openings holds in every round, with the old secrets, provided the rule-keepers named the same first round and applied the
-- same zero dealings, each accepted under the mission's conditions, and the columns combined stand at one round."
use Rattle.std.specs.Prelude.{◌≡◌, true, false, ◌&&◌, List, [], ◌∷◌, ◌⊎◌, ℕ, ◌+◌, ◌%◌, ◌^◌, ◌≤◌, ◌<◌, eqb, length, get_or, take, replicate}
use Rattle.base.specs.Choice.{pick}
use Rattle.base.specs.Rules.{refused, given}
use Rattle.base.specs.Search.{Vec}
use Rattle.base.specs.Fill.{tab}
use Rattle.base.specs.Matrix.{entry}
use Rattle.field.specs.Dot.{at, dot}
use Rattle.scheme.specs.Setup.{Setup, dim, row}
use Rattle.scheme.specs.Answers.{accepts, kept, yes, inconsistent}
use Rattle.scheme.specs.Dealing.{dealt}
use Rattle.scheme.specs.Sets.{holds, members, determines}
use Rattle.scheme.specs.Opening.{combine, round_of, agree, refresh}
use Rattle.scheme.specs.Calls.{pair_value_call, judge_call, judge_zero_call, outcome_call, outcome_left, determines_call, open_call, open_left, combine_call, refresh_call, deal_call, deal_left_g, deal_left_h}

-- WHAT IS GIVEN

-- "Dealings: any number of them on one setup. In each, every member of the group has received some g and h under one dealing number, whoever made
-- them. What the dealers and the holders outside the group sent is arbitrary."
-- One dealing, as it ended at each holder i: the parts g and h that i received, the n pair values and the n verdicts that i received, by
-- sender, and the ℓ shares that i keeps, by column. Nothing is said of what a holder outside the group has.
pub record Dealing : Type 0 where
  pub g : ℕ → List ℕ
  pub h : ℕ → List ℕ
  pub values : ℕ → List ℕ
  pub verdicts : ℕ → List ℕ
  pub shares : ℕ → List ℕ

-- holder i is a member of the set s
abbrev pub Member : Setup → ℕ → ℕ → Type 0
Member S s i = (i < S.n) × (holds s i ≡ true)

-- "A rule-keeper .. judges by step 4 on the h and the n values it received, and says that verdict. It has kept its shares by the rules if that
-- verdict is accept, its outcome by step 5 on the n verdicts it received, its own among them, is kept, and its shares are those that step 5 gives."
-- That it said accept is part of kept: step 5 keeps where all n verdicts are accept, its own among them.
pub record Keeps (S : Setup) (D : Dealing) (i : ℕ) : Type 0 where
  pub judged : judge_call S (D.h i) (D.values i) ≡ accepts
  pub lent : List ℕ
  pub settled : outcome_call S (D.g i) (D.verdicts i) lent ≡ kept
  pub share : outcome_left S (D.g i) (D.verdicts i) lent ≡ D.shares i

-- "The group is one set of rule-keepers, the same in every dealing. It determines all positions, that is, it determines the secrets. Each member
-- judged on the very value that each member, itself included, sent it." A rule-keeper "sends step 3's values from the g it received".
-- The dealings are a family D over any index I.
pub record Done (S : Setup) (group : ℕ) {I : Type 0} (D : I → Dealing) : Type 0 where
  pub determined : determines_call S group ≡ yes
  pub keepers : (t : I) (i : ℕ) → Member S group i → Keeps S (D t) i
  pub delivered : (t : I) (i j : ℕ) → Member S group i → Member S group j → pair_value_call S ((D t).g j) i ≡ given (at ((D t).values i) j ∷ [])

-- ZERO DEALINGS AND ROUNDS (document 02, A8; quoted lines here are its)

-- A zero dealing, as it ended at each holder, is a Dealing with e entries in each h. It has its own judgement, "checked against the last e entries of each
-- row"; pair values, outcome and shares are those of any dealing. "each accepted under the mission's conditions": as Keeps and Done.
pub record KeepsZero (S : Setup) (Z : Dealing) (i : ℕ) : Type 0 where
  pub judged : judge_zero_call S (Z.h i) (Z.values i) ≡ accepts
  pub lent : List ℕ
  pub settled : outcome_call S (Z.g i) (Z.verdicts i) lent ≡ kept
  pub share : outcome_left S (Z.g i) (Z.verdicts i) lent ≡ Z.shares i

-- The zero dealings are a family Z over any index J.
pub record DoneZero (S : Setup) (group : ℕ) {J : Type 0} (Z : J → Dealing) : Type 0 where
  pub determined : determines_call S group ≡ yes
  pub keepers : (j : J) (i : ℕ) → Member S group i → KeepsZero S (Z j) i
  pub delivered : (j : J) (i k : ℕ) → Member S group i → Member S group k → pair_value_call S ((Z j).g k) i ≡ given (at ((Z j).values i) k ∷ [])

-- a share and its round, as an SH has them (A9 calls it a slip)
pub record Slip : Type 0 where
  pub value : ℕ
  pub round : ℕ

-- of each dealing t and column b, what holder i has
abbrev pub Slips : Type 0 → Type 0
Slips I = I → ℕ → ℕ → Slip

-- "a new dealing takes the round that the caller names": the share of column b that holder i kept, at that round
abbrev pub kept_at : Dealing → (round b i : ℕ) → Slip
kept_at D round b i = record { value = at (D.shares i) b; round = round }

-- "Adding its column b to a dealing's column b moves those shares to the next round"; "A refresh takes the old share with its round, and of the zero share
-- the value alone". Holder i's slip of column b: x at first, then one answered refresh call after the other, each with i's own share of column b of a zero
-- dealing. These are listed with the last one first.
pub data Refreshed (S : Setup) {J : Type 0} (Z : J → Dealing) (b i : ℕ) (x : Slip) : List J → Slip → Type 0 where
  at_first : Refreshed S Z b i x [] x
  then_by : (js : List J) (j : J) (y z : Slip) → Refreshed S Z b i x js y
      → refresh_call S.p y.value y.round (at ((Z j).shares i) b) ≡ given (z.value ∷ z.round ∷ [])
      → Refreshed S Z b i x (j ∷ js) z

-- the same list in some order
pub data Reordered {J : Type 0} : List J → List J → Type 0 where
  none : Reordered [] []
  keep : (j : J) (xs ys : List J) → Reordered xs ys → Reordered (j ∷ xs) (j ∷ ys)
  swap : (j k : J) (xs : List J) → Reordered (j ∷ k ∷ xs) (k ∷ j ∷ xs)
  join : (xs ys zs : List J) → Reordered xs ys → Reordered ys zs → Reordered xs zs

-- "provided the rule-keepers named the same first round and applied the same zero dealings": first t is the round that every member named for dealing t;
-- order t b i are the zero dealings that member i has applied to its share of column b of dealing t, and slip t b i is what it then has. Members whose
-- shares of a column stand at one round have applied the same zero dealings to it, in whatever order; a member may lag behind another. That "each dealing is
-- refreshed by a zero dealing of its own" is not needed. A list may be empty: the round in which the dealing ended. Of holders outside the group nothing is
-- said.
pub record Applied (S : Setup) (group : ℕ) {I J : Type 0} (D : I → Dealing) (Z : J → Dealing) : Type 0 where
  pub first : I → ℕ
  pub order : I → ℕ → ℕ → List J
  pub slip : Slips I
  pub refreshed : (t : I) (b i : ℕ) → b < S.l → Member S group i → Refreshed S Z b i (kept_at (D t) (first t) b i) (order t b i) (slip t b i)
  pub same : (t : I) (b i k : ℕ) → b < S.l → Member S group i → Member S group k → (slip t b i).round ≡ (slip t b k).round
      → Reordered (order t b i) (order t b k)

-- nothing was refreshed: all shares stand at the rounds named
abbrev pub unrefreshed : (S : Setup) (group : ℕ) {I J : Type 0} (D : I → Dealing) (Z : J → Dealing) → (I → ℕ) → Applied S group D Z
unrefreshed S group D Z first =
    record {
      first = first;
      order = λ t b i. [];
      slip = λ t. kept_at (D t) (first t);
      refreshed = λ t b i l m. at_first;
      same = λ t b i k l m n e. none;
    }

-- LISTS AND WHAT IS HANDED IN

-- "A list has terms t, each a constant c_t, a dealing and a column b_t of it; dealings and columns may come again."
pub record Terms (I : Type 0) : Type 0 where
  pub count : ℕ
  pub constant : ℕ → ℕ
  pub dealing : ℕ → I
  pub column : ℕ → ℕ

-- "Within the limits: 1 to 64 terms, columns below ℓ, constants in the field"; and none, by document 02, A1: "What the mission says of openings includes
-- this sum of no columns"
pub record InLimits (S : Setup) {I : Type 0} (ts : Terms I) : Type 0 where
  pub few : ts.count ≤ 64
  pub columns : (t : ℕ) → t < ts.count → ts.column t < S.l
  pub constants : (t : ℕ) → t < ts.count → ts.constant t < S.p

-- "One column opened by itself is the list of one term with constant 1."
abbrev pub one_column : {I : Type 0} → I → ℕ → Terms I
one_column t b = record { count = 1; constant = λ _. 1; dealing = λ _. t; column = λ _. b }

abbrev pub constants : {I : Type 0} → Terms I → List ℕ
constants ts = tab ts.count ts.constant

-- holder i's slip for term t of the list; its shares over the list, and their rounds
abbrev pub slip_over : {I : Type 0} → Slips I → Terms I → ℕ → ℕ → Slip
slip_over slip ts i t = slip (ts.dealing t) (ts.column t) i

abbrev pub shares_over : {I : Type 0} → Slips I → Terms I → ℕ → List ℕ
shares_over slip ts i = tab ts.count (λ t. (slip_over slip ts i t).value)

abbrev pub rounds_over : {I : Type 0} → Slips I → Terms I → ℕ → List ℕ
rounds_over slip ts i = tab ts.count (λ t. (slip_over slip ts i t).round)

-- The mission's "At the opening the rule-keepers present determine all positions by themselves and combine the same columns and constants": the group's
-- members among the openers determine the secrets. Where they do not, the others can open what they please: proofs/Present.antt has such a case
-- (liar-opens).
abbrev pub Present : Setup → ℕ → ℕ → Type 0
Present S group openers = determines S (λ i. holds openers i && holds group i) ≡ true

-- "Openers are the members of the opening's set. The group's members among them hand in what the combination of their kept shares over this list
-- gives, the others anything": any values and any rounds at all; "openers below n, lent lengths as needed". The members' rounds are those that their
-- combinations gave; that a combination was answered says that for this member A8's "the columns combined stand at one round".
pub record Handed (S : Setup) (group : ℕ) {I : Type 0} (slip : Slips I) (ts : Terms I) (openers : ℕ) (handed rounds : List ℕ) : Type 0 where
  pub limits : InLimits S ts
  pub below : openers < 2 ^ S.n
  pub count : length handed ≡ length (members S.n (holds openers))
  pub count-rounds : length rounds ≡ length (members S.n (holds openers))
  pub by-rule : (a : ℕ) → a < length (members S.n (holds openers)) → holds group (at (members S.n (holds openers)) a) ≡ true
      → let i = at (members S.n (holds openers)) a in
      combine_call S.p (constants ts) (shares_over slip ts i) (rounds_over slip ts i) ≡ given (at handed a ∷ at rounds a ∷ [])
  pub present : Present S group openers

-- holder i's shares of all columns of the list stand at one round
abbrev pub AtOneRound : {I : Type 0} → Slips I → Terms I → ℕ → Type 0
AtOneRound slip ts i = (t u : ℕ) → t < ts.count → u < ts.count → (slip_over slip ts i t).round ≡ (slip_over slip ts i u).round

-- the openers' shares of each column of the list stand at one round
abbrev pub Level : Setup → {I : Type 0} → Slips I → Terms I → ℕ → Type 0
Level S slip ts openers = (t i k : ℕ) → t < ts.count → Member S openers i → Member S openers k → (slip_over slip ts i t).round ≡ (slip_over slip ts k t).round

-- What opener i hands in: a member of the group its combination, every other opener i `others i`.
abbrev pub hands_in : Setup → ℕ → {I : Type 0} → Slips I → Terms I → (ℕ → Slip) → ℕ → Slip
hands_in S group slip ts others i =
    pick (holds group i) (record { value = combine S.p (constants ts) (shares_over slip ts i); round = round_of (rounds_over slip ts i) }) (others i)

-- what the members of the set s have, by rising holder: the values, and the rounds
abbrev pub values_by : Setup → ℕ → (ℕ → Slip) → List ℕ
values_by S s slip = tab (length (members S.n (holds s))) (λ a. (slip (at (members S.n (holds s)) a)).value)

abbrev pub rounds_by : Setup → ℕ → (ℕ → Slip) → List ℕ
rounds_by S s slip = tab (length (members S.n (holds s))) (λ a. (slip (at (members S.n (holds s)) a)).round)

-- WHAT IS FOUND

-- "An array of secrets is ℓ columns of ℓ field elements."
abbrev pub Array : Type 0
Array = List (List ℕ)

abbrev pub column : Array → ℕ → List ℕ
column A b = get_or A b []

pub record IsArray (S : Setup) (A : Array) : Type 0 where
  pub count : length A ≡ S.l
  pub each : (b : ℕ) → b < S.l → Vec S.p S.l (column A b)

-- "It agrees with the kept shares if for every column b some vector of d entries begins with the array's column b and gives every group member's
-- share of column b."
pub record AgreesAt (S : Setup) (group : ℕ) (D : Dealing) (A : Array) (b : ℕ) : Type 0 where
  pub vector : List ℕ
  pub ok : Vec S.p (dim S) vector
  pub begins : take S.l vector ≡ column A b
  pub gives : (i : ℕ) → Member S group i → dot (dim S) (row S i) (at vector) % S.p ≡ at (D.shares i) b

abbrev pub Agrees : Setup → ℕ → Dealing → Array → Type 0
Agrees S group D A = (b : ℕ) → b < S.l → AgreesAt S group D A b

-- "Exactly one: one array does, and every other fails at some column."
pub record ExactlyOne (S : Setup) (group : ℕ) (D : Dealing) (A : Array) : Type 0 where
  pub array : IsArray S A
  pub agrees : Agrees S group D A
  pub others : (B : Array) → IsArray S B → (B ≡ A → ⊥) → (b : ℕ) × (b < S.l) × (AgreesAt S group D B b → ⊥)

-- "position k of the opening is the sum over t of c_t times position k of column b_t of that dealing's array, modulo p"; over no terms it is 0
abbrev pub secrets_over : Setup → {I : Type 0} → (I → Array) → Terms I → List ℕ
secrets_over S A ts = tab S.l (λ k. combine S.p (constants ts) (tab ts.count (λ t. at (column (A (ts.dealing t)) (ts.column t)) k)))

-- the array of zeros
abbrev pub zeros : Setup → Array
zeros S = replicate S.l (replicate S.l 0)

-- A column's shares in one round: some vector begins with xs and gives the share of every member that stands at that round.
pub record AgreesNow (S : Setup) (group : ℕ) (slip : ℕ → Slip) (xs : List ℕ) (round : ℕ) : Type 0 where
  pub vector : List ℕ
  pub ok : Vec S.p (dim S) vector
  pub begins : take S.l vector ≡ xs
  pub gives : (i : ℕ) → Member S group i → (slip i).round ≡ round → dot (dim S) (row S i) (at vector) % S.p ≡ (slip i).value

-- the opening gives the secrets xs, into any lent buffer of ℓ entries
pub record Opens (S : Setup) (openers : ℕ) (handed rounds out xs : List ℕ) : Type 0 where
  pub answer : open_call S openers handed rounds out ≡ given []
  pub buffer : open_left S openers handed rounds out ≡ xs

-- the opening is refused: 4, a share handed in is no field element; 19, the rounds handed in differ; or 7, no vector gives all the shares; and never 6. The
-- buffer stays.
pub data Refused (S : Setup) (openers : ℕ) (handed rounds out : List ℕ) : Type 0 where
  by-four : open_call S openers handed rounds out ≡ refused 4 → open_left S openers handed rounds out ≡ out → Refused S openers handed rounds out
  by-nineteen : agree rounds ≡ false → open_call S openers handed rounds out ≡ refused 19 → open_left S openers handed rounds out ≡ out
      → Refused S openers handed rounds out
  by-seven : open_call S openers handed rounds out ≡ inconsistent → open_left S openers handed rounds out ≡ out → Refused S openers handed rounds out

-- What is found once the members have applied what they applied, A: the openings give the old secrets, those of the arrays `array`.
pub record FoundNow (S : Setup) (group : ℕ) {I J : Type 0} (D : I → Dealing) (Z : J → Dealing) (array : I → Array) (A : Applied S group D Z) : Type 0 where
  -- in every round the array's column agrees with the shares that stand there, and it alone where their holders determine the secrets
  pub agrees : (t : I) (b round : ℕ) → b < S.l → AgreesNow S group (A.slip t b) (column (array t) b) round
  pub alone : (t : I) (b round : ℕ) → b < S.l → determines S (λ i. holds group i && eqb (A.slip t b i).round round) ≡ true
      → (xs : List ℕ) → AgreesNow S group (A.slip t b) xs round → xs ≡ column (array t) b
  -- the mission's "each opening of that combination gives exactly that combination of those secrets or is refused, but never where every opener is a
  -- rule-keeper", if these stand at one round
  pub opens : (ts : Terms I) (openers : ℕ) (handed rounds out : List ℕ) → Handed S group A.slip ts openers handed rounds → length out ≡ S.l
      → Opens S openers handed rounds out (secrets_over S array ts) ⊎ Refused S openers handed rounds out
  pub never-refused : (ts : Terms I) (openers : ℕ) (handed rounds out : List ℕ) → Handed S group A.slip ts openers handed rounds → length out ≡ S.l
      → ((i : ℕ) → Member S openers i → Member S group i) → Level S A.slip ts openers
      → Opens S openers handed rounds out (secrets_over S array ts)
  -- where one of them lags behind another, it is 19
  pub lagging : (ts : Terms I) (openers : ℕ) (handed rounds out : List ℕ) → Handed S group A.slip ts openers handed rounds → length out ≡ S.l
      → ((i : ℕ) → Member S openers i → Member S group i)
      → (t i k : ℕ) → t < ts.count → Member S openers i → Member S openers k → ((slip_over A.slip ts i t).round ≡ (slip_over A.slip ts k t).round → ⊥)
      → (open_call S openers handed rounds out ≡ refused 19) × (open_left S openers handed rounds out ≡ out)
  -- a member's share stands one round further for each zero dealing, and never beyond round 65535
  pub stands : (t : I) (b i : ℕ) → b < S.l → Member S group i → (A.slip t b i).round ≡ A.first t + length (A.order t b i)
  pub within : (t : I) (b i : ℕ) → b < S.l → Member S group i → A.first t ≤ 65535 → (A.slip t b i).round ≤ 65535
  -- Its calls are answered, so that it can go on: a refresh below round 65535, and a combination of columns at one round; else A8's 18 and 19.
  pub refreshes : (t : I) (b i : ℕ) (j : J) → b < S.l → Member S group i → (A.slip t b i).round < 65535
      → refresh_call S.p (A.slip t b i).value (A.slip t b i).round (at ((Z j).shares i) b)
      ≡ given (refresh S.p (A.slip t b i).value (at ((Z j).shares i) b) ∷ ((A.slip t b i).round + 1) ∷ [])
  pub last-round : (t : I) (b i : ℕ) (j : J) → b < S.l → Member S group i → 65535 ≤ (A.slip t b i).round
      → refresh_call S.p (A.slip t b i).value (A.slip t b i).round (at ((Z j).shares i) b) ≡ refused 18
  pub combines : (ts : Terms I) (i : ℕ) → InLimits S ts → Member S group i → AtOneRound A.slip ts i
      → combine_call S.p (constants ts) (shares_over A.slip ts i) (rounds_over A.slip ts i)
      ≡ given (combine S.p (constants ts) (shares_over A.slip ts i) ∷ round_of (rounds_over A.slip ts i) ∷ [])
  pub apart : (ts : Terms I) (i t u : ℕ) → InLimits S ts → Member S group i → t < ts.count → u < ts.count
      → ((slip_over A.slip ts i t).round ≡ (slip_over A.slip ts i u).round → ⊥)
      → combine_call S.p (constants ts) (shares_over A.slip ts i) (rounds_over A.slip ts i) ≡ refused 19

-- The mission's "exactly one array of secrets per dealing agrees with the shares that the rule-keepers kept", and of each zero dealing it is the array of
-- zeros (source document 000, lemma 8); then A8's "What the mission says of openings holds in every round, with the old secrets". Document 01's "One column
-- opened by itself is the list of one term with constant 1"; the sum of no columns is ℓ zeros.
pub record Found (S : Setup) (group : ℕ) {I J : Type 0} (D : I → Dealing) (Z : J → Dealing) : Type 0 where
  pub array : I → Array
  pub one : (t : I) → ExactlyOne S group (D t) (array t)
  pub zero : (j : J) → ExactlyOne S group (Z j) (zeros S)
  pub now : (A : Applied S group D Z) → FoundNow S group D Z array A
  pub one-column : (t : I) (b : ℕ) → b < S.l
      → secrets_over S array (one_column t b) ≡ column (array t) b
  pub no-columns : (ts : Terms I) → ts.count ≡ 0 → secrets_over S array ts ≡ replicate S.l 0

-- Demand 3 as it was before A8: there are no zero dealings, and every share stands at the round that was named for its dealing. So no opener of the group
-- lags behind another, and 19 comes only from a round that somebody outside the group hands in.
pub record FoundUnrefreshed (S : Setup) (group : ℕ) {I : Type 0} (D : I → Dealing) : Type 0 where
  pub array : I → Array
  pub one : (t : I) → ExactlyOne S group (D t) (array t)
  pub opens : (first : I → ℕ) (ts : Terms I) (openers : ℕ) (handed rounds out : List ℕ)
      → Handed S group (λ t. kept_at (D t) (first t)) ts openers handed rounds → length out ≡ S.l
      → Opens S openers handed rounds out (secrets_over S array ts) ⊎ Refused S openers handed rounds out
  pub never-refused : (first : I → ℕ) (ts : Terms I) (openers : ℕ) (handed rounds out : List ℕ)
      → Handed S group (λ t. kept_at (D t) (first t)) ts openers handed rounds → length out ≡ S.l
      → ((i : ℕ) → Member S openers i → Member S group i)
      → Opens S openers handed rounds out (secrets_over S array ts)
  pub one-column : (t : I) (b : ℕ) → b < S.l
      → secrets_over S array (one_column t b) ≡ column (array t) b
  pub no-columns : (ts : Terms I) → ts.count ≡ 0 → secrets_over S array ts ≡ replicate S.l 0

-- WHERE ALL FOLLOW THE RULES

-- "All follow the rules and every message arrives: the parts are those of steps 1 and 2 from one F, every holder is a rule-keeper, and every value
-- and verdict received is the one sent." The verdict sent is the first value of the judge call's answer, 1 accept or 0 reject.
pub record Honest (S : Setup) (secrets random : List ℕ) (D : Dealing) : Type 0 where
  pub lent_g : List ℕ
  pub lent_h : List ℕ
  pub lent : List ℕ
  pub room : length lent ≡ S.l
  pub dealing : (i : ℕ) → i < S.n → deal_call S secrets random i lent_g lent_h ≡ given []
  pub part-g : (i : ℕ) → i < S.n → deal_left_g S secrets random i lent_g lent_h ≡ D.g i
  pub part-h : (i : ℕ) → i < S.n → deal_left_h S secrets random i lent_g lent_h ≡ D.h i
  pub received : (i : ℕ) → i < S.n → length (D.values i) ≡ S.n
  pub arrived : (i j : ℕ) → i < S.n → j < S.n → pair_value_call S (D.g j) i ≡ given (at (D.values i) j ∷ [])
  pub heard : (i : ℕ) → i < S.n → length (D.verdicts i) ≡ S.n
  pub said : (i j : ℕ) → i < S.n → j < S.n → at (D.verdicts i) j ≡ at (judge_call S (D.h j) (D.values j)).values 0
  pub share : (i : ℕ) → i < S.n → outcome_left S (D.g i) (D.verdicts i) lent ≡ D.shares i

-- "The array dealt is F's entries in rows and columns below ℓ": column b holds position k of secret vector b
abbrev pub array_dealt : Setup → List ℕ → List ℕ → Array
array_dealt S secrets random = tab S.l (λ b. tab S.l (λ k. entry (dim S) (dealt S secrets random) k b))

-- the mission's "everyone accepts, and the array is the one dealt", for every group that determines the secrets; and such a run is one that demand 3
-- speaks of
pub record HonestFound (S : Setup) (secrets random : List ℕ) (D : Dealing) : Type 0 where
  pub accept : (i : ℕ) → i < S.n → judge_call S (D.h i) (D.values i) ≡ accepts
  pub keep : (i : ℕ) → i < S.n → Keeps S D i
  pub done : (group : ℕ) → determines_call S group ≡ yes → Done S group (λ (t : Unit {0}). D)
  pub array : (group : ℕ) → determines_call S group ≡ yes → ExactlyOne S group D (array_dealt S secrets random)
  pub vectors : (k b : ℕ) → k < S.l → b < S.l → at (column (array_dealt S secrets random) b) k ≡ entry S.l secrets b k

-- Any family of such dealings, on one setup: every group that determines the secrets has done what demand 3 asks, the arrays found are those dealt, and
-- so every combination that members of the group open gives that combination of the arrays dealt, in every round.
pub record FamilyFound (S : Setup) {I J : Type 0} (secrets random : I → List ℕ) (D : I → Dealing) (Z : J → Dealing) : Type 0 where
  pub done : (group : ℕ) → determines_call S group ≡ yes → Done S group D
  pub arrays : (group : ℕ) → determines_call S group ≡ yes → (F : Found S group D Z) (t : I) → F.array t ≡ array_dealt S (secrets t) (random t)
  pub opens : (group : ℕ) → determines_call S group ≡ yes → DoneZero S group Z → (A : Applied S group D Z)
      → (ts : Terms I) (openers : ℕ) (handed rounds out : List ℕ) → Handed S group A.slip ts openers handed rounds → length out ≡ S.l
      → ((i : ℕ) → Member S openers i → Member S group i) → Level S A.slip ts openers
      → Opens S openers handed rounds out (secrets_over S (λ t. array_dealt S (secrets t) (random t)) ts)

-- DEMAND 3
pub record Demand3 : Type 1 where
  -- demand 3 itself in every round, whatever the dealers and all others sent
  pub found : (S : Setup) (group : ℕ) {I J : Type 0} (D : I → Dealing) (Z : J → Dealing) → Done S group D → DoneZero S group Z → Found S group D Z
  -- `found` speaks of all zero dealings in all orders that end by round 65535: there are the slips to which they lead
  pub applied : (S : Setup) (group : ℕ) {I J : Type 0} (D : I → Dealing) (Z : J → Dealing) → Done S group D → DoneZero S group Z
      → (first : I → ℕ) (order : I → ℕ → ℕ → List J)
      → ((t : I) (b i : ℕ) → b < S.l → Member S group i → first t + length (order t b i) ≤ 65535)
      → ((t : I) (b k i : ℕ) → b < S.l → Member S group k → Member S group i → length (order t b k) ≡ length (order t b i)
      → Reordered (order t b k) (order t b i))
      → (A : Applied S group D Z) × (A.first ≡ first) × (A.order ≡ order)
  -- and of every list within the limits whose columns stand at one round for each opener of the group: whatever the others hand in, there are lists handed in
  pub met : (S : Setup) (group : ℕ) {I J : Type 0} (D : I → Dealing) (Z : J → Dealing) → Done S group D → DoneZero S group Z → (A : Applied S group D Z)
      → (ts : Terms I) → InLimits S ts → (openers : ℕ) → openers < 2 ^ S.n → Present S group openers
      → ((i : ℕ) → Member S openers i → Member S group i → AtOneRound A.slip ts i) → (others : ℕ → Slip)
      → let slip = hands_in S group A.slip ts others in Handed S group A.slip ts openers (values_by S openers slip) (rounds_by S openers slip)
  -- demand 3 as it was before is an instance: where there is no zero dealing nothing more is asked
  pub none_yet : (S : Setup) (group : ℕ) → determines_call S group ≡ yes → DoneZero S group {J = ⊥} (λ j. absurd j)
  pub before : (S : Setup) (group : ℕ) {I : Type 0} (D : I → Dealing) → Done S group D → FoundUnrefreshed S group D
  -- where all follow the rules and every message arrives: one dealing, and any family of dealings
  pub honest : (S : Setup) (secrets random : List ℕ) (D : Dealing) → Honest S secrets random D → HonestFound S secrets random D
  pub families : (S : Setup) {I J : Type 0} (secrets random : I → List ℕ) (D : I → Dealing) (Z : J → Dealing)
      → ((t : I) → Honest S (secrets t) (random t) (D t)) → FamilyFound S secrets random D Z
  -- the mission's demand 2: "Secrets dealt come back when any set that determines them opens the dealt shares", refreshed as they may be: the set's members
  -- hand in what they have of column b, at one round
  pub back : (S : Setup) (secrets random : List ℕ) (D : Dealing) → Honest S secrets random D → (s : ℕ) → determines_call S s ≡ yes
      → {J : Type 0} (Z : J → Dealing) → DoneZero S s Z → (A : Applied S s (λ (t : Unit {0}). D) Z)
      → (b : ℕ) → b < S.l → Level S A.slip (one_column tt b) s → (out : List ℕ) → length out ≡ S.l
      → Opens S s (values_by S s (A.slip tt b)) (rounds_by S s (A.slip tt b)) out (tab S.l (λ k. entry S.l secrets b k))

-- Document 02, A1: "What the mission says of openings includes this sum of no columns". Over a family of dealings it is a list of no terms; where nothing
-- was dealt there is no family, and it holds all the same.
abbrev pub NothingDealt : Type 0
NothingDealt =
    (S : Setup) (group : ℕ) → determines_call S group ≡ yes
    → (openers : ℕ) (handed rounds out : List ℕ) → openers < 2 ^ S.n → length handed ≡ length (members S.n (holds openers))
    → length rounds ≡ length (members S.n (holds openers)) → Present S group openers
    → ((a : ℕ) → a < length handed → holds group (at (members S.n (holds openers)) a) ≡ true
    → combine_call S.p [] [] [] ≡ given (at handed a ∷ at rounds a ∷ []))
    → length out ≡ S.l
    → Opens S openers handed rounds out (replicate S.l 0) ⊎ Refused S openers handed rounds out
