-- Demand 3 with dealings tied by a public map (document 02, A7; source document 000, figure 4 and lemma 5), in every round (A8), as one statement over plain
-- dealings, dealings with a map and zero dealings together. Like Demand.antt it is stated over the calls' own definitions, so that nothing is assumed which
-- a call does not check; proofs/Maps.antt and proofs/HonestMaps.antt prove it. Quoted lines are A7's, but for those marked as of another request or
-- document. The map itself, `image`, is defined in crate scheme (Dealing.antt): φ is ℓ by ℓ and by rows, and position k of the map of a vector is row k of φ
-- times the vector's first ℓ entries.
-- MappedDealing: a dealing with a map, as it ended at each holder; first_dealing, second_dealing: its two dealings, as Demand.antt has a dealing
-- Which: a plain dealing, or the first or the second of a dealing with a map; together: all dealings as one family
-- KeepsMapped: a member kept its shares of both by the rules; DoneWithMaps: what was done before
-- firsts, seconds: a list over dealings with a map, taken from their first or their second dealings
-- SecretAndMap: two openings found a secret and its map
-- FoundWithMaps: what is found
-- MapInputs: what a dealing with a map is made from; HonestMapped: all follow the rules and every message arrives
-- array_mapped: the second array dealt; HonestMappedFound: what is then found, of one dealing with a map
-- arrays_dealt, MapFamilyFound: the same of a family
-- Demand3WithMaps: all of it
use Rattle.std.specs.Prelude.{◌≡◌, List, [], ◌∷◌, ℕ, ◌^◌, ◌<◌, length}
use Rattle.base.specs.Rules.{given}
use Rattle.base.specs.Fill.{tab}
use Rattle.base.specs.Matrix.{entry}
use Rattle.field.specs.Dot.{at}
use Rattle.scheme.specs.Setup.{Setup, dim}
use Rattle.scheme.specs.Answers.{accepts, kept, yes}
use Rattle.scheme.specs.Dealing.{image}
use Rattle.scheme.specs.Calls.{Buffers, deal_mapped_call, deal_mapped_left, second_dealt, pair_value_call, judge_mapped_call, outcome_call, outcome_left, determines_call, open_call, open_left}
use Rattle.demand.specs.Demand.{Dealing, Member, Done, DoneZero, Slip, Applied, Terms, one_column, InLimits, Present, Handed, AtOneRound, Level, hands_in, values_by, rounds_by, Array, column, ExactlyOne, secrets_over, Opens, Found, Honest, array_dealt}

-- WHAT IS GIVEN

-- "Each holder gets a second part, checks its pair values too": for each holder i the parts g and h of the first dealing and the n values received of
-- it, the same of the second (g2, h2, values2), the φ that i received with its second part, the n verdicts received, one list for both dealings, and the ℓ
-- shares of each that i keeps. Nothing is said of what a holder outside the group has.
pub record MappedDealing : Type 0 where
  pub g : ℕ → List ℕ
  pub h : ℕ → List ℕ
  pub values : ℕ → List ℕ
  pub g2 : ℕ → List ℕ
  pub h2 : ℕ → List ℕ
  pub phi : ℕ → List ℕ
  pub values2 : ℕ → List ℕ
  pub verdicts : ℕ → List ℕ
  pub shares : ℕ → List ℕ
  pub shares2 : ℕ → List ℕ

abbrev pub first_dealing : MappedDealing → Dealing
first_dealing T = record { g = T.g; h = T.h; values = T.values; verdicts = T.verdicts; shares = T.shares }

abbrev pub second_dealing : MappedDealing → Dealing
second_dealing T = record { g = T.g2; h = T.h2; values = T.values2; verdicts = T.verdicts; shares = T.shares2 }

-- plain dealings are a family over any index I, dealings with a map a family over any index K
pub data Which (I K : Type 0) : Type 0 where
  plain : I → Which I K
  first : K → Which I K
  second : K → Which I K

abbrev pub together : {I K : Type 0} → (I → Dealing) → (K → MappedDealing) → Which I K → Dealing
together D T (plain t) = D t
together D T (first t) = first_dealing (T t)
together D T (second t) = second_dealing (T t)

-- As Keeps of Demand.antt, with the judgement of both dealings: it "checks its pair values too, and checks that the first ℓ entries of the second h are the
-- map of those of the first". Source document 000, figure 4, step 5: "If all players said Accept", each keeps its shares of both: the outcome call on the
-- one list of verdicts, once for each dealing.
pub record KeepsMapped (S : Setup) (T : MappedDealing) (i : ℕ) : Type 0 where
  pub judged : judge_mapped_call S (T.h i) (T.values i) (T.phi i) (T.h2 i) (T.values2 i) ≡ accepts
  pub lent : List ℕ
  pub settled : outcome_call S (T.g i) (T.verdicts i) lent ≡ kept
  pub share : outcome_left S (T.g i) (T.verdicts i) lent ≡ T.shares i
  pub lent2 : List ℕ
  pub settled2 : outcome_call S (T.g2 i) (T.verdicts i) lent2 ≡ kept
  pub share2 : outcome_left S (T.g2 i) (T.verdicts i) lent2 ≡ T.shares2 i

-- "On that footing and the mission's conditions, with PF delivered as PV"
pub record DoneWithMaps (S : Setup) (group : ℕ) {I K : Type 0} (D : I → Dealing) (phi : K → List ℕ) (T : K → MappedDealing) : Type 0 where
  -- the mission's conditions on the plain dealings; among them, that the group determines all positions
  pub plainly : Done S group D
  -- "φ is public like the setup, the same in every holder's file"
  pub one_map : (t : K) (i : ℕ) → Member S group i → (T t).phi i ≡ phi t
  -- the mission's "each having kept its shares by the rules"
  pub keepers : (t : K) (i : ℕ) → Member S group i → KeepsMapped S (T t) i
  -- document 01's "Each member judged on the very value that each member, itself included, sent it", in the first dealing (PV) and in the second (PF)
  pub delivered : (t : K) (i j : ℕ) → Member S group i → Member S group j → pair_value_call S ((T t).g j) i ≡ given (at ((T t).values i) j ∷ [])
  pub delivered2 : (t : K) (i j : ℕ) → Member S group i → Member S group j → pair_value_call S ((T t).g2 j) i ≡ given (at ((T t).values2 i) j ∷ [])

-- WHAT IS FOUND

abbrev pub firsts : {I K : Type 0} → Terms K → Terms (Which I K)
firsts ts = record { count = ts.count; constant = ts.constant; dealing = λ s. first (ts.dealing s); column = ts.column }

abbrev pub seconds : {I K : Type 0} → Terms K → Terms (Which I K)
seconds ts = record { count = ts.count; constant = ts.constant; dealing = λ s. second (ts.dealing s); column = ts.column }

-- one opening left the secret xs in its buffer, the other its map
pub record SecretAndMap (S : Setup) (phi xs left left2 : List ℕ) : Type 0 where
  pub secret : left ≡ xs
  pub map : left2 ≡ image S phi left

pub record FoundWithMaps (S : Setup) (group : ℕ) {I K J : Type 0} (D : I → Dealing) (phi : K → List ℕ) (T : K → MappedDealing) (Z : J → Dealing) : Type 0 where
  -- "both count as dealings in demand 3": exactly one array each, and a list may take columns of plain, first and second dealings together; and A8's "What
  -- the mission says of openings holds in every round" of all of them
  pub dealings : Found S group (together D T) Z
  -- source document 000, lemma 5: "If the dealer .. is corrupt, but no player rejects", then "φ(s^b) = s^{φ,b}" for any column b
  pub tied : (t : K) (b : ℕ) → b < S.l → column (dealings.array (second t)) b ≡ image S (phi t) (column (dealings.array (first t)) b)
  -- "a user for whom a column opens in both finds a secret and its map, though the dealer lied": wherever both openings answer, whoever the openers of each
  -- are, whatever those outside the group hand in, and in whichever rounds: A and A2 are what the members had applied at each opening
  pub opened : (t : K) (b : ℕ) (A A2 : Applied S group (together D T) Z)
      → (openers : ℕ) (handed rounds out : List ℕ) → Handed S group A.slip (one_column (first t) b) openers handed rounds → length out ≡ S.l
      → (openers2 : ℕ) (handed2 rounds2 out2 : List ℕ) → Handed S group A2.slip (one_column (second t) b) openers2 handed2 rounds2 → length out2 ≡ S.l
      → open_call S openers handed rounds out ≡ given [] → open_call S openers2 handed2 rounds2 out2 ≡ given []
      → SecretAndMap S (phi t) (column (dealings.array (first t)) b) (open_left S openers handed rounds out) (open_left S openers2 handed2 rounds2 out2)
  -- and so for a combination of columns whose dealings have one map: the same columns and constants of the second dealings open to the map
  pub combined : (ts : Terms K) (m : List ℕ) → ((s : ℕ) → s < ts.count → phi (ts.dealing s) ≡ m) → (A A2 : Applied S group (together D T) Z)
      → (openers : ℕ) (handed rounds out : List ℕ) → Handed S group A.slip (firsts ts) openers handed rounds → length out ≡ S.l
      → (openers2 : ℕ) (handed2 rounds2 out2 : List ℕ) → Handed S group A2.slip (seconds ts) openers2 handed2 rounds2 → length out2 ≡ S.l
      → open_call S openers handed rounds out ≡ given [] → open_call S openers2 handed2 rounds2 out2 ≡ given []
      → SecretAndMap S m (secrets_over S dealings.array (firsts ts)) (open_left S openers handed rounds out) (open_left S openers2 handed2 rounds2 out2)

-- WHERE ALL FOLLOW THE RULES

-- the secret vectors and random entries of F, φ by rows, and the random entries of F_φ
pub record MapInputs : Type 0 where
  pub secrets : List ℕ
  pub random : List ℕ
  pub phi : List ℕ
  pub random2 : List ℕ

-- As Honest of Demand.antt: both parts of every holder are those of the call that deals with a map, from the same inputs; every holder has that φ; every
-- value of both dealings and every verdict received is the one sent. The verdict sent is the first value of the judgement of both.
pub record HonestMapped (S : Setup) (X : MapInputs) (T : MappedDealing) : Type 0 where
  pub buffers : Buffers
  pub dealing : (i : ℕ) → i < S.n → deal_mapped_call S X.secrets X.random X.phi X.random2 i buffers ≡ given []
  pub parts : (i : ℕ) → i < S.n
      → deal_mapped_left S X.secrets X.random X.phi X.random2 i buffers ≡ record { g = T.g i; h = T.h i; g2 = T.g2 i; h2 = T.h2 i }
  pub one_map : (i : ℕ) → i < S.n → T.phi i ≡ X.phi
  pub received : (i : ℕ) → i < S.n → length (T.values i) ≡ S.n
  pub received2 : (i : ℕ) → i < S.n → length (T.values2 i) ≡ S.n
  pub arrived : (i j : ℕ) → i < S.n → j < S.n → pair_value_call S (T.g j) i ≡ given (at (T.values i) j ∷ [])
  pub arrived2 : (i j : ℕ) → i < S.n → j < S.n → pair_value_call S (T.g2 j) i ≡ given (at (T.values2 i) j ∷ [])
  pub heard : (i : ℕ) → i < S.n → length (T.verdicts i) ≡ S.n
  pub said : (i j : ℕ) → i < S.n → j < S.n
      → at (T.verdicts i) j ≡ at (judge_mapped_call S (T.h j) (T.values j) (T.phi j) (T.h2 j) (T.values2 j)).values 0
  pub lent : List ℕ
  pub lent2 : List ℕ
  pub room : length lent ≡ S.l
  pub room2 : length lent2 ≡ S.l
  pub share : (i : ℕ) → i < S.n → outcome_left S (T.g i) (T.verdicts i) lent ≡ T.shares i
  pub share2 : (i : ℕ) → i < S.n → outcome_left S (T.g2 i) (T.verdicts i) lent2 ≡ T.shares2 i

-- the second array dealt: the entries of F_φ in rows and columns below ℓ
abbrev pub array_mapped : Setup → MapInputs → Array
array_mapped S X = tab S.l (λ b. tab S.l (λ k. entry (dim S) (second_dealt S X.secrets X.random X.phi X.random2) k b))

-- the mission's "everyone accepts, and the array is the one dealt", of both dealings and for every group that determines the secrets; and the second array
-- is the map of the first
pub record HonestMappedFound (S : Setup) (X : MapInputs) (T : MappedDealing) : Type 0 where
  pub accept : (i : ℕ) → i < S.n → judge_mapped_call S (T.h i) (T.values i) (T.phi i) (T.h2 i) (T.values2 i) ≡ accepts
  pub keep : (i : ℕ) → i < S.n → KeepsMapped S T i
  -- the first dealing by itself is one of Demand.antt where all follow the rules
  pub honest : Honest S X.secrets X.random (first_dealing T)
  pub array : (group : ℕ) → determines_call S group ≡ yes → ExactlyOne S group (first_dealing T) (array_dealt S X.secrets X.random)
  pub array2 : (group : ℕ) → determines_call S group ≡ yes → ExactlyOne S group (second_dealing T) (array_mapped S X)
  pub tied : (b : ℕ) → b < S.l → column (array_mapped S X) b ≡ image S X.phi (column (array_dealt S X.secrets X.random) b)

abbrev pub arrays_dealt : Setup → {I K : Type 0} → (secrets random : I → List ℕ) → (K → MapInputs) → Which I K → Array
arrays_dealt S secrets random X (plain t) = array_dealt S (secrets t) (random t)
arrays_dealt S secrets random X (first t) = array_dealt S (X t).secrets (X t).random
arrays_dealt S secrets random X (second t) = array_mapped S (X t)

-- Any family of such dealings, plain and with a map, on one setup: every group that determines the secrets has done what Demand3WithMaps asks, the arrays
-- found are those dealt, and so every combination that members of the group open gives that combination of the arrays dealt, in every round.
pub record MapFamilyFound (S : Setup) {I K J : Type 0} (secrets random : I → List ℕ) (D : I → Dealing) (X : K → MapInputs) (T : K → MappedDealing) (Z : J → Dealing) : Type 0 where
  pub done : (group : ℕ) → determines_call S group ≡ yes → DoneWithMaps S group D (λ t. (X t).phi) T
  pub arrays : (group : ℕ) → determines_call S group ≡ yes
      → (F : Found S group (together D T) Z) (c : Which I K) → F.array c ≡ arrays_dealt S secrets random X c
  pub opens : (group : ℕ) → determines_call S group ≡ yes → DoneZero S group Z → (A : Applied S group (together D T) Z)
      → (ts : Terms (Which I K)) (openers : ℕ) (handed rounds out : List ℕ) → Handed S group A.slip ts openers handed rounds → length out ≡ S.l
      → ((i : ℕ) → Member S openers i → Member S group i) → Level S A.slip ts openers
      → Opens S openers handed rounds out (secrets_over S (arrays_dealt S secrets random X) ts)

-- DEMAND 3 WITH MAPS
pub record Demand3WithMaps : Type 1 where
  -- demand 3 with maps itself in every round, whatever the dealers and all others sent
  pub found : (S : Setup) (group : ℕ) {I K J : Type 0} (D : I → Dealing) (phi : K → List ℕ) (T : K → MappedDealing) (Z : J → Dealing)
      → DoneWithMaps S group D phi T → DoneZero S group Z → FoundWithMaps S group D phi T Z
  -- all of them together are a family of which demand 3 speaks, and so there are the slips to which zero dealings lead (`applied` of Demand3)
  pub joined : (S : Setup) (group : ℕ) {I K : Type 0} (D : I → Dealing) (phi : K → List ℕ) (T : K → MappedDealing)
      → DoneWithMaps S group D phi T → Done S group (together D T)
  -- `found` speaks of every list within the limits whose columns stand at one round for each opener of the group: whatever the others hand in, there are
  -- lists handed in
  pub met : (S : Setup) (group : ℕ) {I K J : Type 0} (D : I → Dealing) (phi : K → List ℕ) (T : K → MappedDealing) (Z : J → Dealing)
      → DoneWithMaps S group D phi T → DoneZero S group Z → (A : Applied S group (together D T) Z)
      → (ts : Terms (Which I K)) → InLimits S ts → (openers : ℕ) → openers < 2 ^ S.n → Present S group openers
      → ((i : ℕ) → Member S openers i → Member S group i → AtOneRound A.slip ts i) → (others : ℕ → Slip)
      → let slip = hands_in S group A.slip ts others in Handed S group A.slip ts openers (values_by S openers slip) (rounds_by S openers slip)
  -- Demand 3 without maps is an instance: it asks what is asked here of no dealing with a map, and what is found for all dealings is found for the plain ones
  pub without : (S : Setup) (group : ℕ) {I : Type 0} (D : I → Dealing) → Done S group D → DoneWithMaps S group {K = ⊥} D (λ t. absurd t) (λ t. absurd t)
  pub plain-ones : (S : Setup) (group : ℕ) {I K J : Type 0} (D : I → Dealing) (T : K → MappedDealing) (Z : J → Dealing)
      → Found S group (together D T) Z → Found S group D Z
  -- where all follow the rules and every message arrives: one dealing with a map, and any family of dealings
  pub honest : (S : Setup) (X : MapInputs) (T : MappedDealing) → HonestMapped S X T → HonestMappedFound S X T
  pub families : (S : Setup) {I K J : Type 0} (secrets random : I → List ℕ) (D : I → Dealing) (X : K → MapInputs) (T : K → MappedDealing) (Z : J → Dealing)
      → ((t : I) → Honest S (secrets t) (random t) (D t)) → ((t : K) → HonestMapped S (X t) (T t)) → MapFamilyFound S secrets random D X T Z
