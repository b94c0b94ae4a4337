-- What holds of corrections and signed constants (document 02, A10), in every round (A8), over the calls' own definitions; proofs/ proves it. Quoted lines are
-- document 02's.
-- SignedTerms: a list with signed constants; held: the same list with the constants' residues
-- SignedInLimits, SignedHanded: what demand 3 asks of a list and of what is handed in
-- exact: the sum of constants times corrections, as integers
-- OpensExactly: the opening gives that sum at every position where it lies within the range
-- SignedRefused: the opening is refused
-- SignedFound: demand 3 for signed combinations
-- dealt_exactly, SignedHonest: where all follow the rules
-- DoorTimings: all of it
use Rattle.std.specs.Prelude.{◌≡◌, true, false, List, [], ◌∷◌, ◌⊎◌, ℕ, ◌+◌, ◌-◌, ◌*◌, ◌^◌, ◌≤◌, ◌<◌, ℤ, pos, ◌*ℤ◌, length}
use Rattle.base.specs.Rules.{refused, given}
use Rattle.base.specs.Search.{Vec}
use Rattle.base.specs.Fill.{tab}
use Rattle.field.specs.Dot.{at}
use Rattle.scheme.specs.Setup.{Setup, dim, IsSetup}
use Rattle.scheme.specs.Answers.{yes, inconsistent}
use Rattle.scheme.specs.Sets.{holds, members}
use Rattle.scheme.specs.Opening.{agree}
use Rattle.scheme.specs.Calls.{determines_call}
use Rattle.signed.specs.Integers.{integer_at, total}
use Rattle.signed.specs.Corrections.{in_range, all_in_range, residue, residues, correction}
use Rattle.signed.specs.Calls.{combine_signed_call, open_signed_call, open_signed_left}
use Rattle.demand.specs.Demand.{Dealing, Member, Done, DoneZero, Slip, Slips, Applied, Terms, shares_over, rounds_over, slip_over, Present, AtOneRound, Level, hands_in, values_by, rounds_by, Array, column, ExactlyOne, Honest}

-- LISTS AND WHAT IS HANDED IN
-- "Constants are signed in the same way"
pub record SignedTerms (I : Type 0) : Type 0 where
  pub count : ℕ
  pub constant : ℕ → ℤ
  pub dealing : ℕ → I
  pub column : ℕ → ℕ

abbrev pub held : {I : Type 0} → SignedTerms I → Terms I
held ts = record { count = ts.count; constant = λ t. residue (ts.constant t); dealing = ts.dealing; column = ts.column }

abbrev pub signed_constants : {I : Type 0} → SignedTerms I → List ℤ
signed_constants ts = tab ts.count ts.constant

-- one column by itself
abbrev pub one_column : {I : Type 0} → I → ℕ → SignedTerms I
one_column t b = record { count = 1; constant = λ _. pos 1; dealing = λ _. t; column = λ _. b }

-- as InLimits of demand 3, with constants in the range
pub record SignedInLimits (S : Setup) {I : Type 0} (ts : SignedTerms I) : Type 0 where
  pub few : ts.count ≤ 64
  pub columns : (t : ℕ) → t < ts.count → ts.column t < S.l
  pub constants : (t : ℕ) → t < ts.count → in_range (ts.constant t) ≡ true

-- as Handed of demand 3, the members combining with the signed constants: "Under the mission's conditions and A8's on rounds"
pub record SignedHanded (S : Setup) (group : ℕ) {I : Type 0} (slip : Slips I) (ts : SignedTerms I) (openers : ℕ) (handed rounds : List ℕ) : Type 0 where
  pub limits : SignedInLimits S ts
  pub below : openers < 2 ^ S.n
  pub count : length handed ≡ length (members S.n (holds openers))
  pub count-rounds : length rounds ≡ length (members S.n (holds openers))
  pub by-rule : (a : ℕ) → a < length (members S.n (holds openers)) → holds group (at (members S.n (holds openers)) a) ≡ true
      → let i = at (members S.n (holds openers)) a in
      combine_signed_call S.p (signed_constants ts) (shares_over slip (held ts) i) (rounds_over slip (held ts) i) ≡ given (at handed a ∷ at rounds a ∷ [])
  pub present : Present S group openers

-- WHAT IS FOUND
-- "the exact sum": at position k, of each constant times the correction that the array of its dealing holds there in its column
abbrev pub exact : {I : Type 0} → (I → Array) → SignedTerms I → ℕ → ℤ
exact array ts k = total ts.count (λ t. ts.constant t *ℤ correction (at (column (array (ts.dealing t)) (ts.column t)) k))

-- "an opened combination equals the exact sum whenever that sum lies within the range; outside it nothing is claimed"
pub record OpensExactly (S : Setup) (openers : ℕ) (handed rounds : List ℕ) (out : List ℤ) (sum : ℕ → ℤ) : Type 0 where
  pub answer : open_signed_call S openers handed rounds out ≡ given []
  pub size : length (open_signed_left S openers handed rounds out) ≡ S.l
  pub equals : (k : ℕ) → k < S.l → in_range (sum k) ≡ true → integer_at (open_signed_left S openers handed rounds out) k ≡ sum k

-- refused, and the lent corrections stay: 4, a share handed in is no field element; 19, the rounds handed in differ; 7, no vector gives all the shares
pub data SignedRefused (S : Setup) (openers : ℕ) (handed rounds : List ℕ) (out : List ℤ) : Type 0 where
  by-four : open_signed_call S openers handed rounds out ≡ refused 4 → open_signed_left S openers handed rounds out ≡ out → SignedRefused S openers handed rounds out
  by-nineteen : agree rounds ≡ false → open_signed_call S openers handed rounds out ≡ refused 19 → open_signed_left S openers handed rounds out ≡ out
      → SignedRefused S openers handed rounds out
  by-seven : open_signed_call S openers handed rounds out ≡ inconsistent → open_signed_left S openers handed rounds out ≡ out
      → SignedRefused S openers handed rounds out

-- The arrays are those of demand 3. Whatever the members have applied, A, every opening gives the exact sums or is refused, and never where all openers are
-- members of the group whose shares stand at one round.
pub record SignedFound (S : Setup) (group : ℕ) {I J : Type 0} (D : I → Dealing) (Z : J → Dealing) : Type 0 where
  pub array : I → Array
  pub one : (t : I) → ExactlyOne S group (D t) (array t)
  pub opens : (A : Applied S group D Z) (ts : SignedTerms I) (openers : ℕ) (handed rounds : List ℕ) (out : List ℤ)
      → SignedHanded S group A.slip ts openers handed rounds → length out ≡ S.l
      → OpensExactly S openers handed rounds out (exact array ts) ⊎ SignedRefused S openers handed rounds out
  pub never-refused : (A : Applied S group D Z) (ts : SignedTerms I) (openers : ℕ) (handed rounds : List ℕ) (out : List ℤ)
      → SignedHanded S group A.slip ts openers handed rounds → length out ≡ S.l
      → ((i : ℕ) → Member S openers i → Member S group i) → Level S A.slip (held ts) openers
      → OpensExactly S openers handed rounds out (exact array ts)
  -- where one of them lags behind another, it is 19
  pub lagging : (A : Applied S group D Z) (ts : SignedTerms I) (openers : ℕ) (handed rounds : List ℕ) (out : List ℤ)
      → SignedHanded S group A.slip ts openers handed rounds → length out ≡ S.l
      → ((i : ℕ) → Member S openers i → Member S group i)
      → (t i k : ℕ) → t < ts.count → Member S openers i → Member S openers k
      → ((slip_over A.slip (held ts) i t).round ≡ (slip_over A.slip (held ts) k t).round → ⊥)
      → (open_signed_call S openers handed rounds out ≡ refused 19) × (open_signed_left S openers handed rounds out ≡ out)
  -- one column by itself: its corrections, which lie within the range
  pub one-column : (t : I) (b k : ℕ) → b < S.l → k < S.l
      → (exact array (one_column t b) k ≡ correction (at (column (array t) b) k)) × (in_range (correction (at (column (array t) b) k)) ≡ true)

-- WHERE ALL FOLLOW THE RULES: each dealing's secrets are corrections that were held, position k of column b at b * ℓ + k; the sums are those of the corrections
-- dealt
abbrev pub dealt_exactly : Setup → {I : Type 0} → (I → List ℤ) → SignedTerms I → ℕ → ℤ
dealt_exactly S zs ts k = total ts.count (λ t. ts.constant t *ℤ integer_at (zs (ts.dealing t)) (ts.column t * S.l + k))

pub record SignedHonest (S : Setup) {I J : Type 0} (zs : I → List ℤ) (D : I → Dealing) (Z : J → Dealing) : Type 0 where
  pub done : (group : ℕ) → determines_call S group ≡ yes → Done S group D
  pub opens : (group : ℕ) → determines_call S group ≡ yes → DoneZero S group Z → (A : Applied S group D Z)
      → (ts : SignedTerms I) (openers : ℕ) (handed rounds : List ℕ) (out : List ℤ)
      → SignedHanded S group A.slip ts openers handed rounds → length out ≡ S.l
      → ((i : ℕ) → Member S openers i → Member S group i) → Level S A.slip (held ts) openers
      → OpensExactly S openers handed rounds out (dealt_exactly S zs ts)
  -- and so every column dealt comes back
  pub back : (group : ℕ) → determines_call S group ≡ yes → DoneZero S group Z → (A : Applied S group D Z)
      → (t : I) (b openers : ℕ) (handed rounds : List ℕ) (out : List ℤ)
      → SignedHanded S group A.slip (one_column t b) openers handed rounds → length out ≡ S.l
      → ((i : ℕ) → Member S openers i → Member S group i) → Level S A.slip (held (one_column t b)) openers
      → open_signed_left S openers handed rounds out ≡ tab S.l (λ k. integer_at (zs t) (b * S.l + k))

pub record DoorTimings : Type 1 where
  pub found : (S : Setup) (group : ℕ) {I J : Type 0} (D : I → Dealing) (Z : J → Dealing) → S.p ≡ 65521 → Done S group D → DoneZero S group Z
      → SignedFound S group D Z
  -- `found` speaks of every list within the limits whose columns stand at one round for each opener of the group: whatever the others hand in, there are lists
  -- handed in
  pub met : (S : Setup) (group : ℕ) {I J : Type 0} (D : I → Dealing) (Z : J → Dealing) → S.p ≡ 65521 → Done S group D → DoneZero S group Z
      → (A : Applied S group D Z) (ts : SignedTerms I) → SignedInLimits S ts → (openers : ℕ) → openers < 2 ^ S.n → Present S group openers
      → ((i : ℕ) → Member S openers i → Member S group i → AtOneRound A.slip (held ts) i) → (others : ℕ → Slip)
      → let slip = hands_in S group A.slip (held ts) others in SignedHanded S group A.slip ts openers (values_by S openers slip) (rounds_by S openers slip)
  pub honest : (S : Setup) {I J : Type 0} (zs : I → List ℤ) (random : I → List ℕ) (D : I → Dealing) (Z : J → Dealing) → S.p ≡ 65521
      → ((t : I) → all_in_range (zs t) ≡ true) → ((t : I) → Honest S (residues (zs t)) (random t) (D t)) → SignedHonest S zs D Z
  -- there is such a run for every list of ℓ · ℓ corrections and all random entries
  pub run : (S : Setup) (zs : List ℤ) (random : List ℕ) → IsSetup S → S.p ≡ 65521 → length zs ≡ S.l * S.l → Vec 65521 (dim S * dim S - S.l * S.l) random
      → (D : Dealing) × Honest S (residues zs) random D
