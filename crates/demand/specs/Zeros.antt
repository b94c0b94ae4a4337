-- Zero dealings (document 02, A8: "Add the zero dealing of source document 000"; source document 000, figure 5 and lemma 8) under demand 3's conditions, and
-- where all follow the rules. Like Demand.antt it is stated over the calls' own definitions; proofs/Zeros.antt and proofs/HonestZeros.antt prove it. What a
-- zero dealing is to demand 3 (KeepsZero, DoneZero, zeros) stands in Demand.antt, as rounds need it.
-- HonestZero: all follow the rules and every message arrives; HonestZeroFound: what is then found
-- ZeroDealings: all of it
use Rattle.std.specs.Prelude.{◌≡◌, List, [], ◌∷◌, ℕ, ◌*◌, ◌<◌, length}
use Rattle.base.specs.Rules.{given}
use Rattle.base.specs.Search.{Vec}
use Rattle.field.specs.Dot.{at}
use Rattle.scheme.specs.Setup.{Setup, dim, IsSetup}
use Rattle.scheme.specs.Answers.{accepts, yes}
use Rattle.scheme.specs.Calls.{deal_zero_call, deal_zero_left_g, deal_zero_left_h, pair_value_call, judge_zero_call, outcome_left, determines_call}
use Rattle.demand.specs.Demand.{Dealing, KeepsZero, DoneZero, zeros, ExactlyOne}

-- WHERE ALL FOLLOW THE RULES: as Honest of Demand.antt, by the zero dealing's own calls, from the lent random entries
pub record HonestZero (S : Setup) (random : List ℕ) (Z : Dealing) : Type 0 where
  pub lent_g : List ℕ
  pub lent_h : List ℕ
  pub lent : List ℕ
  pub room : length lent ≡ S.l
  pub dealing : (i : ℕ) → i < S.n → deal_zero_call S random i lent_g lent_h ≡ given []
  pub part-g : (i : ℕ) → i < S.n → deal_zero_left_g S random i lent_g lent_h ≡ Z.g i
  pub part-h : (i : ℕ) → i < S.n → deal_zero_left_h S random i lent_g lent_h ≡ Z.h i
  pub received : (i : ℕ) → i < S.n → length (Z.values i) ≡ S.n
  pub arrived : (i j : ℕ) → i < S.n → j < S.n → pair_value_call S (Z.g j) i ≡ given (at (Z.values i) j ∷ [])
  pub heard : (i : ℕ) → i < S.n → length (Z.verdicts i) ≡ S.n
  pub said : (i j : ℕ) → i < S.n → j < S.n → at (Z.verdicts i) j ≡ at (judge_zero_call S (Z.h j) (Z.values j)).values 0
  pub share : (i : ℕ) → i < S.n → outcome_left S (Z.g i) (Z.verdicts i) lent ≡ Z.shares i

-- everyone accepts and keeps its shares
pub record HonestZeroFound (S : Setup) (Z : Dealing) : Type 0 where
  pub accept : (i : ℕ) → i < S.n → judge_zero_call S (Z.h i) (Z.values i) ≡ accepts
  pub keep : (i : ℕ) → i < S.n → KeepsZero S Z i

pub record ZeroDealings : Type 1 where
  -- source document 000, lemma 8: "If the dealer .. is corrupt, but no player rejects, then there exist column vectors v^1, .., v^ℓ each of which shares
  -- 0^ℓ". Of each column some vector that begins with ℓ zeros gives every member's share, and none that begins otherwise: exactly the array of zeros agrees.
  pub lemma8 : (S : Setup) (group : ℕ) {J : Type 0} (Z : J → Dealing) → DoneZero S group Z → (j : J) → ExactlyOne S group (Z j) (zeros S)
  pub honest : (S : Setup) (random : List ℕ) (Z : Dealing) → HonestZero S random Z → HonestZeroFound S Z
  -- any family of such zero dealings is one that demand 3 speaks of, for every group that determines the secrets
  pub families : (S : Setup) {J : Type 0} (random : J → List ℕ) (Z : J → Dealing) → ((j : J) → HonestZero S (random j) (Z j))
      → (group : ℕ) → determines_call S group ≡ yes → DoneZero S group Z
  -- and there is such a run for all random entries within the limits
  pub run : (S : Setup) (random : List ℕ) → IsSetup S → Vec S.p (S.e * dim S) random → (Z : Dealing) × HonestZero S random Z
