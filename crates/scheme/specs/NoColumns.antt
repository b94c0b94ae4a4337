-- Combining no shares (document 02, A1), over the calls' own definitions; proofs/NoColumns.antt proves it.
-- NoColumns: two empty lists, one empty list, and the opening of the sum of no columns
use Rattle.std.specs.Prelude.{◌≡◌, true, false, List, [], ◌∷◌, ℕ, ◌<◌, length, replicate}
use Rattle.base.specs.Rules.{refused, given}
use Rattle.field.specs.Fields.{is_field}
use Rattle.field.specs.Dot.{at}
use Rattle.scheme.specs.Setup.{Setup}
use Rattle.scheme.specs.Answers.{yes}
use Rattle.scheme.specs.Sets.{holds, members}
use Rattle.scheme.specs.Calls.{determines_call, open_call, open_left, combine_call}

pub record NoColumns : Type 0 where
  -- "Two empty lists now give the share 0, whichever holder asks": the call is not told who asks; A8's "the empty one round 0"
  pub share : (p : ℕ) → is_field p ≡ true → combine_call p [] [] [] ≡ given (0 ∷ 0 ∷ [])
  -- "One empty list beside a filled one stays refusal 3"
  pub no-constants : (p x : ℕ) (xs rs : List ℕ) → is_field p ≡ true → combine_call p [] (x ∷ xs) rs ≡ refused 3
  pub no-shares : (p c : ℕ) (cs rs : List ℕ) → is_field p ≡ true → combine_call p (c ∷ cs) [] rs ≡ refused 3
  -- and no rounds beside them
  pub no-rounds : (p r : ℕ) (rs : List ℕ) → is_field p ≡ true → combine_call p [] [] (r ∷ rs) ≡ refused 3
  -- document 01's "1: p is none of the five"
  pub no_field : (p : ℕ) → is_field p ≡ false → combine_call p [] [] [] ≡ refused 1
  -- "and opening it by a set that determines the secrets gives all zeros": every member hands in what its combination of no shares gives
  pub opens : (S : Setup) (s : ℕ) (handed rounds out : List ℕ) → determines_call S s ≡ yes → length handed ≡ length (members S.n (holds s))
      → length rounds ≡ length handed → ((a : ℕ) → a < length handed → combine_call S.p [] [] [] ≡ given (at handed a ∷ at rounds a ∷ []))
      → length out ≡ S.l → (open_call S s handed rounds out ≡ given []) × (open_left S s handed rounds out ≡ replicate S.l 0)
