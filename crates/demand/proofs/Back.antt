-- What an honest dealing gives opens to what was dealt, in every round and by every set that the calls say determines the secrets: demand 3's last part, read
-- through the contracts of `determines` and `open`.
-- secret_vector: secret vector b, position by position
use mathlib.Core.Path.{◌≡◌, sym, ◌∙◌}
use mathlib.Core.List.{List, []}
use Prim.Native.Nat.{ℕ, ◌<◌}
use lib.ListN.{length}
use Rattle.base.specs.Rules.{given}
use Rattle.base.specs.Fill.{tab}
use Rattle.base.specs.Matrix.{entry}
use Rattle.std.specs.Prelude.{Bool, Result}
use Rattle.base.specs.declared.Refusal.{Refusal}
use Rattle.scheme.specs.declared.NotOpened.{NotOpened}
use Rattle.scheme.specs.Setup.{Setup}
use Rattle.scheme.specs.Answers.{yes, paper_decided, paper_opened}
use Rattle.scheme.specs.Calls.{determines_call, open_call, open_left}
use Rattle.demand.specs.Demand.{Dealing, DoneZero, Applied, one_column, Level, values_by, rounds_by, Honest}
use Rattle.demand.proofs.Demand.{demand3}

abbrev pub secret_vector : Setup → List ℕ → ℕ → List ℕ
secret_vector S secrets b = tab S.l (λ k. entry S.l secrets b k)

-- `decided` is what `determines` answers, `opened` what `open` answers, and `left` what it leaves in the lent secrets. The members hand in what they have of
-- column b, however often it was refreshed.
pub dealt-comes-back : (S : Setup) (secrets random : List ℕ) (D : Dealing) → Honest S secrets random D
    → (s : ℕ) (decided : Result Bool Refusal) → paper_decided decided ≡ determines_call S s → paper_decided decided ≡ yes
    → {J : Type 0} (Z : J → Dealing) → DoneZero S s Z → (A : Applied S s (λ (t : Unit {0}). D) Z)
    → (b : ℕ) → b < S.l → Level S A.slip (one_column tt b) s → (out : List ℕ) → length out ≡ S.l
    → (opened : Result (Unit {0}) NotOpened) (left : List ℕ)
    → paper_opened opened ≡ open_call S s (values_by S s (A.slip tt b)) (rounds_by S s (A.slip tt b)) out
    → left ≡ open_left S s (values_by S s (A.slip tt b)) (rounds_by S s (A.slip tt b)) out
    → (paper_opened opened ≡ given []) × (left ≡ secret_vector S secrets b)
dealt-comes-back S secrets random D honest s decided says affirms Z done A b l level out room opened left answer buffer =
    let h = demand3.back S secrets random D honest s (sym says ∙ affirms) Z done A b l level out room in
    (answer ∙ h.answer, buffer ∙ h.buffer)
