-- The judgement of one dealing, or of a zero dealing, names a holder wherever it rejects: `reject map` is none of its answers.
use mathlib.Core.Bool.{Bool, true, false}
use mathlib.Core.List.{List}
use mathlib.Core.Path.{◌≡◌, refl}
use Prim.Native.Nat.{ℕ, zero, suc}
use lib.Dec.{ltb}
use Rattle.base.specs.Choice.{pick}
use Rattle.base.specs.Rules.{refusal, answer_by}
use Rattle.base.specs.Search.{first}
use Rattle.scheme.specs.Setup.{Setup}
use Rattle.scheme.specs.Answers.{paper_judgement}
use Rattle.scheme.specs.declared.Judgement.TheVariants.{Accept, Reject}
use Rattle.scheme.specs.Dealing.{differs, judgement_of, differs_zero, judgement_zero}
use Rattle.scheme.specs.Calls.{judge_rules, judge_call, judge_zero_rules, judge_zero_call}
use Rattle.places.specs.Places.{place, named_place}

names : (k : ℕ) (b : Bool) (j old : ℕ)
    → named_place (answer_by k (paper_judgement (pick b (Reject j) Accept))) old ≡ place 1 (answer_by k (paper_judgement (pick b (Reject j) Accept))) old
names zero true j old = refl
names zero false j old = refl
names (suc k) b j old = refl

pub judge-names : (S : Setup) (h values : List ℕ) (old : ℕ) → named_place (judge_call S h values) old ≡ place 1 (judge_call S h values) old
unfolding judgement_of
judge-names S h values old =
    let j = first (differs S h values) S.n in
    names (refusal (judge_rules S h values)) (ltb j S.n) j old

pub judge-zero-names : (S : Setup) (h values : List ℕ) (old : ℕ) → named_place (judge_zero_call S h values) old ≡ place 1 (judge_zero_call S h values) old
unfolding judgement_zero
judge-zero-names S h values old =
    let j = first (differs_zero S h values) S.n in
    names (refusal (judge_zero_rules S h values)) (ltb j S.n) j old
