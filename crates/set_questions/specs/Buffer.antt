-- What the buffer of a judged set holds, by the refusal: the row, a sweeping vector or zeros, or what it held. Which sweeping vector "is still left open, and
-- only that" (document 02, A6), so that this buffer alone is stated by its properties.
use Rattle.std.specs.Prelude.{◌≡◌, List, ℕ}
use Rattle.base.specs.Rules.{Answer, refusal}
use Rattle.scheme.specs.Setup.{Setup}
use Rattle.scheme.specs.Sets.{holds}
use Rattle.scheme.specs.Calls.{judge_set_rules, JudgeSetLeft}

pub record SetBuffer (S : Setup) (s q : ℕ) (out : List ℕ) (answer : Answer) (left : List ℕ) : Type 0 where
  pub judged : refusal (judge_set_rules S s q out) ≡ 0 → JudgeSetLeft S (holds s) q answer left
  pub declined : (refusal (judge_set_rules S s q out) ≡ 0 → ⊥) → left ≡ out
