-- Contracts of inner functions.
-- list_rules: the rules of g, of h with k entries, and of `more` field elements behind them, under a mark, as they stand in a file; DL and DZ have none
-- behind, DF has φ
-- parts_rules: and then of the two numbers
use Rattle.std.specs.Prelude.{List, [], ◌∷◌, ◌++◌, ℕ, ◌+◌, ◌*◌}
use Rattle.base.specs.Rules.{Rule}
use Rattle.scheme.specs.Setup.{Setup, dim}
use Rattle.scheme.specs.Calls.{beyond_field}
use Rattle.record_words.specs.Words.{words_at}
use Rattle.record_layouts.specs.Records.{due, dealing_at, dealing_g, parts_h, dealing_faults}

abbrev pub list_rules : ℕ → ℕ → ℕ → Setup → List ℕ → List Rule
list_rules mark k more S s =
    due mark (6 + 2 * (dim S + k + more)) s
    ++ (beyond_field S.p (dealing_g S s) ∷ beyond_field S.p (parts_h k S s) ∷ beyond_field S.p (words_at s (3 + dim S + k) more) ∷ [])

abbrev pub parts_rules : ℕ → ℕ → ℕ → Setup → List ℕ → List Rule
parts_rules mark k more S s = list_rules mark k more S s ++ dealing_faults S (dealing_at s)
