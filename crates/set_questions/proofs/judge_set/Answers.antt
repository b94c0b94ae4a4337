-- Where nothing is refused, the buffer is cleared; a row, or else a vector, goes to its start, and where there is neither it stays clear.
-- the places, each from a later one: the start; where nothing is refused and where the buffer is cleared, from `size`; `size` and what the search for a row
-- left, from its test; `dim` from the test of the search for a vector
use Prim.Native.Nat.{ℕ, ◌<◌}
use mathlib.Core.List.{List, ◌++◌}
use mathlib.Core.Path.{◌≡◌, sym, ap, ◌∙◌}
use lib.ListN.{length, drop, replicate}
use Rattle.base.specs.Rules.{refusal}
use Rattle.scheme.specs.Setup.{Setup, setup_of}
use Rattle.scheme.specs.Calls.{judge_set_rules}
use Rattle.set_systems.specs.Inner.{SetTaken}
use Rattle.set_questions.proofs.Judge.{judge-taken, judged-row, judged-vector, judged-neither, back, buffer-judged}
use Rattle.set_questions.proofs.judge_set.Goals as goal

pub returns-then-row : goal.returns-then-row
returns-then-row c =
    let setup : Setup = setup_of c.args.s c.args.matrix.now in
    let none : refusal (judge_set_rules setup c.args.set c.args.position c.args.out.now) ≡ 0 = sym c.in_ok-check_judge_set.ensures in
    let ok : SetTaken setup c.args.set × (length c.args.out.now ≡ 32) × (c.args.position < c.args.s.l) = judge-taken setup c.args.set c.args.position c.args.out.now none in
    let zeros : c.fill.new.self ≡ replicate 32 0 = c.fill.ensures.after (λ y e. e) ∙ ap (λ n. replicate n 0) ok.1 in
    let h = ok in
    let z = none in
    let r = c.seek_row-row.ensures in
    let j = judged-row h.0 h.2 zeros c.size-k.ensures.0 r.steps (r.found c.if-row.true) in record { result_value = rw z j.0; set_buffer = buffer-judged _ _ _ _ _ _ z j.1 }

pub returns-then-seek_vector : goal.returns-then-seek_vector
returns-then-seek_vector c =
    let setup : Setup = setup_of c.args.s c.args.matrix.now in
    let none : refusal (judge_set_rules setup c.args.set c.args.position c.args.out.now) ≡ 0 = sym c.in_ok-check_judge_set.ensures in
    let ok : SetTaken setup c.args.set × (length c.args.out.now ≡ 32) × (c.args.position < c.args.s.l) = judge-taken setup c.args.set c.args.position c.args.out.now none in
    let after-row : List ℕ = c.seek_row-row.new.out ++ drop c.size-k.result c.fill.new.self in
    let zeros : c.fill.new.self ≡ replicate 32 0 = c.fill.ensures.after (λ y e. e) ∙ ap (λ n. replicate n 0) ok.1 in
    let still-zeros : after-row ≡ replicate 32 0 = back c.size-k.result c.fill.new.self _ (c.seek_row-row.ensures.none c.if-row.false).1 ∙ zeros in
    let h = ok in
    let z = none in
    let r = c.seek_row-row.ensures in
    let j = judged-vector h.0 h.2 still-zeros c.dim-d.ensures.0 r.steps (c.seek_vector.ensures.found c.if-seek_vector.true) in record { result_value = rw z j.0; set_buffer = buffer-judged _ _ _ _ _ _ z j.1 }

pub returns : goal.returns
returns c =
    let setup : Setup = setup_of c.args.s c.args.matrix.now in
    let none : refusal (judge_set_rules setup c.args.set c.args.position c.args.out.now) ≡ 0 = sym c.in_ok-check_judge_set.ensures in
    let ok : SetTaken setup c.args.set × (length c.args.out.now ≡ 32) × (c.args.position < c.args.s.l) = judge-taken setup c.args.set c.args.position c.args.out.now none in
    let after-row : List ℕ = c.seek_row-row.new.out ++ drop c.size-k.result c.fill.new.self in
    let zeros : c.fill.new.self ≡ replicate 32 0 = c.fill.ensures.after (λ y e. e) ∙ ap (λ n. replicate n 0) ok.1 in
    let still-zeros : after-row ≡ replicate 32 0 = back c.size-k.result c.fill.new.self _ (c.seek_row-row.ensures.none c.if-row.false).1 ∙ zeros in
    let h = ok in
    let z = none in
    let n = c.seek_vector.ensures.none c.if-seek_vector.false in
    let r = c.seek_row-row.ensures in
    let j = judged-neither h.0 h.2 still-zeros r.steps (r.none c.if-row.false).0 n.0 in record { result_value = rw z j.0; set_buffer = buffer-judged _ _ _ _ _ _ z (rw (back c.dim-d.result after-row _ n.1) j.1) }
