-- The rules on the one setup cannot apply; where no rule before the last does, there are as many rounds as shares, and so they stand in four columns.
use mathlib.Core.Path.{◌≡◌, sym, ap, ◌∙◌}
use mathlib.Core.Bool.{not}
use borrow.Author.Rules.{rules}
use Rattle.base.specs.Rules.{or_when, refusal}
use Rattle.board_keys.specs.Keys.{columns_agree}
use Rattle.board_keys.proofs.Opened.{key-members, open_key-first, open_key-left, open_key-sized, columns-counted}
use Rattle.board_keys.proofs.check_open_key.Goals as goal

pub returns-in_err-check_size : goal.returns-in_err-check_size
returns-in_err-check_size c = let x = c.args in rw (open_key-left x.set x.shares.now x.rounds.now x.key.now) (search rules)

pub returns-in_err-check_size-2 : goal.returns-in_err-check_size-2
returns-in_err-check_size-2 c = let x = c.args in rw (open_key-left x.set x.shares.now x.rounds.now x.key.now) (search rules)

pub returns-in_err-check_size-3 : goal.returns-in_err-check_size-3
returns-in_err-check_size-3 c = let x = c.args in rw (open_key-left x.set x.shares.now x.rounds.now x.key.now) (search rules)

pub returns-in_err-check_elements : goal.returns-in_err-check_elements
returns-in_err-check_elements c = let x = c.args in rw (open_key-left x.set x.shares.now x.rounds.now x.key.now) (search rules)

pub returns-in_err-refuse_if : goal.returns-in_err-refuse_if
returns-in_err-refuse_if c = let x = c.args in rw (open_key-left x.set x.shares.now x.rounds.now x.key.now) (search rules)

pub columns_apart-requires : goal.columns_apart-requires
columns_apart-requires c =
    let x = c.args in
    let none : refusal (open_key-first x.set x.shares.now x.rounds.now x.key.now) ≡ 0 = search rules in
    let sized = open_key-sized x.set x.shares.now x.rounds.now x.key.now none in
    let k = c.size-k.ensures in
    (rw k.0 sized.0, k.1)

pub returns : goal.returns
returns c =
    let x = c.args in
    let none : refusal (open_key-first x.set x.shares.now x.rounds.now x.key.now) ≡ 0 = search rules in
    let sized = open_key-sized x.set x.shares.now x.rounds.now x.key.now none in
    let k = c.size-k in
    c.refuse_if-2.ensures
    ∙ ap (λ b. or_when 0 19 b) (c.columns_apart.ensures ∙ ap not (columns-counted x.set x.rounds.now k.result (k.ensures.0 ∙ key-members x.set sized.1)))
    ∙ ap (λ r. or_when r 19 (not (columns_agree x.set x.rounds.now))) (sym none)
    ∙ sym (open_key-left x.set x.shares.now x.rounds.now x.key.now)
