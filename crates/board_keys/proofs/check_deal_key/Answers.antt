-- The rules of the table that can apply, in its order.
use native.Mathlib.Omega.{arith}
use borrow.Author.Rules.{rules}
use Rattle.board_keys.proofs.Dealing.{left-to-refuse}
use Rattle.board_keys.proofs.check_deal_key.Goals as goal

pub returns-in_err-check_size : goal.returns-in_err-check_size
returns-in_err-check_size c = let x = c.args in rw (left-to-refuse x.key.now x.random.now x.gs.now x.hs.now (λ k. omega (arith, c.type_inv.key k))) (search rules)

pub returns-in_err-check_size-2 : goal.returns-in_err-check_size-2
returns-in_err-check_size-2 c = let x = c.args in rw (left-to-refuse x.key.now x.random.now x.gs.now x.hs.now (λ k. omega (arith, c.type_inv.key k))) (search rules)

pub returns-in_err-check_size-3 : goal.returns-in_err-check_size-3
returns-in_err-check_size-3 c = let x = c.args in rw (left-to-refuse x.key.now x.random.now x.gs.now x.hs.now (λ k. omega (arith, c.type_inv.key k))) (search rules)

pub returns-in_err-check_size-4 : goal.returns-in_err-check_size-4
returns-in_err-check_size-4 c = let x = c.args in rw (left-to-refuse x.key.now x.random.now x.gs.now x.hs.now (λ k. omega (arith, c.type_inv.key k))) (search rules)

pub returns : goal.returns
returns c = let x = c.args in rw (left-to-refuse x.key.now x.random.now x.gs.now x.hs.now (λ k. omega (arith, c.type_inv.key k))) (search rules)
