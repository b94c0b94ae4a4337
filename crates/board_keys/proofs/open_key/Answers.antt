-- Where nothing is refused, what is opened from inputs in order is the opening.
use mathlib.Core.Path.{sym}
use Rattle.board_keys.proofs.Opened.{open_key-ok}
use Rattle.board_keys.proofs.open_key.Goals as goal

pub open_in_order-requires : goal.open_in_order-requires
open_in_order-requires c =
    let x = c.args in
    let k = open_key-ok x.set x.shares.now x.rounds.now x.key.now (sym c.in_ok-check_open_key.ensures) in
    record { inside = k.inside; shares = k.shares; room = k.room }

pub returns : goal.returns
returns c =
    let z = sym c.in_ok-check_open_key.ensures in record { result_value = rw z c.open_in_order.ensures.result_value; key_after = rw z c.open_in_order.ensures.key_after }
