-- Where nothing is refused, every depot's part is written.
use mathlib.Core.Path.{refl}
use native.Mathlib.Omega.{arith}
use Rattle.board_keys.proofs.Dealing.{lent-right, answered, left-g, left-h}
use Rattle.board_keys.proofs.deal_key.Goals as goal

pub write_parts-requires : goal.write_parts-requires
write_parts-requires c =
    let bytes = c.type_inv.key in
    let x = c.args in
    let r = lent-right x.key.now x.random.now x.gs.now x.hs.now _ c.in_ok-check_deal_key.ensures refl (λ k. omega (arith, bytes k)) in record { lent = r.0; gs_len = (r.1, r.2) }

pub returns : goal.returns
returns c =
    let x = c.args in
    let key = x.key.now in
    let random = x.random.now in
    let gs = x.gs.now in
    let hs = x.hs.now in
    let is = c.in_ok-check_deal_key.ensures in
    let W = c.write_parts.ensures in record { result_value = answered key random gs hs _ is refl; gs_after = left-g key random gs hs _ is refl _ W.gs_after; hs_after = left-h key random gs hs _ is refl _ W.hs_after }
