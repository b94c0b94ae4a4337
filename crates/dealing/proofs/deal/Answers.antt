-- Where nothing is refused, the array holds F, and the holder's two parts are written whole.
use mathlib.Core.Path.{refl, sym, ◌∙◌}
use Rattle.scheme.specs.Setup.{setup_of}
use Rattle.scheme.proofs.Calls.{deal-ok}
use Rattle.dealing.proofs.Parts.{dealt-room, dealt-array, held-g, held-h}
use Rattle.dealing.proofs.deal.Goals as goal

pub fill_dealt-requires : goal.fill_dealt-requires
fill_dealt-requires c =
    let x = c.args in
    let S = setup_of x.s x.matrix.now in
    let z = sym c.in_ok-check_deal.ensures in
    let ok = deal-ok S x.secrets.now x.random.now x.holder x.g.now x.h.now z in
    dealt-room S _ _ _ ok.0 refl

pub write_part-requires : goal.write_part-requires
write_part-requires c =
    let x = c.args in
    let S = setup_of x.s x.matrix.now in
    let z = sym c.in_ok-check_deal.ensures in
    let ok = deal-ok S x.secrets.now x.random.now x.holder x.g.now x.h.now z in
    record { setup = ok.0.setup; square = (dealt-array S _ _ _ ok.0 c.fill_dealt.ensures).long; one = ok.3; fits = (ok.1, ok.2) }

pub returns-clause-g_after : goal.returns-clause-g_after
returns-clause-g_after c =
    let x = c.args in
    let S = setup_of x.s x.matrix.now in
    let z = sym c.in_ok-check_deal.ensures in
    let ok = deal-ok S x.secrets.now x.random.now x.holder x.g.now x.h.now z in
    let F = dealt-array S _ _ _ ok.0 c.fill_dealt.ensures in
    rw z (c.write_part.ensures.g_after ∙ held-g S _ _ F x.holder)

pub returns-clause-h_after : goal.returns-clause-h_after
returns-clause-h_after c =
    let x = c.args in
    let S = setup_of x.s x.matrix.now in
    let z = sym c.in_ok-check_deal.ensures in
    let ok = deal-ok S x.secrets.now x.random.now x.holder x.g.now x.h.now z in
    let F = dealt-array S _ _ _ ok.0 c.fill_dealt.ensures in
    rw z (c.write_part.ensures.h_after ∙ held-h S _ _ F x.holder)
