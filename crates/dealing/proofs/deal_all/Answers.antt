-- Where nothing is refused, the array holds F, and every holder's two parts are written.
use mathlib.Core.Path.{refl, sym, ◌∙◌}
use Rattle.scheme.specs.Setup.{setup_of}
use Rattle.scheme.proofs.Calls.{deal_all-ok}
use Rattle.dealing.proofs.Parts.{dealt-room, dealt-array, all-g, all-h, all_room}
use Rattle.dealing.proofs.deal_all.Goals as goal

pub fill_dealt-requires : goal.fill_dealt-requires
fill_dealt-requires c =
    let x = c.args in
    let S = setup_of x.s x.matrix.now in
    let z = sym c.in_ok-check_deal_all.ensures in
    let ok = deal_all-ok S x.secrets.now x.random.now x.gs.now x.hs.now z in
    dealt-room S _ _ _ ok.0 refl

pub write_all-requires : goal.write_all-requires
write_all-requires c =
    let x = c.args in
    let S = setup_of x.s x.matrix.now in
    let z = sym c.in_ok-check_deal_all.ensures in
    let ok = deal_all-ok S x.secrets.now x.random.now x.gs.now x.hs.now z in
    let both = all_room S _ _ (dealt-array S _ _ _ ok.0 c.fill_dealt.ensures) ok.0.setup x.gs.now x.hs.now ok.1 ok.2 in
    record { all_room = rw c.dim-d.ensures.0 both.0; below = both.1.0; below_2 = both.1.1.0; p_value = both.1.1.1 }

pub returns-clause-gs_after : goal.returns-clause-gs_after
returns-clause-gs_after c =
    let x = c.args in
    let S = setup_of x.s x.matrix.now in
    let z = sym c.in_ok-check_deal_all.ensures in
    let ok = deal_all-ok S x.secrets.now x.random.now x.gs.now x.hs.now z in
    let F = dealt-array S _ _ _ ok.0 c.fill_dealt.ensures in
    rw z (rw c.dim-d.ensures.0 at c.write_all.ensures.gs_after ∙ all-g S _ _ F x.gs.now ok.1)

pub returns-clause-hs_after : goal.returns-clause-hs_after
returns-clause-hs_after c =
    let x = c.args in
    let S = setup_of x.s x.matrix.now in
    let z = sym c.in_ok-check_deal_all.ensures in
    let ok = deal_all-ok S x.secrets.now x.random.now x.gs.now x.hs.now z in
    let F = dealt-array S _ _ _ ok.0 c.fill_dealt.ensures in
    rw z (rw c.dim-d.ensures.0 at c.write_all.ensures.hs_after ∙ all-h S _ _ F x.hs.now ok.2)
