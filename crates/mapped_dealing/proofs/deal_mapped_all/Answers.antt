-- Where nothing is refused, the arrays hold F and F_φ, and every holder's two parts of each are written.
use mathlib.Core.Path.{refl, sym, ◌∙◌}
use Rattle.scheme.specs.Setup.{setup_of}
use Rattle.scheme.specs.Calls.{buffers}
use Rattle.scheme.proofs.Calls.{deal_mapped_all-ok}
use Rattle.dealing.proofs.Parts.{dealt-room, dealt-array, all-g, all-h, all_room}
use Rattle.mapped_dealing.proofs.Parts.{same-buffers, mapped-room, mapped-array}
use Rattle.mapped_dealing.proofs.deal_mapped_all.Goals as goal

pub fill_dealt-requires : goal.fill_dealt-requires
fill_dealt-requires c =
    let x = c.args in
    let S = setup_of x.s x.matrix.now in
    let B = buffers x.gs.now x.hs.now x.gs2.now x.hs2.now in
    let z = sym (rw c.matrix_len-size.ensures at c.in_ok-check_mapped.ensures) in
    let ok = deal_mapped_all-ok S x.secrets.now x.random.now x.phi.now x.random2.now B z in
    dealt-room S _ _ _ ok.0.first refl

pub fill_mapped-requires : goal.fill_mapped-requires
fill_mapped-requires c =
    let x = c.args in
    let S = setup_of x.s x.matrix.now in
    let B = buffers x.gs.now x.hs.now x.gs2.now x.hs2.now in
    let z = sym (rw c.matrix_len-size.ensures at c.in_ok-check_mapped.ensures) in
    let ok = deal_mapped_all-ok S x.secrets.now x.random.now x.phi.now x.random2.now B z in
    mapped-room S _ _ _ _ _ _ ok.0 (dealt-array S _ _ _ ok.0.first c.fill_dealt.ensures).long refl

pub write_all-requires : goal.write_all-requires
write_all-requires c =
    let x = c.args in
    let S = setup_of x.s x.matrix.now in
    let B = buffers x.gs.now x.hs.now x.gs2.now x.hs2.now in
    let z = sym (rw c.matrix_len-size.ensures at c.in_ok-check_mapped.ensures) in
    let ok = deal_mapped_all-ok S x.secrets.now x.random.now x.phi.now x.random2.now B z in let both = (all_room S _ _ (dealt-array S _ _ _ ok.0.first c.fill_dealt.ensures) ok.0.first.setup x.gs.now x.hs.now ok.1.g ok.1.h) in record { all_room = rw c.dim-d.ensures.0 both.0; below = both.1.0; below_2 = both.1.1.0; p_value = both.1.1.1 }

pub write_all-requires-2 : goal.write_all-requires-2
write_all-requires-2 c =
    let x = c.args in
    let S = setup_of x.s x.matrix.now in
    let B = buffers x.gs.now x.hs.now x.gs2.now x.hs2.now in
    let z = sym (rw c.matrix_len-size.ensures at c.in_ok-check_mapped.ensures) in
    let ok = deal_mapped_all-ok S x.secrets.now x.random.now x.phi.now x.random2.now B z in
    let F = dealt-array S _ _ _ ok.0.first c.fill_dealt.ensures in let both = (all_room S _ _ (mapped-array S _ _ _ _ _ _ _ ok.0 F c.fill_mapped.ensures) ok.0.first.setup x.gs2.now x.hs2.now ok.1.g2 ok.1.h2) in record { all_room = rw c.dim-d.ensures.0 both.0; below = both.1.0; below_2 = both.1.1.0; p_value = both.1.1.1 }

pub returns : goal.returns
returns c =
    let x = c.args in
    let S = setup_of x.s x.matrix.now in
    let B = buffers x.gs.now x.hs.now x.gs2.now x.hs2.now in
    let z = sym (rw c.matrix_len-size.ensures at c.in_ok-check_mapped.ensures) in
    let ok = deal_mapped_all-ok S x.secrets.now x.random.now x.phi.now x.random2.now B z in
    let d = c.dim-d.ensures.0 in
    let F = dealt-array S _ _ _ ok.0.first c.fill_dealt.ensures in
    let F2 = mapped-array S _ _ _ _ _ _ _ ok.0 F c.fill_mapped.ensures in
    let W = c.write_all.ensures in
    let W2 = c.write_all-2.ensures in record {
      result_value = rw z refl;
      hs2_after = rw z (same-buffers
          (rw d at W.gs_after ∙ all-g S _ _ F x.gs.now ok.1.g)
          (rw d at W.hs_after ∙ all-h S _ _ F x.hs.now ok.1.h)
          (rw d at W2.gs_after ∙ all-g S _ _ F2 x.gs2.now ok.1.g2)
          (rw d at W2.hs_after ∙ all-h S _ _ F2 x.hs2.now ok.1.h2));
    }
