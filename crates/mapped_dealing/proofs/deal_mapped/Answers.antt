-- Where nothing is refused, the arrays hold F and F_φ, and the holder's two parts of each are written whole.
use mathlib.Core.Path.{refl, sym, ap, ◌∙◌}
use native.Mathlib.Omega.{arith}
use lib.Dec.{leb}
use Rattle.base.specs.Rules.{or_when}
use Rattle.scheme.specs.Setup.{setup_of}
use Rattle.scheme.specs.Calls.{buffers}
use Rattle.scheme.proofs.Calls.{deal_mapped-ok}
use Rattle.dealing.proofs.Parts.{dealt-room, dealt-array, held-g, held-h}
use Rattle.mapped_dealing.proofs.Parts.{same-buffers, mapped-room, mapped-array}
use Rattle.mapped_dealing.proofs.deal_mapped.Goals as goal

pub fill_dealt-requires : goal.fill_dealt-requires
fill_dealt-requires c =
    let x = c.args in
    let S = setup_of x.s x.matrix.now in
    let B = buffers x.g.now x.h.now x.g2.now x.h2.now in
    let lent = rw c.dim-d.ensures.0 at c.in_ok-check_mapped.ensures in
    let z = ap (λ k. or_when k 5 (leb x.s.n x.holder)) (sym lent) ∙ sym c.in_ok-refuse_if.ensures in
    let ok = deal_mapped-ok S x.secrets.now x.random.now x.phi.now x.random2.now B x.holder z in
    dealt-room S _ _ _ ok.0.first refl

pub fill_mapped-requires : goal.fill_mapped-requires
fill_mapped-requires c =
    let x = c.args in
    let S = setup_of x.s x.matrix.now in
    let B = buffers x.g.now x.h.now x.g2.now x.h2.now in
    let lent = rw c.dim-d.ensures.0 at c.in_ok-check_mapped.ensures in
    let z = ap (λ k. or_when k 5 (leb x.s.n x.holder)) (sym lent) ∙ sym c.in_ok-refuse_if.ensures in
    let ok = deal_mapped-ok S x.secrets.now x.random.now x.phi.now x.random2.now B x.holder z in
    mapped-room S _ _ _ _ _ _ ok.0 (dealt-array S _ _ _ ok.0.first c.fill_dealt.ensures).long refl

pub write_part-requires : goal.write_part-requires
write_part-requires c =
    let x = c.args in
    let S = setup_of x.s x.matrix.now in
    let B = buffers x.g.now x.h.now x.g2.now x.h2.now in
    let lent = rw c.dim-d.ensures.0 at c.in_ok-check_mapped.ensures in
    let z = ap (λ k. or_when k 5 (leb x.s.n x.holder)) (sym lent) ∙ sym c.in_ok-refuse_if.ensures in
    let ok = deal_mapped-ok S x.secrets.now x.random.now x.phi.now x.random2.now B x.holder z in
    record { setup = ok.0.first.setup; square = (dealt-array S _ _ _ ok.0.first c.fill_dealt.ensures).long; one = ok.2; fits = (ok.1.g, ok.1.h) }

pub write_part-requires-2 : goal.write_part-requires-2
write_part-requires-2 c =
    let x = c.args in
    let S = setup_of x.s x.matrix.now in
    let B = buffers x.g.now x.h.now x.g2.now x.h2.now in
    let lent = rw c.dim-d.ensures.0 at c.in_ok-check_mapped.ensures in
    let z = ap (λ k. or_when k 5 (leb x.s.n x.holder)) (sym lent) ∙ sym c.in_ok-refuse_if.ensures in
    let ok = deal_mapped-ok S x.secrets.now x.random.now x.phi.now x.random2.now B x.holder z in
    let F = dealt-array S _ _ _ ok.0.first c.fill_dealt.ensures in
    let F2 = mapped-array S _ _ _ _ _ _ _ ok.0 F c.fill_mapped.ensures in
    record { setup = ok.0.first.setup; square = omega (arith, F.long, F2.long); one = ok.2; fits = (ok.1.g2, ok.1.h2) }

pub returns : goal.returns
returns c =
    let x = c.args in
    let S = setup_of x.s x.matrix.now in
    let B = buffers x.g.now x.h.now x.g2.now x.h2.now in
    let lent = rw c.dim-d.ensures.0 at c.in_ok-check_mapped.ensures in
    let z = ap (λ k. or_when k 5 (leb x.s.n x.holder)) (sym lent) ∙ sym c.in_ok-refuse_if.ensures in
    let ok = deal_mapped-ok S x.secrets.now x.random.now x.phi.now x.random2.now B x.holder z in
    let F = dealt-array S _ _ _ ok.0.first c.fill_dealt.ensures in
    let F2 = mapped-array S _ _ _ _ _ _ _ ok.0 F c.fill_mapped.ensures in
    let W = c.write_part.ensures in
    let W2 = c.write_part-2.ensures in record {
      result_value = rw z refl;
      h2_after = rw z (same-buffers
          (W.g_after ∙ held-g S _ _ F x.holder)
          (W.h_after ∙ held-h S _ _ F x.holder)
          (W2.g_after ∙ held-g S _ _ F2 x.holder)
          (W2.h_after ∙ held-h S _ _ F2 x.holder));
    }
