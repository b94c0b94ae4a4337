-- The first j entries of every lane are written.
use Prim.Native.Nat.{◌*◌}
use mathlib.Core.Path.{◌≡◌, refl, ◌∙◌}
use native.Mathlib.Omega.{arith}
use Rattle.base.proofs.Rows.{put-outside, begun-put, begun_all}
use Rattle.field.specs.Dot.{dot, along}
use Rattle.parts.specs.Inner.{lane, lane_entry}
use Rattle.parts.proofs.Parts.{reduced}
use Rattle.parts.proofs.write_eight.Goals as goal

pub loop-j-preserved : goal.loop-j-preserved
unfolding lane_entry
loop-j-preserved c =
    let l = c.loop-j in
    let w = c.put.ensures in
    let x = c.args in (
      begun-put _ _ _ _ l.j _ _ _ _ (omega arith) refl l.invariant.0 w
          (λ t m. reduced x.p (λ t. dot x.d (lane x.columns.now 0 8 t) (along x.f.now (l.j * x.apart) x.step)) _ _ c.products-sums.ensures c.residues8.ensures t (omega (arith, c.requires.few.1))),
      λ k h. put-outside _ _ _ _ _ _ l.j _ (omega arith) refl w k h ∙ l.invariant.1 k h,
    )

pub returns : goal.returns
returns c =
    let l = c.loop-j in
    let e : l.j ≡ c.args.d = omega arith in
    begun_all _ _ _ _ _ _ l.auto.out c.requires.fits (rw e at l.invariant.0) l.invariant.1
