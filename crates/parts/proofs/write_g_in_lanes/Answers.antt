-- The first b entries are written; each is lane b of the rows of F times row i.
use Prim.Native.Nat.{◌+◌, ◌*◌}
use mathlib.Core.Path.{refl, ap, ◌∙◌}
use native.Mathlib.Omega.{arith}
use borrow.Author.Rules.{rules}
use Rattle.base.specs.Fill.{laid}
use Rattle.base.proofs.Fill.{laid_none, laid-parts}
use Rattle.base.proofs.Rows.{put-laid}
use Rattle.field.specs.Dot.{dot, along}
use Rattle.parts.specs.Inner.{entry_g, lane}
use Rattle.parts.proofs.Parts.{lane-of-g, reduced}
use Rattle.parts.proofs.write_g_in_lanes.Goals as goal

pub loop-b-init : goal.loop-b-init
loop-b-init c = (search rules, λ l. refl, laid_none _ _ _)

pub loop-b-preserved : goal.loop-b-preserved
loop-b-preserved c =
    let x = c.args in
    let l = c.loop-b in
    let e = entry_g x.p x.d x.matrix.now x.f.now x.i in
    let u = c.put.ensures in (
      omega arith,
      λ m. omega (arith, l.invariant.1 (omega arith)),
      put-laid (λ t. e (l.b + t)) _ _ _ _ _ (omega (arith, c.requires.part_room.0.fits, l.auto.out)) u
          (λ t m.
          reduced x.p (λ t. dot x.d (lane x.f.now l.b x.d t) (along x.matrix.now (x.i * x.d) 1)) _ _ c.products-sums.ensures
          c.residues8.ensures t (omega arith)
          ∙ lane-of-g x.p x.d x.matrix.now x.f.now x.i l.b t)
          ∙ ap (laid (λ t. e (l.b + t)) _ _) l.invariant.2
          ∙ laid-parts e (λ t. e (l.b + t)) x.at l.b _ _ (λ j m. refl),
    )
