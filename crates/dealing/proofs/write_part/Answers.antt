-- What is written along the rows and along the columns is the holder's h and g, whole.
use mathlib.Core.Path.{◌∙◌}
use native.Mathlib.Omega.{arith}
use Rattle.scheme.specs.Setup.{dim, setup_of}
use Rattle.parts.proofs.Parts.{lines-inside}
use Rattle.dealing.proofs.Parts.{few, one-g, one-h, lines-room}
use Rattle.dealing.proofs.write_part.Goals as goal

pub write_one-requires : goal.write_one-requires
write_one-requires c =
    let x = c.args in
    let S = setup_of x.s x.matrix.now in
    rw c.dim-d.ensures.0
    (lines-room S _ _ x.g.now x.h.now _ _ _ c.requires c.requires.fits.1 (λ j k m q. omega (arith, lines-inside (dim S) (few S c.requires.setup) j k m q)))

pub write_one-requires-2 : goal.write_one-requires-2
write_one-requires-2 c =
    let x = c.args in
    let S = setup_of x.s x.matrix.now in
    rw c.dim-d.ensures.0
    (lines-room S _ _ x.g.now x.h.now _ _ _ c.requires c.requires.fits.0 (λ j k m q. omega (arith, lines-inside (dim S) (few S c.requires.setup) j k m q)))

pub returns : goal.returns
returns c =
    let x = c.args in
    let S = setup_of x.s x.matrix.now in
    let d = c.dim-d.ensures.0 in record { g_after = rw d at c.write_one-2.ensures ∙ one-g S x.f.now x.holder x.g.now c.requires.fits.0; h_after = rw d at c.write_one.ensures ∙ one-h S x.f.now x.holder x.h.now c.requires.fits.1 }
