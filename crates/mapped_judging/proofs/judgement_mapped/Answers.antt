-- The lowest value that differs in either dealing decides, and where none does the map, whose check does not look at the matrix.
use mathlib.Core.Path.{sym, ◌∙◌}
use mathlib.Core.Bool.{true, false}
use native.Mathlib.Omega.{arith}
use Rattle.scheme.specs.Setup.{setup_of}
use Rattle.scheme.specs.Dealing.{image_at, map_holds}
use Rattle.scheme.proofs.Calls.{judge-accepts, judge_mapped-ok, limits-pos}
use Rattle.mapped_judging.proofs.Ends.{named-at, map-decides}
use Rattle.mapped_judging.proofs.judgement_mapped.Goals as goal

pub lowest_in_either-j-requires : goal.lowest_in_either-j-requires
lowest_in_either-j-requires c =
    let x = c.args in
    let S = setup_of x.s x.matrix.now in
    let ok = judge_mapped-ok S x.h.now x.values.now x.phi.now x.h2.now x.values2.now c.requires in
    (judge-accepts S x.h.now x.values.now ok.first, judge-accepts S x.h2.now x.values2.now ok.second)

pub returns-then-j-n : goal.returns-then-j-n
returns-then-j-n c = named-at _ _ _ _ _ _ _ c.lowest_in_either-j.ensures c.if-j-n.true

pub map_holds-requires : goal.map_holds-requires
map_holds-requires c =
    let x = c.args in
    let S = setup_of x.s x.matrix.now in
    let ok = judge_mapped-ok S x.h.now x.values.now x.phi.now x.h2.now x.values2.now c.requires in
    (limits-pos S ok.first.setup.limits, omega (arith, ok.map.size), omega (arith, ok.first.part.size), omega (arith, ok.second.part.size))

pub returns-then-map_holds : goal.returns-then-map_holds
unfolding image_at map_holds
returns-then-map_holds c =
    let j = c.lowest_in_either-j.ensures in
    map-decides _ _ _ _ _ _ _ j c.if-j-n.false true (sym c.if-map_holds.true ∙ c.map_holds.ensures)

pub returns : goal.returns
unfolding image_at map_holds
returns c =
    let j = c.lowest_in_either-j.ensures in
    map-decides _ _ _ _ _ _ _ j c.if-j-n.false false (sym c.if-map_holds.false ∙ c.map_holds.ensures)
