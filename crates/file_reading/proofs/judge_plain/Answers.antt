-- What is judged stands in SU, DL and the PV.
use Prim.Native.Nat.{ℕ, ◌+◌, ◌-◌, ◌*◌, ◌≤◌}
use mathlib.Core.List.{List, []}
use mathlib.Core.Path.{◌≡◌, sym, ap, subst, ◌∙◌}
use native.Mathlib.Omega.{arith}
use lib.ListN.{length, take, drop}
use lib.Seq.{length-take-le}
use Rattle.scheme.specs.declared.Params.{Params}
use Rattle.scheme.specs.Setup.{setup_of}
use Rattle.file_records.specs.Inner.{HoldsPart}
use Rattle.file_records.proofs.Reading.{part-is}
use Rattle.file_reading.specs.declared.Parts.{Parts}
use Rattle.file_reading.specs.Inner.{part_of, PartsIn}
use Rattle.file_reading.proofs.Judged.{few, small, at-is, setup-there, dealing-there, zero_is, plain-fair, plain-judged}
use Rattle.file_reading.proofs.judge_plain.Goals as goal

-- where DL starts

pub overflow_mul-len : goal.overflow_mul-len
overflow_mul-len c =
    let parts : Parts = c.args.parts in
    let params : Params = parts.setup in
    let file : List ℕ = c.args.file.now in
    let in_order : PartsIn file parts = c.requires.0 in
    let entries : params.n * (params.l + params.e) ≤ 512 = (small file parts in_order).entries in
    omega (arith, entries)

pub overflow_mul-at : goal.overflow_mul-at
overflow_mul-at c =
    let parts : Parts = c.args.parts in
    let params : Params = parts.setup in
    let file : List ℕ = c.args.file.now in
    let in_order : PartsIn file parts = c.requires.0 in
    let entries : params.n * (params.l + params.e) ≤ 512 = (small file parts in_order).entries in
    omega (arith, entries)

pub overflow_add-at : goal.overflow_add-at
overflow_add-at c =
    let parts : Parts = c.args.parts in
    let params : Params = parts.setup in
    let file : List ℕ = c.args.file.now in
    let in_order : PartsIn file parts = c.requires.0 in
    let entries : params.n * (params.l + params.e) ≤ 512 = (small file parts in_order).entries in
    omega (arith, entries)

pub read_matrix-matrix-requires : goal.read_matrix-matrix-requires
read_matrix-matrix-requires c =
    let file : List ℕ = c.args.file.now in
    let parts : Parts = c.args.parts in
    let in_order : PartsIn file parts = c.requires.0 in
    (small file parts in_order, setup-there file parts in_order)

pub slice_bounds-read_part-count : goal.slice_bounds-read_part-count
slice_bounds-read_part-count c =
    let parts : Parts = c.args.parts in
    let params : Params = parts.setup in
    let at : ℕ = 10 + 2 * (params.n * (params.l + params.e)) in
    let file : List ℕ = c.args.file.now in
    let in_order : PartsIn file parts = c.requires.0 in
    let inside : at ≤ length file = omega (arith, setup-there file parts in_order) in
    inside

pub slice_bounds-read_part-start : goal.slice_bounds-read_part-start
slice_bounds-read_part-start c =
    let parts : Parts = c.args.parts in
    let params : Params = parts.setup in
    let at : ℕ = 10 + 2 * (params.n * (params.l + params.e)) in
    let file : List ℕ = c.args.file.now in
    let in_order : PartsIn file parts = c.requires.0 in
    let inside : at ≤ length file = omega (arith, setup-there file parts in_order) in
    inside

pub read_part-lists-requires : goal.read_part-lists-requires
read_part-lists-requires c =
    let file : List ℕ = c.args.file.now in
    let parts : Parts = c.args.parts in
    let in_order : PartsIn file parts = c.requires.0 in
    let params : Params = parts.setup in
    let at : ℕ = 10 + 2 * (params.n * (params.l + params.e)) in
    let part_same : take (length file - at) (drop at file) ≡ part_of file = part-is file at ∙ ap (λ (k : ℕ). drop k file) (at-is file parts in_order) in
    let P = in_order in
    let p = params in (
      small file parts P,
      (small file parts P).width,
      subst (λ (t : List ℕ). 6 + 2 * (p.l + p.e + (p.l + p.e)) ≤ length t) (sym part_same)
          (dealing-there file parts P (zero_is file parts P _ c.requires.2)),
    )

pub slice_bounds-matrix-end : goal.slice_bounds-matrix-end
slice_bounds-matrix-end c =
    let parts : Parts = c.args.parts in
    let params : Params = parts.setup in
    let file : List ℕ = c.args.file.now in
    let in_order : PartsIn file parts = c.requires.0 in
    let entries : params.n * (params.l + params.e) ≤ 512 = (small file parts in_order).entries in
    omega (arith, entries, c.read_matrix-matrix.ensures.0)

pub slice_bounds-judgement-end : goal.slice_bounds-judgement-end
slice_bounds-judgement-end c =
    let parts : Parts = c.args.parts in
    let params : Params = parts.setup in
    let file : List ℕ = c.args.file.now in
    let in_order : PartsIn file parts = c.requires.0 in
    let entries : params.n * (params.l + params.e) ≤ 512 = (small file parts in_order).entries in
    sym (length-take-le _ _ (omega (arith, entries, c.read_matrix-matrix.ensures.0)))

pub slice_bounds-h-end : goal.slice_bounds-h-end
slice_bounds-h-end c =
    let file : List ℕ = c.args.file.now in
    let parts : Parts = c.args.parts in
    let in_order : PartsIn file parts = c.requires.0 in
    let params : Params = parts.setup in
    let at : ℕ = 10 + 2 * (params.n * (params.l + params.e)) in
    let part_same : take (length file - at) (drop at file) ≡ part_of file = part-is file at ∙ ap (λ (k : ℕ). drop k file) (at-is file parts in_order) in
    let lists : HoldsPart (setup_of params []) (params.l + params.e) (part_of file) c.read_part-lists.result = subst (λ (t : List ℕ). HoldsPart (setup_of params []) (params.l + params.e) t c.read_part-lists.result) part_same c.read_part-lists.ensures in
    omega (arith, (small file parts in_order).width, lists.h-size)

pub slice_bounds-judgement-end-2 : goal.slice_bounds-judgement-end-2
slice_bounds-judgement-end-2 c =
    let file : List ℕ = c.args.file.now in
    let parts : Parts = c.args.parts in
    let in_order : PartsIn file parts = c.requires.0 in
    let params : Params = parts.setup in
    let at : ℕ = 10 + 2 * (params.n * (params.l + params.e)) in
    let part_same : take (length file - at) (drop at file) ≡ part_of file = part-is file at ∙ ap (λ (k : ℕ). drop k file) (at-is file parts in_order) in
    let lists : HoldsPart (setup_of params []) (params.l + params.e) (part_of file) c.read_part-lists.result = subst (λ (t : List ℕ). HoldsPart (setup_of params []) (params.l + params.e) t c.read_part-lists.result) part_same c.read_part-lists.ensures in
    sym (length-take-le _ _ (omega (arith, (small file parts in_order).width, lists.h-size)))

pub slice_bounds-values-end : goal.slice_bounds-values-end
slice_bounds-values-end c =
    let file : List ℕ = c.args.file.now in
    let parts : Parts = c.args.parts in
    let in_order : PartsIn file parts = c.requires.0 in
    omega (arith, few file parts in_order, in_order.values-size)

pub slice_bounds-judgement-end-3 : goal.slice_bounds-judgement-end-3
slice_bounds-judgement-end-3 c =
    let file : List ℕ = c.args.file.now in
    let parts : Parts = c.args.parts in
    let in_order : PartsIn file parts = c.requires.0 in
    sym (length-take-le _ _ (omega (arith, few file parts in_order, in_order.values-size)))

pub judgement-judgement-requires : goal.judgement-judgement-requires
judgement-judgement-requires c =
    let file : List ℕ = c.args.file.now in
    let parts : Parts = c.args.parts in
    let in_order : PartsIn file parts = c.requires.0 in
    let params : Params = parts.setup in
    let at : ℕ = 10 + 2 * (params.n * (params.l + params.e)) in
    let part_same : take (length file - at) (drop at file) ≡ part_of file = part-is file at ∙ ap (λ (k : ℕ). drop k file) (at-is file parts in_order) in
    let lists : HoldsPart (setup_of params []) (params.l + params.e) (part_of file) c.read_part-lists.result = subst (λ (t : List ℕ). HoldsPart (setup_of params []) (params.l + params.e) t c.read_part-lists.result) part_same c.read_part-lists.ensures in
    plain-fair file parts in_order c.read_matrix-matrix.result c.read_matrix-matrix.ensures.1 c.read_part-lists.result lists c.requires.2

pub returns : goal.returns
returns c =
    let file : List ℕ = c.args.file.now in
    let parts : Parts = c.args.parts in
    let in_order : PartsIn file parts = c.requires.0 in
    let params : Params = parts.setup in
    let at : ℕ = 10 + 2 * (params.n * (params.l + params.e)) in
    let part_same : take (length file - at) (drop at file) ≡ part_of file = part-is file at ∙ ap (λ (k : ℕ). drop k file) (at-is file parts in_order) in
    let lists : HoldsPart (setup_of params []) (params.l + params.e) (part_of file) c.read_part-lists.result = subst (λ (t : List ℕ). HoldsPart (setup_of params []) (params.l + params.e) t c.read_part-lists.result) part_same c.read_part-lists.ensures in
    plain-judged file parts in_order c.read_matrix-matrix.result c.read_matrix-matrix.ensures.1 c.read_part-lists.result lists c.judgement-judgement.result c.requires.1 c.requires.2 c.judgement-judgement.ensures
