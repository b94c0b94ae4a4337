-- What is judged stands in SU, DL, DF, the PV and the PF.
use Prim.Native.Nat.{ℕ, ◌+◌, ◌-◌, ◌*◌, ◌≤◌}
use mathlib.Core.Bool.{false}
use mathlib.Core.List.{List, []}
use mathlib.Core.Path.{◌≡◌, sym, ap, subst, ◌∙◌}
use native.Mathlib.Omega.{arith}
use lib.ListN.{length, take, drop}
use lib.Seq.{length-take-le}
use Rattle.scheme.specs.declared.Params.{Params}
use Rattle.scheme.specs.Setup.{setup_of}
use Rattle.record_layouts.specs.Records.{mapped_size, mapped_phi}
use Rattle.file_records.specs.Inner.{HoldsPart}
use Rattle.file_records.proofs.Reading.{part-is}
use Rattle.file_reading.specs.declared.Parts.{Parts}
use Rattle.file_reading.specs.Inner.{part_of, zero_in, second_of, PartsIn}
use Rattle.file_reading.proofs.Judged.{few, small, at-is, behind-is, setup-there, fits, dealing-there, first-is, second-there, mapped-fair, mapped-judged}
use Rattle.file_reading.proofs.judge_mapped.Goals as goal

-- where DL starts, and where it ends

-- no DZ

pub overflow_mul-len : goal.overflow_mul-len
overflow_mul-len c =
    let parts : Parts = c.args.parts in
    let params : Params = parts.setup in
    let file : List ℕ = c.args.file.now in
    let in_order : PartsIn file parts = c.requires.0 in
    let entries : (params.n * (params.l + params.e) ≤ 512) × (params.l + params.e ≤ 16) × (params.l * params.l ≤ 64) = let z = small file parts in_order in (z.entries, z.width, z.map) in
    omega (arith, entries)

pub overflow_mul-at : goal.overflow_mul-at
overflow_mul-at c =
    let parts : Parts = c.args.parts in
    let params : Params = parts.setup in
    let file : List ℕ = c.args.file.now in
    let in_order : PartsIn file parts = c.requires.0 in
    let entries : (params.n * (params.l + params.e) ≤ 512) × (params.l + params.e ≤ 16) × (params.l * params.l ≤ 64) = let z = small file parts in_order in (z.entries, z.width, z.map) in
    omega (arith, entries)

pub overflow_add-at : goal.overflow_add-at
overflow_add-at c =
    let parts : Parts = c.args.parts in
    let params : Params = parts.setup in
    let file : List ℕ = c.args.file.now in
    let in_order : PartsIn file parts = c.requires.0 in
    let entries : (params.n * (params.l + params.e) ≤ 512) × (params.l + params.e ≤ 16) × (params.l * params.l ≤ 64) = let z = small file parts in_order in (z.entries, z.width, z.map) in
    omega (arith, entries)

pub overflow_add-behind : goal.overflow_add-behind
overflow_add-behind c =
    let parts : Parts = c.args.parts in
    let params : Params = parts.setup in
    let file : List ℕ = c.args.file.now in
    let in_order : PartsIn file parts = c.requires.0 in
    let entries : (params.n * (params.l + params.e) ≤ 512) × (params.l + params.e ≤ 16) × (params.l * params.l ≤ 64) = let z = small file parts in_order in (z.entries, z.width, z.map) in
    omega (arith, entries)

pub overflow_add-behind-2 : goal.overflow_add-behind-2
overflow_add-behind-2 c =
    let parts : Parts = c.args.parts in
    let params : Params = parts.setup in
    let file : List ℕ = c.args.file.now in
    let in_order : PartsIn file parts = c.requires.0 in
    let entries : (params.n * (params.l + params.e) ≤ 512) × (params.l + params.e ≤ 16) × (params.l * params.l ≤ 64) = let z = small file parts in_order in (z.entries, z.width, z.map) in
    omega (arith, entries)

pub overflow_mul-square : goal.overflow_mul-square
overflow_mul-square c =
    let parts : Parts = c.args.parts in
    let params : Params = parts.setup in
    let file : List ℕ = c.args.file.now in
    let in_order : PartsIn file parts = c.requires.0 in
    let entries : (params.n * (params.l + params.e) ≤ 512) × (params.l + params.e ≤ 16) × (params.l * params.l ≤ 64) = let z = small file parts in_order in (z.entries, z.width, z.map) in
    omega (arith, entries.2)

pub read_matrix-matrix-requires : goal.read_matrix-matrix-requires
read_matrix-matrix-requires c =
    let file : List ℕ = c.args.file.now in
    let parts : Parts = c.args.parts in
    let in_order : PartsIn file parts = c.requires.0 in
    (small file parts in_order, setup-there file parts in_order)

pub slice_bounds-read_part-count : goal.slice_bounds-read_part-count
slice_bounds-read_part-count c =
    let parts : Parts = c.args.parts in
    let params : Params = parts.setup in
    let behind : ℕ = 10 + 2 * (params.n * (params.l + params.e)) + 6 + 4 * (params.l + params.e) in
    let file : List ℕ = c.args.file.now in
    let in_order : PartsIn file parts = c.requires.0 in
    let no_zero : zero_in file ≡ false = first-is file parts in_order c.requires.1 in
    let inside : behind ≤ length file = omega (arith, behind-is file parts in_order no_zero, fits file parts in_order) in
    omega (arith, inside)

pub slice_bounds-read_part-start : goal.slice_bounds-read_part-start
slice_bounds-read_part-start c =
    let parts : Parts = c.args.parts in
    let params : Params = parts.setup in
    let behind : ℕ = 10 + 2 * (params.n * (params.l + params.e)) + 6 + 4 * (params.l + params.e) in
    let file : List ℕ = c.args.file.now in
    let in_order : PartsIn file parts = c.requires.0 in
    let no_zero : zero_in file ≡ false = first-is file parts in_order c.requires.1 in
    let inside : behind ≤ length file = omega (arith, behind-is file parts in_order no_zero, fits file parts in_order) in
    omega (arith, inside)

pub read_part-lists-requires : goal.read_part-lists-requires
read_part-lists-requires c =
    let file : List ℕ = c.args.file.now in
    let parts : Parts = c.args.parts in
    let in_order : PartsIn file parts = c.requires.0 in
    let params : Params = parts.setup in
    let at : ℕ = 10 + 2 * (params.n * (params.l + params.e)) in
    let part_same : take (length file - at) (drop at file) ≡ part_of file = part-is file at ∙ ap (λ (k : ℕ). drop k file) (at-is file parts in_order) in
    let no_zero : zero_in file ≡ false = first-is file parts in_order c.requires.1 in
    let P = in_order in
    let p = params in (
      small file parts P,
      (small file parts P).width,
      subst (λ (t : List ℕ). 6 + 2 * (p.l + p.e + (p.l + p.e)) ≤ length t) (sym part_same) (dealing-there file parts P no_zero),
    )

pub slice_bounds-read_part-count-2 : goal.slice_bounds-read_part-count-2
slice_bounds-read_part-count-2 c =
    let parts : Parts = c.args.parts in
    let params : Params = parts.setup in
    let behind : ℕ = 10 + 2 * (params.n * (params.l + params.e)) + 6 + 4 * (params.l + params.e) in
    let file : List ℕ = c.args.file.now in
    let in_order : PartsIn file parts = c.requires.0 in
    let no_zero : zero_in file ≡ false = first-is file parts in_order c.requires.1 in
    let inside : behind ≤ length file = omega (arith, behind-is file parts in_order no_zero, fits file parts in_order) in
    inside

pub slice_bounds-read_part-start-2 : goal.slice_bounds-read_part-start-2
slice_bounds-read_part-start-2 c =
    let parts : Parts = c.args.parts in
    let params : Params = parts.setup in
    let behind : ℕ = 10 + 2 * (params.n * (params.l + params.e)) + 6 + 4 * (params.l + params.e) in
    let file : List ℕ = c.args.file.now in
    let in_order : PartsIn file parts = c.requires.0 in
    let no_zero : zero_in file ≡ false = first-is file parts in_order c.requires.1 in
    let inside : behind ≤ length file = omega (arith, behind-is file parts in_order no_zero, fits file parts in_order) in
    inside

-- a DF has room for the lists of a DL

pub read_part-second-requires : goal.read_part-second-requires
read_part-second-requires c =
    let file : List ℕ = c.args.file.now in
    let parts : Parts = c.args.parts in
    let in_order : PartsIn file parts = c.requires.0 in
    let params : Params = parts.setup in
    let behind : ℕ = 10 + 2 * (params.n * (params.l + params.e)) + 6 + 4 * (params.l + params.e) in
    let no_zero : zero_in file ≡ false = first-is file parts in_order c.requires.1 in
    let second-same : take (length file - behind) (drop behind file) ≡ second_of file = part-is file behind ∙ ap (λ (k : ℕ). drop k file) (behind-is file parts in_order no_zero) in
    let whole-second : mapped_size (setup_of params []) ≤ length (take (length file - behind) (drop behind file)) = subst (λ (t : List ℕ). mapped_size (setup_of params []) ≤ length t) (sym second-same) (second-there file parts in_order c.requires.1) in
    (small file parts in_order, (small file parts in_order).width, omega (arith, whole-second))

pub slice_bounds-read_map-count : goal.slice_bounds-read_map-count
slice_bounds-read_map-count c =
    let parts : Parts = c.args.parts in
    let params : Params = parts.setup in
    let behind : ℕ = 10 + 2 * (params.n * (params.l + params.e)) + 6 + 4 * (params.l + params.e) in
    let file : List ℕ = c.args.file.now in
    let in_order : PartsIn file parts = c.requires.0 in
    let no_zero : zero_in file ≡ false = first-is file parts in_order c.requires.1 in
    let inside : behind ≤ length file = omega (arith, behind-is file parts in_order no_zero, fits file parts in_order) in
    inside

pub slice_bounds-read_map-start : goal.slice_bounds-read_map-start
slice_bounds-read_map-start c =
    let parts : Parts = c.args.parts in
    let params : Params = parts.setup in
    let behind : ℕ = 10 + 2 * (params.n * (params.l + params.e)) + 6 + 4 * (params.l + params.e) in
    let file : List ℕ = c.args.file.now in
    let in_order : PartsIn file parts = c.requires.0 in
    let no_zero : zero_in file ≡ false = first-is file parts in_order c.requires.1 in
    let inside : behind ≤ length file = omega (arith, behind-is file parts in_order no_zero, fits file parts in_order) in
    inside

pub read_map-phi-requires : goal.read_map-phi-requires
read_map-phi-requires c =
    let file : List ℕ = c.args.file.now in
    let parts : Parts = c.args.parts in
    let in_order : PartsIn file parts = c.requires.0 in
    let params : Params = parts.setup in
    let behind : ℕ = 10 + 2 * (params.n * (params.l + params.e)) + 6 + 4 * (params.l + params.e) in
    let no_zero : zero_in file ≡ false = first-is file parts in_order c.requires.1 in
    let second-same : take (length file - behind) (drop behind file) ≡ second_of file = part-is file behind ∙ ap (λ (k : ℕ). drop k file) (behind-is file parts in_order no_zero) in
    let whole-second : mapped_size (setup_of params []) ≤ length (take (length file - behind) (drop behind file)) = subst (λ (t : List ℕ). mapped_size (setup_of params []) ≤ length t) (sym second-same) (second-there file parts in_order c.requires.1) in
    (small file parts in_order, whole-second)

pub slice_bounds-matrix-end : goal.slice_bounds-matrix-end
slice_bounds-matrix-end c =
    let parts : Parts = c.args.parts in
    let params : Params = parts.setup in
    let file : List ℕ = c.args.file.now in
    let in_order : PartsIn file parts = c.requires.0 in
    let entries : (params.n * (params.l + params.e) ≤ 512) × (params.l + params.e ≤ 16) × (params.l * params.l ≤ 64) = let z = small file parts in_order in (z.entries, z.width, z.map) in
    omega (arith, entries.0, c.read_matrix-matrix.ensures.0)

pub slice_bounds-judgement_mapped-end : goal.slice_bounds-judgement_mapped-end
slice_bounds-judgement_mapped-end c =
    let parts : Parts = c.args.parts in
    let params : Params = parts.setup in
    let file : List ℕ = c.args.file.now in
    let in_order : PartsIn file parts = c.requires.0 in
    let entries : (params.n * (params.l + params.e) ≤ 512) × (params.l + params.e ≤ 16) × (params.l * params.l ≤ 64) = let z = small file parts in_order in (z.entries, z.width, z.map) in
    sym (length-take-le _ _ (omega (arith, entries.0, c.read_matrix-matrix.ensures.0)))

pub slice_bounds-h-end : goal.slice_bounds-h-end
slice_bounds-h-end c =
    let parts : Parts = c.args.parts in
    let params : Params = parts.setup in
    let file : List ℕ = c.args.file.now in
    let in_order : PartsIn file parts = c.requires.0 in
    let entries : (params.n * (params.l + params.e) ≤ 512) × (params.l + params.e ≤ 16) × (params.l * params.l ≤ 64) = let z = small file parts in_order in (z.entries, z.width, z.map) in
    let at : ℕ = 10 + 2 * (params.n * (params.l + params.e)) in
    let part_same : take (length file - at) (drop at file) ≡ part_of file = part-is file at ∙ ap (λ (k : ℕ). drop k file) (at-is file parts in_order) in
    let lists : HoldsPart (setup_of params []) (params.l + params.e) (part_of file) c.read_part-lists.result = subst (λ (t : List ℕ). HoldsPart (setup_of params []) (params.l + params.e) t c.read_part-lists.result) part_same c.read_part-lists.ensures in
    omega (arith, entries.1, lists.h-size)

pub slice_bounds-judgement_mapped-end-2 : goal.slice_bounds-judgement_mapped-end-2
slice_bounds-judgement_mapped-end-2 c =
    let parts : Parts = c.args.parts in
    let params : Params = parts.setup in
    let file : List ℕ = c.args.file.now in
    let in_order : PartsIn file parts = c.requires.0 in
    let entries : (params.n * (params.l + params.e) ≤ 512) × (params.l + params.e ≤ 16) × (params.l * params.l ≤ 64) = let z = small file parts in_order in (z.entries, z.width, z.map) in
    let at : ℕ = 10 + 2 * (params.n * (params.l + params.e)) in
    let part_same : take (length file - at) (drop at file) ≡ part_of file = part-is file at ∙ ap (λ (k : ℕ). drop k file) (at-is file parts in_order) in
    let lists : HoldsPart (setup_of params []) (params.l + params.e) (part_of file) c.read_part-lists.result = subst (λ (t : List ℕ). HoldsPart (setup_of params []) (params.l + params.e) t c.read_part-lists.result) part_same c.read_part-lists.ensures in
    sym (length-take-le _ _ (omega (arith, entries.1, lists.h-size)))

pub slice_bounds-values-end : goal.slice_bounds-values-end
slice_bounds-values-end c =
    let file : List ℕ = c.args.file.now in
    let parts : Parts = c.args.parts in
    let in_order : PartsIn file parts = c.requires.0 in
    omega (arith, few file parts in_order, in_order.values-size)

pub slice_bounds-judgement_mapped-end-3 : goal.slice_bounds-judgement_mapped-end-3
slice_bounds-judgement_mapped-end-3 c =
    let file : List ℕ = c.args.file.now in
    let parts : Parts = c.args.parts in
    let in_order : PartsIn file parts = c.requires.0 in
    sym (length-take-le _ _ (omega (arith, few file parts in_order, in_order.values-size)))

pub slice_bounds-phi-end : goal.slice_bounds-phi-end
slice_bounds-phi-end c =
    let parts : Parts = c.args.parts in
    let params : Params = parts.setup in
    let file : List ℕ = c.args.file.now in
    let in_order : PartsIn file parts = c.requires.0 in
    let entries : (params.n * (params.l + params.e) ≤ 512) × (params.l + params.e ≤ 16) × (params.l * params.l ≤ 64) = let z = small file parts in_order in (z.entries, z.width, z.map) in
    omega (arith, entries.2, c.read_map-phi.ensures.0)

pub slice_bounds-judgement_mapped-end-4 : goal.slice_bounds-judgement_mapped-end-4
slice_bounds-judgement_mapped-end-4 c =
    let parts : Parts = c.args.parts in
    let params : Params = parts.setup in
    let file : List ℕ = c.args.file.now in
    let in_order : PartsIn file parts = c.requires.0 in
    let entries : (params.n * (params.l + params.e) ≤ 512) × (params.l + params.e ≤ 16) × (params.l * params.l ≤ 64) = let z = small file parts in_order in (z.entries, z.width, z.map) in
    sym (length-take-le _ _ (omega (arith, entries.2, c.read_map-phi.ensures.0)))

pub slice_bounds-h2-end : goal.slice_bounds-h2-end
slice_bounds-h2-end c =
    let parts : Parts = c.args.parts in
    let params : Params = parts.setup in
    let file : List ℕ = c.args.file.now in
    let in_order : PartsIn file parts = c.requires.0 in
    let entries : (params.n * (params.l + params.e) ≤ 512) × (params.l + params.e ≤ 16) × (params.l * params.l ≤ 64) = let z = small file parts in_order in (z.entries, z.width, z.map) in
    let behind : ℕ = 10 + 2 * (params.n * (params.l + params.e)) + 6 + 4 * (params.l + params.e) in
    let no_zero : zero_in file ≡ false = first-is file parts in_order c.requires.1 in
    let second-same : take (length file - behind) (drop behind file) ≡ second_of file = part-is file behind ∙ ap (λ (k : ℕ). drop k file) (behind-is file parts in_order no_zero) in
    let lists2 : HoldsPart (setup_of params []) (params.l + params.e) (second_of file) c.read_part-second.result = subst (λ (t : List ℕ). HoldsPart (setup_of params []) (params.l + params.e) t c.read_part-second.result) second-same c.read_part-second.ensures in
    omega (arith, entries.1, lists2.h-size)

pub slice_bounds-judgement_mapped-end-5 : goal.slice_bounds-judgement_mapped-end-5
slice_bounds-judgement_mapped-end-5 c =
    let parts : Parts = c.args.parts in
    let params : Params = parts.setup in
    let file : List ℕ = c.args.file.now in
    let in_order : PartsIn file parts = c.requires.0 in
    let entries : (params.n * (params.l + params.e) ≤ 512) × (params.l + params.e ≤ 16) × (params.l * params.l ≤ 64) = let z = small file parts in_order in (z.entries, z.width, z.map) in
    let behind : ℕ = 10 + 2 * (params.n * (params.l + params.e)) + 6 + 4 * (params.l + params.e) in
    let no_zero : zero_in file ≡ false = first-is file parts in_order c.requires.1 in
    let second-same : take (length file - behind) (drop behind file) ≡ second_of file = part-is file behind ∙ ap (λ (k : ℕ). drop k file) (behind-is file parts in_order no_zero) in
    let lists2 : HoldsPart (setup_of params []) (params.l + params.e) (second_of file) c.read_part-second.result = subst (λ (t : List ℕ). HoldsPart (setup_of params []) (params.l + params.e) t c.read_part-second.result) second-same c.read_part-second.ensures in
    sym (length-take-le _ _ (omega (arith, entries.1, lists2.h-size)))

pub slice_bounds-values2-end : goal.slice_bounds-values2-end
slice_bounds-values2-end c =
    let file : List ℕ = c.args.file.now in
    let parts : Parts = c.args.parts in
    let in_order : PartsIn file parts = c.requires.0 in
    omega (arith, few file parts in_order, in_order.values2-size)

pub slice_bounds-judgement_mapped-end-6 : goal.slice_bounds-judgement_mapped-end-6
slice_bounds-judgement_mapped-end-6 c =
    let file : List ℕ = c.args.file.now in
    let parts : Parts = c.args.parts in
    let in_order : PartsIn file parts = c.requires.0 in
    sym (length-take-le _ _ (omega (arith, few file parts in_order, in_order.values2-size)))

pub judgement_mapped-judgement-requires : goal.judgement_mapped-judgement-requires
judgement_mapped-judgement-requires c =
    let file : List ℕ = c.args.file.now in
    let parts : Parts = c.args.parts in
    let in_order : PartsIn file parts = c.requires.0 in
    let params : Params = parts.setup in
    let at : ℕ = 10 + 2 * (params.n * (params.l + params.e)) in
    let part_same : take (length file - at) (drop at file) ≡ part_of file = part-is file at ∙ ap (λ (k : ℕ). drop k file) (at-is file parts in_order) in
    let lists : HoldsPart (setup_of params []) (params.l + params.e) (part_of file) c.read_part-lists.result = subst (λ (t : List ℕ). HoldsPart (setup_of params []) (params.l + params.e) t c.read_part-lists.result) part_same c.read_part-lists.ensures in
    let behind : ℕ = 10 + 2 * (params.n * (params.l + params.e)) + 6 + 4 * (params.l + params.e) in
    let no_zero : zero_in file ≡ false = first-is file parts in_order c.requires.1 in
    let second-same : take (length file - behind) (drop behind file) ≡ second_of file = part-is file behind ∙ ap (λ (k : ℕ). drop k file) (behind-is file parts in_order no_zero) in
    let map_read : take (params.l * params.l) c.read_map-phi.result ≡ mapped_phi (setup_of params []) (second_of file) = c.read_map-phi.ensures.1 ∙ ap (mapped_phi (setup_of params [])) second-same in
    let lists2 : HoldsPart (setup_of params []) (params.l + params.e) (second_of file) c.read_part-second.result = subst (λ (t : List ℕ). HoldsPart (setup_of params []) (params.l + params.e) t c.read_part-second.result) second-same c.read_part-second.ensures in
    mapped-fair file parts in_order c.read_matrix-matrix.result c.read_matrix-matrix.ensures.1 c.read_part-lists.result lists
    c.read_map-phi.result map_read c.read_part-second.result lists2 c.requires.1

pub returns : goal.returns
returns c =
    let file : List ℕ = c.args.file.now in
    let parts : Parts = c.args.parts in
    let in_order : PartsIn file parts = c.requires.0 in
    let params : Params = parts.setup in
    let at : ℕ = 10 + 2 * (params.n * (params.l + params.e)) in
    let part_same : take (length file - at) (drop at file) ≡ part_of file = part-is file at ∙ ap (λ (k : ℕ). drop k file) (at-is file parts in_order) in
    let lists : HoldsPart (setup_of params []) (params.l + params.e) (part_of file) c.read_part-lists.result = subst (λ (t : List ℕ). HoldsPart (setup_of params []) (params.l + params.e) t c.read_part-lists.result) part_same c.read_part-lists.ensures in
    let behind : ℕ = 10 + 2 * (params.n * (params.l + params.e)) + 6 + 4 * (params.l + params.e) in
    let no_zero : zero_in file ≡ false = first-is file parts in_order c.requires.1 in
    let second-same : take (length file - behind) (drop behind file) ≡ second_of file = part-is file behind ∙ ap (λ (k : ℕ). drop k file) (behind-is file parts in_order no_zero) in
    let map_read : take (params.l * params.l) c.read_map-phi.result ≡ mapped_phi (setup_of params []) (second_of file) = c.read_map-phi.ensures.1 ∙ ap (mapped_phi (setup_of params [])) second-same in
    let lists2 : HoldsPart (setup_of params []) (params.l + params.e) (second_of file) c.read_part-second.result = subst (λ (t : List ℕ). HoldsPart (setup_of params []) (params.l + params.e) t c.read_part-second.result) second-same c.read_part-second.ensures in
    mapped-judged file parts in_order c.read_matrix-matrix.result c.read_matrix-matrix.ensures.1 c.read_part-lists.result lists
    c.read_map-phi.result map_read c.read_part-second.result lists2 c.judgement_mapped-judgement.result c.requires.1 c.judgement_mapped-judgement.ensures
