-- The array holds h behind ℓ zeros, which is judged alike.
use Prim.Native.Nat.{ℕ, ◌≤◌}
use mathlib.Core.List.{List}
use mathlib.Core.Path.{◌≡◌, sym, ap, ◌∙◌}
use native.Mathlib.Omega.{arith}
use lib.ListN.{length, take}
use Rattle.scheme.specs.Setup.{Setup, dim, setup_of}
use Rattle.scheme.specs.Dealing.{judgement_of}
use Rattle.scheme.proofs.Calls.{JudgeZeroOk, judge-accepts, judge_zero-ok}
use Rattle.scheme.proofs.Zero.{padded, padded-length, padded-ok, padded-judgement}
use Rattle.dealing.proofs.Parts.{few}
use Rattle.zero_dealing.proofs.Parts.{padded-is}
use Rattle.zero_dealing.proofs.judgement_zero.Goals as goal

pub copy-requires : goal.copy-requires
copy-requires c =
    let setup : Setup = setup_of c.args.s c.args.matrix.now in
    let ok : JudgeZeroOk setup c.args.h.now c.args.values.now = judge_zero-ok setup c.args.h.now c.args.values.now c.requires in
    let small : dim setup ≤ 16 = few setup ok.setup in
    (omega (arith, small), omega (arith, ok.part.size))

pub slice_bounds-column-end : goal.slice_bounds-column-end
slice_bounds-column-end c =
    let setup : Setup = setup_of c.args.s c.args.matrix.now in
    let ok : JudgeZeroOk setup c.args.h.now c.args.values.now = judge_zero-ok setup c.args.h.now c.args.values.now c.requires in
    let small : dim setup ≤ 16 = few setup ok.setup in
    omega (arith, small)

pub slice_bounds-judgement-end : goal.slice_bounds-judgement-end
slice_bounds-judgement-end c =
    let setup : Setup = setup_of c.args.s c.args.matrix.now in
    let ok : JudgeZeroOk setup c.args.h.now c.args.values.now = judge_zero-ok setup c.args.h.now c.args.values.now c.requires in
    let small : dim setup ≤ 16 = few setup ok.setup in
    let whole : take (dim setup) c.copy.new.a ≡ padded setup c.args.h.now = ap (take (dim setup)) c.copy.ensures ∙ padded-is setup c.args.h.now small in
    sym (ap length whole ∙ padded-length setup c.args.h.now)

pub judgement-requires : goal.judgement-requires
judgement-requires c =
    let setup : Setup = setup_of c.args.s c.args.matrix.now in
    let ok : JudgeZeroOk setup c.args.h.now c.args.values.now = judge_zero-ok setup c.args.h.now c.args.values.now c.requires in
    let small : dim setup ≤ 16 = few setup ok.setup in
    let whole : take (dim setup) c.copy.new.a ≡ padded setup c.args.h.now = ap (take (dim setup)) c.copy.ensures ∙ padded-is setup c.args.h.now small in
    let x = c.args in
    rw whole (judge-accepts setup (padded setup x.h.now) x.values.now (padded-ok setup x.h.now x.values.now ok))

pub returns : goal.returns
returns c =
    let setup : Setup = setup_of c.args.s c.args.matrix.now in
    let ok : JudgeZeroOk setup c.args.h.now c.args.values.now = judge_zero-ok setup c.args.h.now c.args.values.now c.requires in
    let small : dim setup ≤ 16 = few setup ok.setup in
    let whole : take (dim setup) c.copy.new.a ≡ padded setup c.args.h.now = ap (take (dim setup)) c.copy.ensures ∙ padded-is setup c.args.h.now small in
    let x = c.args in
    c.judgement.ensures
    ∙ ap (λ (h : List ℕ). judgement_of setup h x.values.now) whole
    ∙ padded-judgement setup x.h.now x.values.now
