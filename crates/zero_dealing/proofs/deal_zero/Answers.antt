-- Where nothing is refused, the array holds F, the holder's g is written whole, and its h is the last e entries of its column.
use Prim.Native.Nat.{ℕ, ◌<◌}
use mathlib.Core.Path.{◌≡◌, refl, sym, ap, ◌∙◌}
use native.Mathlib.Omega.{arith}
use lib.Dec.{leb}
use lib.ListN.{length, replicate}
use lib.Seq.{length-take-le}
use Rattle.base.specs.Rules.{refusal, or_when}
use Rattle.scheme.specs.Setup.{Setup, dim, setup_of}
use Rattle.scheme.specs.Calls.{deal_zero_rules}
use Rattle.scheme.proofs.Calls.{DealZeroOk, deal_zero-ok}
use Rattle.dealing.proofs.Parts.{few, held-g}
use Rattle.zero_dealing.proofs.Parts.{zero_room, zero-array, refilled, column-length, last-part}
use Rattle.zero_dealing.proofs.deal_zero.Goals as goal

pub fill_zero-requires : goal.fill_zero-requires
fill_zero-requires c =
    let setup : Setup = let x = c.args in setup_of x.s x.matrix.now in
    let clear : let x = c.args in refusal (deal_zero_rules setup x.random.now x.holder x.g.now x.h.now) ≡ 0 = let x = c.args in
    ap (λ (k : ℕ). or_when k 5 (leb x.s.n x.holder)) (sym c.in_ok-check_lent.ensures) ∙ sym c.in_ok-refuse_if.ensures in
    let ok : let x = c.args in let S = setup in DealZeroOk S x.random.now × (length x.g.now ≡ dim S) × (length x.h.now ≡ S.e) × (x.holder < S.n) = let x = c.args in deal_zero-ok setup x.random.now x.holder x.g.now x.h.now clear in
    zero_room setup _ ok.0

pub slice_bounds-column-end : goal.slice_bounds-column-end
slice_bounds-column-end c =
    let setup : Setup = let x = c.args in setup_of x.s x.matrix.now in
    let clear : let x = c.args in refusal (deal_zero_rules setup x.random.now x.holder x.g.now x.h.now) ≡ 0 = let x = c.args in
    ap (λ (k : ℕ). or_when k 5 (leb x.s.n x.holder)) (sym c.in_ok-check_lent.ensures) ∙ sym c.in_ok-refuse_if.ensures in
    let ok : let x = c.args in let S = setup in DealZeroOk S x.random.now × (length x.g.now ≡ dim S) × (length x.h.now ≡ S.e) × (x.holder < S.n) = let x = c.args in deal_zero-ok setup x.random.now x.holder x.g.now x.h.now clear in
    omega (arith, few setup ok.0.setup)

pub slice_bounds-write_part-end-2 : goal.slice_bounds-write_part-end-2
slice_bounds-write_part-end-2 c =
    let setup : Setup = let x = c.args in setup_of x.s x.matrix.now in
    let clear : let x = c.args in refusal (deal_zero_rules setup x.random.now x.holder x.g.now x.h.now) ≡ 0 = let x = c.args in
    ap (λ (k : ℕ). or_when k 5 (leb x.s.n x.holder)) (sym c.in_ok-check_lent.ensures) ∙ sym c.in_ok-refuse_if.ensures in
    let ok : let x = c.args in let S = setup in DealZeroOk S x.random.now × (length x.g.now ≡ dim S) × (length x.h.now ≡ S.e) × (x.holder < S.n) = let x = c.args in deal_zero-ok setup x.random.now x.holder x.g.now x.h.now clear in
    sym (length-take-le (dim setup) (replicate 16 0) (few setup ok.0.setup))

pub write_part-requires : goal.write_part-requires
write_part-requires c =
    let setup : Setup = let x = c.args in setup_of x.s x.matrix.now in
    let clear : let x = c.args in refusal (deal_zero_rules setup x.random.now x.holder x.g.now x.h.now) ≡ 0 = let x = c.args in
    ap (λ (k : ℕ). or_when k 5 (leb x.s.n x.holder)) (sym c.in_ok-check_lent.ensures) ∙ sym c.in_ok-refuse_if.ensures in
    let ok : let x = c.args in let S = setup in DealZeroOk S x.random.now × (length x.g.now ≡ dim S) × (length x.h.now ≡ S.e) × (x.holder < S.n) = let x = c.args in deal_zero-ok setup x.random.now x.holder x.g.now x.h.now clear in
    let S = setup in
    let k = ok in
    record {
      setup = k.0.setup;
      square = (zero-array S _ k.0 _ c.fill_zero.ensures).long;
      one = k.3;
      fits = (k.1, length-take-le (dim S) (replicate 16 0) (few S k.0.setup));
    }

pub slice_bounds-copy-end : goal.slice_bounds-copy-end
slice_bounds-copy-end c =
    let setup : Setup = let x = c.args in setup_of x.s x.matrix.now in
    let clear : let x = c.args in refusal (deal_zero_rules setup x.random.now x.holder x.g.now x.h.now) ≡ 0 = let x = c.args in
    ap (λ (k : ℕ). or_when k 5 (leb x.s.n x.holder)) (sym c.in_ok-check_lent.ensures) ∙ sym c.in_ok-refuse_if.ensures in
    let ok : let x = c.args in let S = setup in DealZeroOk S x.random.now × (length x.g.now ≡ dim S) × (length x.h.now ≡ S.e) × (x.holder < S.n) = let x = c.args in deal_zero-ok setup x.random.now x.holder x.g.now x.h.now clear in
    let S = setup in
    sym (refilled (dim S) 16 _ _ c.write_part.ensures.h_after (column-length S _ _) (few S ok.0.setup))

pub copy-requires : goal.copy-requires
copy-requires c =
    let setup : Setup = let x = c.args in setup_of x.s x.matrix.now in
    let clear : let x = c.args in refusal (deal_zero_rules setup x.random.now x.holder x.g.now x.h.now) ≡ 0 = let x = c.args in
    ap (λ (k : ℕ). or_when k 5 (leb x.s.n x.holder)) (sym c.in_ok-check_lent.ensures) ∙ sym c.in_ok-refuse_if.ensures in
    let ok : let x = c.args in let S = setup in DealZeroOk S x.random.now × (length x.g.now ≡ dim S) × (length x.h.now ≡ S.e) × (x.holder < S.n) = let x = c.args in deal_zero-ok setup x.random.now x.holder x.g.now x.h.now clear in
    let S = setup in
    let w = refilled (dim S) 16 _ _ c.write_part.ensures.h_after (column-length S _ _) (few S ok.0.setup) in
    (omega (arith, ok.2), omega (arith, w, few S ok.0.setup))

pub returns : goal.returns
returns c =
    let setup : Setup = let x = c.args in setup_of x.s x.matrix.now in
    let clear : let x = c.args in refusal (deal_zero_rules setup x.random.now x.holder x.g.now x.h.now) ≡ 0 = let x = c.args in
    ap (λ (k : ℕ). or_when k 5 (leb x.s.n x.holder)) (sym c.in_ok-check_lent.ensures) ∙ sym c.in_ok-refuse_if.ensures in
    let ok : let x = c.args in let S = setup in DealZeroOk S x.random.now × (length x.g.now ≡ dim S) × (length x.h.now ≡ S.e) × (x.holder < S.n) = let x = c.args in deal_zero-ok setup x.random.now x.holder x.g.now x.h.now clear in
    let x = c.args in
    let S = setup in
    let k = ok in
    let F = zero-array S _ k.0 _ c.fill_zero.ensures in
    let W = c.write_part.ensures in
    let C = c.copy.ensures in record { result_value = rw clear refl; g_after = rw clear (W.g_after ∙ held-g S _ _ F x.holder); h_after = rw clear (C ∙ last-part S _ _ F x.holder _ _ x.h.now W.h_after k.2) }
