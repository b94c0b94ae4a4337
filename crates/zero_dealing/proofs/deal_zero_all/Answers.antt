-- Where nothing is refused, the array holds F, every holder's g is written, and its h is the last e entries of its column.
use Prim.Native.Nat.{ℕ, ◌*◌}
use mathlib.Core.List.{List}
use mathlib.Core.Path.{◌≡◌, refl, sym, ◌∙◌}
use native.Mathlib.Omega.{arith}
use lib.ListN.{length, take, replicate}
use lib.Seq.{length-take-le}
use Rattle.base.specs.Rules.{refusal}
use Rattle.base.proofs.Fill.{length-tab}
use Rattle.scheme.specs.Setup.{Setup, dim, setup_of}
use Rattle.scheme.specs.Dealing.{dealt_zero}
use Rattle.scheme.specs.Calls.{deal_zero_all_rules}
use Rattle.scheme.proofs.Calls.{DealZeroOk, deal_zero_all-ok}
use Rattle.dealing.proofs.Parts.{all-g, all-h, all_room}
use Rattle.zero_dealing.proofs.Parts.{zero_room, zero-array, refilled, columns-few, last-parts}
use Rattle.zero_dealing.proofs.deal_zero_all.Goals as goal

-- the part of the array that is lent for the columns

abbrev zeros : Setup → List ℕ
zeros S = take (S.n * dim S) (replicate 512 0)

pub fill_zero-requires : goal.fill_zero-requires
fill_zero-requires c =
    let setup : Setup = let x = c.args in setup_of x.s x.matrix.now in
    let clear : let x = c.args in refusal (deal_zero_all_rules setup x.random.now x.gs.now x.hs.now) ≡ 0 = sym c.in_ok-check_lent.ensures in
    let ok : let x = c.args in let S = setup in DealZeroOk S x.random.now × (length x.gs.now ≡ S.n * dim S) × (length x.hs.now ≡ S.n * S.e) = let x = c.args in deal_zero_all-ok setup x.random.now x.gs.now x.hs.now clear in
    zero_room setup _ ok.0

pub slice_bounds-columns-end : goal.slice_bounds-columns-end
slice_bounds-columns-end c =
    let setup : Setup = let x = c.args in setup_of x.s x.matrix.now in
    let clear : let x = c.args in refusal (deal_zero_all_rules setup x.random.now x.gs.now x.hs.now) ≡ 0 = sym c.in_ok-check_lent.ensures in
    let ok : let x = c.args in let S = setup in DealZeroOk S x.random.now × (length x.gs.now ≡ S.n * dim S) × (length x.hs.now ≡ S.n * S.e) = let x = c.args in deal_zero_all-ok setup x.random.now x.gs.now x.hs.now clear in
    omega (arith, columns-few setup ok.0.setup)

pub slice_bounds-write_all-end-2 : goal.slice_bounds-write_all-end-2
slice_bounds-write_all-end-2 c =
    let setup : Setup = let x = c.args in setup_of x.s x.matrix.now in
    let clear : let x = c.args in refusal (deal_zero_all_rules setup x.random.now x.gs.now x.hs.now) ≡ 0 = sym c.in_ok-check_lent.ensures in
    let ok : let x = c.args in let S = setup in DealZeroOk S x.random.now × (length x.gs.now ≡ S.n * dim S) × (length x.hs.now ≡ S.n * S.e) = let x = c.args in deal_zero_all-ok setup x.random.now x.gs.now x.hs.now clear in
    let lent : length (zeros setup) ≡ setup.n * dim setup = length-take-le (setup.n * dim setup) (replicate 512 0) (columns-few setup ok.0.setup) in
    sym lent

pub write_all-requires : goal.write_all-requires
write_all-requires c =
    let setup : Setup = let x = c.args in setup_of x.s x.matrix.now in
    let clear : let x = c.args in refusal (deal_zero_all_rules setup x.random.now x.gs.now x.hs.now) ≡ 0 = sym c.in_ok-check_lent.ensures in
    let ok : let x = c.args in let S = setup in DealZeroOk S x.random.now × (length x.gs.now ≡ S.n * dim S) × (length x.hs.now ≡ S.n * S.e) = let x = c.args in deal_zero_all-ok setup x.random.now x.gs.now x.hs.now clear in
    let lent : length (zeros setup) ≡ setup.n * dim setup = length-take-le (setup.n * dim setup) (replicate 512 0) (columns-few setup ok.0.setup) in
    let x = c.args in
    let S = setup in
    let k = ok in let both = all_room S _ _ (zero-array S _ k.0 _ c.fill_zero.ensures) k.0.setup x.gs.now (zeros S) k.1 lent in record { all_room = both.0; below = both.1.0; below_2 = both.1.1.0; p_value = both.1.1.1 }

pub slice_bounds-keep_last-end : goal.slice_bounds-keep_last-end
slice_bounds-keep_last-end c =
    let setup : Setup = let x = c.args in setup_of x.s x.matrix.now in
    let clear : let x = c.args in refusal (deal_zero_all_rules setup x.random.now x.gs.now x.hs.now) ≡ 0 = sym c.in_ok-check_lent.ensures in
    let ok : let x = c.args in let S = setup in DealZeroOk S x.random.now × (length x.gs.now ≡ S.n * dim S) × (length x.hs.now ≡ S.n * S.e) = let x = c.args in deal_zero_all-ok setup x.random.now x.gs.now x.hs.now clear in
    let lent : length (zeros setup) ≡ setup.n * dim setup = length-take-le (setup.n * dim setup) (replicate 512 0) (columns-few setup ok.0.setup) in
    let S = setup in
    let k = ok in
    let F = zero-array S _ k.0 _ c.fill_zero.ensures in
    sym (refilled (S.n * dim S) 512 _ _ (c.write_all.ensures.hs_after ∙ all-h S _ _ F (zeros S) lent) (length-tab (S.n * dim S) _) (columns-few S k.0.setup))

pub keep_last-requires : goal.keep_last-requires
keep_last-requires c =
    let setup : Setup = let x = c.args in setup_of x.s x.matrix.now in
    let clear : let x = c.args in refusal (deal_zero_all_rules setup x.random.now x.gs.now x.hs.now) ≡ 0 = sym c.in_ok-check_lent.ensures in
    let ok : let x = c.args in let S = setup in DealZeroOk S x.random.now × (length x.gs.now ≡ S.n * dim S) × (length x.hs.now ≡ S.n * S.e) = let x = c.args in deal_zero_all-ok setup x.random.now x.gs.now x.hs.now clear in
    let lent : length (zeros setup) ≡ setup.n * dim setup = length-take-le (setup.n * dim setup) (replicate 512 0) (columns-few setup ok.0.setup) in
    let S = setup in
    let k = ok in
    let L = k.0.setup.limits in
    let F = zero-array S _ k.0 _ c.fill_zero.ensures in
    record {
      small = (L.secret.1, L.random.1);
      whole = refilled (S.n * dim S) 512 _ _ (c.write_all.ensures.hs_after ∙ all-h S _ _ F (zeros S) lent) (length-tab (S.n * dim S) _) (columns-few S k.0.setup);
      inside = columns-few S k.0.setup;
      fits = k.2;
    }

pub returns : goal.returns
returns c =
    let setup : Setup = let x = c.args in setup_of x.s x.matrix.now in
    let clear : let x = c.args in refusal (deal_zero_all_rules setup x.random.now x.gs.now x.hs.now) ≡ 0 = sym c.in_ok-check_lent.ensures in
    let ok : let x = c.args in let S = setup in DealZeroOk S x.random.now × (length x.gs.now ≡ S.n * dim S) × (length x.hs.now ≡ S.n * S.e) = let x = c.args in deal_zero_all-ok setup x.random.now x.gs.now x.hs.now clear in
    let lent : length (zeros setup) ≡ setup.n * dim setup = length-take-le (setup.n * dim setup) (replicate 512 0) (columns-few setup ok.0.setup) in
    let x = c.args in
    let S = setup in
    let k = ok in
    let F = zero-array S _ k.0 _ c.fill_zero.ensures in
    let W = c.write_all.ensures in
    let K = c.keep_last.ensures in record { result_value = rw clear refl; gs_after = rw clear (W.gs_after ∙ all-g S _ _ F x.gs.now k.1); hs_after = rw clear (K ∙ last-parts S (dealt_zero S x.random.now) _ _ x.hs.now (W.hs_after ∙ all-h S _ _ F (zeros S) lent) k.2) }
