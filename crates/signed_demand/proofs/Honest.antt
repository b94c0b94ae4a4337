-- Where all follow the rules the arrays found are those dealt, whose elements are the residues of the corrections; so the exact sums are those of the
-- corrections dealt, and a column comes back.
use mathlib.Core.Path.{◌≡◌, refl, sym, ap, ap₂, ◌∙◌}
use mathlib.Core.Bool.{true}
use mathlib.Core.List.{List, []}
use Prim.Native.Nat.{ℕ, zero, suc, ◌+◌, ◌-◌, ◌*◌, ◌<◌}
use native.Mathlib.Omega.{arith}
use lib.IntN.{ℤ, pos, ◌+ℤ◌, ◌*ℤ◌}
use lib.ListN.{length}
use Rattle.base.specs.Rules.{refusal, given}
use Rattle.base.specs.Search.{Vec}
use Rattle.base.specs.Fill.{tab}
use Rattle.base.proofs.Rules.{not-refused}
use Rattle.base.proofs.Fill.{tab-is}
use Rattle.base.proofs.Matrix.{entry-fits}
use Rattle.field.specs.Dot.{at}
use Rattle.scheme.specs.Setup.{Setup, dim, IsSetup}
use Rattle.scheme.specs.Answers.{yes}
use Rattle.scheme.specs.Calls.{determines_call, deal_rules}
use Rattle.scheme.proofs.Calls.{DealOk, deal-ok, determines-ok}
use Rattle.signed.specs.Integers.{integer_at, total}
use Rattle.signed.specs.Corrections.{in_range, all_in_range, residues, correction}
use Rattle.signed.specs.Calls.{open_signed_left}
use Rattle.signed.proofs.Corrections.{back-again}
use Rattle.signed.proofs.Calls.{length-residues}
use Rattle.signed.proofs.Laws.{range_at, residues-at, residues-vec}
use Rattle.demand.specs.Demand.{Dealing, Member, Done, DoneZero, Applied, Level, Array, column, Honest}
use Rattle.demand.proofs.Arrays.{only}
use Rattle.demand.proofs.Demand.{demand3}
use Rattle.demand.proofs.Honest.{run, run-honest}
use Rattle.signed_demand.specs.Signed.{SignedTerms, held, one_column, SignedInLimits, SignedHanded, exact, OpensExactly, SignedFound, dealt_exactly, SignedHonest}
use Rattle.signed_demand.proofs.Sums.{one-term}
use Rattle.signed_demand.proofs.Found.{signed-found}

total_ext : (m : ℕ) (g h : ℕ → ℤ) → ((t : ℕ) → t < m → g t ≡ h t) → total m g ≡ total m h
unfolding total
total_ext zero g h e = refl
total_ext (suc n) g h e = ap₂ ◌+ℤ◌ (total_ext n g h (λ t l. e t (omega arith))) (e n (omega arith))

module _ (S : Setup) {I J : Type 0} (zs : I → List ℤ) (random : I → List ℕ) (D : I → Dealing) (Z : J → Dealing) (f : S.p ≡ 65521)
    (range : (t : I) → all_in_range (zs t) ≡ true) (hon : (t : I) → Honest S (residues (zs t)) (random t) (D t)) where
  done : (group : ℕ) → determines_call S group ≡ yes → Done S group D
  done group d = (demand3.families S (λ t. residues (zs t)) random D Z hon).done group d

  -- at a set that determines the secrets there is a holder, whose dealing was not refused, so that there are ℓ · ℓ corrections
  size : (t : I) (group : ℕ) → determines_call S group ≡ yes → length (zs t) ≡ S.l * S.l
  size t group d =
      let some = (determines-ok S group d).0.setup.limits.holders.0 in
      let r = not-refused (refusal (deal_rules S (residues (zs t)) (random t) 0 (hon t).lent_g (hon t).lent_h)) (given []) [] ((hon t).dealing 0 some) in
      sym (length-residues (zs t)) ∙ (deal-ok S (residues (zs t)) (random t) 0 (hon t).lent_g (hon t).lent_h r.0).0.vectors.size

  module _ (group : ℕ) (determined : determines_call S group ≡ yes) (zeroDone : DoneZero S group Z) where
    found : SignedFound S group D Z
    found = signed-found S group D Z f (done group determined) zeroDone

    -- what the array found holds at position k of column b, read back, is the correction dealt there
    dealt-at : (t : I) (b k : ℕ) → b < S.l → k < S.l → correction (at (column (found.array t) b) k) ≡ integer_at (zs t) (b * S.l + k)
    dealt-at t b k hb hk =
        let n = size t group determined in
        let m : b * S.l + k < length (zs t) = omega (arith, n, entry-fits S.l S.l b k hb hk) in
        let h = demand3.honest S (residues (zs t)) (random t) (D t) (hon t) in
        let a = h.array group determined in
        ap (λ (C : Array). correction (at (column C b) k))
        (only S group (determines-ok S group determined).1 (D t) _ _ (found.one t).array a.array (found.one t).agrees a.agrees)
        ∙ ap correction (h.vectors k b hk hb ∙ residues-at (zs t) (b * S.l + k) m)
        ∙ back-again (integer_at (zs t) (b * S.l + k)) (range_at (zs t) (range t) (b * S.l + k) m)

    exact-dealt : (ts : SignedTerms I) → SignedInLimits S ts → (k : ℕ) → k < S.l → exact found.array ts k ≡ dealt_exactly S zs ts k
    exact-dealt ts limits k hk =
        total_ext ts.count _ _ (λ t m. ap (λ z. ts.constant t *ℤ z) (dealt-at (ts.dealing t) (ts.column t) k (limits.columns t m) hk))

    opens : (A : Applied S group D Z) (ts : SignedTerms I) (openers : ℕ) (handed rounds : List ℕ) (out : List ℤ)
        → SignedHanded S group A.slip ts openers handed rounds → length out ≡ S.l
        → ((i : ℕ) → Member S openers i → Member S group i) → Level S A.slip (held ts) openers
        → OpensExactly S openers handed rounds out (dealt_exactly S zs ts)
    opens A ts openers handed rounds out h room sub level =
        let o = found.never-refused A ts openers handed rounds out h room sub level in
        record {
          answer = o.answer;
          size = o.size;
          equals = λ k l r. let e = exact-dealt ts h.limits k l in o.equals k l (ap in_range e ∙ r) ∙ e;
        }

    back : (A : Applied S group D Z) (t : I) (b openers : ℕ) (handed rounds : List ℕ) (out : List ℤ)
        → SignedHanded S group A.slip (one_column t b) openers handed rounds → length out ≡ S.l
        → ((i : ℕ) → Member S openers i → Member S group i) → Level S A.slip (held (one_column t b)) openers
        → open_signed_left S openers handed rounds out ≡ tab S.l (λ k. integer_at (zs t) (b * S.l + k))
    back A t b openers handed rounds out h room sub level =
        let o = opens A (one_column t b) openers handed rounds out h room sub level in
        tab-is S.l _ (pos 0) (open_signed_left S openers handed rounds out) o.size
        (λ k l.
        let n = size t group determined in
        let hb : b < S.l = h.limits.columns 0 (omega arith) in
        let m : b * S.l + k < length (zs t) = omega (arith, n, entry-fits S.l S.l b k hb l) in
        let e = one-term (integer_at (zs t) (b * S.l + k)) in
        o.equals k l (ap in_range e ∙ range_at (zs t) (range t) (b * S.l + k) m) ∙ e)

  pub signed-honest : SignedHonest S zs D Z
  signed-honest = record { done = done; opens = opens; back = back }

pub signed-run : (S : Setup) (zs : List ℤ) (random : List ℕ) → IsSetup S → S.p ≡ 65521 → length zs ≡ S.l * S.l → Vec 65521 (dim S * dim S - S.l * S.l) random
    → (D : Dealing) × Honest S (residues zs) random D
signed-run S zs random setup f e entries = (run S (residues zs) random ok, run-honest S (residues zs) random ok)
  where
    ok : DealOk S (residues zs) random
    ok = record { setup = setup; vectors = rw (f, ← e) (residues-vec zs); entries = rw f entries }
