-- A signed combination is the plain combination with the constants' residues, and a signed opening the plain opening read back; so demand 3 gives the sums
-- modulo 65521, which are exact where they lie within the range.
-- to-plain: what is handed in for a list with signed constants is handed in for the list with their residues
-- signed-found, signed-met: two fields of DoorTimings
use mathlib.Core.Path.{◌≡◌, sym, ap, ◌∙◌}
use mathlib.Core.Bool.{true}
use mathlib.Core.List.{List}
use mathlib.Core.Logic.{◌⊎◌, inl, inr}
use Prim.Native.Nat.{ℕ, ◌^◌, ◌≤◌, ◌<◌}
use native.Mathlib.Omega.{arith}
use lib.Dec.{ltb}
use lib.IntN.{ℤ, pos}
use lib.ListN.{length}
use borrow.Author.Tests.{lt-ltb}
use Rattle.base.specs.Choice.{pick}
use Rattle.base.specs.Rules.{Answer, refused}
use Rattle.base.specs.Fill.{tab}
use Rattle.base.proofs.Fill.{length-tab, get_d-tab, tab-is}
use Rattle.field.specs.Dot.{at}
use Rattle.scheme.specs.Setup.{Setup}
use Rattle.scheme.specs.Sets.{holds, members}
use Rattle.scheme.specs.Opening.{combine}
use Rattle.scheme.specs.Calls.{open_call, combine_call}
use Rattle.scheme.proofs.Calls.{determines-ok}
use Rattle.signed.specs.Integers.{integer_at}
use Rattle.signed.specs.Corrections.{in_range, all_in_range, residue, residues, correction, corrections}
use Rattle.signed.specs.Calls.{combine_signed_call, open_signed_call, open_signed_left}
use Rattle.signed.proofs.Corrections.{in-range}
use Rattle.signed.proofs.Calls.{length-residues, as-combine, as-open, left_out, left-read}
use Rattle.signed.proofs.Laws.{range-is, residue-lt, residues-at, length-corrections, corrections-at}
use Rattle.demand.specs.Demand.{Dealing, Member, Done, DoneZero, Slip, Slips, Applied, InLimits, constants, shares_over, rounds_over, Present, Handed, AtOneRound, hands_in, values_by, rounds_by, Array, column, secrets_over, Opens, Refused, Found}
use Rattle.demand.specs.Demand as plain
use Rattle.demand.proofs.Demand.{demand3}
use Rattle.signed_demand.specs.Signed.{SignedTerms, held, signed_constants, SignedInLimits, SignedHanded, exact, OpensExactly, SignedRefused, by-four, by-nineteen, by-seven, SignedFound}
use Rattle.signed_demand.proofs.Sums.{read-exactly, one-term}

-- CONSTANTS
residues-tab : (m : ℕ) (c : ℕ → ℤ) → residues (tab m c) ≡ tab m (λ t. residue (c t))
residues-tab m c =
    tab-is m _ 0 (residues (tab m c)) (length-residues (tab m c) ∙ length-tab m c)
    (λ k l. residues-at (tab m c) k (omega (arith, length-tab m c)) ∙ ap residue (get_d-tab m c (pos 0) k l))

range-tab : (m : ℕ) (c : ℕ → ℤ) → ((t : ℕ) → t < m → in_range (c t) ≡ true) → all_in_range (tab m c) ≡ true
range-tab m c h =
    range-is (tab m c) (λ k l.
    let n : k < m = omega (arith, length-tab m c) in
    ap in_range (get_d-tab m c (pos 0) k n) ∙ h k n)

module _ (S : Setup) (f : S.p ≡ 65521) where
  module _ {I : Type 0} (ts : SignedTerms I) (limits : SignedInLimits S ts) where
    plain-limits : InLimits S (held ts)
    plain-limits = record { few = limits.few; columns = limits.columns; constants = λ t l. rw f (residue-lt (ts.constant t)) }

    same-combination : (xs rs : List ℕ) → combine_signed_call S.p (signed_constants ts) xs rs ≡ combine_call S.p (constants (held ts)) xs rs
    same-combination xs rs =
        as-combine S.p (signed_constants ts) xs rs (range-tab ts.count ts.constant limits.constants) f
        ∙ ap (λ cs. combine_call S.p cs xs rs) (residues-tab ts.count ts.constant)

  pub to-plain : (group : ℕ) {I : Type 0} (slip : Slips I) (ts : SignedTerms I) (openers : ℕ) (handed rounds : List ℕ)
      → SignedHanded S group slip ts openers handed rounds → Handed S group slip (held ts) openers handed rounds
  to-plain group slip ts openers handed rounds h =
      record {
        limits = plain-limits ts h.limits;
        below = h.below;
        count = h.count;
        count-rounds = h.count-rounds;
        by-rule = λ a l g.
            let i = at (members S.n (holds openers)) a in
            sym (same-combination ts h.limits (shares_over slip (held ts) i) (rounds_over slip (held ts) i)) ∙ h.by-rule a l g;
        present = h.present;
      }

  -- OPENINGS, by a plain opening into as many entries
  module _ (small : S.l ≤ 8) (openers : ℕ) (handed rounds : List ℕ) (out : List ℤ) (room : length out ≡ S.l) where
    abbrev lent : List ℕ
    lent = residues out

    as_lent : length lent ≡ pick (ltb (length out) 9) (length out) 9
    as_lent = rw (lt-ltb (length out) 9 (omega arith)) (length-residues out)

    same : open_signed_call S openers handed rounds out ≡ open_call S openers handed rounds lent
    same = sym (as-open S openers handed rounds out lent f as_lent)

    stays : (k : ℕ) → open_call S openers handed rounds lent ≡ refused k → open_signed_left S openers handed rounds out ≡ out
    stays k e = sym (left_out S openers handed rounds out lent f as_lent (ap (λ (a : Answer). a.answered) e))

    pub refused-so : Refused S openers handed rounds lent → SignedRefused S openers handed rounds out
    refused-so (plain.by-four e l) = by-four (same ∙ e) (stays 4 e)
    refused-so (plain.by-nineteen d e l) = by-nineteen d (same ∙ e) (stays 19 e)
    refused-so (plain.by-seven e l) = by-seven (same ∙ e) (stays 7 e)

    pub nineteen-so : open_call S openers handed rounds lent ≡ refused 19
        → (open_signed_call S openers handed rounds out ≡ refused 19) × (open_signed_left S openers handed rounds out ≡ out)
    nineteen-so e = (same ∙ e, stays 19 e)

    pub opens-so : (xs : List ℕ) (sum : ℕ → ℤ) → length xs ≡ S.l → ((k : ℕ) → k < S.l → in_range (sum k) ≡ true → correction (at xs k) ≡ sum k)
        → Opens S openers handed rounds lent xs → OpensExactly S openers handed rounds out sum
    opens-so xs sum size h o =
        let left = sym (left-read S openers handed rounds out lent f as_lent (ap (λ (a : Answer). a.answered) o.answer)).is ∙ ap corrections o.buffer in
        record {
          answer = same ∙ o.answer;
          size = ap length left ∙ length-corrections xs ∙ size;
          equals = λ k l r. ap (λ zs. integer_at zs k) left ∙ corrections-at xs k (omega (arith, size)) ∙ h k l r;
        }

  -- the combination of the arrays read back is the exact sum
  pub reads-exactly : {I : Type 0} (array : I → Array) → ((t : I) → plain.IsArray S (array t)) → (ts : SignedTerms I) → SignedInLimits S ts
      → (k : ℕ) → k < S.l → in_range (exact array ts k) ≡ true → correction (at (secrets_over S array (held ts)) k) ≡ exact array ts k
  reads-exactly array are ts limits k l r =
      let x : ℕ → ℕ = λ t. at (column (array (ts.dealing t)) (ts.column t)) k in
      ap correction (get_d-tab S.l _ 0 k l ∙ ap (λ p. combine p (constants (held ts)) (tab ts.count x)) f)
      ∙ read-exactly ts.count ts.constant x (λ t m. rw (← f) (((are (ts.dealing t)).each (ts.column t) (limits.columns t m)).small k l)) r

module _ (S : Setup) (group : ℕ) {I J : Type 0} (D : I → Dealing) (Z : J → Dealing) (f : S.p ≡ 65521) (done : Done S group D) (zeroDone : DoneZero S group Z) where
  F : Found S group D Z
  F = demand3.found S group D Z done zeroDone

  small : S.l ≤ 8
  small = (determines-ok S group done.determined).0.setup.limits.secret.1

  opens-exactly : (ts : SignedTerms I) → SignedInLimits S ts → (openers : ℕ) (handed rounds : List ℕ) (out : List ℤ) (room : length out ≡ S.l)
      → Opens S openers handed rounds (residues out) (secrets_over S F.array (held ts)) → OpensExactly S openers handed rounds out (exact F.array ts)
  opens-exactly ts limits openers handed rounds out room o =
      opens-so S f small openers handed rounds out room (secrets_over S F.array (held ts)) (exact F.array ts) (length-tab S.l _)
      (reads-exactly S f F.array (λ t. (F.one t).array) ts limits) o

  pub signed-found : SignedFound S group D Z
  signed-found =
      record {
        array = F.array;
        one = F.one;
        opens = λ A ts openers handed rounds out h room.
            go ts openers handed rounds out h.limits room
            ((F.now A).opens (held ts) openers handed rounds (residues out) (to-plain S f group A.slip ts openers handed rounds h) (length-residues out ∙ room));
        never-refused = λ A ts openers handed rounds out h room sub level.
            opens-exactly ts h.limits openers handed rounds out room
            ((F.now A).never-refused (held ts) openers handed rounds (residues out) (to-plain S f group A.slip ts openers handed rounds h) (length-residues out ∙ room) sub level);
        lagging = λ A ts openers handed rounds out h room sub t i k l a b n.
            nineteen-so S f small openers handed rounds out room
            ((F.now A).lagging (held ts) openers handed rounds (residues out) (to-plain S f group A.slip ts openers handed rounds h) (length-residues out ∙ room) sub t i k l a b n).0;
        one-column = λ t b k hb hk.
            (one-term _, in-range _ (rw (← f) (((F.one t).array.each b hb).small k hk)));
      }
    where
      go : (ts : SignedTerms I) (openers : ℕ) (handed rounds : List ℕ) (out : List ℤ) → SignedInLimits S ts → length out ≡ S.l
          → Opens S openers handed rounds (residues out) (secrets_over S F.array (held ts)) ⊎ Refused S openers handed rounds (residues out)
          → OpensExactly S openers handed rounds out (exact F.array ts) ⊎ SignedRefused S openers handed rounds out
      go ts openers handed rounds out limits room (inl o) = inl (opens-exactly ts limits openers handed rounds out room o)
      go ts openers handed rounds out limits room (inr r) = inr (refused-so S f small openers handed rounds out room r)

  pub signed-met : (A : Applied S group D Z) (ts : SignedTerms I) → SignedInLimits S ts → (openers : ℕ) → openers < 2 ^ S.n → Present S group openers
      → ((i : ℕ) → Member S openers i → Member S group i → AtOneRound A.slip (held ts) i) → (others : ℕ → Slip)
      → let slip = hands_in S group A.slip (held ts) others in SignedHanded S group A.slip ts openers (values_by S openers slip) (rounds_by S openers slip)
  signed-met A ts limits openers below present level others =
      let h = demand3.met S group D Z done zeroDone A (held ts) (plain-limits S f ts limits) openers below present level others in
      record {
        limits = limits;
        below = h.below;
        count = h.count;
        count-rounds = h.count-rounds;
        by-rule = λ a l g.
            let i = at (members S.n (holds openers)) a in
            same-combination S f ts limits (shares_over A.slip (held ts) i) (rounds_over A.slip (held ts) i) ∙ h.by-rule a l g;
        present = h.present;
      }
