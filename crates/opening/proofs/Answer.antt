-- From the reduced system to the answer of an opening: what is read off it is a certificate for what the definitions search.
-- open-taken: an opening whose table passes is taken
-- secrets-few: it has at most 8 secrets
-- opens-lacking, opens-unsolved, opens-solved: the three ways in which it ends
use mathlib.Core.Path.{◌≡◌, refl, sym, ap, ◌∙◌}
use mathlib.Core.List.{List, []}
use Prim.Native.Nat.{ℕ, ◌+◌, ◌%◌, ◌≤◌, ◌<◌}
use native.Mathlib.Nat.{mod-eq_of_lt}
use native.Mathlib.Omega.{arith}
use lib.ListN.{length}
use borrow.Author.Tests.{lt-ltb}
use Rattle.base.specs.Rules.{given}
use Rattle.base.specs.Search.{Vec}
use Rattle.base.specs.Fill.{tab}
use Rattle.base.proofs.Fill.{tab-ext}
use Rattle.field.proofs.Dot.{dot-ext}
use Rattle.read_off.specs.ReadOff.{shown, flat_shown, flat_unsolved, Beside, solvable, refuted}
use Rattle.gauss.specs.Gauss.{reduced}
use Rattle.elimination.specs.Inner.{buffers}
use Rattle.read_off.proofs.Reduced as system
use Rattle.read_off.proofs.Reduced.{shown-small}
use Rattle.read_off.proofs.Shows.{unsolved-shows, shown-shows}
use Rattle.scheme.specs.Setup.{Setup, dim}
use Rattle.scheme.specs.Answers.{undetermined, inconsistent}
use Rattle.scheme.specs.Sets.{holds, members}
use Rattle.scheme.specs.Opening.{opening}
use Rattle.scheme.proofs.Calls.{OpenOk, set-ok, set-accepts}
use Rattle.scheme.proofs.Certificates.{opened-by, inconsistent-in-hand}
use Rattle.set_systems.specs.Inner.{SetTaken, members_of, beside, Eliminated}
use Rattle.set_systems.proofs.Members.{prime-of, wide}
use Rattle.set_systems.proofs.Systems.{beside-rows, beside_shares, beside-dot, determines-by}
use Rattle.opening.specs.Inner.{OpenTaken, OpenedAs}

pub open-taken : {S : Setup} {s : ℕ} {xs rs out : List ℕ} → OpenOk S s xs rs out → OpenTaken S s xs out
open-taken ok = record { set = record { accepted = set-accepts _ _ ok.set }; shares = ok.shares; room = ok.room }

pub secrets-few : {S : Setup} {s : ℕ} {xs out : List ℕ} → OpenTaken S s xs out → S.l ≤ 8
secrets-few {S} {s} t = (set-ok S s t.set.accepted).setup.limits.secret.1

module _ {S : Setup} {s : ℕ} (ok : SetTaken S s) {xs a u : List ℕ} {r : ℕ} (E : Eliminated S s xs a u r) where
  -- a position with no row
  pub opens-lacking : (out : List ℕ) → r < S.l → OpenedAs S s xs out (undetermined r) out
  unfolding opening
  opens-lacking out l = record { answers = rw (← E.lowest, lt-ltb r S.l l) refl; buffer = rw (← E.lowest, lt-ltb r S.l l) refl }

  -- every position has a row: A is the system, of k rows; n rows of d + 1 entries are read
  abbrev A : ℕ → ℕ → ℕ
  A = beside (dim S) S.M (members_of S s) xs

  abbrev k : ℕ
  k = length (members_of S s)

  module _ {n d : ℕ} (K : n ≡ length (members 32 (holds s))) (D : d ≡ dim S) (all : S.l ≤ r)
      {f : ℕ} (g : f ≡ flat_unsolved n (d + 1) d (buffers a u)) (out : List ℕ) where
    certificate : Beside S.p k (dim S) (dim S) A f
    certificate =
        rw ((rw (D, K, wide ok) at g) ∙ unsolved-shows S.p k (dim S + 1) (buffers a u) _ E.system.shows (dim S) (omega arith))
        (system.beside S.p (prime-of ok) k (dim S) (dim S) A)

    pub opens-unsolved : f < n → OpenedAs S s xs out inconsistent out
    opens-unsolved l = let e = go certificate in record { answers = rw e refl; buffer = rw e refl }
      where
        go : Beside S.p k (dim S) (dim S) A f → opening S (holds s) xs ≡ inconsistent
        go (solvable z h) = absurd (omega (arith, K, ap length (wide ok)))
        go (refuted z y h) =
            inconsistent-in-hand S (holds s) xs (determines-by S (holds s) r E.lowest all) y
            (λ j m. ap (λ z. z % S.p) (dot-ext k y _ _ (λ i n. sym (beside-rows S s xs i j m))) ∙ h.kills j m)
            (λ z. h.keeps (ap (λ z. z % S.p) (dot-ext k y _ _ (λ i n. beside_shares S s xs i)) ∙ z))

    pub opens-solved : n ≤ f → Vec S.p (length (members 32 (holds s))) xs → length out ≡ S.l
        → {left : List ℕ} → left ≡ tab (length out) (flat_shown n (d + 1) d (buffers a u)) → OpenedAs S s xs out (given []) left
    opens-solved l v room h = let e = go certificate in record { answers = rw e refl; buffer = rw e (rw (D, K, wide ok, room) at h) }
      where
        x : ℕ → ℕ
        x = shown k (dim S) (reduced S.p k (dim S) A)

        go : Beside S.p k (dim S) (dim S) A f → opening S (holds s) xs ≡ given (tab S.l (flat_shown k (dim S + 1) (dim S) (buffers a u)))
        go (solvable z h) =
            opened-by S (holds s) xs (omega (arith, (prime-of ok).big)) (determines-by S (holds s) r E.lowest all) x
            (λ i n. ap (λ z. z % S.p) (beside-dot S s xs i x) ∙ h.solves i n ∙ ap (λ z. z % S.p) (beside_shares S s xs i)
            ∙ mod-eq_of_lt (v.small i (omega (arith, ap length (wide ok)))))
            ∙ ap given (tab-ext S.l _ _ (λ q m. mod-eq_of_lt (shown-small S.p (prime-of ok) k (dim S) (dim S) A q)
            ∙ sym (shown-shows S.p k (dim S + 1) (buffers a u) _ E.system.shows (dim S) (omega arith) q)))
        go (refuted z y h) = absurd (omega (arith, K, ap length (wide ok)))
