-- The residue of an exact sum of products is the combination of the residues; so what is read back from it is the sum, where that lies within the range.
-- read-exactly: that; one-term: the sum of one correction times 1
use mathlib.Core.Path.{◌≡◌, refl, sym, ap, ◌∙◌}
use mathlib.Core.Bool.{true}
use Prim.Native.Nat.{ℕ, suc, ◌+◌, ◌-◌, ◌*◌, ◌%◌, ◌<◌}
use native.Mathlib.Nat.{mod-mod, mod-lt}
use native.Mathlib.Omega.{arith}
use lib.IntN.{ℤ, pos, negsuc, ◌+ℤ◌, ◌*ℤ◌}
use borrow.Author.Tests.{lt-ltb}
use Rattle.base.specs.Fill.{tab}
use Rattle.field.specs.Dot.{dot}
use Rattle.field.proofs.Congruence.{cong-add}
use Rattle.scheme.specs.Opening.{combine}
use Rattle.signed.specs.Integers.{total}
use Rattle.signed.specs.Corrections.{in_range, residue, correction}
use Rattle.signed.proofs.Integers.{Congℤ, down, cong-product, cong-total, remainder-cong, remainder-only}
use Rattle.signed.proofs.Corrections.{held-again, back-again}
use Rattle.demand.proofs.Given.{combine-tab}

big : 0 < 65521
big = omega arith

-- an element is as what it is read back to
element-cong : (x : ℕ) → x < 65521 → Congℤ 65521 (correction x) x
unfolding residue
element-cong x l = rw (held-again x l) at (remainder-cong 65521 big (correction x))

reduced : (z : ℤ) (r : ℕ) → Congℤ 65521 z r → Congℤ 65521 z (r % 65521)
reduced z r h = record { eq = h.eq ∙ sym (cong-add 65521 (r % 65521) r (down z) (down z) (mod-mod r 65521) refl) }

residue-of : (m : ℕ) (c : ℕ → ℤ) (x : ℕ → ℕ) → ((t : ℕ) → t < m → x t < 65521)
    → combine 65521 (tab m (λ t. residue (c t))) (tab m x) ≡ residue (total m (λ t. c t *ℤ correction (x t)))
unfolding residue dot
residue-of m c x h =
    combine-tab 65521 m (λ t. residue (c t)) x
    ∙ remainder-only 65521 big _ _ (mod-lt _ big)
    (reduced _ _
    (cong-total 65521 big m (λ t. c t *ℤ correction (x t)) (λ t. residue (c t) * x t)
    (λ t l. cong-product 65521 big (c t) (correction (x t)) (residue (c t)) (x t) (remainder-cong 65521 big (c t)) (element-cong (x t) (h t l)))))

pub read-exactly : (m : ℕ) (c : ℕ → ℤ) (x : ℕ → ℕ) → ((t : ℕ) → t < m → x t < 65521) → in_range (total m (λ t. c t *ℤ correction (x t))) ≡ true
    → correction (combine 65521 (tab m (λ t. residue (c t))) (tab m x)) ≡ total m (λ t. c t *ℤ correction (x t))
read-exactly m c x h r = ap correction (residue-of m c x h) ∙ back-again (total m (λ t. c t *ℤ correction (x t))) r

times-one : (z : ℤ) → pos 0 +ℤ (pos 1 *ℤ z) ≡ z
times-one (pos n) = ap pos (omega arith)
times-one (negsuc n) =
    let e : 1 * suc n ≡ suc n = omega arith in
    let d : suc n - 1 ≡ n = omega arith in
    rw (e, lt-ltb 0 (suc n) (omega arith), d) refl

pub one-term : (z : ℤ) → total 1 (λ t. pos 1 *ℤ z) ≡ z
unfolding total
one-term z = times-one z
