-- Rows of d entries, written one entry of each after the other.
-- Begun: the first j entries of each of c rows, from place a on, are those of e
use mathlib.Core.Path.{◌≡◌, refl, sym, ap, ◌∙◌}
use mathlib.Core.List.{List}
use mathlib.Core.Logic.{⊎_elim}
use Prim.Native.Nat.{ℕ, ◌+◌, ◌*◌, ◌/◌, ◌%◌, ◌≤◌, ◌<◌}
use native.Mathlib.Nat.{div-add-mod'}
use native.Mathlib.Omega.{arith}
use lib.Arith.{digits_mod}
use lib.ListN.{length, get_or, set, length-set}
use lib.Seq.{get_or-set_same, get_or-set_other}
use Rattle.base.specs.Fill.{laid, Put}
use Rattle.base.specs.Matrix.{flat}
use Rattle.base.proofs.Choice.{either}
use Rattle.base.proofs.Fill.{Outside, laid-is}
use Rattle.base.proofs.Matrix.{entry-fits, rows_apart, place_at}

-- ENTRIES PUT APART
module _ (d a : ℕ) (entries x : List ℕ) where
  pub put-none : Put d 0 a entries x x
  put-none = record { size = refl; written = λ t l. absurd (omega arith); kept = λ k h. refl }

  pub put_step : (r : ℕ) (l : List ℕ) → 0 < d → a + r * d < length x → Put d r a entries x l → Put d (r + 1) a entries x (set l (a + r * d) (get_or entries r 0))
  put_step r l pos f w =
      record {
        size = length-set l (a + r * d) _ ∙ w.size;
        written = λ t h.
            either t r (get_or (set l (a + r * d) (get_or entries r 0)) (a + t * d) 0 ≡ get_or entries t 0)
            (λ q. rw q (get_or-set_same l (a + r * d) _ 0 (omega (arith, w.size))))
            (λ q.
            get_or-set_other l (a + r * d) (a + t * d) _ 0 (λ z. ⊎_elim (λ s. absurd (omega (arith, z, s))) (λ s. absurd (omega (arith, z, s))) (rows_apart d t r q))
            ∙ w.written t (omega (arith, q)));
        kept = λ k h. get_or-set_other l (a + r * d) k _ 0 (h r (omega arith)) ∙ w.kept k (λ t q. h t (omega arith));
      }

  -- the entries lie in rows, and what is outside of them is as it was
  pub put-outside : (c b j : ℕ) (l : List ℕ) → j < d → a ≡ b + j → Put d c a entries x l → (k : ℕ) → Outside b (c * d) k → get_or l k 0 ≡ get_or x k 0
  put-outside c b j l m q w k h =
      w.kept k (λ t g z. ⊎_elim (λ o. absurd (omega (arith, z, q, o))) (λ o. absurd (omega (arith, z, q, o, entry-fits c d t j g m))) h)

-- entries put side by side
pub put-laid : (f : ℕ → ℕ) (a c : ℕ) (entries x l : List ℕ) → a + c ≤ length x → Put 1 c a entries x l → ((t : ℕ) → t < c → get_or entries t 0 ≡ f t)
    → l ≡ laid f a c x
put-laid f a c entries x l fits w s =
    laid-is f a c 0 x l w.size fits
    (λ t m. ap (λ n. get_or l n 0) (omega arith) ∙ w.written t m ∙ s t m)
    (λ k h. w.kept k (λ t g z. ⊎_elim (λ o. absurd (omega (arith, z, o))) (λ o. absurd (omega (arith, z, o))) h))

-- ROWS, ONE ENTRY OF EACH AFTER THE OTHER
abbrev pub Begun : (d c a : ℕ) (e : ℕ → ℕ → ℕ) (j : ℕ) (l : List ℕ) → Type 0
Begun d c a e j l = (t b : ℕ) → t < c → b < j → get_or l (a + (t * d + b)) 0 ≡ e t b

module _ (d c a : ℕ) (e : ℕ → ℕ → ℕ) where
  pub begun-put : (j k : ℕ) (entries l r : List ℕ) → j < d → k ≡ a + j → Begun d c a e j l → Put d c k entries l r
      → ((t : ℕ) → t < c → get_or entries t 0 ≡ e t j) → Begun d c a e (j + 1) r
  begun-put j k entries l r f p w u s t b h m =
      either b j (get_or r (a + (t * d + b)) 0 ≡ e t b)
      (λ q. rw q (ap (λ n. get_or r n 0) (omega (arith, p)) ∙ u.written t h ∙ s t h))
      (λ q.
      u.kept (a + (t * d + b))
      (λ v g z. q (sym (digits_mod t {r = b} (omega arith)) ∙ ap (λ n. n % d) (omega (arith, p, z)) ∙ digits_mod v {r = j} f))
      ∙ w t b h (omega (arith, q)))

  -- the row and the place in it of an entry
  pub begun-at : (l : List ℕ) → Begun d c a e d l → (u : ℕ) → u < c * d → get_or l (a + u) 0 ≡ flat d e u
  begun-at l w u m = let v = place_at d c u m in ap (λ n. get_or l (a + n) 0) (sym (div-add-mod' u d)) ∙ w (u / d) (u % d) v.1 v.2

  pub begun_all : (x l : List ℕ) → length l ≡ length x → a + c * d ≤ length x → Begun d c a e d l
      → ((k : ℕ) → Outside a (c * d) k → get_or l k 0 ≡ get_or x k 0) → l ≡ laid (flat d e) a (c * d) x
  begun_all x l size fits w kept = laid-is (flat d e) a (c * d) 0 x l size fits (begun-at l w) kept
