-- The laws of the searches: what `every`, `first` and `first_vec` answer, and the steps by which a loop computes `every` and `first`.
use mathlib.Core.Path.{◌≡◌, refl, ap, sym, ◌∙◌}
use mathlib.Core.Bool.{Bool, true, false, not, ◌&&◌, ◌||◌, or_comm, and_assoc, and-true, false≢true}
use mathlib.Core.List.{List, [], ◌∷◌}
use mathlib.Core.Logic.{⊎_elim}
use mathlib.Core.Option.{Option, none, some, none-ne-some}
use Prim.Native.Nat.{ℕ, zero, suc, ◌+◌, ◌-◌, ◌≤◌, ◌<◌}
use native.Mathlib.Numerals.{add-one}
use native.Mathlib.Omega.{arith}
use native.Mathlib.Nat.{not-suc-le-zero, le_of_suc-le-suc}
use lib.Dec.{ltb}
use lib.ListN.{length, get_or}
use borrow.Author.Tests.{ltb-true, ltb-false}
use Rattle.std.specs.List.{fold}
use Rattle.base.specs.Choice.{pick}
use Rattle.base.specs.Search.{every, first_from, first, First, found, missing, first_of, with_head, first_vec, Vec}
use Rattle.base.proofs.Choice.{either, below_suc, and_left, and_right, and_both}

-- EVERY
pub every-step : (n : ℕ) (t : ℕ → Bool) → every (n + 1) t ≡ (every n t && t n)
unfolding every
every-step n t = rw add-one refl

pub every-at : (n : ℕ) (t : ℕ → Bool) → every n t ≡ true → (i : ℕ) → i < n → t i ≡ true
unfolding every
every-at zero t e i h = absurd (not-suc-le-zero h)
every-at (suc n) t e i h =
    ⊎_elim (λ l. every-at n t (and_left (every n t) (t n) e) i l) (λ q. ap t q ∙ and_right (every n t) (t n) e) (below_suc i n h)

pub every-all : (n : ℕ) (t : ℕ → Bool) → ((i : ℕ) → i < n → t i ≡ true) → every n t ≡ true
unfolding every
every-all zero t h = refl
every-all (suc n) t h = and_both (every n t) (t n) (every-all n t (λ i l. h i (omega arith))) (h n (omega arith))

pub every-fails : (n : ℕ) (t : ℕ → Bool) (i : ℕ) → i < n → t i ≡ false → every n t ≡ false
every-fails n t i l f = go (every n t) refl
  where
    go : (b : Bool) → every n t ≡ b → b ≡ false
    go true e = absurd (false≢true (sym f ∙ every-at n t e i l))
    go false e = refl

pub every-ext : (n : ℕ) (t u : ℕ → Bool) → ((i : ℕ) → i < n → t i ≡ u i) → every n t ≡ every n u
unfolding every
every-ext zero t u h = refl
every-ext (suc n) t u h = rw (every-ext n t u (λ i l. h i (omega arith)), h n (omega arith)) refl

-- the first number set apart
pub every-front : (n : ℕ) (t : ℕ → Bool) → every (suc n) t ≡ (t 0 && every n (λ i. t (suc i)))
unfolding every
every-front zero t = sym (and-true (t 0))
every-front (suc n) t = ap (λ b. b && t (suc n)) (every-front n t) ∙ and_assoc (t 0) (every n (λ i. t (suc i))) (t (suc n))

-- a fold over a list, which asks whether some entry fails
pub fold-any : {A : Type 0} (u : A → Bool) (b : Bool) (z : A) (l : List A) → not (fold (λ a x. a || u x) b l) ≡ (not b && every (length l) (λ i. not (u (get_or l i z))))
unfolding every
fold-any u b z [] = sym (and-true (not b))
fold-any u b z (x ∷ l) =
    fold-any u (b || u x) z l
    ∙ neither b (u x) (every (length l) (λ i. not (u (get_or l i z))))
    ∙ ap (λ c. not b && c) (sym (every-front (length l) (λ i. not (u (get_or (x ∷ l) i z)))))
  where
    neither : (a b c : Bool) → (not (a || b) && c) ≡ (not a && (not b && c))
    neither true b c = refl
    neither false b c = refl

-- FIRST
from_is : (t : ℕ → Bool) (k i n : ℕ) → i + k ≡ n → ((j : ℕ) → j < i → t j ≡ false) → First t n (first_from t i k)
unfolding first_from
from_is t zero i n e h = missing (omega arith) (λ j l. h j (omega arith))
from_is t (suc k) i n e h = go (t i) refl (from_is t k (suc i) n (omega arith))
  where
    go : (b : Bool) → t i ≡ b → (((j : ℕ) → j < suc i → t j ≡ false) → First t n (first_from t (suc i) k)) → First t n (pick b i (first_from t (suc i) k))
    go true d ih = found (omega arith) d h
    go false d ih = ih (λ j l. either j i (t j ≡ false) (λ w. rw w d) (λ w. h j (omega (arith, w))))

pub first-is : (t : ℕ → Bool) (n : ℕ) → First t n (first t n)
unfolding first
first-is t n = from_is t n 0 n (omega arith) (λ j l. absurd (omega arith))

-- two tests that agree below n have the same first
pub first-only : (t u : ℕ → Bool) (n r m : ℕ) → ((i : ℕ) → i < n → t i ≡ u i) → First t n r → First u n m → r ≡ m
first-only t u n r m e (missing a b) (missing c d) = a ∙ sym c
first-only t u n r m e (missing a b) (found c d i) = absurd (false≢true (sym (b m c) ∙ e m c ∙ d))
first-only t u n r m e (found a b i) (missing c d) = absurd (false≢true (sym (d r a) ∙ sym (e r a) ∙ b))
first-only t u n r m e (found a b i) (found c d j) = go (ltb r m) refl (ltb m r) refl
  where
    go : (x : Bool) → ltb r m ≡ x → (y : Bool) → ltb m r ≡ y → r ≡ m
    go true u y v = absurd (false≢true (sym (j r (ltb-true r m u)) ∙ sym (e r a) ∙ b))
    go false u true v = absurd (false≢true (sym (i m (ltb-true m r v)) ∙ e m c ∙ d))
    go false u false v = omega (arith, ltb-false r m u, ltb-false m r v)

pub first-ext : (t u : ℕ → Bool) (n : ℕ) → ((i : ℕ) → i < n → t i ≡ u i) → first t n ≡ first u n
first-ext t u n h = first-only t u n (first t n) (first u n) h (first-is t n) (first-is u n)

-- the answer, where it is known
pub first_found : (t : ℕ → Bool) (n k : ℕ) → k < n → t k ≡ true → ((j : ℕ) → j < k → t j ≡ false) → first t n ≡ k
first_found t n k l e h = first-only t t n (first t n) k (λ i m. refl) (first-is t n) (found l e h)

pub first-missing : (t : ℕ → Bool) (n : ℕ) → ((j : ℕ) → j < n → t j ≡ false) → first t n ≡ n
first-missing t n h = first-only t t n (first t n) n (λ i m. refl) (first-is t n) (missing refl h)

-- what the answer says
pub missing-all : (t : ℕ → Bool) (n : ℕ) → n ≤ first t n → (j : ℕ) → j < n → t j ≡ false
missing-all t n l = go (first t n) (first-is t n) l
  where
    go : (r : ℕ) → First t n r → n ≤ r → (j : ℕ) → j < n → t j ≡ false
    go r (found a e h) m = absurd (omega arith)
    go r (missing a h) m = h

pub found-there : (t : ℕ → Bool) (n : ℕ) → first t n < n → t (first t n) ≡ true
found-there t n l = go (first t n) (first-is t n) l
  where
    go : (r : ℕ) → First t n r → r < n → t r ≡ true
    go r (found a e h) m = e
    go r (missing a h) m = absurd (omega arith)

pub first-le : (t : ℕ → Bool) (n : ℕ) → first t n ≤ n
first-le t n = go (first t n) (first-is t n)
  where
    go : (r : ℕ) → First t n r → r ≤ n
    go r (found a e h) = omega arith
    go r (missing a h) = omega arith

-- below the lowest none passes
none_below : (t : ℕ → Bool) (n r : ℕ) → First t n r → (j : ℕ) → j < r → t j ≡ false
none_below t n r (found a e h) j l = h j l
none_below t n r (missing a h) j l = h j (omega arith)

-- the lowest that passes one of two tests is the lower of the two lowest
lower : (t u : ℕ → Bool) (n r q : ℕ) → First t n r → First u n q → r ≤ q → First (λ i. t i || u i) n r
lower t u n r q (found a e h) w l = found a (ap (λ b. b || u r) e) (λ j m. ap (λ b. b || u j) (h j m) ∙ none_below u n q w j (omega arith))
lower t u n r q (missing a h) w l = missing a (λ j m. ap (λ b. b || u j) (h j m) ∙ none_below u n q w j (omega arith))

pub first-or-left : (t u : ℕ → Bool) (n : ℕ) → first t n ≤ first u n → first t n ≡ first (λ i. t i || u i) n
first-or-left t u n l =
    let v : ℕ → Bool = λ i. t i || u i in
    first-only v v n (first t n) (first v n) (λ i m. refl) (lower t u n (first t n) (first u n) (first-is t n) (first-is u n) l) (first-is v n)

pub first-or-right : (t u : ℕ → Bool) (n : ℕ) → first u n ≤ first t n → first u n ≡ first (λ i. t i || u i) n
first-or-right t u n l = first-or-left u t n l ∙ first-ext (λ i. u i || t i) (λ i. t i || u i) n (λ i m. or_comm (u i) (t i))

-- a loop upwards from i: the search from here is the search of the whole
module _ (t : ℕ → Bool) (i n : ℕ) where
  one_more : i < n → first_from t i (n - i) ≡ pick (t i) i (first_from t (suc i) (n - (i + 1)))
  unfolding first_from
  one_more h = let e : n - i ≡ suc (n - (i + 1)) = omega arith in ap (first_from t i) e

  pub first-stop : i < n → t i ≡ true → first_from t i (n - i) ≡ i
  first-stop h e = one_more h ∙ rw e

  pub first_step : i < n → t i ≡ false → first_from t i (n - i) ≡ first_from t (i + 1) (n - (i + 1))
  first_step h e = one_more h ∙ rw (e, add-one)

  pub first-end : n ≤ i → first_from t i (n - i) ≡ i
  unfolding first_from
  first-end h = let e : n - i ≡ 0 = omega arith in ap (first_from t i) e

-- VECTORS
first_of-sound : (n : ℕ) (f : ℕ → Option (List ℕ)) (v : List ℕ) → first_of n f ≡ some v → (x : ℕ) × (x < n) × (f x ≡ some v)
unfolding first_of
first_of-sound zero f v t = absurd (none-ne-some _ t)
first_of-sound (suc n) f v t = go (λ w q. first_of-sound n f w q) (first_of n f) refl t
  where
    go : ((w : List ℕ) → first_of n f ≡ some w → (x : ℕ) × (x < n) × (f x ≡ some w)) → (o : Option (List ℕ)) → first_of n f ≡ o
        → ◌≡◌ {A = Option (List ℕ)} (elim o [ some w ↦ some w | none ↦ f n ]) (some v) → (x : ℕ) × (x < suc n) × (f x ≡ some v)
    go ih none e z = (n, omega arith, z)
    go ih (some w) e z = let r = ih w e in (r.0, omega arith, r.2 ∙ z)

first_of-complete : (n : ℕ) (f : ℕ → Option (List ℕ)) (x : ℕ) (v : List ℕ) → x < n → f x ≡ some v → (w : List ℕ) × (first_of n f ≡ some w)
unfolding first_of
first_of-complete zero f x v h t = absurd (not-suc-le-zero h)
first_of-complete (suc n) f x v h t = go (λ l. first_of-complete n f x v l t) (first_of n f) refl
  where
    go : (x < n → (w : List ℕ) × (first_of n f ≡ some w)) → (o : Option (List ℕ)) → first_of n f ≡ o
        → (w : List ℕ) × (◌≡◌ {A = Option (List ℕ)} (elim (first_of n f) [ some w ↦ some w | none ↦ f n ]) (some w))
    go ih (some w) e = (w, rw e)
    go ih none e =
        ⊎_elim (λ l. absurd (none-ne-some _ (sym e ∙ (ih l).1))) (λ q. (v, rw e (sym (ap f q) ∙ t))) (below_suc x n h)

head-sound : (x : ℕ) (o : Option (List ℕ)) (v : List ℕ) → with_head x o ≡ some v → (w : List ℕ) × (o ≡ some w) × (x ∷ w ≡ v)
head-sound x none v t = absurd (none-ne-some _ t)
head-sound x (some w) v t = (w, refl, cc)

-- what the search answers is a vector that passes
pub first_vec-sound : (p d : ℕ) (t : List ℕ → Bool) (v : List ℕ) → first_vec p d t ≡ some v → Vec p d v × (t v ≡ true)
unfolding first_vec
first_vec-sound p zero t v e = go (t []) refl e
  where
    go : (b : Bool) → t [] ≡ b → ◌≡◌ {A = Option (List ℕ)} (elim b [ true ↦ some [] | false ↦ none ]) (some v) → Vec p zero v × (t v ≡ true)
    go true e z =
        let q : ◌≡◌ {A = List ℕ} [] v = cc in
        (record { size = sym (ap length q); small = λ k l. absurd (not-suc-le-zero l) }, sym (ap t q) ∙ e)
    go false e z = absurd (none-ne-some _ z)
first_vec-sound p (suc d) t v e =
    let r = first_of-sound p (λ x. with_head x (first_vec p d (λ w. t (x ∷ w)))) v e in
    let s = head-sound r.0 (first_vec p d (λ w. t (r.0 ∷ w))) v r.2 in
    let i = first_vec-sound p d (λ w. t (r.0 ∷ w)) s.0 s.1 in
    rw (← s.2) (record { size = ap suc i.0.size; small = small' r.0 r.1 s.0 i.0.small }, i.1)
  where
    small' : (x : ℕ) → x < p → (w : List ℕ) → ((k : ℕ) → k < d → get_or w k 0 < p) → (k : ℕ) → k < suc d → get_or (x ∷ w) k 0 < p
    small' x hx w hw zero l = hx
    small' x hx w hw (suc k) l = hw k (le_of_suc-le-suc l)

-- where some vector passes, the search answers
pub first_vec-complete : (p d : ℕ) (t : List ℕ → Bool) (v : List ℕ) → Vec p d v → t v ≡ true → (w : List ℕ) × (first_vec p d t ≡ some w)
unfolding first_vec
first_vec-complete p zero t [] ok e = ([], rw (e, first_vec))
first_vec-complete p zero t (x ∷ v) ok e = absurd (omega (arith, ok.size))
first_vec-complete p (suc d) t [] ok e = absurd (omega (arith, ok.size))
first_vec-complete p (suc d) t (x ∷ v) ok e =
    let i = first_vec-complete p d (λ w. t (x ∷ w)) v (record { size = omega (arith, ok.size); small = λ k l. ok.small (suc k) (omega arith) }) e in
    first_of-complete p (λ y. with_head y (first_vec p d (λ w. t (y ∷ w)))) x (x ∷ i.0) (ok.small 0 (omega arith)) (ap (with_head x) i.1)

-- where no vector passes, it answers none
pub first_vec-none : (p d : ℕ) (t : List ℕ → Bool) → ((v : List ℕ) → Vec p d v → t v ≡ true → ⊥) → first_vec p d t ≡ none
first_vec-none p d t h = go (first_vec p d t) refl
  where
    go : (o : Option (List ℕ)) → first_vec p d t ≡ o → o ≡ none
    go none e = refl
    go (some v) e = let r = first_vec-sound p d t v e in absurd (h v r.0 r.1)
