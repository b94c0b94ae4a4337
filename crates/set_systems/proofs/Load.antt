-- How a system comes into a buffer row by row, and that the buffer then shows it.
-- row-part, row_last: a part of a row of a matrix that lies flat, and its last entry
-- loaded-whole: the buffer is filled when every row is written
-- Loading: filled with the entries g of R rows of W columns, the buffers x and u may be reduced by the first C columns; what is wanted is then done
-- loading: that holds of a system G of elements, where what is wanted follows from what the reduced buffers show and from the number of row steps
use mathlib.Core.Path.{◌≡◌, sym, ap, ◌∙◌}
use mathlib.Core.List.{List}
use Prim.Native.Nat.{ℕ, zero, suc, ◌+◌, ◌*◌, ◌/◌, ◌%◌, ◌≤◌, ◌<◌}
use native.Mathlib.Nat.{mod-eq_of_lt, mod-lt, div-lt_iff_lt-mul}
use native.Mathlib.Decide.{dec_lt}
use native.Mathlib.Omega.{arith}
use lib.ListN.{length, get_or, set, get_or-eq_default}
use Rattle.base.specs.Fill.{tab, laid, filled}
use Rattle.base.specs.Matrix.{entry, flat, Below}
use Rattle.base.proofs.Fill.{get_d-tab, length-tab, filled-store, filled-whole, flat-at, laid_filled}
use Rattle.base.proofs.Matrix.{entry-fits}
use Rattle.field.specs.Prime.{Prime}
use Rattle.gauss.specs.Gauss.{start, reduced, steps}
use Rattle.elimination.specs.Elimination.{Shows}
use Rattle.elimination.specs.Inner.{buffers, Fits, Ready, Reduction}
use Rattle.elimination.proofs.Flat.{start-shows, reduced-shows, steps-show}
use Rattle.set_systems.specs.Inner.{Fresh}

-- a part of a row of a matrix that lies flat, from column c on, and its last entry
module _ (W : ℕ) (G : ℕ → ℕ → ℕ) (i c t : ℕ) (x a : List ℕ) (place : t ≡ i * W + c) (e : a ≡ filled (flat W G) t x) where
  pub row-part : (f : ℕ → ℕ) (n : ℕ) → c + n ≤ W → ((j : ℕ) → j < n → f j ≡ G i (c + j)) → laid f t n a ≡ filled (flat W G) (t + n) x
  row-part f n fit h =
      laid_filled f (flat W G) t n x a e (λ j l. h j l ∙ flat-at W G i (c + j) (omega arith) ∙ ap (flat W G) (omega arith))

  pub row_last : (v : ℕ) → c + 1 ≡ W → v ≡ G i c → set a t v ≡ filled (flat W G) ((i + 1) * W) x
  row_last v fit h =
      filled-store (flat W G) t x a v e (h ∙ flat-at W G i c (omega arith) ∙ ap (flat W G) (sym place))
      ∙ ap (λ k. filled (flat W G) k x) (omega arith)

pub loaded-whole : (R W : ℕ) (g : ℕ → ℕ) (k : ℕ) (x a : List ℕ) → length x ≡ R * W → k ≡ R → a ≡ filled g (k * W) x → a ≡ tab (length x) g
loaded-whole R W g k x a size done e =
    e ∙ ap (λ n. filled g n x) (ap (λ n. n * W) done ∙ sym size) ∙ filled-whole g 0 x

-- SHOWING
pub record Loading (p R W C : ℕ) (g : ℕ → ℕ) (x u : List ℕ) (Done : List ℕ → List ℕ → ℕ → Type 0) : Type 0 where
  pub ready : {a : List ℕ} → a ≡ tab (length x) g → Ready p R W a u
  pub fits : {a b v : List ℕ} {n : ℕ} → a ≡ tab (length x) g → Reduction p R W C a u b v n → Fits R W b v
  pub done : {a b v : List ℕ} {n : ℕ} → a ≡ tab (length x) g → Reduction p R W C a u b v n → Done b v n

module _ {p R W : ℕ} (P : Prime p) (G : ℕ → ℕ → ℕ) (small : (i j : ℕ) → i < R → j < W → G i j < p) {x u : List ℕ} (room : Fresh R W x u) where
  module _ {a : List ℕ} (loaded : a ≡ tab (length x) (flat W G)) where
    whole : a ≡ tab (R * W) (flat W G)
    whole = loaded ∙ ap (λ n. tab n (flat W G)) room.size

    loaded-size : length a ≡ R * W
    loaded-size = ap length whole ∙ length-tab (R * W) (flat W G)

    loaded-below : Below p a
    loaded-below k = go (dec_lt k (R * W))
      where
        go : Dec (k < R * W) → get_or a k 0 < p
        go (yes l) =
            rw (whole, get_d-tab (R * W) (flat W G) 0 k l) (small (k / W) (k % W) ((div-lt_iff_lt-mul (pos_of W l)).1 l) (mod-lt k (pos_of W l)))
          where
            pos_of : (w : ℕ) → k < R * w → 0 < w
            pos_of zero h = absurd (omega arith)
            pos_of (suc w) h = omega arith
        go (no n) = rw (get_or-eq_default a 0 {n = k} (omega (arith, loaded-size))) (omega (arith, P.big))

    loaded-entry : (i j : ℕ) → i < R → j < W → entry W a i j ≡ G i j % p
    loaded-entry i j l m =
        rw whole (get_d-tab (R * W) (flat W G) 0 (i * W + j) (entry-fits R W i j l m)) ∙ sym (flat-at W G i j m) ∙ sym (mod-eq_of_lt (small i j l m))

    module _ (C : ℕ) (l : C ≤ W) {b v : List ℕ} {n : ℕ} (r : Reduction p R W C a u b v n) where
      begins : Shows p R W (buffers a u) (start p G)
      begins = start-shows p R W (buffers a u) G loaded-size room.marks loaded-below loaded-entry room.unused

      loaded-shows : Shows p R W (buffers b v) (reduced p R C G)
      loaded-shows = rw r.state (reduced-shows p P R W (buffers a u) G begins C l)

      loaded-steps : n ≡ steps p R C (start p G)
      loaded-steps = r.steps ∙ steps-show p P R W (buffers a u) (start p G) begins C l

  pub loading : W ≤ 64 → (C : ℕ) → C ≤ W → (Done : List ℕ → List ℕ → ℕ → Type 0)
      → ((b v : List ℕ) (n : ℕ) → Shows p R W (buffers b v) (reduced p R C G) → n ≡ steps p R C (start p G) → Done b v n) → Loading p R W C (flat W G) x u Done
  loading narrow C l Done then = record {
    ready = λ h. record { fits = record { size = loaded-size h; marks = room.marks; narrow = narrow }; prime = P; below = loaded-below h };
    fits = λ h r. let s = loaded-shows h C l r in record { size = s.size; marks = s.marks; narrow = narrow };
    done = λ h r. then _ _ _ (loaded-shows h C l r) (loaded-steps h C l r);
  }
