-- What is read off a reduced matrix, on matrices and on a flat buffer, and the certificates that each answer has.
-- pivot_row: the row whose pivot stands in column q; R where there is none
-- shown: entry j of the vector read off column b, the right side of the row whose pivot stands in column j; 0 where there is none
-- unsolved: the first unused row with an entry in column b, an equation 0 = something; R where there is none
-- all_solved: no unused row has an entry in any of the m columns from C on: every system with its right side in one of them has a solution
-- alone: the row has no entry in the first C columns but at q
-- fixes: position q is determined, as the reduced matrix shows it: the row with its pivot in q has no other entry in the first C columns
-- flat_shown, flat_unsolved, flat_all_solved, flat_fixes: shown, unsolved, all_solved, fixes read off a buffer
-- Refutes: y combines the equations A x = b to 0 = something, so that there is no solution
-- Beside: by the answer r of `unsolved`, a solution of the system with its right side in column b, or a refutation
-- Unseen: A t = 0 for the k rows of A, and t is not 0 at position q
-- Position: by the answer of `fixes`, a row for position q, or a vector that shows that there is none
-- Sweeps: a sweeping vector for position q: A t = 0, and e_q in its first l entries
-- turned: the last e of the l + e columns of A first, the first l beside them
-- sweep: e_q in the first l entries, then the negative of x
use Rattle.std.specs.Prelude.{◌≡◌, ◌≢◌, Bool, true, false, ◌&&◌, ℕ, suc, ◌+◌, ◌-◌, ◌*◌, ◌%◌, ◌<◌, eqb, leb, ltb}
use Rattle.base.specs.Choice.{pick}
use Rattle.base.specs.Search.{every, first}
use Rattle.base.specs.Sum.{unit}
use Rattle.field.specs.Dot.{dot, RowFor}
use Rattle.gauss.specs.Gauss.{State, pivot_of, reduced, elsewhere, Solution}
use Rattle.elimination.specs.Elimination.{Flat, view, flat_pivot}

-- ON MATRICES
unfoldable pub pivot_row : ℕ → (ℕ → ℕ) → ℕ → ℕ
pivot_row R used q = first (λ i. eqb (used i) (suc q)) R

unfoldable pub shown : (R b : ℕ) → State → ℕ → ℕ
shown R b s j = let r = pivot_row R s.used j in pick (ltb r R) (s.mat r b) 0

abbrev pub unsolved : (R b : ℕ) → State → ℕ
unsolved R b s = pivot_of R b s

unfoldable pub all_solved : (R C m : ℕ) → State → Bool
all_solved R C m s = every m (λ q. leb R (unsolved R (C + q) s))

unfoldable pub alone : ℕ → (ℕ → ℕ) → ℕ → Bool
alone C row q = leb C (first (elsewhere q row) C)

unfoldable pub fixes : (R C : ℕ) → State → ℕ → Bool
fixes R C s q = let r = pivot_row R s.used q in ltb r R && alone C (s.mat r) q

-- ON A FLAT BUFFER
unfoldable pub flat_shown : (R W b : ℕ) → Flat → ℕ → ℕ
flat_shown R W b s j = shown R b (view W s) j

abbrev pub flat_unsolved : (R W b : ℕ) → Flat → ℕ
flat_unsolved R W b s = flat_pivot R W b s

unfoldable pub flat_all_solved : (R W C m : ℕ) → Flat → Bool
flat_all_solved R W C m s = all_solved R C m (view W s)

unfoldable pub flat_fixes : (R W C : ℕ) → Flat → ℕ → Bool
flat_fixes R W C s q = fixes R C (view W s) q

-- CERTIFICATES
pub record Refutes (p R C : ℕ) (A : ℕ → ℕ → ℕ) (b y : ℕ → ℕ) : Type 0 where
  pub kills : (j : ℕ) → j < C → dot R y (λ i. A i j) % p ≡ 0
  pub keeps : dot R y b % p ≢ 0

pub data Beside (p R C b : ℕ) (G : ℕ → ℕ → ℕ) (r : ℕ) : Type 0 where
  solvable : r ≡ R → Solution p R C G (λ i. G i b) (shown R b (reduced p R C G)) → Beside p R C b G r
  refuted : r < R → (y : ℕ → ℕ) → Refutes p R C G (λ i. G i b) y → Beside p R C b G r

pub record Unseen (p k d : ℕ) (A : ℕ → ℕ → ℕ) (q : ℕ) (t : ℕ → ℕ) : Type 0 where
  pub zeros : (i : ℕ) → i < k → dot d (A i) t % p ≡ 0
  pub there : t q % p ≢ 0

pub data Position (p k d : ℕ) (A : ℕ → ℕ → ℕ) (q : ℕ) : Bool → Type 0 where
  fixed : (r : ℕ → ℕ) → RowFor p k d A q r → Position p k d A q true
  free : (t : ℕ → ℕ) → Unseen p k d A q t → Position p k d A q false

pub record Sweeps (p k d l : ℕ) (A : ℕ → ℕ → ℕ) (q : ℕ) (t : ℕ → ℕ) : Type 0 where
  pub zeros : (i : ℕ) → i < k → dot d (A i) t % p ≡ 0
  pub first : (j : ℕ) → j < l → t j % p ≡ unit q j % p

unfoldable pub turned : (l e : ℕ) → (ℕ → ℕ → ℕ) → ℕ → ℕ → ℕ
turned l e A i j = pick (ltb j e) (A i (l + j)) (A i (j - e))

unfoldable pub sweep : (p l q : ℕ) → (ℕ → ℕ) → ℕ → ℕ
sweep p l q x j = pick (ltb j l) (unit q j) ((p - 1) * x (j - l))
