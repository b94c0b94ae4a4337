-- From reduced systems to the answers about a set: what a system shows is a reconstruction row or a sweeping vector, or a proof that there is none.
-- zeros-vec: zeros may stand for shares
-- decided: a question's answer on paper
-- determines-is: the lowest position that is lacking says whether the set determines the secrets
-- row_fits, row-found, row-none: what the system for a reconstruction row shows
-- shown-below, vector-fits, vector-none, vector-found: what the system for a sweeping vector shows
-- private-is: that system at all positions says whether the set is private
-- judge-taken: what an accepted judgement says of its inputs
-- judged-row, judged-vector, judged-neither, buffer-judged: the answer of the call, and its buffer
-- back: a part that comes back as it was
use mathlib.Core.Path.{◌≡◌, refl, sym, ap, ◌∙◌}
use mathlib.Core.Bool.{Bool, true, false, not, false≢true}
use native.Mathlib.Decide.{dec_lt}
use mathlib.Core.List.{List, ◌++◌}
use mathlib.Core.Option.{some}
use Prim.Native.Nat.{ℕ, ◌+◌, ◌-◌, ◌*◌, ◌%◌, ◌≤◌, ◌<◌}
use native.Mathlib.Nat.{mod-mod, mod-lt}
use native.Mathlib.Omega.{arith}
use lib.Dec.{leb, ltb}
use lib.ListN.{length, take, drop, replicate, length-replicate, length-drop, get_or-replicate, take-append-drop}
use lib.Seq.{ext_get_or, get_or-drop, get_or-take}
use borrow.Author.Tests.{lt-ltb, le-leb, lt-leb}
use Rattle.base.specs.Choice.{pick}
use Rattle.base.specs.Rules.{Answer, refusal}
use Rattle.base.specs.Search.{Vec, first}
use Rattle.base.specs.Fill.{tab}
use Rattle.base.specs.Matrix.{entry, Below}
use Rattle.base.specs.Sum.{unit}
use Rattle.base.proofs.Search.{every-ext, first_vec-sound}
use Rattle.base.proofs.Fill.{get_d-tab, tab-vec, tab-ext}
use Rattle.field.specs.Dot.{at}
use Rattle.field.proofs.Congruence.{cong-two}
use Rattle.field.proofs.Dot.{dot-ext, dot-mod-right}
use Rattle.read_off.specs.ReadOff.{shown, unsolved, sweep, pivot_row, flat_shown, flat_unsolved, all_solved, flat_all_solved, Beside, solvable, refuted, Sweeps}
use Rattle.gauss.specs.Gauss.{reduced}
use Rattle.elimination.specs.Elimination.{Flat, view, flat_pivot}
use Rattle.elimination.specs.Inner.{buffers, Fits}
use Rattle.read_off.proofs.Reduced.{beside, turned_left, turned_right, sweep-is, shown-small}
use Rattle.read_off.proofs.Shows.{unsolved-shows, shown-shows}
use Rattle.scheme.specs.Setup.{Setup, dim}
use Rattle.std.specs.Prelude.{Ok}
use Rattle.scheme.specs.Answers.{is_a_row, is_a_vector, is_neither, paper_decided}
use Rattle.scheme.specs.Sets.{holds, members, determines, has_row, is_one_row, one_row, is_sweep, has_sweep, across, row_steps, kind, is_private}
use Rattle.scheme.specs.Calls.{decide, judge_set_rules, JudgeSetLeft, of_row, of-vector, of-neither}
use Rattle.scheme.proofs.Calls.{set-accepts, judge_set-ok}
use Rattle.scheme.proofs.Sets.{rows, unit-mod, is-sweep, row-there, sweep-there}
use Rattle.scheme.proofs.Certificates.{sweep-in-hand, no-sweep, kind_row, kind-vector, kind-neither}
use Rattle.set_rows.proofs.OneRow.{one-is-row, found-one, shows-one, shows-none}
use Rattle.set_systems.specs.Inner.{SetTaken, members_of, aside, AcrossReduced, AsideReduced}
use Rattle.set_systems.proofs.Systems.{determines-by, determines-not}
use Rattle.set_systems.proofs.Members.{prime-of, wide, few, narrow, zeros, part-size}
use Rattle.set_questions.specs.Buffer.{SetBuffer}
use Rattle.set_questions.specs.Inner.{negated, RowSought, VectorSought}

members-are : {S : Setup} {s : ℕ} (ok : SetTaken S s) {n : ℕ} → n ≡ length (members 32 (holds s)) → n ≡ length (members_of S s)
members-are ok K = K ∙ ap length (wide ok)

pub decided : (b : Bool) → paper_decided (Ok b) ≡ decide b
decided true = refl
decided false = refl

-- DETERMINES: zeros stand for the shares
pub zeros-vec : (p k n : ℕ) → 0 < p → k ≤ n → Vec p k (take k (zeros n))
zeros-vec p k n pos l = record {
  size = sym (part-size k n l);
  small = λ i m. rw (get_or-take k (zeros n) i 0 m, get_or-replicate {A = ℕ} n i 0 0 (omega arith)) pos;
}

pub determines-is : (S : Setup) (X : ℕ → Bool) (q : ℕ) → q ≡ first (λ q. not (has_row S X q)) S.l → leb S.l q ≡ determines S X
determines-is S X q e = go (dec_lt q S.l)
  where
    go : Dec (q < S.l) → leb S.l q ≡ determines S X
    go (yes h) = lt-leb S.l q h ∙ sym (determines-not S X q e h)
    go (no n) = let h : S.l ≤ q = omega arith in le-leb S.l q h ∙ sym (determines-by S X q e h)

-- A RECONSTRUCTION ROW
-- the reduced system shows the set's row, or that there is none
module _ {S : Setup} {s : ℕ} (ok : SetTaken S s) {q : ℕ} (inside : q < S.l) {a u : List ℕ} {r : ℕ} (R : AcrossReduced S s q a u r)
    {n d : ℕ} (K : n ≡ length (members 32 (holds s))) (D : d ≡ dim S) where
  k : ℕ
  k = length (members_of S s)

  pub row_fits : Fits d (n + 1) a u
  row_fits = rw (D, members-are ok K) (record { size = R.shows.size; marks = R.shows.marks; narrow = omega (arith, few ok) })

  module _ {f : ℕ} (g : f ≡ flat_unsolved d (n + 1) n (buffers a u)) where
    same_test : f ≡ unsolved (dim S) k (reduced S.p (dim S) k (across (dim S) S.M (members_of S s) q))
    unfolding k
    same_test = (rw (D, members-are ok K) at g) ∙ unsolved-shows S.p (dim S) (k + 1) (buffers a u) _ R.shows k (omega arith)

    pub row-found : d ≤ f → (old : List ℕ) → length old ≡ n → {left : List ℕ} → left ≡ tab (length old) (flat_shown d (n + 1) n (buffers a u)) → RowSought S s q old true r left
    unfolding k
    row-found l old size e =
        let h = shows-one S (holds s) (prime-of ok) q (omega arith) (omega (arith, D, same_test)) in
        record {
          steps = R.steps;
          found = λ t. found-one S (holds s) (prime-of ok) q _ h.0 h.1 ∙ ap some (sym ((rw (size, D, members-are ok K) at e)
              ∙ tab-ext k _ _ (λ i m. shown-shows S.p (dim S) (k + 1) (buffers a u) _ R.shows k (omega arith) i)));
          none = λ t. absurd (false≢true (sym t));
        }

    pub row-none : f < d → (old : List ℕ) → RowSought S s q old false r old
    unfolding k
    row-none l old = record {
      steps = R.steps;
      found = λ t. absurd (false≢true t);
      none = λ t. (shows-none S (holds s) (prime-of ok) q (omega arith) (omega (arith, D, same_test)), refl);
    }

-- A SWEEPING VECTOR
-- what is read off a buffer of elements is an element
pub shown-below : (p R W b : ℕ) (s : Flat) → 0 < p → Below p s.mat → (j : ℕ) → flat_shown R W b s j < p
unfolding flat_shown shown
shown-below p R W b s pos all j = go (pivot_row R (view W s).used j) (ltb (pivot_row R (view W s).used j) R)
  where
    go : (r : ℕ) (t : Bool) → pick t (entry W s.mat r b) 0 < p
    go r true = all (r * W + b)
    go r false = pos

pub vector-fits : {S : Setup} {s : ℕ} (ok : SetTaken S s) {a u : List ℕ} → AsideReduced S s a u → {n d : ℕ} → n ≡ length (members 32 (holds s)) → d ≡ dim S
    → Fits n d a u
vector-fits ok R K D = rw (D, members-are ok K) (record { size = R.shows.size; marks = R.shows.marks; narrow = omega (arith, narrow ok) })

-- p - x is (p - 1) x modulo p
negative-is : (p x : ℕ) → 1 < p → x < p → (p - x) % p ≡ ((p - 1) * x) % p
negative-is p x big l = go (p - 1) (p - x) (omega arith) (omega arith)
  where
    go : (n m : ℕ) → n + 1 ≡ p → m + x ≡ p → m % p ≡ (n * x) % p
    go n m e f = cong-two p x 1 m (n * x) (omega (arith, ap (λ z. x * z) e))

module _ {S : Setup} {s : ℕ} (ok : SetTaken S s) {q : ℕ} (inside : q < S.l) {a u : List ℕ} (R : AsideReduced S s a u) where
  G : ℕ → ℕ → ℕ
  G = aside S.l S.e S.M (members_of S s)

  m : ℕ
  m = length (members_of S s)

  y : ℕ → ℕ
  y = shown m (S.e + q) (reduced S.p m S.e G)

  in-last : (i j : ℕ) → j < S.e → G i j ≡ rows S (holds s) i (S.l + j)
  unfolding G
  in-last i j l = turned_left S.l S.e (rows S (holds s)) i j l

  in-first : (i : ℕ) → G i (S.e + q) ≡ rows S (holds s) i q
  unfolding G
  in-first i = turned_right S.l S.e (rows S (holds s)) i q

  -- the entries that are written
  v : ℕ → ℕ
  v = negated S.p m (dim S) S.l S.e q (buffers a u)

  v-first : (j : ℕ) → j < S.l → v j ≡ unit q j
  unfolding v negated
  v-first j l = rw (lt-ltb j S.l l)

  v-is : (j : ℕ) → v j ≡ sweep S.p S.l q y j % S.p
  unfolding v y m G negated sweep
  v-is j = go (ltb j S.l)
    where
      go : (b : Bool) → pick b (unit q j) ((S.p - flat_shown m (dim S) (S.e + q) (buffers a u) (j - S.l)) % S.p)
          ≡ pick b (unit q j) ((S.p - 1) * y (j - S.l)) % S.p
      go true = sym (unit-mod S.p q j (prime-of ok).big)
      go false =
          ap (λ z. (S.p - z) % S.p) (shown-shows S.p m (dim S) (buffers a u) _ R.shows (S.e + q) (omega arith) (j - S.l))
          ∙ negative-is S.p (y (j - S.l)) (prime-of ok).big (shown-small S.p (prime-of ok) m S.e (S.e + q) G (j - S.l))

  vector-is : Sweeps S.p m (dim S) S.l (rows S (holds s)) q (sweep S.p S.l q y)
      → Vec S.p (dim S) (tab (dim S) v) × (is_sweep S (members_of S s) q (tab (dim S) v) ≡ true)
  unfolding m
  vector-is h = (
    tab-vec S.p (dim S) v (λ j l. rw (v-is j) (mod-lt (sweep S.p S.l q y j) (omega (arith, (prime-of ok).big)))),
    is-sweep S (members_of S s) q (tab (dim S) v)
        (λ i l. dot-mod-right S.p (dim S) (rows S (holds s) i) (at (tab (dim S) v)) (sweep S.p S.l q y)
        (λ j n. ap (λ z. z % S.p) (get_d-tab (dim S) v 0 j n ∙ v-is j) ∙ mod-mod (sweep S.p S.l q y j) S.p) ∙ h.zeros i l)
        (λ j l. get_d-tab (dim S) v 0 j (omega arith) ∙ v-first j l),
  )

  module _ {n d : ℕ} (K : n ≡ length (members 32 (holds s))) (D : d ≡ dim S) {f : ℕ} (g : f ≡ flat_unsolved n d (S.e + q) (buffers a u)) where
    vector-certificate : Beside S.p m S.e (S.e + q) G f
    unfolding m G
    vector-certificate =
        rw ((rw (D, members-are ok K) at g) ∙ unsolved-shows S.p m (dim S) (buffers a u) _ R.shows (S.e + q) (omega arith))
        (beside S.p (prime-of ok) m S.e (S.e + q) G)

    -- the position has a sweeping vector exactly where its column is solved
    swept-is : leb n f ≡ has_sweep S (holds s) q
    unfolding m G y
    swept-is = go vector-certificate
      where
        go : Beside S.p m S.e (S.e + q) G f → leb n f ≡ has_sweep S (holds s) q
        go (solvable z h) =
            let t = sweep-is S.p (prime-of ok) m S.l S.e (rows S (holds s)) q inside y h in
            le-leb n f (omega (arith, members-are ok K)) ∙ sym (sweep-in-hand S (holds s) q (prime-of ok).big (sweep S.p S.l q y) t.zeros t.first)
        go (refuted z w h) =
            lt-leb n f (omega (arith, members-are ok K))
            ∙ sym (no-sweep S (holds s) q w inside
            (λ j o. ap (λ z. z % S.p) (dot-ext m w _ _ (λ i l. sym (in-last i j o))) ∙ h.kills j o)
            (λ t. h.keeps (ap (λ z. z % S.p) (dot-ext m w _ _ (λ i l. in-first i)) ∙ t)))

    pub vector-none : f < n → (old : List ℕ) → VectorSought S s q old false old
    vector-none l old = record { found = λ t. absurd (false≢true t); none = λ t. (sym swept-is ∙ lt-leb n f l, refl) }

    pub vector-found : n ≤ f → (old : List ℕ) → length old ≡ d → {left : List ℕ}
        → left ≡ tab (length old) (negated S.p n (length old) S.l S.e q (buffers a u)) → VectorSought S s q old true left
    unfolding m G y v
    vector-found l old size {left} e = record { found = λ t. go vector-certificate; none = λ t. absurd (false≢true (sym t)) }
      where
        go : Beside S.p m S.e (S.e + q) G f → Vec S.p (dim S) left × (is_sweep S (members_of S s) q left ≡ true)
        go (solvable z h) =
            rw (rw (size, D, members-are ok K) at e) (vector-is (sweep-is S.p (prime-of ok) m S.l S.e (rows S (holds s)) q inside y h))
        go (refuted z w h) = absurd (omega (arith, members-are ok K))

-- PRIVATE
pub private-is : {S : Setup} {s : ℕ} (ok : SetTaken S s) {a u : List ℕ} → AsideReduced S s a u → {n d : ℕ} → n ≡ length (members 32 (holds s)) → d ≡ dim S
    → flat_all_solved n d S.e S.l (buffers a u) ≡ is_private S (holds s)
unfolding flat_all_solved all_solved is_private flat_pivot
private-is {S} ok R K D = every-ext S.l _ _ (λ q l. swept-is ok l R K D refl)

-- THE JUDGEMENT
pub judge-taken : (S : Setup) (s q : ℕ) (out : List ℕ) → refusal (judge_set_rules S s q out) ≡ 0 → SetTaken S s × (length out ≡ 32) × (q < S.l)
judge-taken S s q out z = let h = judge_set-ok S s q out z in (record { accepted = set-accepts _ _ h.0 }, h.1, h.2)

drop-zeros : (k n : ℕ) → k ≤ n → drop {A = ℕ} k (replicate n 0) ≡ replicate (n - k) 0
drop-zeros k n l =
    ext_get_or 0 (drop k (replicate n 0)) (replicate (n - k) 0) (long ∙ sym (length-replicate {A = ℕ} (n - k) 0))
    (λ i m. get_or-drop k (replicate n 0) i 0 ∙ get_or-replicate {A = ℕ} n (k + i) 0 0 (omega (arith, long)) ∙ sym (get_or-replicate {A = ℕ} (n - k) i 0 0 (omega (arith, long))))
  where
    long : length (drop {A = ℕ} k (replicate n 0)) ≡ n - k
    long = length-drop {A = ℕ} k (replicate n 0) ∙ ap (λ z. z - k) (length-replicate {A = ℕ} n 0)

-- a part of the zeros with zeros behind it
behind : (k : ℕ) (out left : List ℕ) → out ≡ replicate 32 0 → k ≤ 32 → length left ≡ k → left ++ drop k out ≡ left ++ replicate (32 - length left) 0
behind k out left Z l e = ap (λ r. left ++ r) (rw (Z, e) (drop-zeros k 32 l))

module _ {S : Setup} {s : ℕ} (ok : SetTaken S s) {q : ℕ} (inside : q < S.l) {out : List ℕ} (Z : out ≡ replicate 32 0) where
  module _ {k : ℕ} (K : k ≡ length (members 32 (holds s))) {left : List ℕ} where
    pub judged-row : {r : ℕ} → r ≡ row_steps S (holds s) q → one_row S (holds s) q ≡ some left
        → (is_a_row r ≡ kind S (holds s) q) × JudgeSetLeft S (holds s) q (is_a_row r) (left ++ drop k out)
    unfolding one_row
    judged-row g h =
        let v = first_vec-sound S.p (length (members_of S s)) (is_one_row S (members_of S s) q) left h in
        let e = v.0.size ∙ sym (K ∙ ap length (wide ok)) in
        rw g (
          sym (kind_row S (holds s) q ((row-there S (holds s) q).1 (record { entries = left; ok = v.0; is = one-is-row S (holds s) (prime-of ok) q left v.1 }))),
          rw (behind k out left Z (omega (arith, few ok, v.0.size)) e) (of_row left h),
        )

  module _ {d : ℕ} (D : d ≡ dim S) {left : List ℕ} where
    pub judged-vector : {r : ℕ} → r ≡ row_steps S (holds s) q → Vec S.p (dim S) left × (is_sweep S (members_of S s) q left ≡ true)
        → (is_a_vector r ≡ kind S (holds s) q) × JudgeSetLeft S (holds s) q (is_a_vector r) (left ++ drop d out)
    judged-vector g h = rw g (
      sym (kind-vector S (holds s) q (prime-of ok).big inside ((sweep-there S (holds s) q).1 (record { entries = left; ok = h.0; is = h.1 }))),
      rw (behind d out left Z (omega (arith, narrow ok, D)) (h.0.size ∙ sym D)) (of-vector left h.0 h.1),
    )

  pub judged-neither : {r : ℕ} → r ≡ row_steps S (holds s) q → has_row S (holds s) q ≡ false → has_sweep S (holds s) q ≡ false
      → (is_neither r ≡ kind S (holds s) q) × JudgeSetLeft S (holds s) q (is_neither r) out
  judged-neither g h v = rw g (sym (kind-neither S (holds s) q h v), rw Z of-neither)

-- a part that comes back as it was
pub back : (k : ℕ) (out left : List ℕ) → left ≡ take k out → left ++ drop k out ≡ out
back k out left e = rw e (take-append-drop k out)

module _ (S : Setup) (s q : ℕ) (out : List ℕ) (answer : Answer) where
  pub buffer-judged : (left : List ℕ) → refusal (judge_set_rules S s q out) ≡ 0 → JudgeSetLeft S (holds s) q answer left → SetBuffer S s q out answer left
  buffer-judged left z h = record { judged = λ e. h; declined = λ n. absurd (n z) }
