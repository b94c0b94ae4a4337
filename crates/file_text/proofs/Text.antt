-- Laws of text in a buffer: one text after another, a number's digits, the lines of the columns, and from places in a buffer to its first bytes.
use mathlib.Core.Path.{◌≡◌, refl, sym, ap, ◌∙◌}
use mathlib.Core.List.{List, [], ◌∷◌, ◌++◌}
use Prim.Native.Nat.{ℕ, zero, suc, ◌+◌, ◌-◌, ◌^◌, ◌≤◌, ◌<◌}
use native.Mathlib.Nat.{add-zero, zero-add, add-suc, suc-add, le_trans, pow-le-pow_right}
use native.Mathlib.Numerals.{add-one}
use native.Mathlib.Omega.{arith}
use Rattle.std.proofs.lemmas.List.{append_assoc}
use lib.Dec.{lit<, lit≤}
use lib.ListN.{length, get_or, take, drop, set, length-append, drop_of_length-le}
use lib.Seq.{sets, sets-eq, length-sets, drop-cons, drop-drop, take_at, drop_at}
use borrow.Author.Tests.{lt-ltb, le-ltb}
use Rattle.file_text.specs.Text.{Wrote, Printed}
use Rattle.file_text.specs.Lines.{width, column_line, column_lines}

sets-append : (l : List ℕ) (i : ℕ) (a b : List ℕ) → sets (sets l i a) (i + length a) b ≡ sets l i (a ++ b)
sets-append l i [] b = rw add-zero
sets-append l i (x ∷ a) b = rw (add-suc, ← suc-add) (sets-append (set l i x) (suc i) a b)

-- a part that a text is copied to
pub put-part : (l t u : List ℕ) (at : ℕ) → at + length t ≤ length l → u ≡ t → take at l ++ (u ++ drop (at + length t - at) (drop at l)) ≡ sets l at t
put-part l t u at fits e =
    let s : at + length t - at ≡ length t = omega arith in
    rw (e, s, drop-drop (length t) at l) (sym (append_assoc (take at l) t (drop (at + length t) l)) ∙ sym (sets-eq t l at fits))

-- what is written after a text, as written with it
pub after : {l m t : List ℕ} {at room r : ℕ} → Wrote l at t room m r → (u : List ℕ) → sets m r u ≡ sets l at (t ++ u)
after {l} {m} {t} {at} a u = rw (a.text, a.place) (sets-append l at t u)

pub both : {l m k t u : List ℕ} {at n o r q : ℕ} → Wrote l at t n m r → Wrote m r u o k q → Wrote l at (t ++ u) (n + o) k q
both {t} {u} a b =
    record {
      text = b.text ∙ after a u;
      place = omega (arith, length-append t u);
      small = omega arith;
    }

pub more : {l m t : List ℕ} {at n o r : ℕ} → Wrote l at t n m r → n ≤ o → Wrote l at t o m r
more w h = record { text = w.text; place = w.place; small = omega arith }

-- the fewest digits are the width
pub fewest : (x k : ℕ) → x < 65536 → 1 ≤ k → x < 10 ^ k → (1 < k → 10 ^ (k - 1) ≤ x) → (k ≡ width x) × (k ≤ 5)
unfolding width
fewest x zero b p q r = absurd (omega arith)
fewest x (suc zero) b p q r = (simp (lt-ltb x 10 q), lit≤ tt)
fewest x (suc (suc zero)) b p q r =
    let g : 10 ≤ x = r (lit< tt) in
    (simp (le-ltb x 10 g, lt-ltb x 100 q), lit≤ tt)
fewest x (suc (suc (suc zero))) b p q r =
    let g : 100 ≤ x = r (lit< tt) in
    (simp (le-ltb x 10 (omega arith), le-ltb x 100 g, lt-ltb x 1000 q), lit≤ tt)
fewest x (suc (suc (suc (suc zero)))) b p q r =
    let g : 1000 ≤ x = r (lit< tt) in
    (simp (le-ltb x 10 (omega arith), le-ltb x 100 (omega arith), le-ltb x 1000 g, lt-ltb x 10000 q), lit≤ tt)
fewest x (suc (suc (suc (suc (suc zero))))) b p q r =
    let g : 10000 ≤ x = r (lit< tt) in
    (simp (le-ltb x 10 (omega arith), le-ltb x 100 (omega arith), le-ltb x 1000 (omega arith), le-ltb x 10000 g), lit≤ tt)
fewest x (suc (suc (suc (suc (suc (suc j)))))) b p q r =
    let k : ℕ = suc (suc (suc (suc (suc (suc j))))) in
    let z : 10 ^ 5 ≤ 10 ^ (k - 1) = pow-le-pow_right (lit< tt) {i = 5} {j = k - 1} (omega arith) in
    let g : 10 ^ (k - 1) ≤ x = r (omega arith) in
    absurd (omega (arith, le_trans z g))

-- the lines of the columns left, one at a time
pub column_lines-step : (word vs : List ℕ) (b : ℕ) → b < length vs
    → column_lines word b (drop b vs) ≡ column_line word b (get_or vs b 0) ++ column_lines word (b + 1) (drop (b + 1) vs)
unfolding column_lines
column_lines-step word vs b h = rw (add-one b, drop-cons vs b 0 h)

pub column_lines-end : (word vs : List ℕ) (b : ℕ) → length vs ≤ b → column_lines word b (drop b vs) ≡ []
unfolding column_lines
column_lines-end word vs b h = rw (drop_of_length-le vs h)

-- written from the start on
pub first-bytes : {l m t : List ℕ} {n r : ℕ} → Wrote l 0 t n m r → n ≤ length l → Printed l t m r
first-bytes {l} {m} {t} {n} {r} w h =
    let e : r ≡ length t = omega (arith, w.place) in
    let k : length t ≤ length l = omega (arith, w.small) in
    let s : m ≡ t ++ drop r l = w.text ∙ sets-eq t l 0 (omega arith) ∙ rw (zero-add, ← e) refl in
    record {
      text = rw s (take_at t (drop r l) r (sym e));
      rest = ap (drop r) s ∙ drop_at t (drop r l) r (sym e);
      count = e;
      fits = omega (arith, ap length w.text ∙ length-sets l 0 t);
    }
