-- The laws of words and bytes: what is written as bytes reads back word by word, and the bytes follow from the words that they show.
-- Shows: from word i on the bytes s show the words ws
use mathlib.Core.Path.{◌≡◌, refl, sym, ap, ◌∙◌}
use mathlib.Core.Bool.{Bool, true, false, not, not-not, ◌&&◌, ◌||◌}
use mathlib.Core.List.{List, [], ◌∷◌, ◌++◌, append-nil, append_assoc}
use Prim.Native.Nat.{ℕ, zero, suc, ◌+◌, ◌*◌, ◌/◌, ◌%◌, ◌<◌, ◌≤◌}
use native.Mathlib.Nat.{add-zero, le_of_suc-le-suc, not-suc-le-zero}
use native.Mathlib.Numerals.{add-one}
use native.Mathlib.Omega.{arith}
use lib.Dec.{eqb, leb, ltb}
use lib.ListN.{length, get_or, set, take, drop, length-append, get_or-append, drop_of_length-le}
use lib.Seq.{sets, sets-eq, ext_get_or, get_or-append-add, get_or-drop, drop-cons}
use Rattle.std.specs.List.{fold, range_with_len}
use Rattle.std.proofs.lemmas.List.FromFn.{length-range_with_len, get_or-range_with_len}
use Rattle.base.specs.Search.{every}
use Rattle.base.specs.Matrix.{all_below}
use Rattle.base.proofs.Matrix.{not-leb}
use Rattle.base.proofs.Fill.{length-tab, get_d-tab}
use Rattle.base.proofs.Search.{every-ext, every-step, fold-any}
use Rattle.record_words.specs.Words.{bytes, word_at, words_at, Bytes}

-- BYTES OF WORDS
pub length-bytes : (ws : List ℕ) → length (bytes ws) ≡ 2 * length ws
unfolding bytes
length-bytes [] = refl
length-bytes (x ∷ xs) = omega (arith, length-bytes xs)

pub bytes-append : (a b : List ℕ) → bytes (a ++ b) ≡ bytes a ++ bytes b
unfolding bytes
bytes-append [] b = refl
bytes-append (x ∷ xs) b = ap (λ l. x % 256 ∷ x / 256 ∷ l) (bytes-append xs b)

-- a word more, past two bytes
word-past : (a b : ℕ) (s : List ℕ) (i : ℕ) → word_at (a ∷ b ∷ s) (suc i) ≡ word_at s i
word-past a b s i =
    let e : 2 * suc i ≡ suc (suc (2 * i)) = omega arith in
    rw (e, add-one (suc (suc (2 * i))), add-one (2 * i))

pub word_of : (ws rest : List ℕ) (i : ℕ) → i < length ws → word_at (bytes ws ++ rest) i ≡ get_or ws i 0
unfolding bytes
word_of [] rest i h = absurd (not-suc-le-zero h)
word_of (x ∷ xs) rest zero h = omega arith
word_of (x ∷ xs) rest (suc i) h = word-past (x % 256) (x / 256) (bytes xs ++ rest) i ∙ word_of xs rest i (le_of_suc-le-suc h)

-- WORDS OF BYTES
pub length-words : (s : List ℕ) (i k : ℕ) → length (words_at s i k) ≡ k
unfolding words_at
length-words s i k = length-tab k (λ j. word_at s (i + j))

pub get_d_words : (s : List ℕ) (i k j : ℕ) → j < k → get_or (words_at s i k) j 0 ≡ word_at s (i + j)
unfolding words_at
get_d_words s i k j h = get_d-tab k (λ j. word_at s (i + j)) 0 j h

-- a word of the part behind k words
pub word-behind : (s : List ℕ) (k i : ℕ) → word_at (drop (2 * k) s) i ≡ word_at s (k + i)
word-behind s k i =
    let e : 2 * k + 2 * i ≡ 2 * (k + i) = omega arith in
    let f : 2 * k + (2 * i + 1) ≡ 2 * (k + i) + 1 = omega arith in
    rw (get_or-drop (2 * k) s (2 * i) 0, get_or-drop (2 * k) s (2 * i + 1) 0, e, f) refl

-- a run of words in a longer one
pub words_of : (a b c rest : List ℕ) (i k : ℕ) → length a ≡ i → length b ≡ k → words_at (bytes (a ++ (b ++ c)) ++ rest) i k ≡ b
words_of a b c rest i k p q =
    let s : List ℕ = bytes (a ++ (b ++ c)) ++ rest in
    ext_get_or 0 (words_at s i k) b (length-words s i k ∙ sym q) (λ j h. at j (omega (arith, length-words s i k)))
  where
    at : (j : ℕ) → j < k → get_or (words_at (bytes (a ++ (b ++ c)) ++ rest) i k) j 0 ≡ get_or b j 0
    at j h =
        get_d_words (bytes (a ++ (b ++ c)) ++ rest) i k j h
        ∙ word_of (a ++ (b ++ c)) rest (i + j) (simp length-append (omega arith))
        ∙ ap (λ n. get_or (a ++ (b ++ c)) (n + j) 0) (sym p)
        ∙ get_or-append-add a (b ++ c) j 0
        ∙ get_or-append b c 0 j (omega arith)

-- the test of a run of words
pub below-words : (p : ℕ) (s : List ℕ) (i k : ℕ) → all_below p (words_at s i k) ≡ every k (λ j. ltb (word_at s (i + j)) p)
unfolding all_below
below-words p s i k =
    ap (λ n. every n (λ j. ltb (get_or (words_at s i k) j 0) p)) (length-words s i k)
    ∙ every-ext k (λ j. ltb (get_or (words_at s i k) j 0) p) (λ j. ltb (word_at s (i + j)) p) (λ j h. ap (λ w. ltb w p) (get_d_words s i k j h))

-- the same as a fold over the places of the words
pub words-fold : (p : ℕ) (s : List ℕ) (i k : ℕ) → fold (λ over n. over || leb p (word_at s n)) false (range_with_len i k) ≡ not (all_below p (words_at s i k))
words-fold p s i k =
    let r : List ℕ = range_with_len i k in
    sym (not-not (fold (λ over n. over || leb p (word_at s n)) false r))
    ∙ ap not
    (fold-any (λ n. leb p (word_at s n)) false 0 r
    ∙ ap (λ m. every m (λ j. not (leb p (word_at s (get_or r j 0))))) (length-range_with_len i k)
    ∙ every-ext k (λ j. not (leb p (word_at s (get_or r j 0)))) (λ j. ltb (word_at s (i + j)) p)
    (λ j h. ap (λ n. not (leb p (word_at s n))) (get_or-range_with_len i k j 0 h) ∙ not-leb p (word_at s (i + j)))
    ∙ sym (below-words p s i k))

-- one word more is tested: it passes, or it fails and the mark is made
and-true : (b : Bool) → (b && true) ≡ b
and-true true = refl
and-true false = refl

and-false : (b : Bool) → (b && false) ≡ false
and-false true = refl
and-false false = refl

pub every-none : (t : ℕ → Bool) → every 0 t ≡ true
unfolding every
every-none t = refl

pub passed : (t : ℕ → Bool) (k over : ℕ) → t k ≡ true → eqb over 0 ≡ every k t → eqb over 0 ≡ every (k + 1) t
passed t k over e h = h ∙ sym (every-step k t ∙ ap (λ b. every k t && b) e ∙ and-true (every k t))

pub failed : (t : ℕ → Bool) (k over : ℕ) → t k ≡ false → over ≡ 1 → eqb over 0 ≡ every (k + 1) t
failed t k over e h = rw h (sym (every-step k t ∙ ap (λ b. every k t && b) e ∙ and-false (every k t)))

-- THE BYTES FOLLOW FROM THE WORDS
abbrev pub Shows : List ℕ → ℕ → List ℕ → Type 0
Shows s i [] = Unit {0}
Shows s i (w ∷ ws) = (word_at s i ≡ w) × Shows s (suc i) ws

shows-past : (a b : ℕ) (s : List ℕ) (i : ℕ) (ws : List ℕ) → Shows (a ∷ b ∷ s) (suc i) ws → Shows s i ws
shows-past a b s i [] h = tt
shows-past a b s i (w ∷ ws) h = (sym (word-past a b s i) ∙ h.0, shows-past a b s (suc i) ws h.1)

pub shows-append : (s : List ℕ) (i : ℕ) (a b : List ℕ) (j : ℕ) → i + length a ≡ j → Shows s i a → Shows s j b → Shows s i (a ++ b)
shows-append s i [] b j e g h = rw (sym (sym (add-zero i) ∙ e)) at h
shows-append s i (x ∷ xs) b j e g h = (g.0, shows-append s (suc i) xs b j (omega arith) g.1 h)

shows-by : (s : List ℕ) (i : ℕ) (ws : List ℕ) → ((j : ℕ) → j < length ws → word_at s (i + j) ≡ get_or ws j 0) → Shows s i ws
shows-by s i [] h = tt
shows-by s i (w ∷ ws) h =
    (rw (add-zero i) at (h 0 (omega arith)), shows-by s (suc i) ws (λ j l. ap (word_at s) (omega arith) ∙ h (suc j) (omega arith)))

pub shows-words : (s : List ℕ) (i k : ℕ) → Shows s i (words_at s i k)
shows-words s i k = shows-by s i (words_at s i k) (λ j h. sym (get_d_words s i k j (omega (arith, length-words s i k))))

pub bytes-shown : (s ws : List ℕ) → Bytes s → 2 * length ws ≤ length s → Shows s 0 ws → take (2 * length ws) s ≡ bytes ws
unfolding bytes
bytes-shown s [] b h w = refl
bytes-shown [] (x ∷ xs) b h w = absurd (omega arith)
bytes-shown (c ∷ []) (x ∷ xs) b h w = absurd (omega arith)
bytes-shown (c ∷ d ∷ s) (x ∷ xs) b h w =
    let e : 2 * length (x ∷ xs) ≡ suc (suc (2 * length xs)) = omega arith in
    let p : c ≡ x % 256 = omega (arith, b 0, w.0) in
    let q : d ≡ x / 256 = omega (arith, b 0, w.0) in
    let t = bytes-shown s xs (λ i. b (suc (suc i))) (omega arith) (shows-past c d s 0 xs w.1) in
    rw (e, p, q, t)

-- STORES
pub sets-append : (l : List ℕ) (i : ℕ) (a b : List ℕ) (j : ℕ) → i + length a ≡ j → sets (sets l i a) j b ≡ sets l i (a ++ b)
sets-append l i [] b j e = ap (λ n. sets l n b) (sym e ∙ add-zero i)
sets-append l i (x ∷ xs) b j e = sets-append (set l i x) (suc i) xs b j (omega arith)

-- a run as long as the list replaces it
pub sets-whole : (l vs : List ℕ) → length vs ≡ length l → sets l 0 vs ≡ vs
sets-whole l vs e =
    sets-eq vs l 0 (omega (arith, e)) ∙ ap (λ r. vs ++ r) (drop_of_length-le l {i = 0 + length vs} (omega (arith, e))) ∙ append-nil vs

-- runs of which each begins where the one before it ends
pub two-joined : (l a b : List ℕ) (i : ℕ) → length a ≡ i → sets (sets l 0 (bytes a)) (2 * i) (bytes b) ≡ sets l 0 (bytes (a ++ b))
two-joined l a b i p =
    sets-append l 0 (bytes a) (bytes b) (2 * i) (omega (arith, length-bytes a, ap (λ n. 2 * n) p)) ∙ ap (sets l 0) (sym (bytes-append a b))

pub three-joined : (l a b c : List ℕ) (i j : ℕ) → length a ≡ i → i + length b ≡ j
    → sets (sets (sets l 0 (bytes a)) (2 * i) (bytes b)) (2 * j) (bytes c) ≡ sets l 0 (bytes (a ++ (b ++ c)))
three-joined l a b c i j p q =
    ap (λ m. sets m (2 * j) (bytes c)) (two-joined l a b i p)
    ∙ two-joined l (a ++ b) c j (length-append a b ∙ omega arith)
    ∙ ap (λ ws. sets l 0 (bytes ws)) (append_assoc a b c)

-- two that fill the list
pub two_runs : (l a b : List ℕ) (i : ℕ) → length a ≡ i → length l ≡ 2 * (i + length b) → sets (sets l 0 (bytes a)) (2 * i) (bytes b) ≡ bytes (a ++ b)
two_runs l a b i p q = two-joined l a b i p ∙ sets-whole l (bytes (a ++ b)) (omega (arith, length-bytes (a ++ b), length-append a b))

-- a turn of the loop that writes words
pub put-turn : (l ws : List ℕ) (i k low high : ℕ) → k < length ws → low ≡ get_or ws k 0 % 256 → high ≡ get_or ws k 0 / 256
    → sets (set (set l (2 * (i + k)) low) (2 * (i + k) + 1) high) (2 * (i + (k + 1))) (bytes (drop (k + 1) ws)) ≡ sets l (2 * (i + k)) (bytes (drop k ws))
unfolding bytes
put-turn l ws i k low high h is-low is-high =
    let e : 2 * (i + (k + 1)) ≡ suc (suc (2 * (i + k))) = omega arith in
    rw (is-low, is-high, e, add-one (2 * (i + k)), add-one k, drop-cons ws k 0 h)
