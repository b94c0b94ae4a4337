-- What a reader accepts is what the writer would write: the bytes of a record follow from the fields that are read of it, because each byte is half
-- of a word that is read.
use mathlib.Core.Path.{◌≡◌, refl, sym, ap, ◌∙◌}
use mathlib.Core.List.{List, [], ◌∷◌, ◌++◌}
use Prim.Native.Nat.{ℕ, ◌*◌, ◌≤◌}
use native.Mathlib.Omega.{arith}
use lib.ListN.{length, take}
use borrow.Author.Tests.{eqb-true, ltb-false, not-false}
use Rattle.base.specs.Rules.{refusal, Clear, given, answer_by, left_by}
use Rattle.base.proofs.Rules.{none-applies, not-refused, clear, clear-left, clear-right, clear_both, accepted, written}
use Rattle.scheme.specs.Setup.{Setup, dim}
use Rattle.scheme.specs.Calls.{limits, Lent, room, sizes, in_field, matrix}
use Rattle.scheme.proofs.Calls.{limits-clear, size-clear, in_order, accepts}
use Rattle.record_words.specs.Words.{bytes, word_at, Bytes}
use Rattle.record_words.proofs.Words.{Shows, length-words, shows-words, bytes-shown}
use Rattle.record_layouts.specs.Records.{due, Layout, all_words, write_rules, write_call, write_left, read_call, mark_su, setup_words, setup_size, setup_at, write_setup_rules, read_matrix_rules, dealing_layout, dealing_lent, zero_layout, zero_lent, mapped_layout, mapped_lent, mark_pv, mark_pf, pair_layout, mapped_pair_layout, verdict_layout, share_layout}
use Rattle.record_layouts.specs.Sound.{Rewritten, Exact}
use Rattle.record_layouts.proofs.Layouts.{Lawful, dealing-lawful, zero_lawful, mapped-lawful, pair-lawful, verdict-lawful, share-lawful}
use Rattle.record_layouts.proofs.Calls.{setup-read, matrix-room, matrix-as-setup}

-- a writer that is not refused, of words that have the bytes read
rewritten : (r : ℕ) (ws part out : List ℕ) → r ≡ 0 → part ≡ bytes ws → Rewritten (answer_by r (given [])) (left_by r (bytes ws) out) part
rewritten r ws part out z e =
    record { accepts = sym (accepted r (given []) z); same = sym (written r (bytes ws) out (bytes ws) z refl) ∙ sym e }

mark-is : (mark k : ℕ) (s : List ℕ) → Clear (due mark k s) → word_at s 0 ≡ mark
mark-is mark k s c = eqb-true (word_at s 0) mark (not-false _ c.1.0)

shown : (k : ℕ) (ws s : List ℕ) → Bytes s → 2 * length ws ≡ k → k ≤ length s → Shows s 0 ws → take k s ≡ bytes ws
shown k ws s b j l w = ap (λ n. take n s) (sym j) ∙ bytes-shown s ws b (omega (arith, j)) w

-- EVERY LAYOUT
module _ {A : Type 0} (L : Layout A) (W : Lawful A L) (S : Setup) (s : List ℕ) where
  -- the bytes of a record that is due and there are those of the fields read of it
  pub standing-bytes : Bytes s → Clear (due L.mark (L.size S) s) → take (L.size S) s ≡ bytes (all_words L (L.at S s))
  standing-bytes b c =
      let x = L.at S s in
      shown (L.size S) (all_words L x) s b (W.long S x (W.full S s)) (ltb-false (length s) (L.size S) c.1.1.0) (mark-is L.mark (L.size S) s c, W.shows S s)

  exact-by : (lent : List Lent) (out us vs : List ℕ) → Bytes s → length out ≡ L.size S → read_call L S lent s us ≡ given vs
      → Rewritten (write_call L S (L.at S s) out) (write_left L S (L.at S s) out) (take (L.size S) s)
  exact-by lent out us vs b k e =
      let x = L.at S s in
      let d = due L.mark (L.size S) s in
      let own = in_field S.p (L.lists S x) ++ L.faults S x in
      let r = in_order S lent (d ++ own) (W.positive-read S x) (not-refused _ (given us) vs e).0 in
      let lengths = sizes (room (length out) (L.size S) ∷ L.lists S x) in
      let z : refusal (write_rules L S x (length out)) ≡ 0 =
      none-applies (limits S ++ (lengths ++ own))
      (clear_both (limits S) (lengths ++ own) (limits-clear S r.limits)
      (clear_both lengths own (size-clear (length out) (L.size S) k, W.full S s) (clear-right d own r.own))) in
      rewritten (refusal (write_rules L S x (length out))) (all_words L x) (take (L.size S) s) out z (standing-bytes b (clear-left d own r.own))

-- SU
pub setup-bytes : (s : List ℕ) → Bytes s → word_at s 0 ≡ mark_su → setup_size (setup_at s) ≤ length s → take (setup_size (setup_at s)) s ≡ bytes (setup_words (setup_at s))
setup-bytes s b mark l =
    let S : Setup = setup_at s in
    shown (setup_size S) (setup_words S) s b (omega (arith, length-words s 5 (S.n * dim S))) l (mark, (refl, (refl, (refl, (refl, shows-words s 5 (S.n * dim S))))))

setup-exact : (s m out : List ℕ) → Bytes s → length out ≡ setup_size (setup_at s) → refusal (read_matrix_rules s (length m)) ≡ 0
    → Rewritten (answer_by (refusal (write_setup_rules (setup_at s) (length out))) (given []))
    (left_by (refusal (write_setup_rules (setup_at s) (length out))) (bytes (setup_words (setup_at s))) out) (take (setup_size (setup_at s)) s)
setup-exact s m out b k e =
    let S : Setup = setup_at s in
    let r = setup-read s (sym (matrix-as-setup s (length m) (matrix-room s (length m) e).0) ∙ e) in
    let z = accepts S (matrix S ∷ room (length out) (setup_size S) ∷ []) [] r.0.limits (r.0.matrix, (k, tt)) tt in
    rewritten (refusal (write_setup_rules S (length out))) (setup_words S) (take (setup_size S) s) out z
    (setup-bytes s b (eqb-true (word_at s 0) mark_su (not-false _ (clear (read_matrix_rules s (length m)) tt e).1.0)) r.1)

pub exact : Exact
exact =
    record {
      setup = λ s m out b k e. setup-exact s m out b k (not-refused _ (given []) [] e).0;
      dealing = λ S s g h out vs b k e. exact-by dealing_layout dealing-lawful S s (dealing_lent S (length g) (length h)) out _ vs b k e;
      zero = λ S s g h out vs b k e. exact-by zero_layout zero_lawful S s (zero_lent S (length g) (length h)) out _ vs b k e;
      mapped = λ S s g h phi out vs b k e. exact-by mapped_layout mapped-lawful S s (mapped_lent S (length g) (length h) (length phi)) out _ vs b k e;
      pair = λ S s out vs b k e. exact-by pair_layout (pair-lawful mark_pv) S s [] out _ vs b k e;
      mapped-pair = λ S s out vs b k e. exact-by mapped_pair_layout (pair-lawful mark_pf) S s [] out _ vs b k e;
      verdict = λ S s out vs b k e. exact-by verdict_layout verdict-lawful S s [] out _ vs b k e;
      share = λ S s out vs b k e. exact-by share_layout share-lawful S s [] out _ vs b k e;
    }
