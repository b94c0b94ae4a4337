-- The two calls of board keys give the lowest number that applies, say that they answered exactly where the number is 0, and answer where their inputs
-- break nothing: a dealing always, an opening by 6, 7 or 16 or with the key (specs/Answering.antt).
use mathlib.Core.Path.{◌≡◌, refl, sym, ap, ◌∙◌}
use mathlib.Core.Bool.{Bool, true, false, false≢true}
use mathlib.Core.List.{List}
use Prim.Native.Nat.{ℕ, ◌≤◌, ◌<◌}
use native.Mathlib.Omega.{arith}
use borrow.Author.Tests.{eqb-false}
use lib.Dec.{eqb}
use Rattle.base.specs.Rules.{Answer, refusal, refused, given}
use Rattle.base.specs.Matrix.{all_below}
use Rattle.base.proofs.Choice.{picked}
use Rattle.base.proofs.Rules.{lowest}
use Rattle.scheme.specs.Answers.{undetermined, inconsistent}
use Rattle.scheme.specs.Calls.{deal_all_rules, open_answer}
use Rattle.scheme.specs.Answering.{Marked}
use Rattle.scheme.proofs.Answering.{marked_by, all-marked, answering}
use Rattle.board_keys.specs.Keys.{key_setup, member_count, opened, key_opening, open_key_rules, open_key_call}
use Rattle.board_keys.specs.Answering.{KeysLowest, KeysMarked, AllBehind, KeyOpenAnswers, KeysAnswering}
use Rattle.board_keys.proofs.Setup.{key-setup}
use Rattle.board_keys.proofs.Opened.{determined-seven, failed-fewer, open_key-accepts, open_key-gives, key_of, KeyOpeningIs, positions, no_row, no-vector, key_opening-is}

pub keys-lowest : KeysLowest
keys-lowest =
    record { deal = λ key random gs hs. lowest (deal_all_rules key_setup key random gs hs) tt; opening = λ s xs rs out. lowest (open_key_rules s xs rs out) tt }

-- THE MARK
key-marked : (s : ℕ) (xs : List ℕ) → Marked (key_opening s xs)
key-marked s xs = go (key_opening-is s xs)
  where
    go : KeyOpeningIs s xs → Marked (key_opening s xs)
    go (positions d h e) = rw e (picked Marked (all_below 256 (opened s xs)) (given (opened s xs)) (refused 16) refl refl)
    go (no_row d q e) = rw e refl
    go (no-vector d n e) = rw e refl

pub keys-marked : KeysMarked
keys-marked =
    record {
      deal = λ key random gs hs. all-marked.deal-all key_setup key random gs hs;
      opening = λ s xs rs out. marked_by (refusal (open_key_rules s xs rs out)) (open_answer (key_opening s xs)) (key-marked s xs);
    }

-- INPUTS THAT BREAK NOTHING
open-answers : (s : ℕ) (xs rs out : List ℕ) → refusal (open_key_rules s xs rs out) ≡ 0 → KeyOpenAnswers s xs rs out
open-answers s xs rs out fine = go (key_opening-is s xs)
  where
    -- the call gives the opening's own answer
    is : (a : Answer) → key_opening s xs ≡ a → ((open_key_call s xs rs out).answered ≡ a.answered) × ((open_key_call s xs rs out).number ≡ a.number)
    is a e = let r = (open_key-gives s xs rs out a fine e).0 in (ap (λ (x : Answer). x.answered) r, ap (λ (x : Answer). x.number) r)

    -- where the number is another
    other : (a b : ℕ) {Z : Type 0} → (open_key_call s xs rs out).number ≡ a → eqb a b ≡ false → (open_key_call s xs rs out).number ≡ b → Z
    other a b r d n = absurd (eqb-false a b d (sym r ∙ n))

    by-positions : 7 ≤ member_count s → AllBehind s xs → key_opening s xs ≡ key_of (opened s xs) → (t : Bool) → all_below 256 (opened s xs) ≡ t → KeyOpenAnswers s xs rs out
    by-positions d h e true t =
        let r = is (given (opened s xs)) (e ∙ rw t refl) in
        record {
          answers = (λ y. (d, h, t), λ y. r.0);
          six = (other 0 6 r.1 refl, λ f. absurd (omega arith));
          seven = (other 0 7 r.1 refl, λ f. absurd (f.1 h));
          sixteen = (other 0 16 r.1 refl, λ f. absurd (false≢true (sym f.2 ∙ t)));
        }
    by-positions d h e false t =
        let r = is (refused 16) (e ∙ rw t refl) in
        record {
          answers = (λ y. absurd (false≢true (sym r.0 ∙ y)), λ y. absurd (false≢true (sym t ∙ y.2)));
          six = (other 16 6 r.1 refl, λ f. absurd (omega arith));
          seven = (other 16 7 r.1 refl, λ f. absurd (f.1 h));
          sixteen = (λ n. (d, h, t), λ f. r.1);
        }

    go : KeyOpeningIs s xs → KeyOpenAnswers s xs rs out
    go (positions d h e) = by-positions (determined-seven s d) h e (all_below 256 (opened s xs)) refl
    go (no_row d q e) =
        let r = is (undetermined q) e in
        let few : member_count s < 7 = failed-fewer s d in
        record {
          answers = (λ y. absurd (false≢true (sym r.0 ∙ y)), λ y. absurd (omega (arith, y.0)));
          six = (λ n. few, λ f. r.1);
          seven = (other 6 7 r.1 refl, λ f. absurd (omega (arith, f.0)));
          sixteen = (other 6 16 r.1 refl, λ f. absurd (omega (arith, f.0)));
        }
    go (no-vector d n e) =
        let r = is inconsistent e in
        let many : 7 ≤ member_count s = determined-seven s d in
        record {
          answers = (λ y. absurd (false≢true (sym r.0 ∙ y)), λ y. absurd (n y.1));
          six = (other 7 6 r.1 refl, λ f. absurd (omega arith));
          seven = (λ k. (many, n), λ f. r.1);
          sixteen = (other 7 16 r.1 refl, λ f. absurd (n f.1));
        }

pub keys-answering : KeysAnswering
keys-answering =
    record {
      deal = λ key random gs hs k r a b.
          answering.deal-all key_setup key random gs hs key-setup (record { size = k.size; small = λ i l. omega (arith, k.small i l) }) r a b;
      opening = λ s xs rs out l v k one room.
          open-answers s xs rs out (open_key-accepts s xs rs out (record { inside = l; shares = v; rounds = k; one-round = one; room = room }));
    }
