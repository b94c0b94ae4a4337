-- Every call answers where its inputs break nothing, and says so exactly where its number is 0: what stands behind a table of refusals is an answer
-- with number 0, but for an opening's own 6 and 7.
use mathlib.Core.Path.{◌≡◌, refl, sym, ap, ◌∙◌}
use mathlib.Core.Bool.{Bool, true, false, not, false≢true}
use mathlib.Core.List.{List, [], ◌∷◌}
use mathlib.Core.Option.{Option, none, some, none-ne-some}
use Prim.Native.Nat.{ℕ, zero, suc, ◌+◌, ◌*◌, ◌/◌, ◌%◌, ◌≤◌}
use native.Mathlib.Omega.{arith}
use borrow.Author.Tests.{eqb-false, ne_eqb, not-true, not-false}
use lib.Dec.{eqb, ltb}
use lib.ListN.{length, take}
use Rattle.base.specs.Choice.{pick}
use Rattle.base.specs.Rules.{Answer, refusal, given, answer_by}
use Rattle.base.specs.Search.{first, First, found, missing, first_vec, Vec}
use Rattle.base.specs.Matrix.{flat}
use Rattle.base.proofs.Choice.{picked}
use Rattle.base.proofs.Rules.{lowest}
use Rattle.base.proofs.Search.{every-at, every-all, first-is, first_vec-sound, first_vec-complete}
use Rattle.field.specs.Fields.{is_field}
use Rattle.scheme.specs.Setup.{Setup, dim}
use Rattle.scheme.specs.declared.Judgement.{Judgement}
use Rattle.scheme.specs.declared.Judgement.TheVariants.{Accept, Reject, RejectMap}
use Rattle.scheme.specs.declared.Fate.{Fate}
use Rattle.scheme.specs.declared.Fate.TheVariants.{Kept, Aborted}
use Rattle.scheme.specs.Answers.{paper_judgement, paper_fate, fair, disagree, is_a_row, is_a_vector, is_neither, yes, no, undetermined, inconsistent}
use Rattle.scheme.specs.Dealing.{judgement_of, judgement_mapped, judgement_zero, fate_of, pair_value, disagrees, rehearse}
use Rattle.scheme.specs.Sets.{holds, members, has_row, has_sweep, row_steps, kind, determines, is_private}
use Rattle.scheme.specs.Opening.{gives, opening, opened_by, combine, round_of, agree, refresh}
use Rattle.scheme.specs.Calls.{decide, points_rules, deal_rules, deal_all_rules, deal_mapped_rules, deal_mapped_all_rules, deal_zero_rules, deal_zero_all_rules, pair_value_rules, judge_rules, judge_mapped_rules, judge_zero_rules, outcome_rules, rehearse_rules, set_rules, judge_set_rules, open_rules, open_call, combine_rules, refresh_rules}
use Rattle.scheme.specs.Answering.{AllLowest, Marked, AllMarked, Answers, Behind, OpenAnswers, Answering}
use Rattle.scheme.proofs.Calls.{points-accepts, deal-accepts, deal_all-accepts, deal_mapped-accepts, deal_mapped_all-accepts, deal_zero-accepts, deal_zero_all-accepts, pair_value-accepts, judge-accepts, judge_mapped-accepts, judge_zero-accepts, outcome-accepts, rehearse-accepts, set-accepts, judge_set-accepts, open-accepts, combine-accepts, refresh-accepts}
use Rattle.scheme.proofs.Certificates.{by-search, undetermined-in-hand}

is_false : (b : Bool) → (b ≡ true → ⊥) → b ≡ false
is_false true h = absurd (h refl)
is_false false h = refl

-- WHAT STANDS BEHIND A TABLE
-- an answer that is not refused
pub Given : Answer → Type 0
Given a = a ≡ given a.values

pub given-given : (vs : List ℕ) → Given (given vs)
unfolding Given
given-given vs = refl

pub given-number : (a : Answer) → Given a → a.number ≡ 0
unfolding Given
given-number a e = ap (λ (x : Answer). x.number) e

pub judgement-given : (j : Judgement) → Given (paper_judgement j)
unfolding Given
judgement-given Accept = refl
judgement-given (Reject j) = refl
judgement-given RejectMap = refl

pub fate-given : (f : Fate) → Given (paper_fate f)
unfolding Given
fate-given Kept = refl
fate-given (Aborted i) = refl

pub rehearse-given : (S : Setup) (gs hs : List ℕ) → Given (rehearse S gs hs)
unfolding Given rehearse
rehearse-given S gs hs =
    let t = first (flat S.n (disagrees S gs hs)) (S.n * S.n) in
    picked Given (ltb t (S.n * S.n)) (disagree (t / S.n) (t % S.n)) fair refl refl

pub decide-given : (b : Bool) → Given (decide b)
unfolding Given
decide-given b = picked Given b yes no refl refl

pub kind-given : (S : Setup) (X : ℕ → Bool) (q : ℕ) → Given (kind S X q)
unfolding Given kind
kind-given S X q =
    let k = row_steps S X q in
    picked Given (has_row S X q) (is_a_row k) (pick (has_sweep S X q) (is_a_vector k) (is_neither k)) refl
    (picked Given (has_sweep S X q) (is_a_vector k) (is_neither k) refl refl)

-- an opening: the secrets, or 6, or 7
pub data OpeningIs (S : Setup) (s : ℕ) (xs : List ℕ) : Type 0 where
  secrets : determines S (holds s) ≡ true → Behind S s xs → (vs : List ℕ) → opening S (holds s) xs ≡ given vs → OpeningIs S s xs
  by-six : determines S (holds s) ≡ false → (q : ℕ) → opening S (holds s) xs ≡ undetermined q → OpeningIs S s xs
  by-seven : determines S (holds s) ≡ true → (Behind S s xs → ⊥) → opening S (holds s) xs ≡ inconsistent → OpeningIs S s xs

pub opening-is : (S : Setup) (s : ℕ) (xs : List ℕ) → OpeningIs S s xs
unfolding determines
opening-is S s xs = go (first lacks S.l) (first-is lacks S.l)
  where
    lacks : ℕ → Bool
    lacks k = not (has_row S (holds s) k)

    search : (o : Option (List ℕ)) → first_vec S.p (dim S) (gives S (members S.n (holds s)) xs) ≡ o → determines S (holds s) ≡ true → OpeningIs S s xs
    search none e d =
        by-seven d (λ b. none-ne-some _ (sym e ∙ (first_vec-complete S.p (dim S) _ b.vector b.ok b.all).1))
        (by-search S (holds s) xs d ∙ ap (opened_by S.l) e)
    search (some v) e d =
        let w = first_vec-sound S.p (dim S) _ v e in
        secrets d (record { vector = v; ok = w.0; all = w.1 }) (take S.l v) (by-search S (holds s) xs d ∙ ap (opened_by S.l) e)

    go : (r : ℕ) → First lacks S.l r → OpeningIs S s xs
    go r (found l t below) =
        by-six (is_false (determines S (holds s)) (λ d. false≢true (sym (not-true _ t) ∙ every-at S.l (has_row S (holds s)) d r l))) r
        (undetermined-in-hand S (holds s) xs r l (λ j m. not-false _ (below j m)) (not-true _ t))
    go r (missing e all) = search _ refl (every-all S.l (has_row S (holds s)) (λ k l. not-false _ (all k l)))

-- THE LOWEST NUMBER: the numbers of every table rise
pub all-lowest : AllLowest
all-lowest =
    record {
      points = λ S. lowest (points_rules S) tt;
      deal = λ S secrets random i g h. lowest (deal_rules S secrets random i g h) tt;
      deal-all = λ S secrets random gs hs. lowest (deal_all_rules S secrets random gs hs) tt;
      deal-mapped = λ S secrets random phi random2 i B. lowest (deal_mapped_rules S secrets random phi random2 i B) tt;
      deal-mapped-all = λ S secrets random phi random2 B. lowest (deal_mapped_all_rules S secrets random phi random2 B) tt;
      deal-zero = λ S random i g h. lowest (deal_zero_rules S random i g h) tt;
      deal-zero-all = λ S random gs hs. lowest (deal_zero_all_rules S random gs hs) tt;
      pair-value = λ S g i. lowest (pair_value_rules S g i) tt;
      judge = λ S h values. lowest (judge_rules S h values) tt;
      judge-mapped = λ S h values phi h2 values2. lowest (judge_mapped_rules S h values phi h2 values2) tt;
      judge-zero = λ S h values. lowest (judge_zero_rules S h values) tt;
      outcome = λ S g verdicts out. lowest (outcome_rules S g verdicts out) tt;
      rehearse = λ S gs hs. lowest (rehearse_rules S gs hs) tt;
      set = λ S s. lowest (set_rules S s) tt;
      judge-set = λ S s q out. lowest (judge_set_rules S s q out) tt;
      opening = λ S s xs rs out. lowest (open_rules S s xs rs out) tt;
      combine = λ p cs xs rs. lowest (combine_rules p cs xs rs) tt;
      refresh = λ p x round z. lowest (refresh_rules p x round z) tt;
    }

-- THE MARK
pub marked_by : (r : ℕ) (a : Answer) → Marked a → Marked (answer_by r a)
marked_by zero a m = m
marked_by (suc r) a m = sym (ne_eqb (suc r) 0 (λ e. omega arith))

marked-given : (a : Answer) → Given a → Marked a
unfolding Given
marked-given a e = ap (λ (x : Answer). x.answered) e ∙ ap (λ (x : Answer). eqb x.number 0) (sym e)

pub opening-marked : (S : Setup) (s : ℕ) (xs : List ℕ) → Marked (opening S (holds s) xs)
opening-marked S s xs = go (opening-is S s xs)
  where
    go : OpeningIs S s xs → Marked (opening S (holds s) xs)
    go (secrets d b vs e) = rw e refl
    go (by-six d q e) = rw e refl
    go (by-seven d no e) = rw e refl

pub all-marked : AllMarked
all-marked =
    record {
      points = λ S. marked_by (refusal (points_rules S)) (given []) refl;
      deal = λ S secrets random i g h. marked_by (refusal (deal_rules S secrets random i g h)) (given []) refl;
      deal-all = λ S secrets random gs hs. marked_by (refusal (deal_all_rules S secrets random gs hs)) (given []) refl;
      deal-mapped = λ S secrets random phi random2 i B. marked_by (refusal (deal_mapped_rules S secrets random phi random2 i B)) (given []) refl;
      deal-mapped-all = λ S secrets random phi random2 B. marked_by (refusal (deal_mapped_all_rules S secrets random phi random2 B)) (given []) refl;
      deal-zero = λ S random i g h. marked_by (refusal (deal_zero_rules S random i g h)) (given []) refl;
      deal-zero-all = λ S random gs hs. marked_by (refusal (deal_zero_all_rules S random gs hs)) (given []) refl;
      pair-value = λ S g i. marked_by (refusal (pair_value_rules S g i)) (given (pair_value S g i ∷ [])) refl;
      judge = λ S h values. marked_by (refusal (judge_rules S h values)) _ (marked-given _ (judgement-given (judgement_of S h values)));
      judge-mapped = λ S h values phi h2 values2.
          marked_by (refusal (judge_mapped_rules S h values phi h2 values2)) _ (marked-given _ (judgement-given (judgement_mapped S h values phi h2 values2)));
      judge-zero = λ S h values. marked_by (refusal (judge_zero_rules S h values)) _ (marked-given _ (judgement-given (judgement_zero S h values)));
      outcome = λ S g verdicts out. marked_by (refusal (outcome_rules S g verdicts out)) _ (marked-given _ (fate-given (fate_of S verdicts)));
      rehearse = λ S gs hs. marked_by (refusal (rehearse_rules S gs hs)) _ (marked-given _ (rehearse-given S gs hs));
      determines = λ S s. marked_by (refusal (set_rules S s)) _ (marked-given _ (decide-given (determines S (holds s))));
      private = λ S s. marked_by (refusal (set_rules S s)) _ (marked-given _ (decide-given (is_private S (holds s))));
      judge-set = λ S s q out. marked_by (refusal (judge_set_rules S s q out)) _ (marked-given _ (kind-given S (holds s) q));
      opening = λ S s xs rs out. marked_by (refusal (open_rules S s xs rs out)) _ (opening-marked S s xs);
      combine = λ p cs xs rs. marked_by (refusal (combine_rules p cs xs rs)) (given (combine p cs xs ∷ round_of rs ∷ [])) refl;
      refresh = λ p x round z. marked_by (refusal (refresh_rules p x round z)) (given (refresh p x z ∷ (round + 1) ∷ [])) refl;
    }

-- INPUTS THAT BREAK NOTHING
answers_by : (r : ℕ) (a : Answer) → r ≡ 0 → Given a → Answers (answer_by r a)
unfolding Given
answers_by r a e g = rw e (ap (λ (x : Answer). x.answered) g)

open-answers : (S : Setup) (s : ℕ) (xs rs out : List ℕ) → refusal (open_rules S s xs rs out) ≡ 0 → OpenAnswers S s xs rs out
open-answers S s xs rs out fine = go (opening-is S s xs)
  where
    -- the call gives the opening's own answer
    is : (a : Answer) → opening S (holds s) xs ≡ a → ((open_call S s xs rs out).answered ≡ a.answered) × ((open_call S s xs rs out).number ≡ a.number)
    is a e = rw (fine, e) (refl, refl)

    go : OpeningIs S s xs → OpenAnswers S s xs rs out
    go (secrets d b vs e) =
        let r = is (given vs) e in
        record {
          answers = (λ t. (d, b), λ q. r.0);
          six = (λ n. absurd (eqb-false 0 6 refl (sym r.1 ∙ n)), λ f. absurd (false≢true (sym f ∙ d)));
          seven = (λ n. absurd (eqb-false 0 7 refl (sym r.1 ∙ n)), λ q. absurd (q.1 b));
        }
    go (by-six d q e) =
        let r = is (undetermined q) e in
        record {
          answers = (λ t. absurd (false≢true (sym r.0 ∙ t)), λ p. absurd (false≢true (sym d ∙ p.0)));
          six = (λ n. d, λ f. r.1);
          seven = (λ n. absurd (eqb-false 6 7 refl (sym r.1 ∙ n)), λ p. absurd (false≢true (sym d ∙ p.0)));
        }
    go (by-seven d no e) =
        let r = is inconsistent e in
        record {
          answers = (λ t. absurd (false≢true (sym r.0 ∙ t)), λ p. absurd (no p.1));
          six = (λ n. absurd (eqb-false 7 6 refl (sym r.1 ∙ n)), λ f. absurd (false≢true (sym f ∙ d)));
          seven = (λ n. (d, no), λ p. r.1);
        }

pub answering : Answering
answering =
    record {
      points = λ S L room fits. answers_by (refusal (points_rules S)) _ (points-accepts S (record { limits = L; room = room; fits = fits })) (given-given []);
      deal = λ S secrets random i g h ok v r l a b.
          answers_by (refusal (deal_rules S secrets random i g h)) _ (deal-accepts S secrets random i g h (record { setup = ok; vectors = v; entries = r }) a b l) (given-given []);
      deal-all = λ S secrets random gs hs ok v r a b.
          answers_by (refusal (deal_all_rules S secrets random gs hs)) _ (deal_all-accepts S secrets random gs hs (record { setup = ok; vectors = v; entries = r }) a b) (given-given []);
      deal-mapped = λ S secrets random phi random2 i B ok v r m w l z.
          answers_by (refusal (deal_mapped_rules S secrets random phi random2 i B)) _
          (deal_mapped-accepts S secrets random phi random2 B i (record { first = record { setup = ok; vectors = v; entries = r }; map = m; entries = w }) z l) (given-given []);
      deal-mapped-all = λ S secrets random phi random2 B ok v r m w z.
          answers_by (refusal (deal_mapped_all_rules S secrets random phi random2 B)) _
          (deal_mapped_all-accepts S secrets random phi random2 B (record { first = record { setup = ok; vectors = v; entries = r }; map = m; entries = w }) z) (given-given []);
      deal-zero = λ S random i g h ok v l a b.
          answers_by (refusal (deal_zero_rules S random i g h)) _ (deal_zero-accepts S random i g h (record { setup = ok; entries = v }) a b l) (given-given []);
      deal-zero-all = λ S random gs hs ok v a b.
          answers_by (refusal (deal_zero_all_rules S random gs hs)) _ (deal_zero_all-accepts S random gs hs (record { setup = ok; entries = v }) a b) (given-given []);
      pair-value = λ S g i ok v l.
          answers_by (refusal (pair_value_rules S g i)) _ (pair_value-accepts S g i (record { setup = ok; part = v; to = l })) (given-given _);
      judge = λ S h values ok v r.
          answers_by (refusal (judge_rules S h values)) _ (judge-accepts S h values (record { setup = ok; part = v; received = r })) (judgement-given (judgement_of S h values));
      judge-mapped = λ S h values phi h2 values2 ok v r m w s.
          answers_by (refusal (judge_mapped_rules S h values phi h2 values2)) _
          (judge_mapped-accepts S h values phi h2 values2 (record { first = record { setup = ok; part = v; received = r }; map = m; second = record { setup = ok; part = w; received = s } }))
          (judgement-given (judgement_mapped S h values phi h2 values2));
      judge-zero = λ S h values ok v r.
          answers_by (refusal (judge_zero_rules S h values)) _ (judge_zero-accepts S h values (record { setup = ok; part = v; received = r })) (judgement-given (judgement_zero S h values));
      outcome = λ S g verdicts out L v w room.
          answers_by (refusal (outcome_rules S g verdicts out)) _ (outcome-accepts S g verdicts out (record { limits = L; part = v; heard = w; room = room })) (fate-given (fate_of S verdicts));
      rehearse = λ S gs hs ok v w.
          answers_by (refusal (rehearse_rules S gs hs)) _ (rehearse-accepts S gs hs (record { setup = ok; rows = v; columns = w })) (rehearse-given S gs hs);
      determines = λ S s ok l. answers_by (refusal (set_rules S s)) _ (set-accepts S s (record { setup = ok; inside = l })) (decide-given (determines S (holds s)));
      private = λ S s ok l. answers_by (refusal (set_rules S s)) _ (set-accepts S s (record { setup = ok; inside = l })) (decide-given (is_private S (holds s)));
      judge-set = λ S s q out ok l m room.
          answers_by (refusal (judge_set_rules S s q out)) _ (judge_set-accepts S s q out (record { setup = ok; inside = l }) room m) (kind-given S (holds s) q);
      opening = λ S s xs rs out ok l v r q room. open-answers S s xs rs out (open-accepts S s xs rs out (record { setup = ok; inside = l }) v r q room);
      combine = λ p k cs xs rs f few v w r q. answers_by (refusal (combine_rules p cs xs rs)) _ (combined p k cs xs rs f few v w r q) (given-given _);
      refresh = λ p x round z f a b l.
          answers_by (refusal (refresh_rules p x round z)) _ (refresh-accepts p x round z (record { field = f; old = a; zero = b; next = l })) (given-given _);
    }
  where
    combined : (p k : ℕ) (cs xs rs : List ℕ) → is_field p ≡ true → k ≤ 64 → Vec p k cs → Vec p k xs → length rs ≡ k → agree rs ≡ true
        → refusal (combine_rules p cs xs rs) ≡ 0
    combined p k cs xs rs f few v w r q =
        combine-accepts p cs xs rs
        (record { field = f; constants = rw v.size v; shares = rw v.size w; rounds = r ∙ sym v.size; few = omega (arith, v.size); one-round = q })
