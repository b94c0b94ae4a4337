-- What a judgement and an outcome say: accept is that every value equals what is due (with a map, in both dealings, and that the map holds), kept is that
-- every verdict is accept.
use mathlib.Core.Path.{◌≡◌, refl, sym, ap}
use mathlib.Core.Bool.{Bool, true, false, not, ◌||◌, false≢true}
use mathlib.Core.List.{List}
use Prim.Native.Nat.{ℕ, ◌≤◌, ◌<◌}
use native.Mathlib.Omega.{arith}
use lib.Dec.{eqb, ltb}
use borrow.Author.Tests.{eqb-true, eq-eqb, ltb-false, le-ltb, not-false}
use Rattle.base.specs.Choice.{pick}
use Rattle.base.specs.Rules.{Answer}
use Rattle.base.specs.Search.{first}
use Rattle.base.proofs.Search.{missing-all, first-missing, every-at, every-all}
use Rattle.field.specs.Dot.{at}
use Rattle.scheme.specs.Setup.{Setup}
use Rattle.scheme.specs.declared.Judgement.{Judgement}
use Rattle.scheme.specs.declared.Judgement.TheVariants.{Accept, Reject, RejectMap}
use Rattle.scheme.specs.declared.Fate.{Fate}
use Rattle.scheme.specs.declared.Fate.TheVariants.{Kept, Aborted}
use Rattle.scheme.specs.Answers.{accepts, kept, paper_judgement, paper_fate}
use Rattle.scheme.specs.Dealing.{expected, differs, judgement_of, judge, said_reject, is_kept, fate_of, outcome, image_at, differs_in, map_holds, judgement_mapped, judge_mapped}

-- of two answers that differ in their first value, one is meant
pub accept-is : (j : Judgement) → paper_judgement j ≡ accepts → j ≡ Accept
accept-is Accept e = refl
accept-is (Reject j) e = absurd (let z : ◌≡◌ {A = ℕ} 0 1 = ap (λ (a : Answer). at a.values 0) e in omega arith)
accept-is RejectMap e = absurd (let z : ◌≡◌ {A = ℕ} 0 1 = ap (λ (a : Answer). at a.values 0) e in omega arith)

pub kept-is : (f : Fate) → paper_fate f ≡ kept → f ≡ Kept
kept-is Kept e = refl
kept-is (Aborted i) e = absurd (let z : ◌≡◌ {A = ℕ} 0 1 = ap (λ (a : Answer). at a.values 0) e in omega arith)

pub accept-means : (S : Setup) (h values : List ℕ) → judge S h values ≡ accepts → (j : ℕ) → j < S.n → at values j ≡ expected S h j
unfolding judgement_of differs
accept-means S h values e j l =
    let t = first (differs S h values) S.n in
    let none : S.n ≤ t = ltb-false t S.n (chosen (ltb t S.n) t (accept-is (judgement_of S h values) e)) in
    eqb-true (at values j) (expected S h j) (not-false (eqb (at values j) (expected S h j)) (missing-all (differs S h values) S.n none j l))
  where
    chosen : (b : Bool) (j : ℕ) → pick b (Reject j) Accept ≡ Accept → b ≡ false
    chosen true j e = absurd (let z : ◌≡◌ {A = ℕ} 0 1 = ap (λ (x : Judgement). at (paper_judgement x).values 0) e in omega arith)
    chosen false j e = refl

pub accept-when : (S : Setup) (h values : List ℕ) → ((j : ℕ) → j < S.n → at values j ≡ expected S h j) → judgement_of S h values ≡ Accept
unfolding judgement_of differs
accept-when S h values q =
    let none = first-missing (differs S h values) S.n (λ j l. ap not (eq-eqb (at values j) (expected S h j) (q j l))) in
    rw (none, le-ltb S.n S.n (omega arith))

-- WITH A MAP
pub record MappedMeans (S : Setup) (h values phi h2 values2 : List ℕ) : Type 0 where
  pub first : (j : ℕ) → j < S.n → at values j ≡ expected S h j
  pub second : (j : ℕ) → j < S.n → at values2 j ≡ expected S h2 j
  pub map : (k : ℕ) → k < S.l → at h2 k ≡ image_at S phi (at h) k

or-false : (a b : Bool) → (a || b) ≡ false → (a ≡ false) × (b ≡ false)
or-false true b e = absurd (false≢true (sym e))
or-false false b e = (refl, e)

module _ (S : Setup) (h values phi h2 values2 : List ℕ) where
  pub mapped-means : judge_mapped S h values phi h2 values2 ≡ accepts → MappedMeans S h values phi h2 values2
  unfolding judgement_mapped differs_in differs map_holds
  mapped-means e =
      let t = first (differs_in S h values h2 values2) S.n in
      let c = chosen (ltb t S.n) (map_holds S h phi h2) t (accept-is (judgement_mapped S h values phi h2 values2) e) in
      let none = missing-all (differs_in S h values h2 values2) S.n (ltb-false t S.n c.0) in
      record {
        first = λ j l. eqb-true _ _ (not-false _ (or-false (differs S h values j) (differs S h2 values2 j) (none j l)).0);
        second = λ j l. eqb-true _ _ (not-false _ (or-false (differs S h values j) (differs S h2 values2 j) (none j l)).1);
        map = λ k l. eqb-true _ _ (every-at S.l _ c.1 k l);
      }
    where
      one-is : (x : Judgement) → x ≡ Accept → at (paper_judgement x).values 0 ≡ 1
      one-is x e = ap (λ (x : Judgement). at (paper_judgement x).values 0) e

      chosen : (b m : Bool) (j : ℕ) → pick b (Reject j) (pick m Accept RejectMap) ≡ Accept → (b ≡ false) × (m ≡ true)
      chosen true m j e = absurd (let z : ◌≡◌ {A = ℕ} 0 1 = one-is (Reject j) e in omega arith)
      chosen false false j e = absurd (let z : ◌≡◌ {A = ℕ} 0 1 = one-is RejectMap e in omega arith)
      chosen false true j e = (refl, refl)

  pub mapped-when : MappedMeans S h values phi h2 values2 → judgement_mapped S h values phi h2 values2 ≡ Accept
  unfolding judgement_mapped differs_in differs map_holds
  mapped-when q =
      let none = first-missing (differs_in S h values h2 values2) S.n (λ j l. rw (eq-eqb _ _ (q.first j l), eq-eqb _ _ (q.second j l)) refl) in
      rw (none, le-ltb S.n S.n (omega arith), every-all S.l (λ k. eqb (at h2 k) (image_at S phi (at h) k)) (λ k l. eq-eqb _ _ (q.map k l))) refl

pub kept-means : (S : Setup) (verdicts : List ℕ) → outcome S verdicts ≡ kept → is_kept S verdicts ≡ true
unfolding fate_of
kept-means S verdicts = go (is_kept S verdicts)
  where
    go : (b : Bool) → paper_fate (pick b Kept (Aborted (first (said_reject verdicts) S.n))) ≡ kept → b ≡ true
    go true e = refl
    go false e = absurd (let z : ◌≡◌ {A = ℕ} 0 1 = ap (λ (a : Answer). at a.values 0) e in omega arith)

pub kept-when : (S : Setup) (verdicts : List ℕ) → ((i : ℕ) → i < S.n → at verdicts i ≡ 1) → is_kept S verdicts ≡ true
unfolding is_kept said_reject
kept-when S verdicts q =
    let none = first-missing (said_reject verdicts) S.n (λ i l. ap not (eq-eqb (at verdicts i) 1 (q i l))) in
    rw (none, le-ltb S.n S.n (omega arith))
