-- Zero dealings, proved (source document 000, lemma 8). With the ℓ zeros that are not sent put back into each h, a zero dealing is a dealing, and the vector
-- behind each of its columns begins with zeros.
-- whole: that dealing
-- behind_zero: that vector
use mathlib.Core.Path.{◌≡◌, ap, sym, ◌∙◌}
use mathlib.Core.List.{List, []}
use Prim.Native.Nat.{ℕ, ◌%◌, ◌<◌}
use native.Mathlib.Nat.{mod-lt, zero-mod}
use native.Mathlib.Omega.{arith}
use lib.ListN.{length, take, replicate, length-replicate, get_or-replicate}
use lib.Seq.{ext_get_or, get_or-take, length-take-le}
use Rattle.base.specs.Rules.{refusal}
use Rattle.base.specs.Fill.{tab}
use Rattle.base.proofs.Rules.{not-refused}
use Rattle.base.proofs.Fill.{length-tab, get_d-tab, tab-vec}
use Rattle.field.specs.Dot.{at, dot}
use Rattle.field.proofs.Dot.{dot-comm, dot-none}
use Rattle.scheme.specs.Setup.{Setup, dim, row}
use Rattle.scheme.specs.Answers.{accepts, paper_judgement}
use Rattle.scheme.specs.Sets.{holds, members}
use Rattle.scheme.specs.Calls.{judge_zero_rules, judge_zero_call, judge_call}
use Rattle.scheme.proofs.Calls.{judge_zero-ok, judge-accepts}
use Rattle.scheme.proofs.Zero.{padded, padded-low, padded-judgement, padded-ok}
use Rattle.demand.specs.Demand.{Dealing, Member, Done, DoneZero, zeros, column, IsArray, Agrees, ExactlyOne}
use Rattle.demand.proofs.Given.{dot-reduced}
use Rattle.demand.proofs.Arrays.{exactly-one, det, pos, behind, behind-at, behind-gives, share-small}

padded-accepts : (S : Setup) (h values : List ℕ) → judge_zero_call S h values ≡ accepts → judge_call S (padded S h) values ≡ accepts
padded-accepts S h values e =
    let a = not-refused (refusal (judge_zero_rules S h values)) _ _ e in
    rw (judge-accepts S (padded S h) values (padded-ok S h values (judge_zero-ok S h values a.0))) (ap paper_judgement (padded-judgement S h values) ∙ a.1)

-- A ZERO DEALING IS A DEALING
abbrev pub whole : Setup → Dealing → Dealing
whole S Z = record { g = Z.g; h = λ i. padded S (Z.h i); values = Z.values; verdicts = Z.verdicts; shares = Z.shares }

pub whole-done : (S : Setup) (group : ℕ) {J : Type 0} (Z : J → Dealing) → DoneZero S group Z → Done S group (λ j. whole S (Z j))
whole-done S group Z done =
    record {
      determined = done.determined;
      keepers = λ j i m. let k = done.keepers j i m in
          record { judged = padded-accepts S ((Z j).h i) ((Z j).values i) k.judged; lent = k.lent; settled = k.settled; share = k.share };
      delivered = done.delivered;
    }

-- LEMMA 8
module _ (S : Setup) (group : ℕ) {J : Type 0} (Z : J → Dealing) (done : DoneZero S group Z) where
  abbrev all : J → Dealing
  all j = whole S (Z j)

  full : Done S group all
  full = whole-done S group Z done

  pub behind_zero : J → ℕ → ℕ → ℕ
  behind_zero j b c = behind S group all full j b c

  pub zero-begins : (j : J) (b k : ℕ) → k < S.l → behind_zero j b k ≡ 0
  unfolding behind_zero
  zero-begins j b k l =
      let who = members S.n (holds group) in
      behind-at S group all full j b k ∙ dot-comm (length who) _ _ ∙ dot-none (length who) _ _ (λ a m. padded-low S ((Z j).h (at who a)) k l)

  pub zero-gives : (j : J) (b : ℕ) → b < S.l → (i : ℕ) → Member S group i → dot (dim S) (row S i) (behind_zero j b) % S.p ≡ at ((Z j).shares i) b
  unfolding behind_zero
  zero-gives j b l i m = behind-gives S group all full j b l i m

  pub zero-small : (j : J) (b : ℕ) → b < S.l → (i : ℕ) → Member S group i → at ((Z j).shares i) b < S.p
  zero-small j b l i m = share-small S (all j) i (full.keepers j i m) b l

  zero-column : (b : ℕ) → b < S.l → column (zeros S) b ≡ replicate S.l 0
  zero-column b h = get_or-replicate S.l b (replicate {A = ℕ} S.l 0) [] h

  zeros-is : IsArray S (zeros S)
  zeros-is =
      record {
        count = length-replicate S.l (replicate {A = ℕ} S.l 0);
        each = λ b h. rw (zero-column b h)
            (record { size = length-replicate {A = ℕ} S.l 0; small = λ k l. rw (get_or-replicate {A = ℕ} S.l k 0 0 l) (pos S group all full) });
      }

  zeros-agree : (j : J) → Agrees S group (Z j) (zeros S)
  zeros-agree j b h =
      record {
        vector = v;
        ok = tab-vec S.p (dim S) _ (λ c l. mod-lt _ (pos S group all full));
        begins =
            ext_get_or 0 (take S.l v) (replicate S.l 0) (long ∙ sym (length-replicate {A = ℕ} S.l 0))
            (λ k m.
            let l : k < S.l = omega (arith, long) in
            get_or-take S.l v k 0 l
            ∙ get_d-tab (dim S) _ 0 k (omega arith)
            ∙ ap (λ z. z % S.p) (zero-begins j b k l)
            ∙ zero-mod S.p
            ∙ sym (get_or-replicate {A = ℕ} S.l k 0 0 l))
            ∙ sym (zero-column b h);
        gives = λ i m. dot-reduced S.p (dim S) (row S i) (behind_zero j b) ∙ zero-gives j b h i m;
      }
    where
      v : List ℕ
      v = tab (dim S) (λ c. behind_zero j b c % S.p)

      long : length (take S.l v) ≡ S.l
      long = length-take-le S.l v (omega (arith, length-tab (dim S) (λ c. behind_zero j b c % S.p)))

  pub zero-found : (j : J) → ExactlyOne S group (Z j) (zeros S)
  zero-found j = exactly-one S group (det S group all full) (Z j) (zeros S) zeros-is (zeros-agree j)
