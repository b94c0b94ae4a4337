-- Demand 3 with maps, proved (source document 000, lemma 5). A member that accepted both dealings accepted each, so both are dealings. The same row over
-- the group makes column b of both arrays from the members' h, and every member checked the map on its own h; the map of a sum is the sum of the maps.
-- map-of-sum: that law
-- opened-to: what an opening that answers left
use mathlib.Core.Path.{◌≡◌, refl, ap, sym, ◌∙◌}
use mathlib.Core.List.{List, [], ◌∷◌}
use mathlib.Core.Logic.{◌⊎◌, inl, inr}
use Prim.Native.Nat.{ℕ, ◌%◌, ◌<◌}
use native.Mathlib.Nat.{mod-mod}
use native.Mathlib.Omega.{arith}
use lib.ListN.{length}
use Rattle.base.specs.Rules.{Answer, refusal, given}
use Rattle.base.specs.Matrix.{entry}
use Rattle.base.proofs.Fill.{get_d-tab, tab-is, tab-ext}
use Rattle.base.proofs.Rules.{not-refused}
use Rattle.field.specs.Dot.{at, dot}
use Rattle.field.proofs.Dot.{dot-comm, dot-mod-right, dot-assoc}
use Rattle.scheme.specs.Setup.{Setup}
use Rattle.scheme.specs.Answers.{accepts, paper_judgement}
use Rattle.scheme.specs.Dealing.{image_at, image}
use Rattle.scheme.specs.Sets.{holds, members}
use Rattle.scheme.specs.Calls.{pair_value_call, judge_call, judge_mapped_rules, judge_mapped_call, open_call, open_left}
use Rattle.scheme.proofs.Calls.{judge-accepts, judge_mapped-ok}
use Rattle.scheme.proofs.Verdicts.{accept-when, MappedMeans, mapped-means}
use Rattle.scheme.proofs.Members.{member-at}
use Rattle.scheme.proofs.Sets.{the_row}
use Rattle.demand.specs.Demand.{Dealing, Member, Keeps, Done, DoneZero, Slips, kept_at, Refreshed, at_first, Reordered, none, Applied, Terms, InLimits, one_column, Handed, column, secrets_over, Opens, Refused, by-four, by-nineteen, by-seven, Found}
use Rattle.demand.specs.Maps.{MappedDealing, first_dealing, second_dealing, Which, plain, first, second, together, KeepsMapped, DoneWithMaps, firsts, seconds, SecretAndMap, FoundWithMaps}
use Rattle.demand.proofs.Given.{combine-tab}
use Rattle.demand.proofs.Arrays.{array-by-row}
use Rattle.demand.proofs.Demand.{demand3}

-- the map of a sum with constants c, when every y a is position k of the map of x a, and z is that sum of the x a
pub map-of-sum : (S : Setup) (phi : List ℕ) (k m : ℕ) (c y z : ℕ → ℕ) (x : ℕ → ℕ → ℕ) → ((a : ℕ) → a < m → y a ≡ image_at S phi (x a) k)
    → ((j : ℕ) → j < S.l → z j ≡ dot m c (λ a. x a j) % S.p)
    → dot m c y % S.p ≡ image_at S phi z k
unfolding image_at
map-of-sum S phi k m c y z x each total =
    dot-mod-right S.p m c y (λ a. dot S.l (x a) (entry S.l phi k))
    (λ a l. ap (λ v. v % S.p) (each a l) ∙ mod-mod _ S.p ∙ ap (λ v. v % S.p) (dot-comm S.l (entry S.l phi k) (x a)))
    ∙ ap (λ v. v % S.p) (dot-assoc m S.l c (entry S.l phi k) x ∙ dot-comm S.l _ _)
    ∙ dot-mod-right S.p S.l (entry S.l phi k) _ z (λ j l. sym (mod-mod _ S.p) ∙ ap (λ v. v % S.p) (sym (total j l)))

-- BOTH ARE DEALINGS: accepted with a map is accepted in each
module _ (S : Setup) (h values phi h2 values2 : List ℕ) (e : judge_mapped_call S h values phi h2 values2 ≡ accepts) where
  told : MappedMeans S h values phi h2 values2
  told = mapped-means S h values phi h2 values2 (not-refused (refusal (judge_mapped_rules S h values phi h2 values2)) _ _ e).1

  accepts-first : judge_call S h values ≡ accepts
  accepts-first =
      let ok = judge_mapped-ok S h values phi h2 values2 (not-refused (refusal (judge_mapped_rules S h values phi h2 values2)) _ _ e).0 in
      rw (judge-accepts S h values ok.first) (ap paper_judgement (accept-when S h values told.first))

  accepts-second : judge_call S h2 values2 ≡ accepts
  accepts-second =
      let ok = judge_mapped-ok S h values phi h2 values2 (not-refused (refusal (judge_mapped_rules S h values phi h2 values2)) _ _ e).0 in
      rw (judge-accepts S h2 values2 ok.second) (ap paper_judgement (accept-when S h2 values2 told.second))

-- a member that kept its shares of both kept those of each
pub keeps-first : (S : Setup) (T : MappedDealing) (i : ℕ) → KeepsMapped S T i → Keeps S (first_dealing T) i
keeps-first S T i k =
    record {
      judged = accepts-first S (T.h i) (T.values i) (T.phi i) (T.h2 i) (T.values2 i) k.judged;
      lent = k.lent;
      settled = k.settled;
      share = k.share;
    }

pub keeps-second : (S : Setup) (T : MappedDealing) (i : ℕ) → KeepsMapped S T i → Keeps S (second_dealing T) i
keeps-second S T i k =
    record {
      judged = accepts-second S (T.h i) (T.values i) (T.phi i) (T.h2 i) (T.values2 i) k.judged;
      lent = k.lent2;
      settled = k.settled2;
      share = k.share2;
    }

pub both-done : (S : Setup) (group : ℕ) {I K : Type 0} (D : I → Dealing) (phi : K → List ℕ) (T : K → MappedDealing) → DoneWithMaps S group D phi T
    → Done S group (together D T)
both-done S group {I = I} {K = K} D phi T done = record { determined = done.plainly.determined; keepers = keepers'; delivered = delivered' }
  where
    keepers' : (c : Which I K) (i : ℕ) → Member S group i → Keeps S (together D T c) i
    keepers' (plain t) i m = done.plainly.keepers t i m
    keepers' (first t) i m = keeps-first S (T t) i (done.keepers t i m)
    keepers' (second t) i m = keeps-second S (T t) i (done.keepers t i m)

    delivered' : (c : Which I K) (i j : ℕ) → Member S group i → Member S group j
        → pair_value_call S ((together D T c).g j) i ≡ given (at ((together D T c).values i) j ∷ [])
    delivered' (plain t) i j mi mj = done.plainly.delivered t i j mi mj
    delivered' (first t) i j mi mj = done.delivered t i j mi mj
    delivered' (second t) i j mi mj = done.delivered2 t i j mi mj

-- an opening that answers was not refused, and so left the combination
pub opened-to : (S : Setup) (group : ℕ) {I J : Type 0} (D : I → Dealing) (Z : J → Dealing) (F : Found S group D Z) (A : Applied S group D Z) (ts : Terms I)
    (openers : ℕ) (handed rounds out : List ℕ) → Handed S group A.slip ts openers handed rounds → length out ≡ S.l → open_call S openers handed rounds out ≡ given []
    → open_left S openers handed rounds out ≡ secrets_over S F.array ts
opened-to S group D Z F A ts openers handed rounds out hand room e = go ((F.now A).opens ts openers handed rounds out hand room)
  where
    number_is : (k : ℕ) → (open_call S openers handed rounds out).number ≡ k → k ≡ 0
    number_is k z = sym z ∙ ap (λ (a : Answer). a.number) e

    go : Opens S openers handed rounds out (secrets_over S F.array ts) ⊎ Refused S openers handed rounds out
        → open_left S openers handed rounds out ≡ secrets_over S F.array ts
    go (inl o) = o.buffer
    go (inr (by-four x y)) = absurd (let z : ◌≡◌ {A = ℕ} 4 0 = number_is 4 (ap (λ (a : Answer). a.number) x) in omega arith)
    go (inr (by-nineteen d x y)) = absurd (let z : ◌≡◌ {A = ℕ} 19 0 = number_is 19 (ap (λ (a : Answer). a.number) x) in omega arith)
    go (inr (by-seven x y)) = absurd (let z : ◌≡◌ {A = ℕ} 7 0 = number_is 7 (ap (λ (a : Answer). a.number) x) in omega arith)

-- THE MAP BETWEEN THE ARRAYS
module _ (S : Setup) (group : ℕ) {I K : Type 0} (D : I → Dealing) (phi : K → List ℕ) (T : K → MappedDealing) (done : DoneWithMaps S group D phi T) where
  all_done : Done S group (together D T)
  all_done = both-done S group D phi T done

  -- every member's second h begins with the map of its first, by the one φ
  checked : (t : K) (i : ℕ) → Member S group i → (k : ℕ) → k < S.l → at ((T t).h2 i) k ≡ image_at S (phi t) (at ((T t).h i)) k
  checked t i m k l =
      (told S ((T t).h i) ((T t).values i) ((T t).phi i) ((T t).h2 i) ((T t).values2 i) (done.keepers t i m).judged).map k l
      ∙ ap (λ f. image_at S f (at ((T t).h i)) k) (done.one_map t i m)

  module _ {J : Type 0} (Z : J → Dealing) (F : Found S group (together D T) Z) where
    tied' : (t : K) (b : ℕ) → b < S.l → column (F.array (second t)) b ≡ image S (phi t) (column (F.array (first t)) b)
    tied' t b h =
        let who = members S.n (holds group) in
        tab-is S.l _ 0 (column (F.array (second t)) b) ((F.one (second t)).array.each b h).size
        (λ k l.
        array-by-row S group (together D T) all_done Z F (second t) b k h l
        ∙ map-of-sum S (phi t) k (length who) (at (the_row S (holds group) b)) _ _ (λ a. at ((T t).h (at who a)))
        (λ a o. checked t (at who a) (member-at S.n (holds group) a o) k l)
        (λ j o. array-by-row S group (together D T) all_done Z F (first t) b j h o))

    -- and between combinations of them
    tied-over : (ts : Terms K) (m : List ℕ) → ((s : ℕ) → s < ts.count → phi (ts.dealing s) ≡ m) → ((s : ℕ) → s < ts.count → ts.column s < S.l)
        → secrets_over S F.array (seconds ts) ≡ image S m (secrets_over S F.array (firsts ts))
    tied-over ts m same within =
        tab-ext S.l _ _ (λ k l.
        combine-tab S.p ts.count ts.constant _
        ∙ map-of-sum S m k ts.count ts.constant _ _ (λ s. at (column (F.array (first (ts.dealing s))) (ts.column s)))
        (λ s o.
        ap (λ v. at v k) (tied' (ts.dealing s) (ts.column s) (within s o))
        ∙ get_d-tab S.l _ 0 k l
        ∙ ap (λ f. image_at S f (at (column (F.array (first (ts.dealing s))) (ts.column s))) k) (same s o))
        (λ j o. get_d-tab S.l _ 0 j o ∙ combine-tab S.p ts.count ts.constant _))

    module _ (A A2 : Applied S group (together D T) Z) where
      combined' : (ts : Terms K) (m : List ℕ) → ((s : ℕ) → s < ts.count → phi (ts.dealing s) ≡ m)
          → (openers : ℕ) (handed rounds out : List ℕ) → Handed S group A.slip (firsts ts) openers handed rounds → length out ≡ S.l
          → (openers2 : ℕ) (handed2 rounds2 out2 : List ℕ) → Handed S group A2.slip (seconds ts) openers2 handed2 rounds2 → length out2 ≡ S.l
          → open_call S openers handed rounds out ≡ given [] → open_call S openers2 handed2 rounds2 out2 ≡ given []
          → SecretAndMap S m (secrets_over S F.array (firsts ts)) (open_left S openers handed rounds out) (open_left S openers2 handed2 rounds2 out2)
      combined' ts m same openers handed rounds out hand room openers2 handed2 rounds2 out2 hand2 room2 e e2 =
          let secret = opened-to S group (together D T) Z F A (firsts ts) openers handed rounds out hand room e in
          record {
            secret = secret;
            map =
                opened-to S group (together D T) Z F A2 (seconds ts) openers2 handed2 rounds2 out2 hand2 room2 e2
                ∙ tied-over ts m same hand.limits.columns
                ∙ ap (image S m) (sym secret);
          }

      opened' : (t : K) (b : ℕ)
          → (openers : ℕ) (handed rounds out : List ℕ) → Handed S group A.slip (one_column (first t) b) openers handed rounds → length out ≡ S.l
          → (openers2 : ℕ) (handed2 rounds2 out2 : List ℕ) → Handed S group A2.slip (one_column (second t) b) openers2 handed2 rounds2 → length out2 ≡ S.l
          → open_call S openers handed rounds out ≡ given [] → open_call S openers2 handed2 rounds2 out2 ≡ given []
          → SecretAndMap S (phi t) (column (F.array (first t)) b) (open_left S openers handed rounds out) (open_left S openers2 handed2 rounds2 out2)
      opened' t b openers handed rounds out hand room openers2 handed2 rounds2 out2 hand2 room2 e e2 =
          let r = combined' (one_column t b) (phi t) (λ s o. refl) openers handed rounds out hand room openers2 handed2 rounds2 out2 hand2 room2 e e2 in
          record { secret = r.secret ∙ F.one-column (first t) b (hand.limits.columns 0 (omega arith)); map = r.map }

  pub found-with-maps : {J : Type 0} (Z : J → Dealing) → DoneZero S group Z → FoundWithMaps S group D phi T Z
  found-with-maps Z doneZero =
      let F = demand3.found S group (together D T) Z all_done doneZero in
      record {
        dealings = F;
        tied = tied' Z F;
        opened = λ t b A A2. opened' Z F A A2 t b;
        combined = λ ts m same A A2. combined' Z F A A2 ts m same;
      }

-- WITHOUT MAPS
pub without-maps : (S : Setup) (group : ℕ) {I : Type 0} (D : I → Dealing) → Done S group D → DoneWithMaps S group {K = ⊥} D (λ t. absurd t) (λ t. absurd t)
without-maps S group D done =
    record {
      plainly = done;
      one_map = λ t. absurd t;
      keepers = λ t. absurd t;
      delivered = λ t. absurd t;
      delivered2 = λ t. absurd t;
    }

-- what is applied to plain dealings, among dealings with a map that nobody refreshes
module _ (S : Setup) (group : ℕ) {I K J : Type 0} (D : I → Dealing) (T : K → MappedDealing) (Z : J → Dealing) where
  module _ (A : Applied S group D Z) where
    abbrev first_round : Which I K → ℕ
    first_round (plain t) = A.first t
    first_round (first t) = 0
    first_round (second t) = 0

    abbrev orders : Which I K → ℕ → ℕ → List J
    orders (plain t) = A.order t
    orders (first t) = λ b i. []
    orders (second t) = λ b i. []

    abbrev slips : Slips (Which I K)
    slips (plain t) = A.slip t
    slips (first t) = kept_at (first_dealing (T t)) 0
    slips (second t) = kept_at (second_dealing (T t)) 0

    refreshed' : (c : Which I K) (b i : ℕ) → b < S.l → Member S group i → Refreshed S Z b i (kept_at (together D T c) (first_round c) b i) (orders c b i) (slips c b i)
    refreshed' (plain t) b i l m = A.refreshed t b i l m
    refreshed' (first t) b i l m = at_first
    refreshed' (second t) b i l m = at_first

    same' : (c : Which I K) (b i k : ℕ) → b < S.l → Member S group i → Member S group k → (slips c b i).round ≡ (slips c b k).round
        → Reordered (orders c b i) (orders c b k)
    same' (plain t) b i k l m n e = A.same t b i k l m n e
    same' (first t) b i k l m n e = none
    same' (second t) b i k l m n e = none

    abbrev among : Applied S group (together D T) Z
    among = record { first = first_round; order = orders; slip = slips; refreshed = refreshed'; same = same' }

  abbrev plains : Terms I → Terms (Which I K)
  plains ts = record { count = ts.count; constant = ts.constant; dealing = λ s. plain (ts.dealing s); column = ts.column }

  plain-limits : (ts : Terms I) → InLimits S ts → InLimits S (plains ts)
  plain-limits ts lim = record { few = lim.few; columns = lim.columns; constants = lim.constants }

  as_plain : (A : Applied S group D Z) (ts : Terms I) (openers : ℕ) (handed rounds : List ℕ) → Handed S group A.slip ts openers handed rounds
      → Handed S group (slips A) (plains ts) openers handed rounds
  as_plain A ts openers handed rounds hand =
      record {
        limits = plain-limits ts hand.limits;
        below = hand.below;
        count = hand.count;
        count-rounds = hand.count-rounds;
        by-rule = hand.by-rule;
        present = hand.present;
      }

  pub plain-found : Found S group (together D T) Z → Found S group D Z
  plain-found F =
      record {
        array = λ t. F.array (plain t);
        one = λ t. F.one (plain t);
        zero = F.zero;
        now = λ A.
            let N = F.now (among A) in
            record {
              agrees = λ t. N.agrees (plain t);
              alone = λ t. N.alone (plain t);
              opens = λ ts openers handed rounds out hand. N.opens (plains ts) openers handed rounds out (as_plain A ts openers handed rounds hand);
              never-refused = λ ts openers handed rounds out hand room sub level.
                  N.never-refused (plains ts) openers handed rounds out (as_plain A ts openers handed rounds hand) room sub level;
              lagging = λ ts openers handed rounds out hand room sub.
                  N.lagging (plains ts) openers handed rounds out (as_plain A ts openers handed rounds hand) room sub;
              stands = λ t. N.stands (plain t);
              within = λ t. N.within (plain t);
              refreshes = λ t. N.refreshes (plain t);
              last-round = λ t. N.last-round (plain t);
              combines = λ ts i lim m one. N.combines (plains ts) i (plain-limits ts lim) m one;
              apart = λ ts i t u lim m l o ne. N.apart (plains ts) i t u (plain-limits ts lim) m l o ne;
            };
        one-column = λ t b h. F.one-column (plain t) b h;
        no-columns = λ ts e. F.no-columns (plains ts) e;
      }
