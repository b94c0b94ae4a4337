-- Where all follow the rules: the array is the block of the matrix dealt, secrets dealt come back in every round; and demand 3, all of it.
-- block: F's entries in rows and columns below ℓ, column by column
-- From: a dealing whose parts are those of one matrix F and whose pair values all arrived
use mathlib.Core.Path.{◌≡◌, refl, ap, ap₂, sym, ◌∙◌}
use mathlib.Core.Bool.{Bool, true, false, ◌&&◌}
use mathlib.Core.List.{List, [], ◌∷◌}
use Prim.Native.Nat.{ℕ, ◌+◌, ◌*◌, ◌%◌, ◌<◌}
use native.Mathlib.Nat.{mod-lt}
use native.Mathlib.Omega.{arith}
use borrow.Author.Tests.{lt-ltb}
use lib.Dec.{ltb}
use lib.Arith.{digits_lt}
use lib.ListN.{length, take}
use lib.Seq.{get_or-take, length-take-le}
use Rattle.base.specs.Choice.{pick}
use Rattle.base.specs.Rules.{Answer, refusal, given}
use Rattle.base.specs.Search.{Vec}
use Rattle.base.specs.Fill.{tab, tab_from}
use Rattle.base.specs.Matrix.{entry, flat}
use Rattle.base.proofs.Rules.{not-refused}
use Rattle.base.proofs.Search.{every-at, every-all}
use Rattle.base.proofs.Fill.{length-tab, get_d-tab, tab-is, tab-ext, tab-vec, flat-at}
use Rattle.field.specs.Dot.{at, dot}
use Rattle.field.proofs.Dot.{dot-comm, dot-assoc}
use Rattle.scheme.specs.Setup.{Setup, dim, row, IsSetup}
use Rattle.scheme.specs.Answers.{accepts, kept, yes, paper_judgement}
use Rattle.scheme.specs.Dealing.{place, dealt_entry, dealt, part_g, part_h, pair_value, expected, fate_of}
use Rattle.scheme.specs.Sets.{holds, members, has_row, determines}
use Rattle.scheme.specs.Opening.{combine}
use Rattle.scheme.specs.Calls.{pair_value_call, pair_value_rules, judge_call, outcome_call, outcome_rules, determines_call, deal_rules}
use Rattle.scheme.proofs.Calls.{limits-prime, limits-pos, determines-ok, JudgeOk, judge-accepts, outcome-accepts, DealOk, deal-ok, below-vec}
use Rattle.scheme.proofs.Verdicts.{accept-when, kept-when}
use Rattle.scheme.proofs.Members.{member-at}
use Rattle.scheme.proofs.Grows.{row-grows}
use Rattle.demand.specs.Demand.{Dealing, Member, Keeps, Done, DoneZero, Applied, unrefreshed, Terms, InLimits, one_column, constants, Handed, Level, values_by, rounds_by, Array, column, IsArray, Agrees, ExactlyOne, secrets_over, Opens, Found, FoundUnrefreshed, Honest, array_dealt, HonestFound, FamilyFound, Demand3}
use Rattle.demand.proofs.Given.{dot-tab, dot-reduced, combine-one}
use Rattle.demand.proofs.Arrays.{one_value, only, exactly-one, share-at}
use Rattle.demand.proofs.Rounds.{found', met', applied', value-small}

-- WHERE ALL FOLLOW THE RULES
g-at : (S : Setup) (F : List ℕ) (i b : ℕ) → b < dim S → at (part_g S F i) b ≡ dot (dim S) (row S i) (λ k. entry (dim S) F k b) % S.p
unfolding part_g
g-at S F i b l = get_d-tab (dim S) _ 0 b l

-- F's entries in rows and columns below ℓ, column by column
abbrev pub block : Setup → List ℕ → Array
block S F = tab S.l (λ b. tab S.l (λ k. entry (dim S) F k b))

-- A dealing whose parts are those of one matrix F and whose pair values all arrived
pub record From (S : Setup) (F : List ℕ) (D : Dealing) : Type 0 where
  pub setup : IsSetup S
  pub small : (k b : ℕ) → k < dim S → b < dim S → entry (dim S) F k b < S.p
  pub part-g : (i : ℕ) → i < S.n → D.g i ≡ part_g S F i
  pub part-h : (i : ℕ) → i < S.n → D.h i ≡ part_h S F i
  pub received : (i : ℕ) → i < S.n → length (D.values i) ≡ S.n
  pub arrived : (i j : ℕ) → i < S.n → j < S.n → pair_value_call S (D.g j) i ≡ given (at (D.values i) j ∷ [])

-- g_j · m_i = m_i F m_j = m_j · h^i
pairs-agree : (S : Setup) (F : List ℕ) (i j : ℕ) → pair_value S (part_g S F j) i ≡ expected S (part_h S F i) j
unfolding pair_value expected part_g part_h
pairs-agree S F i j =
    ap (λ z. z % S.p) (dot-comm (dim S) (at (part_g S F j)) (row S i))
    ∙ dot-reduced S.p (dim S) (row S i) (λ b. dot (dim S) (row S j) (λ k. entry (dim S) F k b))
    ∙ ap (λ z. z % S.p)
    (dot-comm (dim S) (row S i) (λ b. dot (dim S) (row S j) (λ k. entry (dim S) F k b))
    ∙ sym (dot-assoc (dim S) (dim S) (row S j) (row S i) (λ k b. entry (dim S) F k b)))
    ∙ sym (dot-reduced S.p (dim S) (row S j) (λ k. dot (dim S) (λ b. entry (dim S) F k b) (row S i)))

module _ (S : Setup) (F : List ℕ) (D : Dealing) (from : From S F D) where
  p-pos : 0 < S.p
  p-pos = limits-pos S from.setup.limits

  module _ (i : ℕ) (l : i < S.n) where
    row-vec : Vec S.p (dim S) (D.g i)
    row-vec = rw (from.part-g i l) (unfold part_g in tab-vec S.p (dim S) _ (λ k m. mod-lt _ p-pos))

    column-vec : Vec S.p (dim S) (D.h i)
    column-vec = rw (from.part-h i l) (unfold part_h in tab-vec S.p (dim S) _ (λ k m. mod-lt _ p-pos))

    value-is : (j : ℕ) → j < S.n → at (D.values i) j ≡ pair_value S (D.g j) i
    value-is j m = sym (one_value _ _ (not-refused (refusal (pair_value_rules S (D.g j) i)) _ _ (from.arrived i j l m)).1)

    pub judge-fits : JudgeOk S (D.h i) (D.values i)
    judge-fits =
        record {
          setup = from.setup;
          part = column-vec;
          received = record { size = from.received i l; small = λ j m. rw (value-is j m) (unfold pair_value in mod-lt _ p-pos) };
        }

    pub pair-right : (j : ℕ) → j < S.n → at (D.values i) j ≡ expected S (D.h i) j
    pair-right j m =
        value-is j m ∙ ap (λ g. pair_value S g i) (from.part-g j m) ∙ pairs-agree S F i j ∙ ap (λ h. expected S h j) (sym (from.part-h i l))

    pub accepted : judge_call S (D.h i) (D.values i) ≡ accepts
    accepted = rw (judge-accepts S (D.h i) (D.values i) judge-fits) (ap paper_judgement (accept-when S (D.h i) (D.values i) pair-right))

    -- where every verdict heard is accept
    pub settles : (lent : List ℕ) → length lent ≡ S.l → length (D.verdicts i) ≡ S.n → ((j : ℕ) → j < S.n → at (D.verdicts i) j ≡ 1)
        → outcome_call S (D.g i) (D.verdicts i) lent ≡ kept
    settles lent room heard said = rw fine (unfold fate_of in rw (kept-when S (D.verdicts i) said))
      where
        fine : refusal (outcome_rules S (D.g i) (D.verdicts i) lent) ≡ 0
        fine =
            outcome-accepts S (D.g i) (D.verdicts i) lent
            (record { limits = from.setup.limits; part = row-vec; heard = record { size = heard; small = λ j m. omega (arith, said j m) }; room = room })

  -- THE ARRAY is F's block, for every group that keeps its shares
  pub block-is : IsArray S (block S F)
  block-is =
      record {
        count = length-tab S.l _;
        each = λ b h. rw (get_d-tab S.l (λ b. tab S.l (λ k. entry (dim S) F k b)) [] b h)
            (tab-vec S.p S.l _ (λ k l. from.small k b (omega arith) (omega arith)));
      }

  pub block-agrees : (group : ℕ) → ((i : ℕ) → Member S group i → Keeps S D i) → Agrees S group D (block S F)
  block-agrees group keeps b h =
      record {
        vector = tab (dim S) (λ k. entry (dim S) F k b);
        ok = tab-vec S.p (dim S) _ (λ k l. from.small k b l (omega arith));
        begins =
            tab-is S.l _ 0 (take S.l (tab (dim S) (λ k. entry (dim S) F k b))) len
            (λ k l. get_or-take S.l _ k 0 l ∙ get_d-tab (dim S) _ 0 k (omega arith))
            ∙ sym (get_d-tab S.l (λ b. tab S.l (λ k. entry (dim S) F k b)) [] b h);
        gives = λ i m.
            ap (λ z. z % S.p) (dot-tab (dim S) (row S i) (λ k. entry (dim S) F k b))
            ∙ sym (g-at S F i b (omega arith))
            ∙ ap (λ g. at g b) (sym (from.part-g i m.0))
            ∙ sym (share-at S D i (keeps i m) b h);
      }
    where
      len : length (take S.l (tab (dim S) (λ k. entry (dim S) F k b))) ≡ S.l
      len = length-take-le S.l (tab (dim S) (λ k. entry (dim S) F k b)) (omega (arith, length-tab (dim S) (λ k. entry (dim S) F k b)))

  pub block_one : (group : ℕ) → determines_call S group ≡ yes → ((i : ℕ) → Member S group i → Keeps S D i) → ExactlyOne S group D (block S F)
  block_one group e keeps = exactly-one S group (determines-ok S group e).1 D (block S F) block-is (block-agrees group keeps)

-- whatever demand 3 finds for it is that block
pub block-found : (S : Setup) (group : ℕ) {I J : Type 0} (D : I → Dealing) (Z : J → Dealing) → Done S group D → (F : Found S group D Z) (t : I) (M : List ℕ)
    → From S M (D t) → F.array t ≡ block S M
block-found S group D Z done F t M from =
    only S group (determines-ok S group done.determined).1 (D t) _ _ (F.one t).array (block-is S M (D t) from)
    (F.one t).agrees (block-agrees S M (D t) from group (done.keepers t))

-- and what members of the group open at one round is that combination of the arrays known
pub opens-known : (S : Setup) (group : ℕ) {I J : Type 0} (D : I → Dealing) (Z : J → Dealing) (F : Found S group D Z) (B : I → Array) → ((t : I) → F.array t ≡ B t)
    → (A : Applied S group D Z) (ts : Terms I) (openers : ℕ) (handed rounds out : List ℕ) → Handed S group A.slip ts openers handed rounds → length out ≡ S.l
    → ((i : ℕ) → Member S openers i → Member S group i) → Level S A.slip ts openers
    → Opens S openers handed rounds out (secrets_over S B ts)
opens-known S group D Z F B same A ts openers handed rounds out hand room sub level =
    let r = (F.now A).never-refused ts openers handed rounds out hand room sub level in
    record {
      answer = r.answer;
      buffer = r.buffer
          ∙ tab-ext S.l _ _ (λ k l. ap (combine S.p (constants ts))
          (tab-ext ts.count _ _ (λ t m. ap (λ C. at (column C (ts.column t)) k) (same (ts.dealing t)))));
    }

-- an entry of F is one of the lent ones, or 0 past their ends
pub dealt-small : (S : Setup) (secrets random : List ℕ) → DealOk S secrets random → (k b : ℕ) → k < dim S → b < dim S → entry (dim S) (dealt S secrets random) k b < S.p
unfolding dealt dealt_entry
dealt-small S secrets random ok k b hk hb =
    rw (get_d-tab (dim S * dim S) (flat (dim S) (dealt_entry S secrets random)) 0 (k * dim S + b) (digits_lt hk hb), ← flat-at (dim S) (dealt_entry S secrets random) k b hb)
    (go (ltb k S.l && ltb b S.l))
  where
    pos : 0 < S.p
    pos = limits-pos S ok.setup.limits

    go : (t : Bool) → pick t (entry S.l secrets b k) (at random (place S k b)) < S.p
    go true = below-vec S.p _ secrets pos ok.vectors (b * S.l + k)
    go false = below-vec S.p _ random pos ok.entries (place S k b)

module _ (S : Setup) (secrets random : List ℕ) (D : Dealing) (hon : Honest S secrets random D) where
  module _ (i : ℕ) (l : i < S.n) where
    not-declined : refusal (deal_rules S secrets random i hon.lent_g hon.lent_h) ≡ 0
    not-declined = (not-refused (refusal (deal_rules S secrets random i hon.lent_g hon.lent_h)) (given []) [] (hon.dealing i l)).0

    dealing-ok : DealOk S secrets random
    dealing-ok = (deal-ok S secrets random i hon.lent_g hon.lent_h not-declined).0

  -- with any holder the inputs of the dealing are known to be in order
  honest-from : (i : ℕ) → i < S.n → From S (dealt S secrets random) D
  honest-from i l =
      record {
        setup = (dealing-ok i l).setup;
        small = dealt-small S secrets random (dealing-ok i l);
        part-g = λ j m. sym (hon.part-g j m) ∙ rw (not-declined j m) refl;
        part-h = λ j m. sym (hon.part-h j m) ∙ rw (not-declined j m) refl;
        received = hon.received;
        arrived = hon.arrived;
      }

  accepted' : (i : ℕ) → i < S.n → judge_call S (D.h i) (D.values i) ≡ accepts
  accepted' i l = accepted S (dealt S secrets random) D (honest-from i l) i l

  all_said : (i j : ℕ) → i < S.n → j < S.n → at (D.verdicts i) j ≡ 1
  all_said i j l m = hon.said i j l m ∙ ap (λ (a : Answer). at a.values 0) (accepted' j m)

  keep' : (i : ℕ) → i < S.n → Keeps S D i
  keep' i l =
      record {
        judged = accepted' i l;
        lent = hon.lent;
        settled = settles S (dealt S secrets random) D (honest-from i l) i l hon.lent hon.room (hon.heard i l) (λ j m. all_said i j l m);
        share = hon.share i l;
      }

  done' : (group : ℕ) → determines_call S group ≡ yes → Done S group (λ (t : Unit {0}). D)
  done' group e = record { determined = e; keepers = λ t i m. keep' i m.0; delivered = λ t i j mi mj. hon.arrived i j mi.0 mj.0 }

  -- a group that determines has a setup with a holder
  pub group-from : (group : ℕ) → determines_call S group ≡ yes → From S (dealt S secrets random) D
  group-from group e = honest-from 0 (determines-ok S group e).0.setup.limits.holders.0

  array' : (group : ℕ) → determines_call S group ≡ yes → ExactlyOne S group D (array_dealt S secrets random)
  array' group e = block_one S (dealt S secrets random) D (group-from group e) group e (λ i m. keep' i m.0)

  -- position k of column b is position k of secret vector b
  vectors' : (k b : ℕ) → k < S.l → b < S.l → at (column (array_dealt S secrets random) b) k ≡ entry S.l secrets b k
  unfolding dealt dealt_entry
  vectors' k b hk hb =
      ap (λ c. at c k) (get_d-tab S.l (λ b. tab S.l (λ k. entry (dim S) (dealt S secrets random) k b)) [] b hb)
      ∙ get_d-tab S.l (λ k. entry (dim S) (dealt S secrets random) k b) 0 k hk
      ∙ get_d-tab (dim S * dim S) (flat (dim S) (dealt_entry S secrets random)) 0 (k * dim S + b) (digits_lt (omega arith) (omega arith))
      ∙ sym (flat-at (dim S) (dealt_entry S secrets random) k b (omega arith))
      ∙ rw (lt-ltb k S.l hk, lt-ltb b S.l hb) refl

  honest' : HonestFound S secrets random D
  honest' = record { accept = accepted'; keep = keep'; done = done'; array = array'; vectors = vectors' }

  -- SECRETS DEALT COME BACK, in every round
  module _ (s : ℕ) (e : determines_call S s ≡ yes) {J : Type 0} (Z : J → Dealing) (doneZero : DoneZero S s Z) (A : Applied S s (λ (t : Unit {0}). D) Z)
      (b : ℕ) (h : b < S.l) where
    found-there : Found S s (λ (t : Unit {0}). D) Z
    found-there = found' S s (λ (t : Unit {0}). D) Z (done' s e) doneZero

    big : 1 < S.p
    big = (limits-prime S (determines-ok S s e).0.setup.limits).big

    abbrev ts : Terms (Unit {0})
    ts = one_column tt b

    lim : InLimits S ts
    lim = record { few = omega arith; columns = λ t l. h; constants = λ t l. big }

    -- one column combined is the column, at its round
    pub hand : Handed S s A.slip ts s (values_by S s (A.slip tt b)) (rounds_by S s (A.slip tt b))
    unfolding tab tab_from
    hand =
        let who = members S.n (holds s) in
        record {
          limits = lim;
          below = (determines-ok S s e).0.inside;
          count = length-tab _ _;
          count-rounds = length-tab _ _;
          by-rule = λ a l t.
              let m = member-at S.n (holds s) a l in
              (found-there.now A).combines ts (at who a) lim m (λ t u l o. refl)
              ∙ ap₂ (λ x r. given (x ∷ r ∷ []))
              (combine-one S.p _ (value-small S s (λ (t : Unit {0}). D) Z (done' s e) doneZero A tt b (at who a) h m) ∙ sym (get_d-tab (length who) _ 0 a l))
              (sym (get_d-tab (length who) _ 0 a l));
          present = unfold determines in every-all S.l _ (λ k l.
              row-grows S (holds s) (λ i. holds s i && holds s i) k big (λ i m t. rw t refl)
              (every-at S.l (has_row S (holds s)) (unfold determines in (determines-ok S s e).1) k l));
        }

    column-is : column (found-there.array tt) b ≡ tab S.l (λ k. entry S.l secrets b k)
    column-is =
        ap (λ B. column B b) (block-found S s (λ (t : Unit {0}). D) Z (done' s e) found-there tt (dealt S secrets random) (group-from s e))
        ∙ tab-is S.l _ 0 _ ((block-is S (dealt S secrets random) D (group-from s e)).each b h).size (λ k l. vectors' k b l h)

    back' : Level S A.slip ts s → (out : List ℕ) → length out ≡ S.l
        → Opens S s (values_by S s (A.slip tt b)) (rounds_by S s (A.slip tt b)) out (tab S.l (λ k. entry S.l secrets b k))
    back' level out room =
        let r = (found-there.now A).never-refused ts s _ _ out hand room (λ i m. m) level in
        record { answer = r.answer; buffer = r.buffer ∙ found-there.one-column tt b h ∙ column-is }

-- FAMILIES
module _ (S : Setup) {I J : Type 0} (secrets random : I → List ℕ) (D : I → Dealing) (Z : J → Dealing) (hon : (t : I) → Honest S (secrets t) (random t) (D t)) where
  dealt_at : I → Array
  dealt_at t = array_dealt S (secrets t) (random t)

  families' : FamilyFound S secrets random D Z
  unfolding dealt_at
  families' =
      record {
        done = all_done;
        arrays = same;
        opens = λ group e doneZero. let F = found' S group D Z (all_done group e) doneZero in opens-known S group D Z F dealt_at (same group e F);
      }
    where
      all_done : (group : ℕ) → determines_call S group ≡ yes → Done S group D
      all_done group e =
          record {
            determined = e;
            keepers = λ t i m. keep' S (secrets t) (random t) (D t) (hon t) i m.0;
            delivered = λ t i j mi mj. (hon t).arrived i j mi.0 mj.0;
          }

      same : (group : ℕ) → determines_call S group ≡ yes → (F : Found S group D Z) (t : I) → F.array t ≡ dealt_at t
      same group e F t =
          block-found S group D Z (all_done group e) F t (dealt S (secrets t) (random t)) (group-from S (secrets t) (random t) (D t) (hon t) group e)

-- WITHOUT ZERO DEALINGS
none-yet' : (S : Setup) (group : ℕ) → determines_call S group ≡ yes → DoneZero S group {J = ⊥} (λ j. absurd j)
none-yet' S group e = record { determined = e; keepers = λ j. absurd j; delivered = λ j. absurd j }

before' : (S : Setup) (group : ℕ) {I : Type 0} (D : I → Dealing) → Done S group D → FoundUnrefreshed S group D
before' S group D done =
    let F : Found S group {J = ⊥} D (λ j. absurd j) = found' S group {J = ⊥} D (λ j. absurd j) done (none-yet' S group done.determined) in
    let A = unrefreshed S group {J = ⊥} D (λ j. absurd j) in
    record {
      array = F.array;
      one = F.one;
      opens = λ first. (F.now (A first)).opens;
      never-refused = λ first ts openers handed rounds out hand room sub.
          (F.now (A first)).never-refused ts openers handed rounds out hand room sub (λ t i k l mi mk. refl);
      one-column = F.one-column;
      no-columns = F.no-columns;
    }

pub demand3 : Demand3
demand3 =
    record {
      found = found';
      applied = applied';
      met = met';
      none_yet = none-yet';
      before = before';
      honest = honest';
      families = families';
      back = λ S secrets random D hon s e Z doneZero A b h. back' S secrets random D hon s e Z doneZero A b h;
    }
