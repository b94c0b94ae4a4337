-- Dealings with a map where all follow the rules: a holder's second h begins with the map of its first because F_φ's columns do, so everyone accepts; both
-- arrays are those dealt. And such runs exist, whatever inputs are within the limits.
-- map-entry, map-part, map-column: the map between F and F_φ, between a holder's parts, and between the arrays dealt
-- mapped_run: the dealing with a map in which all follow the rules
use mathlib.Core.Path.{◌≡◌, refl, ap, sym, ◌∙◌}
use mathlib.Core.Bool.{Bool, true, false}
use mathlib.Core.List.{List, [], ◌∷◌}
use Prim.Native.Nat.{ℕ, ◌+◌, ◌-◌, ◌*◌, ◌%◌, ◌<◌}
use native.Mathlib.Nat.{mod-lt}
use native.Mathlib.Omega.{arith}
use borrow.Author.Tests.{lt-ltb}
use lib.Dec.{ltb}
use lib.Arith.{digits_lt}
use lib.ListN.{replicate, length-replicate}
use Rattle.base.specs.Choice.{pick}
use Rattle.base.specs.Rules.{Answer, refusal, given}
use Rattle.base.specs.Search.{Vec}
use Rattle.base.specs.Fill.{tab}
use Rattle.base.specs.Matrix.{entry, flat}
use Rattle.base.proofs.Fill.{length-tab, get_d-tab, tab-ext, tab-vec, flat-at}
use Rattle.base.proofs.Rules.{not-refused}
use Rattle.field.specs.Dot.{at}
use Rattle.field.proofs.Dot.{dot-comm, dot-ext}
use Rattle.scheme.specs.Setup.{Setup, dim, row}
use Rattle.scheme.specs.Answers.{accepts, yes, paper_judgement}
use Rattle.scheme.specs.Dealing.{dealt, part_g, part_h, pair_value, image_at, image, mapped_entry, dealt_mapped}
use Rattle.scheme.specs.Calls.{Buffers, deal_rules, deal_mapped_rules, deal_mapped_left, second_dealt, judge_mapped_call, pair_value_call, outcome_left, determines_call}
use Rattle.scheme.proofs.Calls.{limits-pos, below-vec, determines-ok, DealOk, deal-accepts, DealMappedOk, deal_mapped-ok, deal_mapped-accepts, judge_mapped-accepts, pair_value-accepts}
use Rattle.scheme.proofs.Verdicts.{mapped-when}
use Rattle.demand.specs.Demand.{Dealing, Done, Found, Honest}
use Rattle.demand.specs.Maps.{MappedDealing, first_dealing, second_dealing, Which, plain, first, second, together, KeepsMapped, DoneWithMaps, MapInputs, HonestMapped, HonestMappedFound, arrays_dealt, MapFamilyFound, Demand3WithMaps}
use Rattle.demand.proofs.Demand.{demand3, From, judge-fits, pair-right, accepted, settles, block_one, block-found, opens-known, dealt-small, group-from}
use Rattle.demand.proofs.Honest.{run, run-honest}
use Rattle.demand.proofs.Maps.{map-of-sum, keeps-first, keeps-second, both-done, found-with-maps, without-maps, plain-found}

-- THE MAP OF WHAT IS DEALT
module _ (S : Setup) (F phi random : List ℕ) where
  map-entry : (k b : ℕ) → k < S.l → b < dim S → entry (dim S) (dealt_mapped S F phi random) k b ≡ image_at S phi (λ c. entry (dim S) F c b) k
  unfolding dealt_mapped mapped_entry
  map-entry k b l o =
      get_d-tab (dim S * dim S) (flat (dim S) (mapped_entry S F phi random)) 0 (k * dim S + b) (digits_lt (omega arith) o)
      ∙ sym (flat-at (dim S) (mapped_entry S F phi random) k b o)
      ∙ rw (lt-ltb k S.l l) refl

  map-part : (i k : ℕ) → k < S.l → at (part_h S (dealt_mapped S F phi random) i) k ≡ image_at S phi (at (part_h S F i)) k
  unfolding part_h
  map-part i k l =
      get_d-tab (dim S) _ 0 k (omega arith)
      ∙ ap (λ z. z % S.p) (dot-comm (dim S) (entry (dim S) (dealt_mapped S F phi random) k) (row S i))
      ∙ map-of-sum S phi k (dim S) (row S i) _ _ (λ b c. entry (dim S) F c b) (λ b o. map-entry k b l o)
      (λ j o. get_d-tab (dim S) _ 0 j (omega arith) ∙ ap (λ z. z % S.p) (dot-comm (dim S) (entry (dim S) F j) (row S i)))

  map-column : (b : ℕ) → b < S.l
      → tab S.l (λ k. entry (dim S) (dealt_mapped S F phi random) k b) ≡ image S phi (tab S.l (λ k. entry (dim S) F k b))
  unfolding image_at
  map-column b h =
      tab-ext S.l _ _ (λ k l. map-entry k b l (omega arith)
      ∙ ap (λ z. z % S.p) (dot-ext S.l (entry S.l phi k) _ _ (λ c o. sym (get_d-tab S.l (λ k. entry (dim S) F k b) 0 c o))))

  map-small : 0 < S.p → Vec S.p (S.e * dim S) random → (k b : ℕ) → k < dim S → b < dim S → entry (dim S) (dealt_mapped S F phi random) k b < S.p
  unfolding dealt_mapped mapped_entry image_at
  map-small pos vec k b hk hb =
      rw (get_d-tab (dim S * dim S) (flat (dim S) (mapped_entry S F phi random)) 0 (k * dim S + b) (digits_lt hk hb), ← flat-at (dim S) (mapped_entry S F phi random) k b hb)
      (go (ltb k S.l))
    where
      go : (t : Bool) → pick t (image_at S phi (λ c. entry (dim S) F c b) k) (at random ((k - S.l) * dim S + b)) < S.p
      go true = mod-lt _ pos
      go false = below-vec S.p _ random pos vec ((k - S.l) * dim S + b)

-- WHERE ALL FOLLOW THE RULES
module _ (S : Setup) (X : MapInputs) (T : MappedDealing) (hon : HonestMapped S X T) where
  abbrev F : List ℕ
  F = dealt S X.secrets X.random

  abbrev F2 : List ℕ
  F2 = second_dealt S X.secrets X.random X.phi X.random2

  module _ (i : ℕ) (l : i < S.n) where
    not-declined : refusal (deal_mapped_rules S X.secrets X.random X.phi X.random2 i hon.buffers) ≡ 0
    not-declined = (not-refused (refusal (deal_mapped_rules S X.secrets X.random X.phi X.random2 i hon.buffers)) (given []) [] (hon.dealing i l)).0

    inputs : DealMappedOk S X.secrets X.random X.phi X.random2
    inputs = (deal_mapped-ok S X.secrets X.random X.phi X.random2 hon.buffers i not-declined).0

    plain-fine : refusal (deal_rules S X.secrets X.random i hon.buffers.g hon.buffers.h) ≡ 0
    plain-fine =
        let sized = (deal_mapped-ok S X.secrets X.random X.phi X.random2 hon.buffers i not-declined).1 in
        deal-accepts S X.secrets X.random i hon.buffers.g hon.buffers.h inputs.first sized.g sized.h l

  -- with any holder the inputs are known to be in order
  first-from : (i : ℕ) → i < S.n → From S F (first_dealing T)
  first-from i l =
      record {
        setup = (inputs i l).first.setup;
        small = dealt-small S X.secrets X.random (inputs i l).first;
        part-g = λ j m. ap (λ (B : Buffers). B.g) (sym (hon.parts j m)) ∙ rw (not-declined j m) refl;
        part-h = λ j m. ap (λ (B : Buffers). B.h) (sym (hon.parts j m)) ∙ rw (not-declined j m) refl;
        received = hon.received;
        arrived = hon.arrived;
      }

  second_from : (i : ℕ) → i < S.n → From S F2 (second_dealing T)
  second_from i l =
      record {
        setup = (inputs i l).first.setup;
        small = map-small S F X.phi X.random2 (limits-pos S (inputs i l).first.setup.limits) (inputs i l).entries;
        part-g = λ j m. ap (λ (B : Buffers). B.g2) (sym (hon.parts j m)) ∙ rw (not-declined j m) refl;
        part-h = λ j m. ap (λ (B : Buffers). B.h2) (sym (hon.parts j m)) ∙ rw (not-declined j m) refl;
        received = hon.received2;
        arrived = hon.arrived2;
      }

  holds-map : (i : ℕ) → i < S.n → (k : ℕ) → k < S.l → at (T.h2 i) k ≡ image_at S X.phi (at (T.h i)) k
  holds-map i l k o =
      ap (λ h. at h k) ((second_from i l).part-h i l)
      ∙ map-part S F X.phi X.random2 i k o
      ∙ ap (λ h. image_at S X.phi (at h) k) (sym ((first-from i l).part-h i l))

  accepted' : (i : ℕ) → i < S.n → judge_mapped_call S (T.h i) (T.values i) (T.phi i) (T.h2 i) (T.values2 i) ≡ accepts
  accepted' i l =
      let A = first-from i l in
      let B = second_from i l in
      rw (
        hon.one_map i l,
        judge_mapped-accepts S (T.h i) (T.values i) X.phi (T.h2 i) (T.values2 i)
            (record { first = judge-fits S F (first_dealing T) A i l; map = (inputs i l).map; second = judge-fits S F2 (second_dealing T) B i l }),
      )
      (ap paper_judgement (mapped-when S (T.h i) (T.values i) X.phi (T.h2 i) (T.values2 i)
      (record { first = pair-right S F (first_dealing T) A i l; second = pair-right S F2 (second_dealing T) B i l; map = holds-map i l })))

  all_said : (i j : ℕ) → i < S.n → j < S.n → at (T.verdicts i) j ≡ 1
  all_said i j l m = hon.said i j l m ∙ ap (λ (a : Answer). at a.values 0) (accepted' j m)

  pub keep-both : (i : ℕ) → i < S.n → KeepsMapped S T i
  keep-both i l =
      record {
        judged = accepted' i l;
        lent = hon.lent;
        settled = settles S F (first_dealing T) (first-from i l) i l hon.lent hon.room (hon.heard i l) (λ j m. all_said i j l m);
        share = hon.share i l;
        lent2 = hon.lent2;
        settled2 = settles S F2 (second_dealing T) (second_from i l) i l hon.lent2 hon.room2 (hon.heard i l) (λ j m. all_said i j l m);
        share2 = hon.share2 i l;
      }

  -- a group that determines has a setup with a holder
  module _ (group : ℕ) (e : determines_call S group ≡ yes) where
    holder : 0 < S.n
    holder = (determines-ok S group e).0.setup.limits.holders.0

    pub group-first : From S F (first_dealing T)
    group-first = first-from 0 holder

    pub group-second : From S F2 (second_dealing T)
    group-second = second_from 0 holder

  honest-mapped : HonestMappedFound S X T
  honest-mapped =
      record {
        accept = accepted';
        keep = keep-both;
        honest = record {
          lent_g = hon.buffers.g;
          lent_h = hon.buffers.h;
          lent = hon.lent;
          room = hon.room;
          dealing = λ i l. rw (plain-fine i l) refl;
          part-g = λ i l. rw (plain-fine i l) (sym ((first-from i l).part-g i l));
          part-h = λ i l. rw (plain-fine i l) (sym ((first-from i l).part-h i l));
          received = hon.received;
          arrived = hon.arrived;
          heard = hon.heard;
          said = λ i j l m. all_said i j l m ∙ ap (λ (a : Answer). at a.values 0) (sym (accepted S F (first_dealing T) (first-from j m) j m));
          share = hon.share;
        };
        array = λ group e. block_one S F (first_dealing T) (group-first group e) group e (λ i m. keeps-first S T i (keep-both i m.0));
        array2 = λ group e. block_one S F2 (second_dealing T) (group-second group e) group e (λ i m. keeps-second S T i (keep-both i m.0));
        tied = λ b h.
            get_d-tab S.l (λ b. tab S.l (λ k. entry (dim S) F2 k b)) [] b h
            ∙ map-column S F X.phi X.random2 b h
            ∙ ap (image S X.phi) (sym (get_d-tab S.l (λ b. tab S.l (λ k. entry (dim S) F k b)) [] b h));
      }

-- FAMILIES
module _ (S : Setup) {I K J : Type 0} (secrets random : I → List ℕ) (D : I → Dealing) (X : K → MapInputs) (T : K → MappedDealing) (Z : J → Dealing)
    (hon : (t : I) → Honest S (secrets t) (random t) (D t)) (mapped : (t : K) → HonestMapped S (X t) (T t)) where
  family-found : MapFamilyFound S secrets random D X T Z
  family-found =
      record {
        done = all_done;
        arrays = same;
        opens = λ group e doneZero.
            let F = demand3.found S group (together D T) Z (joined group e) doneZero in
            opens-known S group (together D T) Z F (arrays_dealt S secrets random X) (same group e F);
      }
    where
      all_done : (group : ℕ) → determines_call S group ≡ yes → DoneWithMaps S group D (λ t. (X t).phi) T
      all_done group e =
          record {
            plainly = (demand3.families S secrets random D Z hon).done group e;
            one_map = λ t i m. (mapped t).one_map i m.0;
            keepers = λ t i m. keep-both S (X t) (T t) (mapped t) i m.0;
            delivered = λ t i j mi mj. (mapped t).arrived i j mi.0 mj.0;
            delivered2 = λ t i j mi mj. (mapped t).arrived2 i j mi.0 mj.0;
          }

      joined : (group : ℕ) → determines_call S group ≡ yes → Done S group (together D T)
      joined group e = both-done S group D (λ t. (X t).phi) T (all_done group e)

      same : (group : ℕ) → determines_call S group ≡ yes → (F : Found S group (together D T) Z) (c : Which I K) → F.array c ≡ arrays_dealt S secrets random X c
      same group e F (plain t) = block-found S group (together D T) Z (joined group e) F (plain t) _ (group-from S (secrets t) (random t) (D t) (hon t) group e)
      same group e F (first t) = block-found S group (together D T) Z (joined group e) F (first t) _ (group-first S (X t) (T t) (mapped t) group e)
      same group e F (second t) = block-found S group (together D T) Z (joined group e) F (second t) _ (group-second S (X t) (T t) (mapped t) group e)

pub demand3-with-maps : Demand3WithMaps
demand3-with-maps =
    record {
      found = λ S group D phi T Z done doneZero. found-with-maps S group D phi T done Z doneZero;
      joined = both-done;
      met = λ S group D phi T Z done doneZero. demand3.met S group (together D T) Z (both-done S group D phi T done) doneZero;
      without = without-maps;
      plain-ones = plain-found;
      honest = honest-mapped;
      families = family-found;
    }

-- SUCH RUNS EXIST
module _ (S : Setup) (X : MapInputs) (ok : DealMappedOk S X.secrets X.random X.phi X.random2) where
  zeros : List ℕ
  zeros = replicate (dim S) 0

  lent_parts : Buffers
  lent_parts = record { g = zeros; h = zeros; g2 = zeros; h2 = zeros }

  part : ℕ → Buffers
  part i = deal_mapped_left S X.secrets X.random X.phi X.random2 i lent_parts

  values : (ℕ → List ℕ) → ℕ → List ℕ
  values g i = tab S.n (λ j. pair_value S (g j) i)

  verdict : ℕ → ℕ
  verdict j = at (judge_mapped_call S (part j).h (values (λ i. (part i).g) j) X.phi (part j).h2 (values (λ i. (part i).g2) j)).values 0

  verdicts : ℕ → List ℕ
  verdicts i = tab S.n verdict

  pub mapped_run : MappedDealing
  mapped_run =
      record {
        g = λ i. (part i).g;
        h = λ i. (part i).h;
        values = values (λ i. (part i).g);
        g2 = λ i. (part i).g2;
        h2 = λ i. (part i).h2;
        phi = λ i. X.phi;
        values2 = values (λ i. (part i).g2);
        verdicts = verdicts;
        shares = λ i. outcome_left S (part i).g (verdicts i) (replicate S.l 0);
        shares2 = λ i. outcome_left S (part i).g2 (verdicts i) (replicate S.l 0);
      }

  fine : (i : ℕ) → i < S.n → refusal (deal_mapped_rules S X.secrets X.random X.phi X.random2 i lent_parts) ≡ 0
  unfolding zeros lent_parts
  fine i l =
      let z = length-replicate {A = ℕ} (dim S) 0 in
      deal_mapped-accepts S X.secrets X.random X.phi X.random2 lent_parts i ok (record { g = z; h = z; g2 = z; h2 = z }) l

  row_ok : (i : ℕ) → i < S.n → Vec S.p (dim S) (part i).g
  unfolding part
  row_ok i l = rw (fine i l) (unfold part_g in tab-vec S.p (dim S) _ (λ k m. mod-lt _ (limits-pos S ok.first.setup.limits)))

  row2-ok : (i : ℕ) → i < S.n → Vec S.p (dim S) (part i).g2
  unfolding part
  row2-ok i l = rw (fine i l) (unfold part_g in tab-vec S.p (dim S) _ (λ k m. mod-lt _ (limits-pos S ok.first.setup.limits)))

  arrives : (g : ℕ → List ℕ) → ((j : ℕ) → j < S.n → Vec S.p (dim S) (g j)) → (i j : ℕ) → i < S.n → j < S.n
      → pair_value_call S (g j) i ≡ given (at (values g i) j ∷ [])
  arrives g vec i j l m =
      rw (pair_value-accepts S (g j) i (record { setup = ok.first.setup; part = vec j m; to = l }))
      (ap (λ x. given (x ∷ [])) (unfold values in sym (get_d-tab S.n (λ j. pair_value S (g j) i) 0 j m)))

  pub mapped_run-honest : HonestMapped S X mapped_run
  unfolding mapped_run
  mapped_run-honest =
      record {
        buffers = lent_parts;
        dealing = λ i l. rw (fine i l) refl;
        parts = λ i l. unfold part in refl;
        one_map = λ i l. refl;
        received = λ i l. unfold values in length-tab S.n _;
        received2 = λ i l. unfold values in length-tab S.n _;
        arrived = arrives (λ i. (part i).g) row_ok;
        arrived2 = arrives (λ i. (part i).g2) row2-ok;
        heard = λ i l. unfold verdicts in length-tab S.n _;
        said = λ i j l m. unfold verdicts verdict in get_d-tab S.n verdict 0 j m;
        lent = replicate S.l 0;
        lent2 = replicate S.l 0;
        room = length-replicate {A = ℕ} S.l 0;
        room2 = length-replicate {A = ℕ} S.l 0;
        share = λ i l. refl;
        share2 = λ i l. refl;
      }

-- any family of them, among plain ones, in every round
pub mapped_runs-found : (S : Setup) {I K J : Type 0} (secrets random : I → List ℕ) (ok : (t : I) → DealOk S (secrets t) (random t))
    (X : K → MapInputs) (ok2 : (t : K) → DealMappedOk S (X t).secrets (X t).random (X t).phi (X t).random2) (Z : J → Dealing)
    → MapFamilyFound S secrets random (λ t. run S (secrets t) (random t) (ok t)) X (λ t. mapped_run S (X t) (ok2 t)) Z
mapped_runs-found S secrets random ok X ok2 Z =
    demand3-with-maps.families S secrets random _ X _ Z (λ t. run-honest S (secrets t) (random t) (ok t)) (λ t. mapped_run-honest S (X t) (ok2 t))
