-- What an accepted call says of its inputs, and that inputs which break nothing are accepted: one law each way for the shape that all tables have
-- (in_order, accepts), then each call's own facts by name.
-- InOrder: all that is lent is as needed
use mathlib.Core.Path.{◌≡◌, refl, sym, ap, ◌∙◌}
use mathlib.Core.Bool.{Bool, true, false, not, ◌||◌, false≢true}
use mathlib.Core.List.{List, [], ◌∷◌, ◌++◌}
use Prim.Native.Nat.{ℕ, ◌+◌, ◌-◌, ◌*◌, ◌^◌, ◌≤◌, ◌<◌}
use native.Mathlib.Omega.{arith}
use lib.Dec.{eqb, leb, ltb, T}
use lib.ListN.{length}
use borrow.Author.Tests.{eqb-true, eq-eqb, ltb-false, le-ltb, leb-false, lt-leb, not-false}
use Rattle.base.specs.Choice.{pick}
use Rattle.base.specs.Rules.{Rule, ◌when◌, refusal, Clear, Answer, answer_by}
use Rattle.base.specs.Search.{Vec}
use Rattle.base.specs.Matrix.{all_below, Below}
use Rattle.base.proofs.Rules.{positive, positive-both, clear, none-applies, clear-left, clear-right, refusal-after, not-refused}
use Rattle.base.proofs.Matrix.{below_by, below-is}
use Rattle.field.specs.Prime.{Prime}
use Rattle.field.specs.Fields.{is_field}
use Rattle.field.specs.Dot.{at}
use Rattle.field.proofs.Fields.{field-prime}
use Rattle.scheme.specs.Setup.{Setup, dim, Limits, IsSetup}
use Rattle.scheme.specs.Answers.{yes}
use Rattle.scheme.specs.Sets.{holds, members, determines}
use Rattle.scheme.specs.Opening.{agree}
use Rattle.scheme.specs.Answering.{Sized}
use Rattle.scheme.specs.Calls.{outside, limits, Lent, elements, room, beyond_field, sizes, in_field, table, matrix, deal_lent, beyond, Buffers, deal_mapped_lent, points_rules, deal_rules, deal_all_rules, deal_mapped_rules, deal_mapped_all_rules, deal_zero_rules, deal_zero_all_rules, pair_value_rules, judge_rules, judge_mapped_rules, judge_zero_rules, outcome_rules, rehearse_rules, set_rules, decide, determines_call, judge_set_rules, apart, open_rules, combine_rules, refresh_rules}
use Rattle.scheme.proofs.Members.{members-wide}

-- REFUSALS 1 TO 4, each test and its fact
inside : (low high x : ℕ) → outside low high x ≡ false → (low ≤ x) × (x ≤ high)
inside low high x = go (ltb x low) refl (ltb high x) refl
  where
    go : (a : Bool) → ltb x low ≡ a → (b : Bool) → ltb high x ≡ b → (a || b) ≡ false → (low ≤ x) × (x ≤ high)
    go true d b e h = absurd (false≢true (sym h))
    go false d true e h = absurd (false≢true (sym h))
    go false d false e h = (ltb-false x low d, ltb-false high x e)

inside-clear : (low high x : ℕ) → low ≤ x → x ≤ high → outside low high x ≡ false
inside-clear low high x a b = rw (le-ltb x low a, le-ltb high x b)

pub limits-are : (S : Setup) → Clear (limits S) → Limits S
limits-are S c =
    record {
      field = not-false (is_field S.p) c.0;
      secret = inside 1 8 S.l c.1.0;
      random = inside 1 8 S.e c.1.1.0;
      holders = inside 1 32 S.n c.1.1.1.0;
    }

pub limits-clear : (S : Setup) → Limits S → Clear (limits S)
limits-clear S L = (
  ap not L.field,
  (
    inside-clear 1 8 S.l L.secret.0 L.secret.1,
    (inside-clear 1 8 S.e L.random.0 L.random.1, (inside-clear 1 32 S.n L.holders.0 L.holders.1, tt)),
  ),
)

pub limits-prime : (S : Setup) → Limits S → Prime S.p
limits-prime S L = field-prime S.p L.field

pub limits-pos : (S : Setup) → Limits S → 0 < S.p
limits-pos S L = omega (arith, (limits-prime S L).big)

pub size_is : (has needed : ℕ) → not (eqb has needed) ≡ false → has ≡ needed
size_is has needed e = eqb-true has needed (not-false (eqb has needed) e)

pub size-clear : (has needed : ℕ) → has ≡ needed → not (eqb has needed) ≡ false
size-clear has needed e = ap not (eq-eqb has needed e)

pub vec_of : (p k : ℕ) (xs : List ℕ) → 0 < p → length xs ≡ k → not (all_below p xs) ≡ false → Vec p k xs
vec_of p k xs pos e f = record { size = e; small = λ i l. below_by p xs pos (not-false (all_below p xs) f) i }

pub elements-clear : (p k : ℕ) (xs : List ℕ) → Vec p k xs → not (all_below p xs) ≡ false
elements-clear p k xs v = ap not (below-is p xs (λ i l. v.small i (omega (arith, v.size))))

pub below-vec : (p k : ℕ) (xs : List ℕ) → 0 < p → Vec p k xs → Below p xs
below-vec p k xs pos v = below_by p xs pos (below-is p xs (λ i l. v.small i (omega (arith, v.size))))

-- THE SHAPE OF A TABLE
abbrev pub InOrder : ℕ → List Lent → Type 0
InOrder p [] = Unit {0}
InOrder p (elements xs k ∷ l) = Vec p k xs × InOrder p l
InOrder p (room has k ∷ l) = (has ≡ k) × InOrder p l

sizes-positive : (lent : List Lent) → T (positive (sizes lent))
sizes-positive [] = tt
sizes-positive (elements xs k ∷ l) = sizes-positive l
sizes-positive (room has k ∷ l) = sizes-positive l

field-positive : (p : ℕ) (lent : List Lent) → T (positive (in_field p lent))
field-positive p [] = tt
field-positive p (elements xs k ∷ l) = field-positive p l
field-positive p (room has k ∷ l) = field-positive p l

lent-are : (p : ℕ) (lent : List Lent) → 0 < p → Clear (sizes lent) → Clear (in_field p lent) → InOrder p lent
lent-are p [] pos a b = tt
lent-are p (elements xs k ∷ l) pos a b = (vec_of p k xs pos (size_is (length xs) k a.0) b.0, lent-are p l pos a.1 b.1)
lent-are p (room has k ∷ l) pos a b = (size_is has k a.0, lent-are p l pos a.1 b)

sizes-clear : (p : ℕ) (lent : List Lent) → InOrder p lent → Clear (sizes lent)
sizes-clear p [] v = tt
sizes-clear p (elements xs k ∷ l) v = (size-clear (length xs) k v.0.size, sizes-clear p l v.1)
sizes-clear p (room has k ∷ l) v = (size-clear has k v.0, sizes-clear p l v.1)

field-clear : (p : ℕ) (lent : List Lent) → InOrder p lent → Clear (in_field p lent)
field-clear p [] v = tt
field-clear p (elements xs k ∷ l) v = (elements-clear p k xs v.0, field-clear p l v.1)
field-clear p (room has k ∷ l) v = field-clear p l v.1

-- what an accepted call says
pub record Accepted (S : Setup) (ls : List Lent) (rs : List Rule) : Type 0 where
  pub limits : Limits S
  pub lent : InOrder S.p ls
  pub own : Clear rs

pub in_order : (S : Setup) (lent : List Lent) (own : List Rule) → T (positive own) → refusal (table S lent own) ≡ 0 → Accepted S lent own
in_order S lent own t e =
    let f = in_field S.p lent in
    let z = positive-both (sizes lent) (f ++ own) (sizes-positive lent) (positive-both f own (field-positive S.p lent) t) in
    let c = clear (table S lent own) (positive-both (limits S) (sizes lent ++ (f ++ own)) tt z) e in
    let L = limits-are S (clear-left (limits S) (sizes lent ++ (f ++ own)) c) in
    let r = clear-right (limits S) (sizes lent ++ (f ++ own)) c in
    let q = clear-right (sizes lent) (f ++ own) r in
    record {
      limits = L;
      lent = lent-are S.p lent (limits-pos S L) (clear-left (sizes lent) (f ++ own) r) (clear-left f own q);
      own = clear-right f own q;
    }

-- inputs that break nothing, but for the call's own rules
pub by-own : (S : Setup) (lent : List Lent) (own : List Rule) → Limits S → InOrder S.p lent → refusal (table S lent own) ≡ refusal own
by-own S lent own L v =
    refusal-after (limits S) (sizes lent ++ (in_field S.p lent ++ own)) (limits-clear S L)
    ∙ refusal-after (sizes lent) (in_field S.p lent ++ own) (sizes-clear S.p lent v)
    ∙ refusal-after (in_field S.p lent) own (field-clear S.p lent v)

pub accepts : (S : Setup) (lent : List Lent) (own : List Rule) → Limits S → InOrder S.p lent → Clear own → refusal (table S lent own) ≡ 0
accepts S lent own L v c = by-own S lent own L v ∙ none-applies own c

-- POINTS
pub record PointsOk (S : Setup) : Type 0 where
  pub limits : Limits S
  pub room : length S.M ≡ S.n * dim S
  pub fits : dim S + S.n ≤ S.p

module _ (S : Setup) where
  abbrev points-lent : List Lent
  points-lent = room (length S.M) (S.n * dim S) ∷ []

  abbrev points-own : List Rule
  points-own = (15 when ltb S.p (dim S + S.n)) ∷ []

  pub points-ok : refusal (points_rules S) ≡ 0 → PointsOk S
  points-ok e =
      let r = in_order S points-lent points-own tt e in
      record { limits = r.limits; room = r.lent.0; fits = ltb-false S.p (dim S + S.n) r.own.0 }

  pub points-accepts : PointsOk S → refusal (points_rules S) ≡ 0
  points-accepts k = accepts S points-lent points-own k.limits (k.room, tt) (le-ltb S.p (dim S + S.n) k.fits, tt)

-- DEAL AND DEAL TO ALL
pub record DealOk (S : Setup) (secrets random : List ℕ) : Type 0 where
  pub setup : IsSetup S
  pub vectors : Vec S.p (S.l * S.l) secrets
  pub entries : Vec S.p (dim S * dim S - S.l * S.l) random

module _ (S : Setup) (secrets random : List ℕ) where
  -- with two buffers of k entries each
  abbrev deal-lent : ℕ → List ℕ → List ℕ → List Lent
  deal-lent k a b = deal_lent S secrets random ++ room (length a) k ∷ room (length b) k ∷ []

  dealing-ok : (k : ℕ) (a b : List ℕ) (own : List Rule) → T (positive own) → refusal (table S (deal-lent k a b) own) ≡ 0
      → DealOk S secrets random × (length a ≡ k) × (length b ≡ k) × Clear own
  dealing-ok k a b own t e =
      let r = in_order S (deal-lent k a b) own t e in
      let v = r.lent in (
        record { setup = record { limits = r.limits; matrix = v.0 }; vectors = v.1.0; entries = v.1.1.0 },
        v.1.1.1.0,
        v.1.1.1.1.0,
        r.own,
      )

  dealing-accepts : (k : ℕ) (a b : List ℕ) (own : List Rule) → DealOk S secrets random → length a ≡ k → length b ≡ k → Clear own
      → refusal (table S (deal-lent k a b) own) ≡ 0
  dealing-accepts k a b own ok i j c =
      accepts S (deal-lent k a b) own ok.setup.limits (ok.setup.matrix, (ok.vectors, (ok.entries, (i, (j, tt))))) c

  pub deal-ok : (i : ℕ) (g h : List ℕ) → refusal (deal_rules S secrets random i g h) ≡ 0
      → DealOk S secrets random × (length g ≡ dim S) × (length h ≡ dim S) × (i < S.n)
  deal-ok i g h e =
      let r = dealing-ok (dim S) g h ((5 when leb S.n i) ∷ []) tt e in
      (r.0, r.1, r.2, leb-false S.n i r.3.0)

  pub deal-accepts : (i : ℕ) (g h : List ℕ) → DealOk S secrets random → length g ≡ dim S → length h ≡ dim S → i < S.n
      → refusal (deal_rules S secrets random i g h) ≡ 0
  deal-accepts i g h ok a b l = dealing-accepts (dim S) g h ((5 when leb S.n i) ∷ []) ok a b (lt-leb S.n i l, tt)

  pub deal_all-ok : (gs hs : List ℕ) → refusal (deal_all_rules S secrets random gs hs) ≡ 0
      → DealOk S secrets random × (length gs ≡ S.n * dim S) × (length hs ≡ S.n * dim S)
  deal_all-ok gs hs e = let r = dealing-ok (S.n * dim S) gs hs [] tt e in (r.0, r.1, r.2)

  pub deal_all-accepts : (gs hs : List ℕ) → DealOk S secrets random → length gs ≡ S.n * dim S → length hs ≡ S.n * dim S
      → refusal (deal_all_rules S secrets random gs hs) ≡ 0
  deal_all-accepts gs hs ok a b = dealing-accepts (S.n * dim S) gs hs [] ok a b tt

-- DEAL WITH A MAP
pub record DealMappedOk (S : Setup) (secrets random phi random2 : List ℕ) : Type 0 where
  pub first : DealOk S secrets random
  pub map : Vec S.p (S.l * S.l) phi
  pub entries : Vec S.p (S.e * dim S) random2

module _ (S : Setup) (secrets random phi random2 : List ℕ) (B : Buffers) where
  mapped-ok : (k : ℕ) (own : List Rule) → T (positive own) → refusal (table S (deal_mapped_lent S secrets random phi random2 k B) own) ≡ 0
      → DealMappedOk S secrets random phi random2 × Sized k B × Clear own
  mapped-ok k own t e =
      let r = in_order S (deal_mapped_lent S secrets random phi random2 k B) own t e in
      let v = r.lent in
      let w = v.1.1.1 in (
        record {
          first = record { setup = record { limits = r.limits; matrix = v.0 }; vectors = v.1.0; entries = v.1.1.0 };
          map = w.0;
          entries = w.1.0;
        },
        record { g = w.1.1.0; h = w.1.1.1.0; g2 = w.1.1.1.1.0; h2 = w.1.1.1.1.1.0 },
        r.own,
      )

  mapped-accepts : (k : ℕ) (own : List Rule) → DealMappedOk S secrets random phi random2 → Sized k B → Clear own
      → refusal (table S (deal_mapped_lent S secrets random phi random2 k B) own) ≡ 0
  mapped-accepts k own ok z c =
      let a = ok.first in
      accepts S (deal_mapped_lent S secrets random phi random2 k B) own a.setup.limits
      (a.setup.matrix, (a.vectors, (a.entries, (ok.map, (ok.entries, (z.g, (z.h, (z.g2, (z.h2, tt))))))))) c

  pub deal_mapped-ok : (i : ℕ) → refusal (deal_mapped_rules S secrets random phi random2 i B) ≡ 0
      → DealMappedOk S secrets random phi random2 × Sized (dim S) B × (i < S.n)
  deal_mapped-ok i e =
      let r = mapped-ok (dim S) ((5 when leb S.n i) ∷ []) tt e in
      (r.0, r.1, leb-false S.n i r.2.0)

  pub deal_mapped-accepts : (i : ℕ) → DealMappedOk S secrets random phi random2 → Sized (dim S) B → i < S.n
      → refusal (deal_mapped_rules S secrets random phi random2 i B) ≡ 0
  deal_mapped-accepts i ok z l = mapped-accepts (dim S) ((5 when leb S.n i) ∷ []) ok z (lt-leb S.n i l, tt)

  pub deal_mapped_all-ok : refusal (deal_mapped_all_rules S secrets random phi random2 B) ≡ 0
      → DealMappedOk S secrets random phi random2 × Sized (S.n * dim S) B
  deal_mapped_all-ok e = let r = mapped-ok (S.n * dim S) [] tt e in (r.0, r.1)

  pub deal_mapped_all-accepts : DealMappedOk S secrets random phi random2 → Sized (S.n * dim S) B
      → refusal (deal_mapped_all_rules S secrets random phi random2 B) ≡ 0
  deal_mapped_all-accepts ok z = mapped-accepts (S.n * dim S) [] ok z tt

-- DEAL ZERO
pub record DealZeroOk (S : Setup) (random : List ℕ) : Type 0 where
  pub setup : IsSetup S
  pub entries : Vec S.p (S.e * dim S) random

module _ (S : Setup) (random : List ℕ) where
  -- with buffers that have a and b entries and need j and k
  abbrev deal_zero-lent : (j k a b : ℕ) → List Lent
  deal_zero-lent j k a b = matrix S ∷ elements random (S.e * dim S) ∷ room a j ∷ room b k ∷ []

  zero_ok : (j k a b : ℕ) (own : List Rule) → T (positive own) → refusal (table S (deal_zero-lent j k a b) own) ≡ 0
      → DealZeroOk S random × (a ≡ j) × (b ≡ k) × Clear own
  zero_ok j k a b own t e =
      let r = in_order S (deal_zero-lent j k a b) own t e in
      let v = r.lent in
      (record { setup = record { limits = r.limits; matrix = v.0 }; entries = v.1.0 }, v.1.1.0, v.1.1.1.0, r.own)

  zero-accepts : (j k a b : ℕ) (own : List Rule) → DealZeroOk S random → a ≡ j → b ≡ k → Clear own → refusal (table S (deal_zero-lent j k a b) own) ≡ 0
  zero-accepts j k a b own ok x y c = accepts S (deal_zero-lent j k a b) own ok.setup.limits (ok.setup.matrix, (ok.entries, (x, (y, tt)))) c

  pub deal_zero-ok : (i : ℕ) (g h : List ℕ) → refusal (deal_zero_rules S random i g h) ≡ 0
      → DealZeroOk S random × (length g ≡ dim S) × (length h ≡ S.e) × (i < S.n)
  deal_zero-ok i g h e =
      let r = zero_ok (dim S) S.e (length g) (length h) ((5 when leb S.n i) ∷ []) tt e in
      (r.0, r.1, r.2, leb-false S.n i r.3.0)

  pub deal_zero-accepts : (i : ℕ) (g h : List ℕ) → DealZeroOk S random → length g ≡ dim S → length h ≡ S.e → i < S.n
      → refusal (deal_zero_rules S random i g h) ≡ 0
  deal_zero-accepts i g h ok a b l = zero-accepts (dim S) S.e (length g) (length h) ((5 when leb S.n i) ∷ []) ok a b (lt-leb S.n i l, tt)

  pub deal_zero_all-ok : (gs hs : List ℕ) → refusal (deal_zero_all_rules S random gs hs) ≡ 0
      → DealZeroOk S random × (length gs ≡ S.n * dim S) × (length hs ≡ S.n * S.e)
  deal_zero_all-ok gs hs e = let r = zero_ok (S.n * dim S) (S.n * S.e) (length gs) (length hs) [] tt e in (r.0, r.1, r.2)

  pub deal_zero_all-accepts : (gs hs : List ℕ) → DealZeroOk S random → length gs ≡ S.n * dim S → length hs ≡ S.n * S.e
      → refusal (deal_zero_all_rules S random gs hs) ≡ 0
  deal_zero_all-accepts gs hs ok a b = zero-accepts (S.n * dim S) (S.n * S.e) (length gs) (length hs) [] ok a b tt

-- PAIR VALUE
pub record PairValueOk (S : Setup) (g : List ℕ) (i : ℕ) : Type 0 where
  pub setup : IsSetup S
  pub part : Vec S.p (dim S) g
  pub to : i < S.n

module _ (S : Setup) (g : List ℕ) (i : ℕ) where
  abbrev pair_value-lent : List Lent
  pair_value-lent = matrix S ∷ elements g (dim S) ∷ []

  pub pair_value-ok : refusal (pair_value_rules S g i) ≡ 0 → PairValueOk S g i
  pair_value-ok e =
      let r = in_order S pair_value-lent ((5 when leb S.n i) ∷ []) tt e in
      record { setup = record { limits = r.limits; matrix = r.lent.0 }; part = r.lent.1.0; to = leb-false S.n i r.own.0 }

  pub pair_value-accepts : PairValueOk S g i → refusal (pair_value_rules S g i) ≡ 0
  pair_value-accepts k =
      accepts S pair_value-lent ((5 when leb S.n i) ∷ []) k.setup.limits (k.setup.matrix, (k.part, tt)) (lt-leb S.n i k.to, tt)

-- JUDGE
pub record JudgeOk (S : Setup) (h values : List ℕ) : Type 0 where
  pub setup : IsSetup S
  pub part : Vec S.p (dim S) h
  pub received : Vec S.p S.n values

module _ (S : Setup) (h values : List ℕ) where
  abbrev judge-lent : List Lent
  judge-lent = matrix S ∷ elements h (dim S) ∷ elements values S.n ∷ []

  pub judge-ok : refusal (judge_rules S h values) ≡ 0 → JudgeOk S h values
  judge-ok e =
      let r = in_order S judge-lent [] tt e in
      record { setup = record { limits = r.limits; matrix = r.lent.0 }; part = r.lent.1.0; received = r.lent.1.1.0 }

  pub judge-accepts : JudgeOk S h values → refusal (judge_rules S h values) ≡ 0
  judge-accepts k = accepts S judge-lent [] k.setup.limits (k.setup.matrix, (k.part, (k.received, tt))) tt

-- JUDGE WITH A MAP
pub record JudgeMappedOk (S : Setup) (h values phi h2 values2 : List ℕ) : Type 0 where
  pub first : JudgeOk S h values
  pub map : Vec S.p (S.l * S.l) phi
  pub second : JudgeOk S h2 values2

module _ (S : Setup) (h values phi h2 values2 : List ℕ) where
  abbrev judge_mapped-lent : List Lent
  judge_mapped-lent =
      matrix S ∷ elements h (dim S) ∷ elements values S.n ∷ elements phi (S.l * S.l) ∷ elements h2 (dim S) ∷ elements values2 S.n ∷ []

  pub judge_mapped-ok : refusal (judge_mapped_rules S h values phi h2 values2) ≡ 0 → JudgeMappedOk S h values phi h2 values2
  judge_mapped-ok e =
      let r = in_order S judge_mapped-lent [] tt e in
      let v = r.lent in
      let setup : IsSetup S = record { limits = r.limits; matrix = v.0 } in
      record {
        first = record { setup = setup; part = v.1.0; received = v.1.1.0 };
        map = v.1.1.1.0;
        second = record { setup = setup; part = v.1.1.1.1.0; received = v.1.1.1.1.1.0 };
      }

  pub judge_mapped-accepts : JudgeMappedOk S h values phi h2 values2 → refusal (judge_mapped_rules S h values phi h2 values2) ≡ 0
  judge_mapped-accepts k =
      let a = k.first in
      let b = k.second in
      accepts S judge_mapped-lent [] a.setup.limits (a.setup.matrix, (a.part, (a.received, (k.map, (b.part, (b.received, tt)))))) tt

-- JUDGE ZERO
pub record JudgeZeroOk (S : Setup) (h values : List ℕ) : Type 0 where
  pub setup : IsSetup S
  pub part : Vec S.p S.e h
  pub received : Vec S.p S.n values

module _ (S : Setup) (h values : List ℕ) where
  abbrev judge_zero-lent : List Lent
  judge_zero-lent = matrix S ∷ elements h S.e ∷ elements values S.n ∷ []

  pub judge_zero-ok : refusal (judge_zero_rules S h values) ≡ 0 → JudgeZeroOk S h values
  judge_zero-ok e =
      let r = in_order S judge_zero-lent [] tt e in
      record { setup = record { limits = r.limits; matrix = r.lent.0 }; part = r.lent.1.0; received = r.lent.1.1.0 }

  pub judge_zero-accepts : JudgeZeroOk S h values → refusal (judge_zero_rules S h values) ≡ 0
  judge_zero-accepts k = accepts S judge_zero-lent [] k.setup.limits (k.setup.matrix, (k.part, (k.received, tt))) tt

-- OUTCOME
pub record OutcomeOk (S : Setup) (g verdicts out : List ℕ) : Type 0 where
  pub limits : Limits S
  pub part : Vec S.p (dim S) g
  pub heard : Vec 2 S.n verdicts
  pub room : length out ≡ S.l

module _ (S : Setup) (g verdicts out : List ℕ) where
  abbrev outcome-lent : List Lent
  outcome-lent = elements g (dim S) ∷ room (length verdicts) S.n ∷ room (length out) S.l ∷ []

  abbrev outcome-own : List Rule
  outcome-own = (12 when not (all_below 2 verdicts)) ∷ []

  pub outcome-ok : refusal (outcome_rules S g verdicts out) ≡ 0 → OutcomeOk S g verdicts out
  outcome-ok e =
      let r = in_order S outcome-lent outcome-own tt e in
      let v = r.lent in
      record { limits = r.limits; part = v.0; heard = vec_of 2 S.n verdicts (omega arith) v.1.0 r.own.0; room = v.1.1.0 }

  pub outcome-accepts : OutcomeOk S g verdicts out → refusal (outcome_rules S g verdicts out) ≡ 0
  outcome-accepts k =
      accepts S outcome-lent outcome-own k.limits (k.part, (k.heard.size, (k.room, tt))) (elements-clear 2 _ verdicts k.heard, tt)

-- REHEARSE
pub record RehearseOk (S : Setup) (gs hs : List ℕ) : Type 0 where
  pub setup : IsSetup S
  pub rows : Vec S.p (S.n * dim S) gs
  pub columns : Vec S.p (S.n * dim S) hs

module _ (S : Setup) (gs hs : List ℕ) where
  abbrev rehearse-lent : List Lent
  rehearse-lent = matrix S ∷ elements gs (S.n * dim S) ∷ elements hs (S.n * dim S) ∷ []

  pub rehearse-ok : refusal (rehearse_rules S gs hs) ≡ 0 → RehearseOk S gs hs
  rehearse-ok e =
      let r = in_order S rehearse-lent [] tt e in
      record { setup = record { limits = r.limits; matrix = r.lent.0 }; rows = r.lent.1.0; columns = r.lent.1.1.0 }

  pub rehearse-accepts : RehearseOk S gs hs → refusal (rehearse_rules S gs hs) ≡ 0
  rehearse-accepts k = accepts S rehearse-lent [] k.setup.limits (k.setup.matrix, (k.rows, (k.columns, tt))) tt

-- SETS
pub record SetOk (S : Setup) (s : ℕ) : Type 0 where
  pub setup : IsSetup S
  pub inside : s < 2 ^ S.n

module _ (S : Setup) (s : ℕ) where
  pub set-ok : refusal (set_rules S s) ≡ 0 → SetOk S s
  set-ok e =
      let r = in_order S (matrix S ∷ []) ((5 when beyond S.n s) ∷ []) tt e in
      record { setup = record { limits = r.limits; matrix = r.lent.0 }; inside = leb-false (2 ^ S.n) s r.own.0 }

  pub set-accepts : SetOk S s → refusal (set_rules S s) ≡ 0
  set-accepts k =
      accepts S (matrix S ∷ []) ((5 when beyond S.n s) ∷ []) k.setup.limits (k.setup.matrix, tt) (lt-leb (2 ^ S.n) s k.inside, tt)

decided : (b : Bool) → decide b ≡ yes → b ≡ true
decided true e = refl
decided false e = absurd (let z : ◌≡◌ {A = ℕ} 0 1 = ap (λ (a : Answer). at a.values 0) e in omega arith)

-- what a question's yes says
pub decided-ok : (S : Setup) (s : ℕ) (b : Bool) → answer_by (refusal (set_rules S s)) (decide b) ≡ yes → SetOk S s × (b ≡ true)
decided-ok S s b e =
    let r = not-refused (refusal (set_rules S s)) (decide b) (1 ∷ []) e in
    (set-ok S s r.0, decided b r.1)

pub determines-ok : (S : Setup) (s : ℕ) → determines_call S s ≡ yes → SetOk S s × (determines S (holds s) ≡ true)
determines-ok S s = decided-ok S s (determines S (holds s))

module _ (S : Setup) (s q : ℕ) (out : List ℕ) where
  abbrev judge_set-own : List Rule
  judge_set-own = (5 when beyond S.n s) ∷ (5 when leb S.l q) ∷ []

  pub judge_set-ok : refusal (judge_set_rules S s q out) ≡ 0 → SetOk S s × (length out ≡ 32) × (q < S.l)
  judge_set-ok e =
      let r = in_order S (matrix S ∷ room (length out) 32 ∷ []) judge_set-own tt e in (
        record { setup = record { limits = r.limits; matrix = r.lent.0 }; inside = leb-false (2 ^ S.n) s r.own.0 },
        r.lent.1.0,
        leb-false S.l q r.own.1.0,
      )

  pub judge_set-accepts : SetOk S s → length out ≡ 32 → q < S.l → refusal (judge_set_rules S s q out) ≡ 0
  judge_set-accepts k e l =
      accepts S (matrix S ∷ room (length out) 32 ∷ []) judge_set-own k.setup.limits (k.setup.matrix, (e, tt))
      (lt-leb (2 ^ S.n) s k.inside, (lt-leb S.l q l, tt))

-- OPEN
pub record OpenOk (S : Setup) (s : ℕ) (xs rs out : List ℕ) : Type 0 where
  pub set : SetOk S s
  pub shares : Vec S.p (length (members 32 (holds s))) xs
  pub rounds : length rs ≡ length (members 32 (holds s))
  pub room : length out ≡ S.l
  pub one-round : agree rs ≡ true

module _ (S : Setup) (s : ℕ) (xs rs out : List ℕ) where
  abbrev open_lent : List Lent
  open_lent =
      matrix S ∷ elements xs (length (members 32 (holds s))) ∷ room (length rs) (length (members 32 (holds s))) ∷ room (length out) S.l ∷ []

  abbrev open_own : List Rule
  open_own = (5 when beyond S.n s) ∷ apart rs ∷ []

  pub open-ok : refusal (open_rules S s xs rs out) ≡ 0 → OpenOk S s xs rs out
  open-ok e =
      let r = in_order S open_lent open_own tt e in
      record {
        set = record { setup = record { limits = r.limits; matrix = r.lent.0 }; inside = leb-false (2 ^ S.n) s r.own.0 };
        shares = r.lent.1.0;
        rounds = r.lent.1.1.0;
        room = r.lent.1.1.1.0;
        one-round = not-false (agree rs) r.own.1.0;
      }

  -- all but the shares' elements and their rounds in order: the refusal is 4 where some share is no field element, and else 19 where the rounds differ
  pub open-by-shares : SetOk S s → length xs ≡ length (members 32 (holds s)) → length rs ≡ length (members 32 (holds s)) → length out ≡ S.l
      → refusal (open_rules S s xs rs out) ≡ pick (all_below S.p xs) (pick (agree rs) 0 19) 4
  open-by-shares k a r b =
      by-own S
      (matrix S ∷ room (length xs) (length (members 32 (holds s))) ∷ room (length rs) (length (members 32 (holds s))) ∷ room (length out) S.l ∷ [])
      (beyond_field S.p xs ∷ open_own) k.setup.limits
      (k.setup.matrix, (a, (r, (b, tt))))
      ∙ rw (lt-leb (2 ^ S.n) s k.inside) (last (all_below S.p xs) (agree rs))
    where
      last : (b c : Bool) → refusal ((4 when not b) ∷ (5 when false) ∷ (19 when not c) ∷ []) ≡ pick b (pick c 0 19) 4
      last true true = refl
      last true false = refl
      last false c = refl

  pub open-accepts : SetOk S s → Vec S.p (length (members S.n (holds s))) xs → length rs ≡ length xs → agree rs ≡ true → length out ≡ S.l
      → refusal (open_rules S s xs rs out) ≡ 0
  open-accepts k v r q b =
      let wide = v.size ∙ ap length (sym (members-wide S.n 32 s k.inside k.setup.limits.holders.1)) in
      open-by-shares k wide (r ∙ wide) b
      ∙ rw (below-is S.p xs (λ i m. v.small i (omega (arith, v.size))), q) refl

-- COMBINE
pub record CombineOk (p : ℕ) (cs xs rs : List ℕ) : Type 0 where
  pub field : is_field p ≡ true
  pub constants : Vec p (length cs) cs
  pub shares : Vec p (length cs) xs
  pub rounds : length rs ≡ length cs
  pub few : length cs ≤ 64
  pub one-round : agree rs ≡ true

module _ (p : ℕ) (cs xs rs : List ℕ) where
  pub combine-ok : refusal (combine_rules p cs xs rs) ≡ 0 → CombineOk p cs xs rs
  combine-ok e =
      let c = clear (combine_rules p cs xs rs) tt e in
      let f : is_field p ≡ true = not-false (is_field p) c.0 in
      let pos : 0 < p = omega (arith, (field-prime p f).big) in
      let v = c.1.1.1.1 in
      record {
        field = f;
        constants = vec_of p _ cs pos refl v.0;
        shares = vec_of p _ xs pos (size_is (length xs) (length cs) c.1.0) v.1.0;
        rounds = size_is (length rs) (length cs) c.1.1.0;
        few = ltb-false 64 (length cs) c.1.1.1.0;
        one-round = not-false (agree rs) v.1.1.0;
      }

  -- all but the rounds in order: 19 exactly where they differ
  pub combine-by-rounds : is_field p ≡ true → Vec p (length cs) cs → Vec p (length cs) xs → length rs ≡ length cs → length cs ≤ 64
      → refusal (combine_rules p cs xs rs) ≡ pick (agree rs) 0 19
  combine-by-rounds f v w r few =
      rw (
        f,
        eq-eqb (length xs) (length cs) w.size,
        eq-eqb (length rs) (length cs) r,
        le-ltb 64 (length cs) few,
        elements-clear p _ cs v,
        elements-clear p _ xs w,
      ) (last (agree rs))
    where
      last : (b : Bool) → refusal ((19 when not b) ∷ []) ≡ pick b 0 19
      last true = refl
      last false = refl

  pub combine-accepts : CombineOk p cs xs rs → refusal (combine_rules p cs xs rs) ≡ 0
  combine-accepts k = combine-by-rounds k.field k.constants k.shares k.rounds k.few ∙ rw k.one-round refl

-- REFRESH
pub record RefreshOk (p x round z : ℕ) : Type 0 where
  pub field : is_field p ≡ true
  pub old : x < p
  pub zero : z < p
  pub next : round < 65535

module _ (p x round z : ℕ) where
  pub refresh-ok : refusal (refresh_rules p x round z) ≡ 0 → RefreshOk p x round z
  refresh-ok e =
      let c = clear (refresh_rules p x round z) tt e in
      record {
        field = not-false (is_field p) c.0;
        old = leb-false p x c.1.0;
        zero = leb-false p z c.1.1.0;
        next = leb-false 65535 round c.1.1.1.0;
      }

  pub refresh-accepts : RefreshOk p x round z → refusal (refresh_rules p x round z) ≡ 0
  refresh-accepts k =
      none-applies (refresh_rules p x round z)
      (ap not k.field, (lt-leb p x k.old, (lt-leb p z k.zero, (lt-leb 65535 round k.next, tt))))
