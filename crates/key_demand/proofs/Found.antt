-- Demand 3 for a key, from demand 3 for each of its four columns, "the list of one term with constant 1": a column's opening gives that column of the one
-- array, or 7; so the opening of the key gives the array's sixteen positions, or 4, 19, 7 or 16.
-- column-found: what the opening of one column gives
-- by-columns: lists handed in for a key, from those of its columns
-- key-found, key-met: the two fields of BoardKeys
use mathlib.Core.Path.{◌≡◌, refl, ap, ap₂, sym, ◌∙◌}
use mathlib.Core.Bool.{Bool, true, false, not, false≢true}
use mathlib.Core.List.{List, [], ◌∷◌}
use mathlib.Core.Logic.{◌⊎◌, inl, inr}
use Prim.Native.Nat.{ℕ, ◌*◌, ◌^◌, ◌<◌}
use native.Mathlib.Omega.{arith}
use lib.ListN.{length}
use Rattle.base.specs.Choice.{pick}
use Rattle.base.specs.Rules.{refusal, Answer, refused, given}
use Rattle.base.specs.Search.{Vec}
use Rattle.base.specs.Matrix.{all_below}
use Rattle.base.proofs.Rules.{accepted, not-refused}
use Rattle.base.proofs.Search.{every-at, every-all}
use Rattle.base.proofs.Fill.{length-tab, tab-is}
use Rattle.field.specs.Dot.{at}
use Rattle.scheme.specs.Answers.{inconsistent}
use Rattle.scheme.specs.Sets.{holds}
use Rattle.scheme.specs.Opening.{opening, agree}
use Rattle.scheme.specs.Calls.{open_rules, open_call, open_answer}
use Rattle.scheme.proofs.Calls.{vec_of, open-ok, open-accepts}
use Rattle.scheme.proofs.Answering.{OpeningIs, secrets, by-six, by-seven, opening-is}
use Rattle.board_keys.specs.Keys.{key_setup, member_count, column_shares, column_opened, columns_agree, key_opening, open_key_rules, open_key_call, open_key_left}
use Rattle.board_keys.proofs.Opened.{key-members, key_set, open_key-by-shares, open_key-gives, open_key-declines, column-length, column-vec, columns-below, column_shares-flat, key_of, four-answered, key-or-seven}
use Rattle.demand.specs.Demand.{Dealing, Member, Done, DoneZero, Slip, Slips, Applied, one_column, InLimits, Present, Handed, values_by, rounds_by, column, secrets_over, Opens, Refused, Found}
use Rattle.demand.specs.Demand as plain
use Rattle.demand.proofs.Rounds.{elements, lag-apart}
use Rattle.demand.proofs.Demand.{demand3}
use Rattle.key_demand.specs.Keys.{KeyOpens, KeyHanded, KeyLevel, positions, KeyRefused, by-four, by-sixteen, KeyFound, key_hands_in, key_values_by, key_rounds_by}
use Rattle.key_demand.specs.Keys as key

-- ANSWERS OF ONE COLUMN
-- a lent buffer for one column
abbrev four-lent : List ℕ
four-lent = 0 ∷ 0 ∷ 0 ∷ 0 ∷ []

-- the answer of an opening, from that of its call
open-given : (a : Answer) → open_answer a ≡ given [] → a ≡ given a.values
open-given a e =
    ap₂ (λ (x : Bool) (k : ℕ). record { answered = x; number = k; values = a.values }) (ap (λ (x : Answer). x.answered) e) (ap (λ (x : Answer). x.number) e)

open-seven : (a : Answer) → open_answer a ≡ inconsistent → a ≡ inconsistent
open-seven a e =
    let k : a.number ≡ 7 = ap (λ (x : Answer). x.number) e in
    let v : a.values ≡ [] = sym (rw k refl) ∙ ap (λ (x : Answer). x.values) e in
    ap₂ (λ (x : Bool) (k : ℕ). record { answered = x; number = k; values = a.values }) (ap (λ (x : Answer). x.answered) e) k
    ∙ ap (λ (vs : List ℕ). record { answered = false; number = 7; values = vs }) v

-- an opening's own number is not 4
open-four : (s : ℕ) (xs : List ℕ) → (opening key_setup (holds s) xs).number ≡ 4 → ⊥
open-four s xs = go (opening-is key_setup s xs)
  where
    go : OpeningIs key_setup s xs → (opening key_setup (holds s) xs).number ≡ 4 → ⊥
    go (secrets d h vs e) k = omega (arith, sym (ap (λ (x : Answer). x.number) e) ∙ k)
    go (by-six d q e) k = omega (arith, sym (ap (λ (x : Answer). x.number) e) ∙ k)
    go (by-seven d n e) k = omega (arith, sym (ap (λ (x : Answer). x.number) e) ∙ k)

one-limits : {I : Type 0} (t : I) (b : ℕ) → b < 4 → InLimits key_setup (one_column t b)
one-limits t b l = record { few = omega arith; columns = λ k m. l; constants = λ k m. omega arith }

-- a list of rounds of which one column's differ
apart_in : (s : ℕ) (rs : List ℕ) (b : ℕ) → b < 4 → agree (column_shares s rs b) ≡ false → columns_agree s rs ≡ false
apart_in s rs b l e = go (columns_agree s rs) refl
  where
    go : (u : Bool) → columns_agree s rs ≡ u → columns_agree s rs ≡ false
    go true u = absurd (false≢true (sym e ∙ every-at 4 (λ b. agree (column_shares s rs b)) u b l))
    go false u = u

module _ (group : ℕ) {I J : Type 0} (D : I → Dealing) (Z : J → Dealing) (done : Done key_setup group D) (zeroDone : DoneZero key_setup group Z)
    (A : Applied key_setup group D Z) (t : I) (openers : ℕ) (handed rounds : List ℕ) (hand : KeyHanded group A.slip t openers handed rounds) where
  F : Found key_setup group D Z
  F = demand3.found key_setup group D Z done zeroDone

  below : openers < 2 ^ 16
  below = (hand.columns 0 (omega arith)).below

  -- the column of the array, as the opening of one column has it
  abbrev ColumnOpens : ℕ → Type 0
  ColumnOpens b =
      Opens key_setup openers (column_shares openers handed b) (column_shares openers rounds b) four-lent (secrets_over key_setup F.array (one_column t b))

  module _ (b : ℕ) (l : b < 4) where
    abbrev xs : List ℕ
    xs = column_shares openers handed b

    abbrev rs : List ℕ
    rs = column_shares openers rounds b

    -- a column that opens has shares in the field and rounds that agree, and gives the array's
    column-opens : ColumnOpens b
        → Vec 257 (member_count openers) (column_shares openers handed b) × (column_opened openers handed b ≡ given (column (F.array t) b))
        × (agree (column_shares openers rounds b) ≡ true)
    unfolding column_opened
    column-opens r =
        let n = not-refused (refusal (open_rules key_setup openers xs rs four-lent)) _ _ r.answer in
        let ok = open-ok key_setup openers xs rs four-lent n.0 in
        let g = open-given (opening key_setup (holds openers) xs) n.1 in (
          rw (key-members openers below) at ok.shares,
          g ∙ ap given (sym (rw (n.0, g) refl) ∙ r.buffer ∙ F.one-column t b l),
          ok.one-round,
        )

    column-found : Vec 257 (member_count openers) (column_shares openers handed b) → agree (column_shares openers rounds b) ≡ true
        → (column_opened openers handed b ≡ given (column (F.array t) b)) ⊎ (column_opened openers handed b ≡ inconsistent)
    unfolding column_opened
    column-found v one = go ((F.now A).opens (one_column t b) openers xs rs four-lent (hand.columns b l) refl)
      where
        fine : refusal (open_rules key_setup openers xs rs four-lent) ≡ 0
        fine =
            open-accepts key_setup openers xs rs four-lent (key_set openers below) v (column-length openers rounds b ∙ sym (column-length openers handed b)) one refl

        own : open_call key_setup openers xs rs four-lent ≡ open_answer (opening key_setup (holds openers) xs)
        own = sym (accepted (refusal (open_rules key_setup openers xs rs four-lent)) (open_answer (opening key_setup (holds openers) xs)) fine)

        go : ColumnOpens b ⊎ Refused key_setup openers xs rs four-lent
            → (column_opened openers handed b ≡ given (column (F.array t) b)) ⊎ (column_opened openers handed b ≡ inconsistent)
        go (inl r) = inl (column-opens r).1
        go (inr (plain.by-four r k)) = absurd (open-four openers xs (ap (λ (x : Answer). x.number) (sym own ∙ r)))
        go (inr (plain.by-nineteen d r k)) = absurd (false≢true (sym d ∙ one))
        go (inr (plain.by-seven r k)) = inr (open-seven (opening key_setup (holds openers) xs) (sym own ∙ r))

  -- THE KEY
  abbrev ps : List ℕ
  ps = positions (F.array t)

  module _ (out : List ℕ) (room : length out ≡ 16) where
    by-shares : refusal (open_key_rules openers handed rounds out) ≡ pick (all_below 257 handed) (pick (columns_agree openers rounds) 0 19) 4
    by-shares = open_key-by-shares openers handed rounds out below hand.count hand.count-rounds room

    refused-apart : all_below 257 handed ≡ true → columns_agree openers rounds ≡ false
        → (open_key_call openers handed rounds out ≡ refused 19) × (open_key_left openers handed rounds out ≡ out)
    refused-apart h u = open_key-declines openers handed rounds out 19 (λ z. omega arith) (by-shares ∙ rw (h, u) refl)

    -- the key of the array, or 16, where the table passes and the opening is that of its positions
    whole-key : refusal (open_key_rules openers handed rounds out) ≡ 0 → key_opening openers handed ≡ key_of ps → all_below 256 ps ≡ true
        → KeyOpens openers handed rounds out ps
    whole-key z e t = let r = open_key-gives openers handed rounds out (given ps) z (e ∙ rw t refl) in record { answer = r.0; buffer = r.1 }

    no_key : refusal (open_key_rules openers handed rounds out) ≡ 0 → key_opening openers handed ≡ key_of ps → all_below 256 ps ≡ false
        → (open_key_call openers handed rounds out ≡ refused 16) × (open_key_left openers handed rounds out ≡ out)
    no_key z e f = open_key-gives openers handed rounds out (refused 16) z (e ∙ rw f refl)

    key-opens : KeyOpens openers handed rounds out ps ⊎ KeyRefused openers handed rounds out (F.array t)
    key-opens = start (all_below 257 handed) refl (columns_agree openers rounds) refl
      where
        by_key : refusal (open_key_rules openers handed rounds out) ≡ 0 → key_opening openers handed ≡ key_of ps → (b : Bool) → all_below 256 ps ≡ b
            → KeyOpens openers handed rounds out ps ⊎ KeyRefused openers handed rounds out (F.array t)
        by_key z e true h = inl (whole-key z e h)
        by_key z e false h = let r = no_key z e h in inr (by-sixteen h r.0 r.1)

        by-columns : refusal (open_key_rules openers handed rounds out) ≡ 0 → (key_opening openers handed ≡ key_of ps) ⊎ (key_opening openers handed ≡ inconsistent)
            → KeyOpens openers handed rounds out ps ⊎ KeyRefused openers handed rounds out (F.array t)
        by-columns z (inl e) = by_key z e (all_below 256 ps) refl
        by-columns z (inr e) = let r = open_key-gives openers handed rounds out inconsistent z e in inr (key.by-seven r.0 r.1)

        start : (b : Bool) → all_below 257 handed ≡ b → (u : Bool) → columns_agree openers rounds ≡ u
            → KeyOpens openers handed rounds out ps ⊎ KeyRefused openers handed rounds out (F.array t)
        start true h true u =
            let v = vec_of 257 (4 * member_count openers) handed (omega arith) hand.count (ap not h) in
            by-columns (by-shares ∙ rw (h, u) refl)
            (key-or-seven openers handed (λ b. column (F.array t) b)
            (λ b l. column-found b l (column-vec openers handed b l v) (every-at 4 (λ b. agree (column_shares openers rounds b)) u b l)))
        start true h false u = let r = refused-apart h u in inr (key.by-nineteen u r.0 r.1)
        start false h c u = let r = open_key-declines openers handed rounds out 4 (λ z. omega arith) (by-shares ∙ rw h refl) in inr (by-four r.0 r.1)

    -- an answer is the key
    key-given : open_key_call openers handed rounds out ≡ given [] → open_key_left openers handed rounds out ≡ ps
    key-given e = go key-opens
      where
        number-zero : (k : ℕ) → open_key_call openers handed rounds out ≡ refused k → k ≡ 0
        number-zero k r = ap (λ (x : Answer). x.number) (sym r ∙ e)

        go : KeyOpens openers handed rounds out ps ⊎ KeyRefused openers handed rounds out (F.array t) → open_key_left openers handed rounds out ≡ ps
        go (inl r) = r.buffer
        go (inr (by-four r k)) = absurd (omega (arith, number-zero 4 r))
        go (inr (key.by-nineteen d r k)) = absurd (omega (arith, number-zero 19 r))
        go (inr (key.by-seven r k)) = absurd (omega (arith, number-zero 7 r))
        go (inr (by-sixteen f r k)) = absurd (omega (arith, number-zero 16 r))

    -- WHERE EVERY OPENER IS A RULE-KEEPER
    module _ (sub : (i : ℕ) → Member key_setup openers i → Member key_setup group i) where
      -- every column opens where it stands at one round
      module _ (level : KeyLevel A.slip t openers) where
        columns-open : (b : ℕ) → b < 4
            → Vec 257 (member_count openers) (column_shares openers handed b) × (column_opened openers handed b ≡ given (column (F.array t) b))
            × (agree (column_shares openers rounds b) ≡ true)
        columns-open b l =
            column-opens b l
            ((F.now A).never-refused (one_column t b) openers (column_shares openers handed b) (column_shares openers rounds b) four-lent (hand.columns b l) refl sub (level b l))

        table-passes : refusal (open_key_rules openers handed rounds out) ≡ 0
        table-passes =
            by-shares
            ∙ rw (
              columns-below openers handed hand.count (λ b l. (columns-open b l).0),
              every-all 4 (λ b. agree (column_shares openers rounds b)) (λ b l. (columns-open b l).2),
            ) refl

        columns-answer : key_opening openers handed ≡ key_of ps
        columns-answer = four-answered openers handed (λ b. column (F.array t) b) (λ b l. (columns-open b l).1)

        keepers-open : all_below 256 ps ≡ true → KeyOpens openers handed rounds out ps
        keepers-open = whole-key table-passes columns-answer

        keepers-refused : all_below 256 ps ≡ false → (open_key_call openers handed rounds out ≡ refused 16) × (open_key_left openers handed rounds out ≡ out)
        keepers-refused = no_key table-passes columns-answer

      -- and where one lags behind another in column b, that column's rounds differ
      keepers-lag : (b i k : ℕ) → b < 4 → Member key_setup openers i → Member key_setup openers k → ((A.slip t b i).round ≡ (A.slip t b k).round → ⊥)
          → (open_key_call openers handed rounds out ≡ refused 19) × (open_key_left openers handed rounds out ≡ out)
      keepers-lag b i k l mi mk ne =
          refused-apart
          (columns-below openers handed hand.count (λ b l.
          vec_of 257 (member_count openers) (column_shares openers handed b) (omega arith) (column-length openers handed b)
          (ap not (elements key_setup group D Z done zeroDone A (one_column t b) openers _ _ four-lent (hand.columns b l) refl sub))))
          (apart_in openers rounds b l
          (lag-apart key_setup group D Z done zeroDone A (one_column t b) openers _ _ four-lent (hand.columns b l) refl sub 0 i k (omega arith) mi mk ne))

pub key-found : (group : ℕ) {I J : Type 0} (D : I → Dealing) (Z : J → Dealing) → Done key_setup group D → DoneZero key_setup group Z → (t : I) → KeyFound group D Z t
unfolding F
key-found group D Z done zeroDone t =
    record {
      array = (demand3.found key_setup group D Z done zeroDone).array t;
      one = (demand3.found key_setup group D Z done zeroDone).one t;
      opens = λ A openers handed rounds out hand room. key-opens group D Z done zeroDone A t openers handed rounds hand out room;
      same = λ A A' openers others handed rounds handed' rounds' out out' hand hand' room room' e e'.
          key-given group D Z done zeroDone A t openers handed rounds hand out room e
          ∙ sym (key-given group D Z done zeroDone A' t others handed' rounds' hand' out' room' e');
      never-refused = λ A openers handed rounds out hand room sub level. keepers-open group D Z done zeroDone A t openers handed rounds hand out room sub level;
      no_byte = λ A openers handed rounds out hand room sub level. keepers-refused group D Z done zeroDone A t openers handed rounds hand out room sub level;
      lagging = λ A openers handed rounds out hand room sub. keepers-lag group D Z done zeroDone A t openers handed rounds hand out room sub;
    }

-- LISTS HANDED IN, column by column
module _ (openers : ℕ) (slip : ℕ → ℕ → Slip) where
  pub values-column : (b : ℕ) → b < 4 → column_shares openers (key_values_by openers slip) b ≡ values_by key_setup openers (slip b)
  values-column b h =
      column_shares-flat openers (λ b. at (values_by key_setup openers (slip b))) b h
      ∙ sym (tab-is (member_count openers) (at (values_by key_setup openers (slip b))) 0 (values_by key_setup openers (slip b)) (length-tab (member_count openers) _) (λ k m. refl))

  pub rounds-column : (b : ℕ) → b < 4 → column_shares openers (key_rounds_by openers slip) b ≡ rounds_by key_setup openers (slip b)
  rounds-column b h =
      column_shares-flat openers (λ b. at (rounds_by key_setup openers (slip b))) b h
      ∙ sym (tab-is (member_count openers) (at (rounds_by key_setup openers (slip b))) 0 (rounds_by key_setup openers (slip b)) (length-tab (member_count openers) _) (λ k m. refl))

  pub by-columns : (group : ℕ) {I : Type 0} (have : Slips I) (t : I)
      → ((b : ℕ) → b < 4 → Handed key_setup group have (one_column t b) openers (values_by key_setup openers (slip b)) (rounds_by key_setup openers (slip b)))
      → KeyHanded group have t openers (key_values_by openers slip) (key_rounds_by openers slip)
  by-columns group have t each =
      record {
        count = length-tab (4 * member_count openers) _;
        count-rounds = length-tab (4 * member_count openers) _;
        columns = λ b h. rw (values-column b h, rounds-column b h) (each b h);
      }

pub key-met : (group : ℕ) {I J : Type 0} (D : I → Dealing) (Z : J → Dealing) → Done key_setup group D → DoneZero key_setup group Z
    → (A : Applied key_setup group D Z) (t : I) (openers : ℕ) → openers < 2 ^ 16 → Present key_setup group openers → (others : ℕ → ℕ → Slip)
    → let slip = key_hands_in group A.slip t others in KeyHanded group A.slip t openers (key_values_by openers slip) (key_rounds_by openers slip)
key-met group D Z done zeroDone A t openers l present others =
    by-columns openers (key_hands_in group A.slip t others) group A.slip t
    (λ b h. demand3.met key_setup group D Z done zeroDone A (one_column t b) (one-limits t b h) openers l present (λ i m n u v p q. refl) (others b))
