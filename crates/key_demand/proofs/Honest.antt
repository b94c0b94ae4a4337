-- Where all follow the rules and every message arrives a key comes back in every round, and elements that are no key are refused by 16; and there is such a run for all
-- elements and random entries: crate demand's theorems on honest dealings, at the setup of board keys.
-- key-honest, key-run, key-present: the fields of BoardKeys
use mathlib.Core.Path.{◌≡◌, refl, ap, sym, ◌∙◌}
use mathlib.Core.Bool.{Bool, true, false, ◌&&◌}
use mathlib.Core.List.{List, []}
use mathlib.Core.Logic.{◌↔◌}
use Prim.Native.Nat.{ℕ, ◌/◌, ◌%◌, ◌^◌, ◌≤◌, ◌<◌}
use native.Mathlib.Omega.{arith}
use lib.ListN.{length}
use borrow.Author.Tests.{le-leb, leb-true}
use Rattle.base.specs.Rules.{refusal, given}
use Rattle.base.specs.Search.{Vec}
use Rattle.base.specs.Matrix.{all_below}
use Rattle.base.proofs.Choice.{either}
use Rattle.base.proofs.Rules.{not-refused}
use Rattle.base.proofs.Fill.{tab-ext}
use Rattle.base.proofs.Matrix.{below-is}
use Rattle.field.specs.Dot.{at}
use Rattle.scheme.specs.Answers.{yes}
use Rattle.scheme.specs.Sets.{holds, members}
use Rattle.scheme.specs.Calls.{deal_rules, determines_call}
use Rattle.scheme.proofs.Calls.{DealOk, deal-ok}
use Rattle.scheme.proofs.Members.{members-cong}
use Rattle.scheme.proofs.PointSets.{point-sets}
use Rattle.board_keys.specs.Keys.{key_setup, member_count}
use Rattle.board_keys.proofs.Setup.{key-points, key-setup}
use Rattle.board_keys.proofs.Opened.{key-columns}
use Rattle.demand.specs.Demand.{Dealing, Member, Done, DoneZero, Applied, Present, Array, column, ExactlyOne, Honest, HonestFound, array_dealt}
use Rattle.demand.proofs.Demand.{hand, demand3}
use Rattle.demand.proofs.Honest.{run, run-honest}
use Rattle.key_demand.specs.Keys.{KeyOpens, KeyHanded, KeyLevel, positions, KeyFound, HonestKey}
use Rattle.key_demand.proofs.Found.{by-columns, key-found, key-met}
use Rattle.key_demand.proofs.Sets.{key-sets}

-- two arrays that are each the only one have the same positions
same-positions : (group : ℕ) (D : Dealing) (A B : Array) → ExactlyOne key_setup group D A → ExactlyOne key_setup group D B → positions A ≡ positions B
same-positions group D A B a b =
    tab-ext 16 _ _ (λ t l.
    either (at (column A (t / 4)) (t % 4)) (at (column B (t / 4)) (t % 4)) (at (column A (t / 4)) (t % 4) ≡ at (column B (t / 4)) (t % 4))
    (λ e. e)
    (λ n.
    let o = a.others B b.array (λ q. n (ap (λ (C : Array). at (column C (t / 4)) (t % 4)) (sym q))) in
    absurd (o.2 (b.agrees o.0 o.1))))

pub key-present : (group openers : ℕ) → Present key_setup group openers ↔ (7 ≤ length (members 16 (λ i. holds openers i && holds group i)))
key-present group openers =
    let e = (point-sets key_setup key-points (λ i. holds openers i && holds group i)).exactly (omega arith) in
    (λ d. leb-true 7 _ (sym e ∙ d), λ l. e ∙ le-leb 7 _ l)

module _ (key random : List ℕ) (D : Dealing) (hon : Honest key_setup key random D) (group : ℕ) (inside : group < 2 ^ 16) (many : 7 ≤ member_count group)
    {J : Type 0} (Z : J → Dealing) (zeroDone : DoneZero key_setup group Z) where
  abbrev all : Unit {0} → Dealing
  all t = D

  there : HonestFound key_setup key random D
  there = demand3.honest key_setup key random D hon

  determined : determines_call key_setup group ≡ yes
  determined = (key-sets group inside).seven many

  done : Done key_setup group all
  done = there.done group determined

  -- the dealing was not refused, so there are sixteen elements
  sixteen : length key ≡ 16
  sixteen =
      let r = not-refused (refusal (deal_rules key_setup key random 0 hon.lent_g hon.lent_h)) (given []) [] (hon.dealing 0 (omega arith)) in
      (deal-ok key_setup key random 0 hon.lent_g hon.lent_h r.0).0.vectors.size

  array : (F : KeyFound group all Z tt) → positions F.array ≡ key
  array F =
      same-positions group D F.array (array_dealt key_setup key random) F.one (there.array group determined)
      ∙ key-columns key (column (array_dealt key_setup key random)) sixteen (λ b k h l. there.vectors k b l h)

  -- the group's members in the group are all of it
  own-present : Present key_setup group group
  own-present =
      (key-present group group).1 (rw (members-cong 16 (λ i. holds group i && holds group i) (holds group) (λ j l. twice (holds group j))) many)
    where
      twice : (b : Bool) → (b && b) ≡ b
      twice true = refl
      twice false = refl

  found : KeyFound group all Z tt
  found = key-found group all Z done zeroDone tt

  opens : Vec 256 16 key → (A : Applied key_setup group all Z) (openers : ℕ) (handed rounds out : List ℕ) → KeyHanded group A.slip tt openers handed rounds
      → length out ≡ 16 → ((i : ℕ) → Member key_setup openers i → Member key_setup group i) → KeyLevel A.slip tt openers
      → KeyOpens openers handed rounds out key
  opens bytes A openers handed rounds out hand room sub level =
      let e = array found in
      let b = below-is 256 key (λ k l. bytes.small k (omega (arith, bytes.size))) in
      let r = found.never-refused A openers handed rounds out hand room sub level (ap (all_below 256) e ∙ b) in
      record { answer = r.answer; buffer = r.buffer ∙ e }

  pub key-honest : HonestKey key D group Z
  key-honest =
      record {
        done = done;
        array = array;
        opens = opens;
        no_byte = λ f A openers handed rounds out hand room sub level.
            found.no_byte A openers handed rounds out hand room sub level (ap (all_below 256) (array found) ∙ f);
        own = λ A others. key-met group all Z done zeroDone A tt group inside own-present others;
        back = λ bytes A level out room.
            opens bytes A group _ _ out
            (by-columns group (A.slip tt) group A.slip tt (λ b h. hand key_setup key random D hon group determined Z zeroDone A b h)) room (λ i m. m) level;
      }

pub key-run : (key random : List ℕ) → Vec 257 16 key → Vec 257 33 random → (D : Dealing) × Honest key_setup key random D
key-run key random elements entries = (run key_setup key random ok, run-honest key_setup key random ok)
  where
    ok : DealOk key_setup key random
    ok = record { setup = key-setup; vectors = elements; entries = entries }
