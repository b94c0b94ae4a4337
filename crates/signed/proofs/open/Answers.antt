-- The plain opening into a buffer of as many entries as are lent, or nine, is refused as this one is; where it gives the secrets, they are read back.
use mathlib.Core.Path.{◌≡◌, sym, ap, ◌∙◌}
use mathlib.Core.List.{List, ◌++◌}
use Prim.Native.Nat.{ℕ, ◌≤◌}
use lib.Dec.{ltb}
use lib.ListN.{length, take, drop}
use Rattle.base.specs.Choice.{pick}
use Rattle.base.specs.Rules.{Answer}
use Rattle.scheme.specs.Setup.{Setup, setup_of}
use Rattle.scheme.specs.Calls.{open_left}
use Rattle.set_systems.proofs.Members.{zeros, part-size}
use Rattle.signed.specs.Corrections.{corrections}
use Rattle.signed.proofs.Calls.{not_answered, of_field, nine, front, left_out, left-read}
use Rattle.signed.proofs.open.Goals as goal

pub returns-in_err-open-clause-corrections_after : goal.returns-in_err-open-clause-corrections_after
returns-in_err-open-clause-corrections_after c =
    let x = c.args in
    let setup : Setup = setup_of x.s x.matrix.now in
    let k = c.room_for-room.result in
    let plain : List ℕ = take k (zeros 9) in
    let field : x.s.p ≡ 65521 = of_field _ (sym c.in_ok-check_field.ensures) in
    let room : k ≤ 9 = rw c.room_for-room.ensures (nine (length x.corrections.now)) in
    let as_lent : length plain ≡ pick (ltb (length x.corrections.now) 9) (length x.corrections.now) 9 = sym (part-size _ 9 room) ∙ c.room_for-room.ensures in
    left_out setup x.set x.shares.now x.rounds.now x.corrections.now plain field as_lent
    (ap (λ (a : Answer). a.answered) (sym c.in_err-open.ensures.result_value) ∙ not_answered _)

pub read_all-requires-clause-held_value : goal.read_all-requires-clause-held_value
read_all-requires-clause-held_value c =
    let x = c.args in
    let setup : Setup = setup_of x.s x.matrix.now in
    let k = c.room_for-room.result in
    let plain : List ℕ = take k (zeros 9) in
    let field : x.s.p ≡ 65521 = of_field _ (sym c.in_ok-check_field.ensures) in
    let room : k ≤ 9 = rw c.room_for-room.ensures (nine (length x.corrections.now)) in
    let as_lent : length plain ≡ pick (ltb (length x.corrections.now) 9) (length x.corrections.now) 9 = sym (part-size _ 9 room) ∙ c.room_for-room.ensures in
    let read = left-read setup x.set x.shares.now x.rounds.now x.corrections.now plain field as_lent (ap (λ (a : Answer). a.answered) (sym c.in_ok-open.ensures.result_value)) in
    let left : List ℕ = c.open.new.secrets in
    let size : length left ≡ k = ap length c.in_ok-open.ensures.secrets_after ∙ read.size ∙ sym (part-size _ 9 room) in
    let is : take k (left ++ drop k (zeros 9)) ≡ open_left setup x.set x.shares.now x.rounds.now plain = front _ left _ size ∙ c.in_ok-open.ensures.secrets_after in
    rw is read.below

pub read_all-requires-clause-integers_len : goal.read_all-requires-clause-integers_len
read_all-requires-clause-integers_len c =
    let x = c.args in
    let setup : Setup = setup_of x.s x.matrix.now in
    let k = c.room_for-room.result in
    let plain : List ℕ = take k (zeros 9) in
    let field : x.s.p ≡ 65521 = of_field _ (sym c.in_ok-check_field.ensures) in
    let room : k ≤ 9 = rw c.room_for-room.ensures (nine (length x.corrections.now)) in
    let as_lent : length plain ≡ pick (ltb (length x.corrections.now) 9) (length x.corrections.now) 9 = sym (part-size _ 9 room) ∙ c.room_for-room.ensures in
    let read = left-read setup x.set x.shares.now x.rounds.now x.corrections.now plain field as_lent (ap (λ (a : Answer). a.answered) (sym c.in_ok-open.ensures.result_value)) in
    let left : List ℕ = c.open.new.secrets in
    let size : length left ≡ k = ap length c.in_ok-open.ensures.secrets_after ∙ read.size ∙ sym (part-size _ 9 room) in
    let is : take k (left ++ drop k (zeros 9)) ≡ open_left setup x.set x.shares.now x.rounds.now plain = front _ left _ size ∙ c.in_ok-open.ensures.secrets_after in
    rw is read.room

pub returns-clause-corrections_after : goal.returns-clause-corrections_after
returns-clause-corrections_after c =
    let x = c.args in
    let setup : Setup = setup_of x.s x.matrix.now in
    let k = c.room_for-room.result in
    let plain : List ℕ = take k (zeros 9) in
    let field : x.s.p ≡ 65521 = of_field _ (sym c.in_ok-check_field.ensures) in
    let room : k ≤ 9 = rw c.room_for-room.ensures (nine (length x.corrections.now)) in
    let as_lent : length plain ≡ pick (ltb (length x.corrections.now) 9) (length x.corrections.now) 9 = sym (part-size _ 9 room) ∙ c.room_for-room.ensures in
    let read = left-read setup x.set x.shares.now x.rounds.now x.corrections.now plain field as_lent (ap (λ (a : Answer). a.answered) (sym c.in_ok-open.ensures.result_value)) in
    let left : List ℕ = c.open.new.secrets in
    let size : length left ≡ k = ap length c.in_ok-open.ensures.secrets_after ∙ read.size ∙ sym (part-size _ 9 room) in
    let is : take k (left ++ drop k (zeros 9)) ≡ open_left setup x.set x.shares.now x.rounds.now plain = front _ left _ size ∙ c.in_ok-open.ensures.secrets_after in
    c.read_all.ensures ∙ ap corrections is ∙ read.is
