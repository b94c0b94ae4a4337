-- Dealing a key is dealing to all on the one setup: what can be refused, and that the parts written are scheme's.
use Prim.Native.Nat.{ℕ, zero, suc, ◌+◌, ◌*◌, ◌/◌, ◌%◌, ◌<◌}
use mathlib.Core.Path.{◌≡◌, refl, sym, ap, ◌∙◌}
use mathlib.Core.Bool.{false, not}
use mathlib.Core.List.{List, [], ◌∷◌, ◌++◌}
use native.Mathlib.Omega.{arith}
use lib.ListN.{length, get_or}
use Rattle.base.specs.Rules.{Rule, or_when, refusal, given}
use Rattle.base.specs.Fill.{tab}
use Rattle.base.specs.Matrix.{entry, flat, all_below}
use Rattle.base.proofs.Rules.{refusal-after, accepted, written}
use Rattle.base.proofs.Fill.{get_d-tab, tab-ext, flat-at}
use Rattle.base.proofs.Matrix.{entry-fits, place_at, below-is}
use Rattle.field.specs.Dot.{at}
use Rattle.field.proofs.Dot.{dot-ext, dot-same}
use Rattle.scheme.specs.Points.{points_matrix}
use Rattle.scheme.specs.Setup.{row}
use Rattle.scheme.specs.Dealing.{place, dealt_entry, dealt, part_g, part_h}
use Rattle.scheme.specs.Calls as calls
use Rattle.scheme.specs.Calls.{room, limits, size, beyond_field, sizes, in_field, deal_lent, deal_all_rules}
use Rattle.scheme.proofs.Calls.{limits-clear, size-clear, elements-clear, deal_all-ok}
use Rattle.key_entries.specs.Inner.{Lent, key_entry}
use Rattle.key_parts.specs.Inner.{entry_g, entry_h, parts_g, parts_h}
use Rattle.board_keys.specs.Keys.{key_setup, deal_key_call, deal_key_left_g, deal_key_left_h}
use Rattle.board_keys.proofs.Setup.{key-setup}

-- REFUSALS
-- a rule whose test fails changes nothing
passed : (r k : ℕ) → or_when r k false ≡ r
passed zero k = refl
passed (suc r) k = refl

module _ (key random gs hs : List ℕ) where
  abbrev lent : List calls.Lent
  lent = deal_lent key_setup key random ++ room (length gs) 112 ∷ room (length hs) 112 ∷ []

  abbrev lengths : List Rule → List Rule
  lengths l = size (length key) 16 ∷ size (length random) 33 ∷ size (length gs) 112 ∷ size (length hs) 112 ∷ l

  -- no rule on the setup or on its matrix can apply, and bytes are field elements
  pub left-to-refuse : ((k : ℕ) → get_or key k 0 < 256)
      → refusal (deal_all_rules key_setup key random gs hs) ≡ refusal (lengths (beyond_field 257 random ∷ []))
  left-to-refuse b =
      refusal-after (limits key_setup) (sizes lent ++ (in_field 257 lent ++ [])) (limits-clear key_setup key-setup.limits)
      ∙ refusal-after (size (length (points_matrix 257 7 16)) 112 ∷ []) (lengths (in_field 257 lent)) (size-clear _ 112 key-setup.matrix.size, tt)
      ∙ rw (elements-clear 257 112 (points_matrix 257 7 16) key-setup.matrix, ap not (below-is 257 key (λ k l. omega (arith, b k))))
      (ap (λ r. or_when r 4 (not (all_below 257 random))) (passed (or_when (refusal (lengths [])) 4 false) 4 ∙ passed (refusal (lengths [])) 4))

-- PARTS
module _ (key random : List ℕ) where
  same : (k b : ℕ) → k < 7 → b < 7 → key_entry key random k b ≡ entry 7 (dealt key_setup key random) k b
  unfolding key_entry dealt dealt_entry place
  same k b h m =
      flat-at 7 (dealt_entry key_setup key random) k b m
      ∙ sym (get_d-tab 49 (flat 7 (dealt_entry key_setup key random)) 0 (k * 7 + b) (entry-fits 7 7 k b h m))

  all-g : parts_g (entry 7 (points_matrix 257 7 16)) key random ≡ tab 112 (flat 7 (λ i. at (part_g key_setup (dealt key_setup key random) i)))
  unfolding parts_g entry_g part_g
  all-g =
      tab-ext 112 _ _ (λ t l.
      let w = place_at 7 16 t l in
      ap (λ z. z % 257) (dot-ext 7 (row key_setup (t / 7)) _ _ (λ k h. same k (t % 7) h w.2)) ∙ sym (get_d-tab 7 _ 0 (t % 7) w.2))

  all-h : parts_h (entry 7 (points_matrix 257 7 16)) key random ≡ tab 112 (flat 7 (λ i. at (part_h key_setup (dealt key_setup key random) i)))
  unfolding parts_h entry_h part_h
  all-h =
      tab-ext 112 _ _ (λ t l.
      let w = place_at 7 16 t l in
      ap (λ z. z % 257) (dot-same 7 _ _ _ (row key_setup (t / 7)) (λ b h. same (t % 7) b w.2 h) (λ b h. refl)) ∙ sym (get_d-tab 7 _ 0 (t % 7) w.2))

-- A CALL THAT IS NOT REFUSED
module _ (key random gs hs : List ℕ) (r : ℕ) (is : r ≡ refusal (deal_all_rules key_setup key random gs hs)) (clear : r ≡ 0) where
  taken : refusal (deal_all_rules key_setup key random gs hs) ≡ 0
  taken = sym is ∙ clear

  pub lent-right : ((k : ℕ) → get_or key k 0 < 256) → Lent key random × (length gs ≡ 112) × (length hs ≡ 112)
  lent-right b =
      let ok = deal_all-ok key_setup key random gs hs taken in
      (record { bytes = record { size = ok.0.vectors.size; small = λ k l. b k }; elements = ok.0.entries }, ok.1, ok.2)

  pub answered : given [] ≡ deal_key_call key random gs hs
  answered = accepted _ (given []) taken

  pub left-g : (out : List ℕ) → out ≡ parts_g (entry 7 (points_matrix 257 7 16)) key random → out ≡ deal_key_left_g key random gs hs
  left-g out e = written _ _ gs out taken (e ∙ all-g key random)

  pub left-h : (out : List ℕ) → out ≡ parts_h (entry 7 (points_matrix 257 7 16)) key random → out ≡ deal_key_left_h key random gs hs
  left-h out e = written _ _ hs out taken (e ∙ all-h key random)
