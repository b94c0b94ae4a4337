-- A dealt key comes back: entry b of the members' parts g is what their rows of M make of column b of F, so the opening of column b gives the first four
-- entries of that column, which are bytes 4b to 4b + 3 of the key.
-- key_back: the field of BoardKeys
use mathlib.Core.Path.{◌≡◌, refl, ap, sym, ◌∙◌}
use mathlib.Core.Bool.{true}
use mathlib.Core.List.{List, []}
use Prim.Native.Nat.{ℕ, ◌+◌, ◌*◌, ◌%◌, ◌^◌, ◌≤◌, ◌<◌}
use native.Mathlib.Nat.{mod-lt, mod-eq_of_lt}
use native.Mathlib.Omega.{arith}
use lib.ListN.{length}
use borrow.Author.Tests.{lt-ltb}
use Rattle.base.specs.Rules.{refusal, given}
use Rattle.base.specs.Search.{Vec}
use Rattle.base.specs.Fill.{tab}
use Rattle.base.specs.Matrix.{entry, flat, all_below}
use Rattle.base.proofs.Rules.{not-refused}
use Rattle.base.proofs.Search.{every-all}
use Rattle.base.proofs.Fill.{length-tab, get_d-tab, tab-ext, flat-at}
use Rattle.base.proofs.Matrix.{below-is}
use Rattle.field.specs.Dot.{at, dot}
use Rattle.scheme.specs.Setup.{row}
use Rattle.scheme.specs.Dealing.{dealt_entry, dealt, part_g}
use Rattle.scheme.specs.Sets.{holds, members}
use Rattle.scheme.specs.Calls.{deal_all_rules}
use Rattle.scheme.proofs.Members.{member-at}
use Rattle.scheme.proofs.Rounds.{agree-is}
use Rattle.scheme.proofs.Certificates.{opened-by}
use Rattle.board_keys.specs.Keys.{key_setup, deal_key_call, deal_key_left_g, member_count, column_shares, column_opened, columns_agree, key_opening, open_key_rules}
use Rattle.board_keys.proofs.Opened.{seven-determine, open_key-by-shares, open_key-gives, column-length, columns-below, column_shares-flat, key-columns, key_of, four-answered}
use Rattle.key_demand.specs.Keys.{KeyOpens, dealt_shares, named_rounds, KeyBack}

module _ (key random gs hs : List ℕ) (field : Vec 257 16 key) (e : deal_key_call key random gs hs ≡ given []) where
  F : List ℕ
  F = dealt key_setup key random

  left : List ℕ
  left = deal_key_left_g key random gs hs

  -- position k of column b of F is byte 4b + k
  entry-is : (k b : ℕ) → k < 4 → b < 4 → entry 7 F k b ≡ entry 4 key b k
  unfolding F dealt dealt_entry
  entry-is k b l h =
      get_d-tab 49 (flat 7 (dealt_entry key_setup key random)) 0 (k * 7 + b) (omega arith)
      ∙ sym (flat-at 7 (dealt_entry key_setup key random) k b (omega arith))
      ∙ rw (lt-ltb k 4 l, lt-ltb b 4 h) refl

  -- entry b of the part that holder i is dealt
  part-is : (i b : ℕ) → i < 16 → b < 7 → entry 7 left i b ≡ dot 7 (row key_setup i) (λ k. entry 7 F k b) % 257
  unfolding F left part_g
  part-is i b l h =
      rw (not-refused (refusal (deal_all_rules key_setup key random gs hs)) (given []) [] e).0
      (get_d-tab 112 (flat 7 (λ i. at (part_g key_setup F i))) 0 (i * 7 + b) (omega arith)
      ∙ sym (flat-at 7 (λ i. at (part_g key_setup F i)) i b h)
      ∙ get_d-tab 7 (λ b. dot 7 (row key_setup i) (λ k. entry 7 F k b) % 257) 0 b h)

  module _ (s : ℕ) (inside : s < 2 ^ 16) (many : 7 ≤ member_count s) where
    xs : List ℕ
    xs = dealt_shares s left

    long : length xs ≡ 4 * member_count s
    unfolding xs
    long = length-tab (4 * member_count s) _

    share-is : (b a : ℕ) → b < 4 → a < member_count s
        → at (column_shares s xs b) a ≡ dot 7 (row key_setup (at (members 16 (holds s)) a)) (λ k. entry 7 F k b) % 257
    unfolding xs
    share-is b a h l =
        ap (λ v. at v a) (column_shares-flat s (λ b a. entry 7 left (at (members 16 (holds s)) a) b) b h)
        ∙ get_d-tab (member_count s) (λ a. entry 7 left (at (members 16 (holds s)) a) b) 0 a l
        ∙ part-is (at (members 16 (holds s)) a) b (member-at 16 (holds s) a l).0 (omega arith)

    shares-vec : (b : ℕ) → b < 4 → Vec 257 (member_count s) (column_shares s xs b)
    shares-vec b h = record { size = column-length s xs b; small = λ a l. rw (share-is b a h l) (mod-lt _ (omega arith)) }

    column-is : (b : ℕ) → b < 4 → column_opened s xs b ≡ given (tab 4 (λ k. entry 4 key b k))
    unfolding column_opened
    column-is b h =
        opened-by key_setup (holds s) (column_shares s xs b) (omega arith) (seven-determine s many) (λ k. entry 7 F k b) (λ a l. sym (share-is b a h l))
        ∙ ap given (tab-ext 4 _ _ (λ k l. ap (λ z. z % 257) (entry-is k b l h) ∙ mod-eq_of_lt (field.small (b * 4 + k) (omega arith))))

    -- each column stands at the round named for it
    module _ (named : ℕ → ℕ) where
      rs : List ℕ
      rs = named_rounds s named

      one-round : columns_agree s rs ≡ true
      unfolding rs
      one-round =
          every-all 4 _ (λ b h.
          rw (column_shares-flat s (λ b a. named b) b h)
          (agree-is (named b) (tab (member_count s) (λ a. named b)) (λ a l. get_d-tab (member_count s) _ 0 a (omega (arith, length-tab (member_count s) (λ (a : ℕ). named b))))))

      opens : all_below 256 key ≡ true → (out : List ℕ) → length out ≡ 16 → KeyOpens s xs rs out key
      unfolding rs
      opens bytes out room =
          let ps = key-columns key (λ b. tab 4 (λ k. entry 4 key b k)) field.size (λ b k h l. get_d-tab 4 (λ k. entry 4 key b k) 0 k l) in
          let fine : refusal (open_key_rules s xs rs out) ≡ 0 =
          open_key-by-shares s xs rs out inside long (length-tab (4 * member_count s) _) room ∙ rw (columns-below s xs long shares-vec, one-round) refl in
          let is : key_opening s xs ≡ given key = four-answered s xs (λ b. tab 4 (λ k. entry 4 key b k)) column-is ∙ ap key_of ps ∙ rw bytes refl in
          let r = open_key-gives s xs rs out (given key) fine is in
          record { answer = r.0; buffer = r.1 }

pub key_back : KeyBack
unfolding xs left rs
key_back key random gs hs bytes e s inside many out room named =
    let field : Vec 257 16 key = record { size = bytes.size; small = λ k l. omega (arith, bytes.small k l) } in
    opens key random gs hs field e s inside many named (below-is 256 key (λ k l. bytes.small k (omega (arith, bytes.size)))) out room
