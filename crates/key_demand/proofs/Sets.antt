-- Seven depots open a key and three are private, by scheme's points laws: a set of the sixteen determines the secrets exactly if it has seven members or
-- more, and is private exactly if it has three or fewer.
-- key-sets: the field of BoardKeys
use mathlib.Core.Path.{◌≡◌, refl, ◌∙◌}
use Prim.Native.Nat.{ℕ, ◌^◌, ◌<◌}
use native.Mathlib.Omega.{arith}
use borrow.Author.Tests.{le-leb, lt-leb}
use lib.Dec.{leb}
use Rattle.base.specs.Rules.{refusal}
use Rattle.scheme.specs.Answers.{undetermined}
use Rattle.scheme.specs.Sets.{holds, is_private}
use Rattle.scheme.specs.Calls.{set_rules}
use Rattle.scheme.proofs.Calls.{set-accepts}
use Rattle.scheme.proofs.PointSets.{point-sets}
use Rattle.board_keys.specs.Keys.{key_setup, member_count}
use Rattle.board_keys.proofs.Setup.{key-points}
use Rattle.board_keys.proofs.Opened.{key_set, seven-determine, fewer-fail, open_key-accepts, open_key-gives, few-open}
use Rattle.key_demand.specs.Keys.{KeySets}

pub key-sets : (s : ℕ) → s < 2 ^ 16 → KeySets s
key-sets s inside =
    record {
      seven = λ many. rw (fine, seven-determine s many) refl;
      fewer = λ few. rw (fine, fewer-fail s few) refl;
      six = λ few xs rs out v long one room.
          open_key-gives s xs rs out (undetermined 0) (open_key-accepts s xs rs out (record { inside = inside; shares = v; rounds = long; one-round = one; room = room }))
          (few-open s xs few);
      three = λ few. rw (fine, private-by ∙ le-leb (member_count s) 3 few) refl;
      four = λ many. rw (fine, private-by ∙ lt-leb (member_count s) 3 many) refl;
    }
  where
    fine : refusal (set_rules key_setup s) ≡ 0
    fine = set-accepts key_setup s (key_set s inside)

    private-by : is_private key_setup (holds s) ≡ leb (member_count s) 3
    private-by = (point-sets key_setup key-points (holds s)).private (omega arith)
