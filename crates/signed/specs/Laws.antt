-- What holds of corrections and of their calls (document 02, A10); proofs/Laws.antt proves it.
-- IsRemainder: z is a multiple of 65521 and r together, and r is below 65521
-- Bijection: corrections and residues pair off one to one
-- Refusing: "22 .. before all others", and behind it the lowest number that applies
-- AllRefusing, AllMarked, Answering: of every call here, as scheme's Answering.antt has it of the others
-- Returning: what was held is read back, and what was read back is held again, through the calls
-- Signed: all of it
use Rattle.std.specs.Prelude.{◌≡◌, true, false, List, [], ◌∷◌, ℕ, ◌≤◌, ◌<◌, ℤ, pos, ◌+ℤ◌, ◌*ℤ◌, length}
use Rattle.base.specs.Rules.{Rule, refusal, Lowest, given}
use Rattle.base.specs.Search.{Vec}
use Rattle.scheme.specs.Setup.{Setup}
use Rattle.scheme.specs.Opening.{agree}
use Rattle.scheme.specs.Calls.{size, open_call, combine_rules, combine_call}
use Rattle.scheme.specs.Answering.{Marked, Answers}
use Rattle.signed.specs.Corrections.{in_range, all_in_range, residue, residues, correction}
use Rattle.signed.specs.Calls.{other_field, hold_rules, hold_call, hold_left, read_rules, read_call, read_left, combine_signed_rules, combine_signed_call, open_signed_rules, open_signed_call}

-- "a correction from −32,760 to 32,760 is held as its remainder, and an opened element is read back into that range"
pub record IsRemainder (z : ℤ) (r : ℕ) : Type 0 where
  pub times : ℤ
  pub rest : z ≡ times *ℤ pos 65521 +ℤ pos r
  pub below : r < 65521

pub record Bijection : Type 0 where
  -- of every integer, and it is the only one
  pub remainder : (z : ℤ) → IsRemainder z (residue z)
  pub only : (z : ℤ) (r : ℕ) → IsRemainder z r → r ≡ residue z
  -- every residue is read back, into the range; there and back it is itself, and so is every correction
  pub into-range : (r : ℕ) → r < 65521 → in_range (correction r) ≡ true
  pub held-again : (r : ℕ) → r < 65521 → residue (correction r) ≡ r
  pub back-again : (z : ℤ) → in_range z ≡ true → correction (residue z) ≡ z

pub record Refusing (zs : List ℤ) (whole behind : List Rule) : Type 0 where
  pub first : all_in_range zs ≡ false → refusal whole ≡ 22
  pub after : all_in_range zs ≡ true → refusal whole ≡ refusal behind
  pub lowest : Lowest behind

pub record AllRefusing : Type 0 where
  pub hold : (p : ℕ) (zs : List ℤ) (out : List ℕ) → Refusing zs (hold_rules p zs out) (other_field p ∷ size (length out) (length zs) ∷ [])
  pub combine : (p : ℕ) (cs : List ℤ) (xs rs : List ℕ) → Refusing cs (combine_signed_rules p cs xs rs) (other_field p ∷ combine_rules p (residues cs) xs rs)
  -- no correction or constant is handed in to these
  pub read : (p : ℕ) (xs : List ℕ) (out : List ℤ) → Lowest (read_rules p xs out)
  pub opening : (S : Setup) (s : ℕ) (xs rs : List ℕ) (out : List ℤ) → Lowest (open_signed_rules S s xs rs out)

pub record AllMarked : Type 0 where
  pub hold : (p : ℕ) (zs : List ℤ) (out : List ℕ) → Marked (hold_call p zs out)
  pub read : (p : ℕ) (xs : List ℕ) (out : List ℤ) → Marked (read_call p xs out)
  pub combine : (p : ℕ) (cs : List ℤ) (xs rs : List ℕ) → Marked (combine_signed_call p cs xs rs)
  pub opening : (S : Setup) (s : ℕ) (xs rs : List ℕ) (out : List ℤ) → Marked (open_signed_call S s xs rs out)

-- a call whose inputs break nothing answers; a combination and an opening answer as the plain ones do
pub record Answering : Type 0 where
  pub hold : (zs : List ℤ) (out : List ℕ) → all_in_range zs ≡ true → length out ≡ length zs → Answers (hold_call 65521 zs out)
  pub read : (k : ℕ) (xs : List ℕ) (out : List ℤ) → Vec 65521 k xs → length out ≡ k → Answers (read_call 65521 xs out)
  pub combine : (k : ℕ) (cs : List ℤ) (xs rs : List ℕ) → k ≤ 64 → all_in_range cs ≡ true → length cs ≡ k → Vec 65521 k xs → length rs ≡ k → agree rs ≡ true
      → Answers (combine_signed_call 65521 cs xs rs)
  pub as-combine : (p : ℕ) (cs : List ℤ) (xs rs : List ℕ) → all_in_range cs ≡ true → p ≡ 65521 → combine_signed_call p cs xs rs ≡ combine_call p (residues cs) xs rs
  pub as-open : (S : Setup) (s : ℕ) (xs rs : List ℕ) (out : List ℤ) (plain : List ℕ) → S.p ≡ 65521 → length plain ≡ length out
      → open_signed_call S s xs rs out ≡ open_call S s xs rs plain

pub record Returning : Type 0 where
  pub back : (p : ℕ) (zs : List ℤ) (out : List ℕ) (lent : List ℤ) → hold_call p zs out ≡ given [] → length lent ≡ length zs
      → (read_call p (hold_left p zs out) lent ≡ given []) × (read_left p (hold_left p zs out) lent ≡ zs)
  pub again : (p : ℕ) (xs : List ℕ) (out : List ℤ) (lent : List ℕ) → read_call p xs out ≡ given [] → length lent ≡ length xs
      → (hold_call p (read_left p xs out) lent ≡ given []) × (hold_left p (read_left p xs out) lent ≡ xs)

pub record Signed : Type 0 where
  pub bijection : Bijection
  pub refusing : AllRefusing
  pub marked : AllMarked
  pub answering : Answering
  pub returning : Returning
