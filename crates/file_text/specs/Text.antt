-- What a function that writes text leaves in a lent buffer.
-- Wrote: the text t stands from the place `at` on and all else is as it was; r is the place after it, and at most `room` bytes were taken
-- Printed: the first r bytes are the text t, r is its length, and the rest is as it was
use Rattle.std.specs.Prelude.{◌≡◌, List, ℕ, ◌+◌, ◌≤◌, length, take, drop}
use Rattle.std.proofs.lemmas.List.Edits.{sets}

pub record Wrote (before : List ℕ) (at : ℕ) (t : List ℕ) (room : ℕ) (after : List ℕ) (r : ℕ) : Type 0 where
  pub text : after ≡ sets before at t
  pub place : r ≡ at + length t
  pub small : r ≤ at + room

pub record Printed (before t after : List ℕ) (r : ℕ) : Type 0 where
  pub text : take r after ≡ t
  pub rest : drop r after ≡ drop r before
  pub count : r ≡ length t
  pub fits : r ≤ length after
