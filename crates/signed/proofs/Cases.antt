-- Corrections, residues, refusals and combinations on numbers, by computation: a definition that is changed together with the code is seen here.
use mathlib.Core.Path.{◌≡◌, refl}
use mathlib.Core.Bool.{true, false}
use mathlib.Core.List.{[], ◌∷◌}
use lib.IntN.{pos, negsuc, ◌*ℤ◌}
use lib.ListN.{get_or}
use Rattle.base.specs.Rules.{refused, given}
use Rattle.base.specs.Sum.{sum}
use Rattle.base.specs.Search.{every}
use Rattle.base.specs.Fill.{tab, tab_from}
use Rattle.base.specs.Matrix.{all_below, all_are}
use Rattle.field.specs.Fields.{is_field}
use Rattle.field.specs.Dot.{dot}
use Rattle.scheme.specs.Opening.{combine}
use Rattle.signed.specs.Integers.{total, remainder}
use Rattle.signed.specs.Corrections.{in_range, all_in_range, residue, residues, correction, corrections}
use Rattle.signed.specs.Calls.{hold_call, hold_left, read_call, read_left, combine_signed_call}

-- both ends, zero, and beside them
pub record Held : Type 0 where
  pub low : residue (negsuc 32759) ≡ 32761
  pub minus_one : residue (negsuc 0) ≡ 65520
  pub zero : residue (pos 0) ≡ 0
  pub high : residue (pos 32760) ≡ 32760
  pub back_low : correction 32761 ≡ negsuc 32759
  pub back-minus-one : correction 65520 ≡ negsuc 0
  pub back-zero : correction 0 ≡ pos 0
  pub back-high : correction 32760 ≡ pos 32760
  pub in-low : in_range (negsuc 32759) ≡ true
  pub in-high : in_range (pos 32760) ≡ true
  pub below : in_range (negsuc 32760) ≡ false
  pub above : in_range (pos 32761) ≡ false
  pub whole : (residue (pos 65521) ≡ 0) × (residue (negsuc 65520) ≡ 0) × (residue (negsuc 65521) ≡ 65520)

pub held : Held
unfolding residue remainder correction
held =
    record {
      low = refl;
      minus_one = refl;
      zero = refl;
      high = refl;
      back_low = refl;
      back-minus-one = refl;
      back-zero = refl;
      back-high = refl;
      in-low = refl;
      in-high = refl;
      below = refl;
      above = refl;
      whole = (refl, refl, refl);
    }

-- −2 · 5 + 3 · −1 + 1 · 0
pub sum-of-products : total 3 (λ t. get_or (negsuc 1 ∷ pos 3 ∷ pos 1 ∷ []) t (pos 0) *ℤ get_or (pos 5 ∷ negsuc 0 ∷ pos 0 ∷ []) t (pos 0)) ≡ negsuc 12
unfolding total
sum-of-products = refl

-- the calls, and the order of their refusals: 22 before 1 before 3 before 4 before 19
pub record Called : Type 0 where
  pub hold : hold_left 65521 (negsuc 32759 ∷ pos 0 ∷ pos 32760 ∷ negsuc 0 ∷ []) (9 ∷ 9 ∷ 9 ∷ 9 ∷ []) ≡ 32761 ∷ 0 ∷ 32760 ∷ 65520 ∷ []
  pub hold-none : hold_call 65521 [] [] ≡ given []
  pub hold-beyond : hold_call 257 (pos 32761 ∷ []) [] ≡ refused 22
  pub hold-beyond-left : hold_left 65521 (pos 0 ∷ negsuc 32760 ∷ []) (8 ∷ 9 ∷ []) ≡ 8 ∷ 9 ∷ []
  pub hold-other : hold_call 257 (pos 1 ∷ []) [] ≡ refused 1
  pub hold-room : hold_call 65521 (pos 1 ∷ []) (1 ∷ 2 ∷ []) ≡ refused 3
  pub read : read_left 65521 (32761 ∷ 0 ∷ 32760 ∷ 65520 ∷ []) (pos 9 ∷ pos 9 ∷ pos 9 ∷ pos 9 ∷ []) ≡ negsuc 32759 ∷ pos 0 ∷ pos 32760 ∷ negsuc 0 ∷ []
  pub read-other : read_call 251 (65521 ∷ []) [] ≡ refused 1
  pub read-room : read_call 65521 (65521 ∷ []) [] ≡ refused 3
  pub read-element : read_call 65521 (65521 ∷ []) (pos 7 ∷ []) ≡ refused 4
  pub read-element-left : read_left 65521 (1 ∷ 65521 ∷ []) (pos 7 ∷ pos 8 ∷ []) ≡ pos 7 ∷ pos 8 ∷ []
  pub combine : combine_signed_call 65521 (negsuc 1 ∷ pos 3 ∷ []) (5 ∷ 65520 ∷ []) (4 ∷ 4 ∷ []) ≡ given (65508 ∷ 4 ∷ [])
  pub combine-none : combine_signed_call 65521 [] [] [] ≡ given (0 ∷ 0 ∷ [])
  pub combine-beyond : combine_signed_call 7 (negsuc 32760 ∷ []) [] [] ≡ refused 22
  pub combine-other : combine_signed_call 7 (negsuc 0 ∷ []) [] [] ≡ refused 1
  pub combine-lengths : combine_signed_call 65521 (negsuc 0 ∷ []) (65521 ∷ 0 ∷ []) (1 ∷ []) ≡ refused 3
  pub combine-element : combine_signed_call 65521 (pos 1 ∷ pos 1 ∷ []) (65521 ∷ 0 ∷ []) (0 ∷ 1 ∷ []) ≡ refused 4
  pub combine-rounds : combine_signed_call 65521 (pos 1 ∷ pos 1 ∷ []) (0 ∷ 0 ∷ []) (0 ∷ 1 ∷ []) ≡ refused 19

pub called : Called
unfolding residue residues remainder correction corrections all_in_range every tab tab_from all_below all_are is_field combine dot sum
called =
    record {
      hold = refl;
      hold-none = refl;
      hold-beyond = refl;
      hold-beyond-left = refl;
      hold-other = refl;
      hold-room = refl;
      read = refl;
      read-other = refl;
      read-room = refl;
      read-element = refl;
      read-element-left = refl;
      combine = refl;
      combine-none = refl;
      combine-beyond = refl;
      combine-other = refl;
      combine-lengths = refl;
      combine-element = refl;
      combine-rounds = refl;
    }
