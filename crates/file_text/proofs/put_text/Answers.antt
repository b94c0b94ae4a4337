-- The text stands in the part that it was copied to.
use native.Mathlib.Omega.{arith}
use Rattle.file_text.proofs.Text.{put-part}
use Rattle.file_text.proofs.put_text.Goals as goal

pub returns : goal.returns
returns c = record { text = put-part _ _ _ _ c.requires c.copy_from_slice.ensures.after; place = omega arith; small = omega arith }
