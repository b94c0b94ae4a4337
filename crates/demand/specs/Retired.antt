-- Refusal 14 is retired (document 02, A1: "Refusal 14 then never occurs; show that"): no call of the library gives it, whatever it is handed;
-- proofs/Retired.antt proves it.
-- retired: that number
-- NotGiven: an answer has another number
-- NeverGiven: no answer has it, one line for each call
use Rattle.std.specs.Prelude.{◌≡◌, List, ℕ, ℤ}
use Rattle.base.specs.Rules.{Answer}
use Rattle.field.specs.Fields.{field_answer}
use Rattle.scheme.specs.Setup.{Setup}
use Rattle.scheme.specs.Calls.{Buffers, points_call, deal_call, deal_all_call, deal_mapped_call, deal_mapped_all_call, deal_zero_call, deal_zero_all_call, pair_value_call, judge_call, judge_mapped_call, judge_zero_call, outcome_call, rehearse_call, determines_call, private_call, judge_set_call, open_call, combine_call, refresh_call}
use Rattle.signed.specs.Calls.{hold_call, read_call, combine_signed_call, open_signed_call}
use Rattle.board_keys.specs.Keys.{deal_key_call, open_key_call}
use Rattle.record_layouts.specs.declared.DealingRecord.{DealingRecord}
use Rattle.record_layouts.specs.declared.PairRecord.{PairRecord}
use Rattle.record_layouts.specs.declared.VerdictRecord.{VerdictRecord}
use Rattle.record_layouts.specs.declared.ShareRecord.{ShareRecord}
use Rattle.record_layouts.specs.Records.{write_setup_call, read_setup_call, read_matrix_call, write_dealing_call, read_dealing_call, write_mapped_call, read_mapped_call, write_zero_call, read_zero_call, write_pair_call, read_pair_call, write_mapped_pair_call, read_mapped_pair_call, write_verdict_call, read_verdict_call, write_share_call, read_share_call}
use Rattle.superseding.specs.Superseding.{superseding_call}
use Rattle.holder_file.specs.Calls.{holder_file_call, file_contents_call}

abbrev pub retired : ℕ
retired = 14

abbrev pub NotGiven : Answer → Type 0
NotGiven a = a.number ≡ retired → ⊥

pub record NeverGiven : Type 0 where
  pub field : (p : ℕ) → NotGiven (field_answer p)
  -- dealing, judging, sets and openings
  pub points : (S : Setup) → NotGiven (points_call S)
  pub deal : (S : Setup) (secrets random : List ℕ) (i : ℕ) (g h : List ℕ) → NotGiven (deal_call S secrets random i g h)
  pub deal-all : (S : Setup) (secrets random gs hs : List ℕ) → NotGiven (deal_all_call S secrets random gs hs)
  pub deal-mapped : (S : Setup) (secrets random phi random2 : List ℕ) (i : ℕ) (B : Buffers) → NotGiven (deal_mapped_call S secrets random phi random2 i B)
  pub deal-mapped-all : (S : Setup) (secrets random phi random2 : List ℕ) (B : Buffers) → NotGiven (deal_mapped_all_call S secrets random phi random2 B)
  pub deal-zero : (S : Setup) (random : List ℕ) (i : ℕ) (g h : List ℕ) → NotGiven (deal_zero_call S random i g h)
  pub deal-zero-all : (S : Setup) (random gs hs : List ℕ) → NotGiven (deal_zero_all_call S random gs hs)
  pub pair-value : (S : Setup) (g : List ℕ) (i : ℕ) → NotGiven (pair_value_call S g i)
  pub judge : (S : Setup) (h values : List ℕ) → NotGiven (judge_call S h values)
  pub judge-mapped : (S : Setup) (h values phi h2 values2 : List ℕ) → NotGiven (judge_mapped_call S h values phi h2 values2)
  pub judge-zero : (S : Setup) (h values : List ℕ) → NotGiven (judge_zero_call S h values)
  pub outcome : (S : Setup) (g verdicts out : List ℕ) → NotGiven (outcome_call S g verdicts out)
  pub rehearse : (S : Setup) (gs hs : List ℕ) → NotGiven (rehearse_call S gs hs)
  pub determines : (S : Setup) (s : ℕ) → NotGiven (determines_call S s)
  pub private : (S : Setup) (s : ℕ) → NotGiven (private_call S s)
  pub judge-set : (S : Setup) (s q : ℕ) (out : List ℕ) → NotGiven (judge_set_call S s q out)
  pub opening : (S : Setup) (s : ℕ) (xs rs out : List ℕ) → NotGiven (open_call S s xs rs out)
  pub combine : (p : ℕ) (cs xs rs : List ℕ) → NotGiven (combine_call p cs xs rs)
  pub refresh : (p x round z : ℕ) → NotGiven (refresh_call p x round z)
  -- corrections and signed constants
  pub hold : (p : ℕ) (zs : List ℤ) (out : List ℕ) → NotGiven (hold_call p zs out)
  pub read : (p : ℕ) (xs : List ℕ) (out : List ℤ) → NotGiven (read_call p xs out)
  pub combine-signed : (p : ℕ) (cs : List ℤ) (xs rs : List ℕ) → NotGiven (combine_signed_call p cs xs rs)
  pub open-signed : (S : Setup) (s : ℕ) (xs rs : List ℕ) (out : List ℤ) → NotGiven (open_signed_call S s xs rs out)
  -- board keys
  pub deal-key : (key random gs hs : List ℕ) → NotGiven (deal_key_call key random gs hs)
  pub open-key : (s : ℕ) (xs rs out : List ℕ) → NotGiven (open_key_call s xs rs out)
  -- records
  pub write-setup : (S : Setup) (out : List ℕ) → NotGiven (write_setup_call S out)
  pub read-setup : (s : List ℕ) → NotGiven (read_setup_call s)
  pub read-matrix : (s m : List ℕ) → NotGiven (read_matrix_call s m)
  pub write-dealing : (S : Setup) (x : DealingRecord) (g h out : List ℕ) → NotGiven (write_dealing_call S x g h out)
  pub read-dealing : (S : Setup) (s g h : List ℕ) → NotGiven (read_dealing_call S s g h)
  pub write-mapped-dealing : (S : Setup) (x : DealingRecord) (g h phi out : List ℕ) → NotGiven (write_mapped_call S x g h phi out)
  pub read-mapped-dealing : (S : Setup) (s g h phi : List ℕ) → NotGiven (read_mapped_call S s g h phi)
  pub write-zero-dealing : (S : Setup) (x : DealingRecord) (g h out : List ℕ) → NotGiven (write_zero_call S x g h out)
  pub read-zero-dealing : (S : Setup) (s g h : List ℕ) → NotGiven (read_zero_call S s g h)
  pub write-pair : (S : Setup) (x : PairRecord) (out : List ℕ) → NotGiven (write_pair_call S x out)
  pub read-pair : (S : Setup) (s : List ℕ) → NotGiven (read_pair_call S s)
  pub write-mapped-pair : (S : Setup) (x : PairRecord) (out : List ℕ) → NotGiven (write_mapped_pair_call S x out)
  pub read-mapped-pair : (S : Setup) (s : List ℕ) → NotGiven (read_mapped_pair_call S s)
  pub write-verdict : (S : Setup) (x : VerdictRecord) (out : List ℕ) → NotGiven (write_verdict_call S x out)
  pub read-verdict : (S : Setup) (s : List ℕ) → NotGiven (read_verdict_call S s)
  pub write-share : (S : Setup) (x : ShareRecord) (out : List ℕ) → NotGiven (write_share_call S x out)
  pub read-share : (S : Setup) (s : List ℕ) → NotGiven (read_share_call S s)
  pub superseding : (S : Setup) (a b : List ℕ) → NotGiven (superseding_call S a b)
  -- files
  pub file-text : (s out : List ℕ) → NotGiven (holder_file_call s out)
  pub file-contents : (s out : List ℕ) → NotGiven (file_contents_call s out)
