-- Each way out is one that the four openings have.
-- the start, from where the members are counted
use mathlib.Core.Path.{refl, sym, ap, ◌∙◌}
use mathlib.Core.Bool.{not}
use native.Mathlib.Omega.{arith}
use Rattle.base.proofs.Matrix.{below_by}
use Rattle.board_keys.proofs.Columns.{asked, ends-few, ends-differs, ends-no-byte, ends-key}
use Rattle.board_keys.proofs.open_in_order.Goals as goal

pub returns-then-size-lt7 : goal.returns-then-size-lt7
returns-then-size-lt7 c = let both = ends-few c.args.set c.args.shares.now c.args.key.now c.requires _ c.size.ensures.0 c.if-size-lt7.true in record { result_value = both.0; key_after = both.1 }

pub interpolate-requires : goal.interpolate-requires
interpolate-requires c = let both = asked c.args.set c.args.shares.now c.args.key.now c.requires _ c.size.ensures.0 c.if-size-lt7.false in record { set_bound = both.0; in_bounds = both.1.0; below = both.1.1 }

pub returns-in_default : goal.returns-in_default
returns-in_default c = let both = ends-differs c.args.set c.args.shares.now c.args.key.now c.requires _ c.size.ensures.0 c.if-size-lt7.false c.in_default.ensures refl in record { result_value = both.0; key_after = both.1 }

pub returns-then-not-all_below : goal.returns-then-not-all_below
returns-then-not-all_below c = let both = ends-no-byte c.args.set c.args.shares.now c.args.key.now c.requires _ c.size.ensures.0 c.if-size-lt7.false c.in-Ok.ensures refl (ap not (sym c.all_below.ensures ∙ c.if-not-all_below.true)) in record { result_value = both.0; key_after = both.1 }

pub write_bytes-requires : goal.write_bytes-requires
write_bytes-requires c = record { key_len = c.requires.room; below = below_by 256 _ (omega arith) (sym c.all_below.ensures ∙ c.if-not-all_below.false) }

pub returns : goal.returns
returns c = let both = ends-key c.args.set c.args.shares.now c.args.key.now c.requires _ c.size.ensures.0 c.if-size-lt7.false c.in-Ok.ensures refl (ap not (sym c.all_below.ensures ∙ c.if-not-all_below.false)) c.write_bytes.ensures in record { result_value = both.0; key_after = both.1 }
