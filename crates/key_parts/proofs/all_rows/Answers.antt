-- The four rows with bytes of the key, then the three random ones.
use Rattle.base.specs.Fill.{tab}
use Rattle.key_entries.specs.Inner.{key_entry}
use Rattle.key_entries.proofs.Entries.{seven}
use Rattle.key_parts.proofs.all_rows.Goals as goal

pub returns : goal.returns
returns c =
    let key = c.args.key.now in
    seven (λ k. tab 7 (key_entry key c.args.random.now k)) c.key_row.ensures c.key_row-2.ensures c.key_row-3.ensures c.key_row-4.ensures
    (c.random_row.ensures key)
    (c.random_row-2.ensures key)
    (c.random_row-3.ensures key)
