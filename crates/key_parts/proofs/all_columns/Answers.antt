-- The four columns with bytes of the key, then the three random ones.
use Rattle.base.specs.Fill.{tab}
use Rattle.key_entries.specs.Inner.{key_entry}
use Rattle.key_entries.proofs.Entries.{seven}
use Rattle.key_parts.proofs.all_columns.Goals as goal

pub returns : goal.returns
returns c =
    let key = c.args.key.now in
    seven (λ b. tab 7 (λ k. key_entry key c.args.random.now k b)) c.key_column.ensures c.key_column-2.ensures c.key_column-3.ensures c.key_column-4.ensures
    (c.random_column.ensures key)
    (c.random_column-2.ensures key)
    (c.random_column-3.ensures key)
