-- The code's columns are the table's, by computation.
use mathlib.Core.Path.{refl, ◌∙◌}
use Rattle.base.specs.Fill.{tab, tab_from}
use Rattle.key_parts.proofs.Columns.{half, columns_of}
use Rattle.key_parts.proofs.Parts.{all_products-g, all_products-h, rows-below, columns-below}
use Rattle.key_parts.proofs.Table.{key-halves, key-parts-g, key-parts-h}
use Rattle.key_parts.proofs.write_parts.Goals as goal

pub write_products-requires : goal.write_products-requires
unfolding columns_of half tab tab_from
write_products-requires c = record { halves = key-halves _ refl; below = rows-below _ _ _ c.requires.lent c.all_rows.ensures; out_len = c.requires.gs_len.1 }

pub write_products-requires-2 : goal.write_products-requires-2
unfolding columns_of half tab tab_from
write_products-requires-2 c = record { halves = key-halves _ refl; below = columns-below _ _ _ c.requires.lent c.all_columns.ensures; out_len = c.requires.gs_len.0 }

pub returns : goal.returns
unfolding columns_of half tab tab_from
returns c =
    record {
      gs_after = c.write_products-2.ensures ∙ all_products-g _ _ _ _ c.all_columns.ensures ∙ key-parts-g _ refl _ _;
      hs_after = c.write_products.ensures ∙ all_products-h _ _ _ _ c.all_rows.ensures ∙ key-parts-h _ refl _ _;
    }
