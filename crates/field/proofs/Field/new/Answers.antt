-- The five numbers of the match are the five of the definition.
use Rattle.field.proofs.Fields.{is_field_lem, not-field}
use Rattle.field.proofs.Field.new.Goals as goal

pub returns-in-2 : goal.returns-in-2
returns-in-2 c = rw (is_field_lem _ c.in-2.is)

pub returns-in_default : goal.returns-in_default
returns-in_default c = rw (not-field _ c.in_default.in_default-own.rest.1)
