-- The part of the record that the answer names; a record that reads well stands there whole.
use mathlib.Core.Bool.{Bool}
use mathlib.Core.List.{[]}
use mathlib.Core.Path.{sym, ap}
use lib.Seq.{length-take-le}
use Rattle.base.specs.Choice.{pick}
use Rattle.scheme.specs.Setup.{setup_of}
use Rattle.superseding.proofs.Reading.{first-chosen, second-chosen, none}
use Rattle.superseding.proofs.superseding_part.Goals as goal

pub slice_bounds-result-end : goal.slice_bounds-result-end
slice_bounds-result-end c =
    let x = c.args in
    sym (length-take-le 12 x.first.now (first-chosen (setup_of x.s []) x.first.now x.second.now (rw c.in-Ok-First.field-0-is at c.in-Ok-First.ensures)).0)

pub slice_bounds-result-end-in-Ok-Second : goal.slice_bounds-result-end-in-Ok-Second
slice_bounds-result-end-in-Ok-Second c =
    let x = c.args in
    sym (length-take-le 12 x.second.now (second-chosen (setup_of x.s []) x.first.now x.second.now (rw c.in-Ok-Second.field-0-is at c.in-Ok-Second.ensures)).0)

pub returns-in-Ok-First : goal.returns-in-Ok-First
returns-in-Ok-First c =
    let x = c.args in
    let r = first-chosen (setup_of x.s []) x.first.now x.second.now (rw c.in-Ok-First.field-0-is at c.in-Ok-First.ensures) in record { content = sym r.1; place = ap (λ (t : Bool). pick t x.second.ref_ptr x.first.ref_ptr) (sym r.2) }

pub returns-in-Ok-Second : goal.returns-in-Ok-Second
returns-in-Ok-Second c =
    let x = c.args in
    let r = second-chosen (setup_of x.s []) x.first.now x.second.now (rw c.in-Ok-Second.field-0-is at c.in-Ok-Second.ensures) in record { content = sym r.1; place = ap (λ (t : Bool). pick t x.second.ref_ptr x.first.ref_ptr) (sym r.2) }

pub returns-in-Err : goal.returns-in-Err
returns-in-Err c =
    let x = c.args in
    let r = none (setup_of x.s []) x.first.now x.second.now _ c.in-Err.ensures in record { content = sym r.0; place = ap (λ (t : Bool). pick t x.second.ref_ptr x.first.ref_ptr) (sym r.1) }
