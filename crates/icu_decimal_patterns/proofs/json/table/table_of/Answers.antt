use Rattle.std.proofs.Common.{None, ◌∙◌, map, sym}
use Rattle.serde_json.specs.View.{view}
use Rattle.icu_decimal_patterns.specs.KeptSteps.{kept_of}
use Rattle.icu_decimal_patterns.specs.TableSteps.{known_types}
use Rattle.icu_decimal_patterns.proofs.KeptLemmas.{first_kept, first_of_table, makes_entries, told_error, told_falling, told_memory, told_no_memory}
use Rattle.icu_decimal_patterns.proofs.json.table.table_of.Goals as goal

pub returns-in-Some-clause-decreasing : goal.returns-in-Some-clause-decreasing
returns-in-Some-clause-decreasing c = told_falling None (known_types (map view c.args.rows.now)) _ (c.never_falls.ensures.0 c.if-not-never_falls.false) (sym c.first_fault.ensures ∙ c.in-Some.is)

pub returns-in-Some-clause-above : goal.returns-in-Some-clause-above
returns-in-Some-clause-above c = told_error None (known_types (map view c.args.rows.now)) _ _ (c.never_falls.ensures.0 c.if-not-never_falls.false) (sym c.first_fault.ensures ∙ c.in-Some.is)

pub returns-in-Some-clause-zeros : goal.returns-in-Some-clause-zeros
returns-in-Some-clause-zeros c = told_error None (known_types (map view c.args.rows.now)) _ _ (c.never_falls.ensures.0 c.if-not-never_falls.false) (sym c.first_fault.ensures ∙ c.in-Some.is)

pub returns-in-Some-clause-only : goal.returns-in-Some-clause-only
returns-in-Some-clause-only c = first_of_table (kept_of None (known_types (map view c.args.rows.now))) c.in-Some.fault (sym c.first_fault.ensures ∙ c.in-Some.is)

pub returns-in-Some-clause-room : goal.returns-in-Some-clause-room
returns-in-Some-clause-room c = told_no_memory None (known_types (map view c.args.rows.now)) _ (sym c.first_fault.ensures ∙ c.in-Some.is)

pub returns-in-Err-clause-above : goal.returns-in-Err-clause-above
returns-in-Err-clause-above c = told_memory None (known_types (map view c.args.rows.now)) _ (sym c.first_fault.ensures ∙ c.in_default.is) tt

pub returns-in-Err-clause-zeros : goal.returns-in-Err-clause-zeros
returns-in-Err-clause-zeros c = told_memory None (known_types (map view c.args.rows.now)) _ (sym c.first_fault.ensures ∙ c.in_default.is) tt

pub returns-in-Err-clause-room : goal.returns-in-Err-clause-room
returns-in-Err-clause-room c =
    λ _. makes_entries None (known_types (map view c.args.rows.now)) (c.never_falls.ensures.0 c.if-not-never_falls.false) (sym c.first_fault.ensures ∙ c.in_default.is) (first_kept (known_types (map view c.args.rows.now)) c.in-Err.ensures.room)
