use Rattle.std.proofs.Common.{◌∙◌, sym, map, subst}
use Rattle.icu_decimal_patterns.specs.KeptEntries.{IsTable, of_type}
use Rattle.icu_decimal_patterns.specs.KeptSteps.{base_of, kept_of}
use Rattle.icu_decimal_patterns.proofs.KeptLemmas.{first_of_table, is_table, makes_entries, told_error, told_falling, told_memory, told_no_memory, told_ok}
use Rattle.icu_decimal_patterns.proofs.compact_patterns.CompactPatterns.new.Goals as goal

pub returns-in-Some-clause-decreasing : goal.returns-in-Some-clause-decreasing
returns-in-Some-clause-decreasing c =
    told_falling _ (map of_type c.args.types.entries) _ (c.never_falls.ensures.0 c.if-not-never_falls.false) (sym c.first_fault.ensures.value ∙ c.in-Some.is)

pub returns-in-Some-clause-above : goal.returns-in-Some-clause-above
returns-in-Some-clause-above c =
    rw (← c.base_at-zero.ensures) (told_error _ (map of_type c.args.types.entries) _ _ (c.never_falls.ensures.0 c.if-not-never_falls.false) (sym c.first_fault.ensures.value ∙ c.in-Some.is))

pub returns-in-Some-clause-zeros : goal.returns-in-Some-clause-zeros
returns-in-Some-clause-zeros c =
    rw (← c.base_at-zero.ensures) (told_error _ (map of_type c.args.types.entries) _ _ (c.never_falls.ensures.0 c.if-not-never_falls.false) (sym c.first_fault.ensures.value ∙ c.in-Some.is))

pub returns-in-Some-clause-only : goal.returns-in-Some-clause-only
returns-in-Some-clause-only c = first_of_table (kept_of (base_of c.base_at-zero.result) (map of_type c.args.types.entries)) c.in-Some.fault (sym c.first_fault.ensures.value ∙ c.in-Some.is)

pub returns-in-Some-clause-room : goal.returns-in-Some-clause-room
returns-in-Some-clause-room c = rw (← c.base_at-zero.ensures) (told_no_memory _ (map of_type c.args.types.entries) _ (sym c.first_fault.ensures.value ∙ c.in-Some.is))

pub returns-in-Ok-clause-above : goal.returns-in-Ok-clause-above
returns-in-Ok-clause-above c = rw (← c.base_at-zero.ensures) (told_ok _ _ (map of_type c.args.types.entries) _ (sym c.first_fault.ensures.value ∙ c.in_default.is))

pub returns-in-Ok-clause-zeros : goal.returns-in-Ok-clause-zeros
returns-in-Ok-clause-zeros c = rw (← c.base_at-zero.ensures) (told_ok _ _ (map of_type c.args.types.entries) _ (sym c.first_fault.ensures.value ∙ c.in_default.is))

pub returns-in-Ok-clause-value : goal.returns-in-Ok-clause-value
returns-in-Ok-clause-value c =
    rw (← c.base_at-zero.ensures) (subst (λ table. IsTable (base_of c.base_at-zero.result) (map of_type c.args.types.entries) table) (sym c.in-Ok.ensures.value)
    (is_table (base_of c.base_at-zero.result) (map of_type c.args.types.entries) (c.never_falls.ensures.0 c.if-not-never_falls.false) (sym c.first_fault.ensures.value ∙ c.in_default.is)))

pub returns-in-Err-clause-above : goal.returns-in-Err-clause-above
returns-in-Err-clause-above c = rw (← c.base_at-zero.ensures) (told_memory _ (map of_type c.args.types.entries) _ (sym c.first_fault.ensures.value ∙ c.in_default.is) tt)

pub returns-in-Err-clause-zeros : goal.returns-in-Err-clause-zeros
returns-in-Err-clause-zeros c = rw (← c.base_at-zero.ensures) (told_memory _ (map of_type c.args.types.entries) _ (sym c.first_fault.ensures.value ∙ c.in_default.is) tt)

pub returns-in-Err-clause-room : goal.returns-in-Err-clause-room
returns-in-Err-clause-room c =
    rw (← c.base_at-zero.ensures) (λ _. makes_entries _ (map of_type c.args.types.entries) (c.never_falls.ensures.0 c.if-not-never_falls.false) (sym c.first_fault.ensures.value ∙ c.in_default.is) c.in-Err.ensures.room)
