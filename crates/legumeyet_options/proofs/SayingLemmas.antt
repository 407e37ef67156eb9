-- Which forms have a text.
use Rattle.std.proofs.Common.{◌≡◌, List, Bool, true, false, Some, refl, sym, ◌∙◌}
use Rattle.std.proofs.lemmas.Bool.{false≢true, lt-ltb}
use Rattle.writeable.specs.AnnotatedText.{Event}
use Rattle.fixed_decimal.specs.CompactText.{CompactValue}
use Rattle.icu_decimal.specs.ExactForms.{exact_place}
use Rattle.locale_numbers_answers.specs.NumberAnswer.{is_form_in_range}
use Rattle.locale_numbers_formatter.specs.ExactForms.{IsFormInRange}
use Rattle.locale_numbers_formatter.specs.FormatParts.{exact_format_events}
use Rattle.locale_numbers_formatter.specs.FormatText.{FormatTables, compact_tables, digits_tables, plain_tables, scientific_tables, unit_tables}
use Rattle.legumeyet_options.specs.Sayings.{form_saying, says}

form_test : (f : FormatTables) (form : CompactValue) → IsFormInRange f form → is_form_in_range f form ≡ true
form_test (plain_tables t) form within = refl
form_test (compact_tables t) form within = lt-ltb (exact_place form.significand.absolute.count form.exponent) 65536 within
form_test (digits_tables t o) form within = lt-ltb (exact_place form.significand.absolute.count form.exponent) 65536 within
form_test (unit_tables u) form within = refl
form_test (scientific_tables s) form within = refl

-- a form that is not beyond the limits
never_beyond : (f : FormatTables) (form : CompactValue) → ((IsFormInRange f form → ⊥) → ⊥) → is_form_in_range f form ≡ true
never_beyond f form never = at (is_form_in_range f form) refl
  where
    at : (b : Bool) → is_form_in_range f form ≡ b → b ≡ true
    at true is = refl
    at false is = absurd (never (λ within. false≢true (sym is ∙ form_test f form within)))

-- what is said of it, where it has a text
pub form_said : (f : FormatTables) (form : CompactValue) (events : List Event) → ((IsFormInRange f form → ⊥) → ⊥) → exact_format_events f form ≡ Some events
    → form_saying (Some f) form ≡ says events
form_said f form events never is = rw (never_beyond f form never, is) refl
