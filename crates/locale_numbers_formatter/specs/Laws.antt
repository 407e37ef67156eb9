-- The text by layers is that of plain numbers, of compact ones, of exact forms, of numbers with a unit and of scientific ones, as each is defined; and so are its parts and the value shown.
-- Defined in docs/plain-text.md, "Layers".
-- Cited by the functions of `laws`.
use Rattle.std.specs.Prelude.{◌≡◌, option_map}
use Rattle.writeable.specs.AnnotatedText.{text_of}
use Rattle.fixed_decimal.specs.CompactText.{CompactValue}
use Rattle.fixed_decimal.specs.Number.{Number}
use Rattle.fixed_decimal.specs.ScientificText.{ScientificValue}
use Rattle.fixed_decimal.specs.SignedValue.{SignedValue}
use Rattle.icu_decimal.specs.CompactTables.{CompactTables}
use Rattle.icu_decimal.specs.CompactText.{compact_decimal_events, compact_decimal_text, compact_formatted, value_shown}
use Rattle.icu_decimal.specs.ExactText.{exact_events, exact_formatted, exact_text}
use Rattle.icu_decimal.specs.PlainText.{Tables, decimal_events, decimal_text, formatted}
use Rattle.icu_decimal_scientific.specs.ExponentialText.{scientific_events, scientific_formatted, scientific_text}
use Rattle.icu_decimal_scientific.specs.Scientific.{ScientificParts}
use Rattle.icu_decimal_scientific.specs.ShownNumbers.{shown_exponent}
use Rattle.icu_dimension.specs.UnitText.{unit_decimal_events, unit_decimal_text, unit_formatted}
use Rattle.locale_numbers_formatter.specs.ExactForms.{exact_format_text}
use Rattle.locale_numbers_formatter.specs.FormatParts.{exact_format_events, format_events}
use Rattle.locale_numbers_formatter.specs.FormatText.{FormatTables, ScientificFormat, UnitFormat, compact_tables, compact_value, form_shown, format_text, format_value, plain_tables, scientific_tables, scientific_value, unit_tables}

-- ---- texts

abbrev pub PlainIsLayered : Type 0
PlainIsLayered = (t : Tables) (d : SignedValue Number) → format_text (plain_tables t) d ≡ decimal_text t d

abbrev pub CompactIsLayered : Type 0
CompactIsLayered = (t : CompactTables) (d : SignedValue Number) → format_text (compact_tables t) d ≡ compact_decimal_text t d

abbrev pub UnitIsLayered : Type 0
UnitIsLayered = (u : UnitFormat) (d : SignedValue Number) → format_text (unit_tables u) d ≡ unit_decimal_text u.settings d

abbrev pub CompactValueIsShown : Type 0
CompactValueIsShown = (t : CompactTables) (d : SignedValue Number) → format_value (compact_tables t) d ≡ compact_value (value_shown t d)

abbrev pub ExactIsLayered : Type 0
ExactIsLayered = (t : CompactTables) (form : CompactValue) → exact_format_text (compact_tables t) form ≡ exact_text t form.significand form.exponent

-- a scientific number as it is shown: what options leave of its form
abbrev pub scientific_number : ScientificFormat → SignedValue Number → ScientificValue
scientific_number s d =
    let form : ScientificParts = form_shown s d in record { significand = form.significand; exponent = shown_exponent s.style.exponents form.exponent }

abbrev pub ScientificIsLayered : Type 0
ScientificIsLayered = (s : ScientificFormat) (d : SignedValue Number) → format_text (scientific_tables s) d ≡ scientific_text s.settings (scientific_number s d)

abbrev pub ScientificValueIsShown : Type 0
ScientificValueIsShown = (s : ScientificFormat) (d : SignedValue Number) → format_value (scientific_tables s) d ≡ scientific_value (scientific_number s d)

-- ---- parts

abbrev pub PlainPartsAreLayered : Type 0
PlainPartsAreLayered = (t : Tables) (d : SignedValue Number) → format_events (plain_tables t) d ≡ decimal_events (formatted t d)

abbrev pub CompactPartsAreLayered : Type 0
CompactPartsAreLayered = (t : CompactTables) (d : SignedValue Number) → format_events (compact_tables t) d ≡ compact_decimal_events (compact_formatted t d)

abbrev pub UnitPartsAreLayered : Type 0
UnitPartsAreLayered = (u : UnitFormat) (d : SignedValue Number) → format_events (unit_tables u) d ≡ unit_decimal_events (unit_formatted u.settings d)

abbrev pub ScientificPartsAreLayered : Type 0
ScientificPartsAreLayered = (s : ScientificFormat) (d : SignedValue Number)
    → format_events (scientific_tables s) d ≡ scientific_events (scientific_formatted s.settings (scientific_number s d))

abbrev pub ExactPartsAreLayered : Type 0
ExactPartsAreLayered = (t : CompactTables) (form : CompactValue)
    → exact_format_events (compact_tables t) form ≡ option_map exact_events (exact_formatted t form.significand form.exponent)

-- what the events of a number write is the text of its definition, and so of an exact form
abbrev pub FormatIsText : Type 0
FormatIsText = (f : FormatTables) (d : SignedValue Number) → text_of (format_events f d) ≡ format_text f d

abbrev pub ExactFormatIsText : Type 0
ExactFormatIsText = (f : FormatTables) (form : CompactValue) → exact_format_text f form ≡ option_map text_of (exact_format_events f form)
