-- The text that a number's events write is the text of its definition.
-- Defined in docs/plain-text.md, "The text of a number".
-- Cited by `laws::text_law`.
use Rattle.std.specs.Prelude.{◌≡◌}
use Rattle.writeable.specs.AnnotatedText.{text_of}
use Rattle.fixed_decimal.specs.Number.{Number}
use Rattle.fixed_decimal.specs.SignedValue.{SignedValue}
use Rattle.icu_decimal_plain.specs.PlainText.{PlainNumber, Tables, decimal_events, decimal_text, formatted, unsigned_events, unsigned_text}

abbrev pub UnsignedIsText : Type 0
UnsignedIsText = (p : PlainNumber) → text_of (unsigned_events p) ≡ unsigned_text p.tables p.number

abbrev pub DecimalIsText : Type 0
DecimalIsText = (t : Tables) (d : SignedValue Number) → text_of (decimal_events (formatted t d)) ≡ decimal_text t d
