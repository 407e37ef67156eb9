-- What is said of a text whose plain number is put directly: the text of the number, which the options of no words leave as it is.
use Rattle.std.proofs.Common.{◌≡◌, ◌∷◌, ◌++◌, ◌≤◌, ℕ, List, Option, None, Some, IfSome, Ok, Err, false, true, refl, sym, ap, ◌∙◌, arith}
use Rattle.std.specs.Prelude.{if◌then◌else◌}
use Rattle.std.specs.Str.{is_utf8}
use Rattle.writeable.specs.AnnotatedText.{Event, text_of}
use Rattle.fixed_decimal.specs.Number.{IsNumber, Number}
use Rattle.fixed_decimal.specs.SignedText.{ReadsSigned}
use Rattle.fixed_decimal.specs.SignedValue.{SignedValue}
use Rattle.icu_decimal.specs.PlainText.{Tables, decimal_text}
use Rattle.icu_decimal_direct.specs.TextDigits.{number_spelled}
use Rattle.icu_decimal_direct.specs.declared.text_digits.TextDigits.{TextDigits}
use Rattle.locale_numbers_answers.specs.NumberReading.{Reading, number, reading_of}
use Rattle.locale_numbers_answers.proofs.NumberBounds.{reading_is_decimal}
use Rattle.locale_numbers_answers.proofs.NumberReadingLemmas.{signed_number}
use Rattle.locale_numbers_answers.proofs.TextLemmas.{number_is_text}
use Rattle.locale_numbers_formats.specs.Changed.{changed, end_padded, front_padded, shown}
use Rattle.locale_numbers_formats.specs.declared.Rounding.TheVariants.{Usual}
use Rattle.locale_numbers_formats.proofs.ChangedLemmas.{same_fields}
use Rattle.locale_numbers_formatter.specs.FormatParts.{format_events}
use Rattle.locale_numbers_formatter.specs.FormatText.{plain_tables}
use Rattle.locale_numbers_formatter.specs.Laws.{FormatIsText, PlainIsLayered}
use Rattle.locale_numbers_requests.specs.declared.Refusal.TheVariants as refusal
use Rattle.legumeyet_options.specs.KeptSayers.{PutSaid, usual}
use Rattle.legumeyet_options.specs.Sayings.{Saying, number_saying, reading_saying, saying, text_said, text_saying}
use Rattle.legumeyet_options.specs.declared.saying.NotSaid.TheVariants.{Refused}
use Rattle.legumeyet_options.specs.declared.saying.Sayer.TheVariants as by

-- what the options of no words make of a number
number_kept : (n : Number) → IsNumber n → shown Usual usual n ≡ n
number_kept n is = let low = is.low in let ones = is.ones in same_fields (shown Usual usual n) n refl (omega arith) (omega arith)

kept : (d : SignedValue Number) → IsNumber d.absolute → changed usual None d ≡ d
kept d is = ap (λ (n : Number). record { sign = d.sign; absolute = n }) (number_kept d.absolute is)

pub digits_read : (text : List ℕ) (found : Option TextDigits) → IfSome found (λ digits. ReadsSigned text (number_spelled digits))
    → IfSome found (λ digits. reading_of text ≡ number (number_spelled digits))
digits_read text None reads = tt
digits_read text (Some digits) reads = signed_number text (number_spelled digits) reads

-- the text that is said
pub direct_said : FormatIsText → PlainIsLayered → (t : Tables) (text : List ℕ) (d : SignedValue Number) → reading_of text ≡ number d
    → text_said (saying (by.Writes (Some (plain_tables t)) usual false) text) ≡ Some (decimal_text t d)
direct_said texts layers t text d reads =
    ap (λ b. text_said (if b then text_saying (by.Writes (Some (plain_tables t)) usual false) text else Err (Refused refusal.Shape))) (number_is_text text d reads)
    ∙ ap (λ (reading : Reading). text_said (reading_saying (Some (plain_tables t)) usual false reading)) reads
    ∙ ap (λ (n : SignedValue Number). text_said (number_saying (plain_tables t) n)) (kept d (reading_is_decimal text d reads))
    ∙ ap Some (texts (plain_tables t) d ∙ layers t d)
