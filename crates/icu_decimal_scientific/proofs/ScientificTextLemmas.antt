-- The text of a scientific number.
use Rattle.std.proofs.Common.{◌≡◌, ℕ, List, ◌++◌, refl, ap, ◌∙◌}
use Rattle.writeable.specs.AnnotatedText.{Event, text_of}
use Rattle.std.specs.Prelude.{codes}
use Rattle.writeable.specs.SinkLaws.{text_of_joined}
use Rattle.fixed_decimal.specs.Number.{Number}
use Rattle.fixed_decimal.specs.ScientificText.{ScientificValue}
use Rattle.fixed_decimal.specs.SignedValue.{SignedValue}
use Rattle.fixed_decimal.specs.declared.Sign.{Sign}
use Rattle.fixed_decimal.specs.declared.Sign.TheVariants.{None as NoSign, Negative, Positive}
use Rattle.icu_decimal_plain.specs.Affixes.{affixes_of, as_part, decimal_part}
use Rattle.icu_decimal_plain.specs.PlainText.{PlainNumber, Tables, decimal_text, prefix_text, suffix_text, unsigned_events, unsigned_text}
use Rattle.icu_decimal_plain.proofs.TextLemmas.{text_of_part, text_with_sign, unsigned_is_text}
use Rattle.icu_decimal_scientific.specs.ExponentialText.{Exponential, ScientificSettings, SignedExponent, exponent_events, exponential_events, exponential_text, integer_events, scientific_formatted, sign_events, signed_exponent}
use Rattle.icu_decimal_scientific.specs.ScientificTextLaws.{ScientificIsText}

-- two texts one after another
both_texts : (first second : List Event) (one other : List ℕ) → text_of first ≡ one → text_of second ≡ other → text_of (first ++ second) ≡ one ++ other
both_texts first second one other same alike =
    text_of_joined first second ∙ ap (λ text. text ++ text_of second) same ∙ ap (λ text. one ++ text) alike

prefix_is : (t : Tables) (sign : Sign) → text_of (sign_events sign (prefix_text (affixes_of t.symbols.strings sign))) ≡ prefix_text (affixes_of t.symbols.strings sign)
prefix_is t NoSign = refl
prefix_is t Negative = text_of_part (decimal_part (codes "exponentMinusSign")) t.symbols.strings.minus_sign_prefix
prefix_is t Positive = text_of_part (decimal_part (codes "exponentPlusSign")) t.symbols.strings.plus_sign_prefix

suffix_is : (t : Tables) (sign : Sign) → text_of (sign_events sign (suffix_text (affixes_of t.symbols.strings sign))) ≡ suffix_text (affixes_of t.symbols.strings sign)
suffix_is t NoSign = refl
suffix_is t Negative = text_of_part (decimal_part (codes "exponentMinusSign")) t.symbols.strings.minus_sign_suffix
suffix_is t Positive = text_of_part (decimal_part (codes "exponentPlusSign")) t.symbols.strings.plus_sign_suffix

integer_is : (n : PlainNumber) → text_of (integer_events n) ≡ unsigned_text n.tables n.number
integer_is n = text_of_part (decimal_part (codes "exponentInteger")) (text_of (unsigned_events n)) ∙ unsigned_is_text n

exponent_is_text : (t : Tables) (exponent : SignedValue Number) → text_of (exponent_events (signed_exponent t exponent)) ≡ decimal_text t exponent
exponent_is_text t exponent =
    let e : SignedExponent = signed_exponent t exponent in
    both_texts (sign_events e.sign e.prefix) (integer_events e.number ++ sign_events e.sign e.suffix) e.prefix (unsigned_text t exponent.absolute ++ e.suffix) (prefix_is t exponent.sign)
    (both_texts (integer_events e.number) (sign_events e.sign e.suffix) (unsigned_text t exponent.absolute) e.suffix (integer_is e.number) (suffix_is t exponent.sign))

exponential_is_text : (s : ScientificSettings) (v : ScientificValue) → text_of (exponential_events (scientific_formatted s v).value) ≡ exponential_text s v.significand.absolute v.exponent
exponential_is_text s v =
    let n : Exponential = (scientific_formatted s v).value in
    let separator : List Event = as_part (decimal_part (codes "exponentSeparator")) s.separator in
    both_texts (unsigned_events n.number) (separator ++ exponent_events n.exponent) (unsigned_text s.tables v.significand.absolute) (s.separator ++ decimal_text s.exponents v.exponent) (unsigned_is_text n.number)
    (both_texts separator (exponent_events n.exponent) s.separator (decimal_text s.exponents v.exponent) (text_of_part (decimal_part (codes "exponentSeparator")) s.separator) (exponent_is_text s.exponents v.exponent))

pub scientific_is_text : ScientificIsText
scientific_is_text s v =
    text_with_sign (affixes_of s.tables.symbols.strings v.significand.sign) (exponential_events (scientific_formatted s v).value) (exponential_text s v.significand.absolute v.exponent) (exponential_is_text s v)
