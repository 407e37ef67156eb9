-- Texts put one after the other: the whole is put, and where it fits each fits.
use Rattle.std.proofs.Common.{◌≡◌, ◌≤◌, ◌+◌, List, ◌∷◌, ◌++◌, ℕ, length, map, sym, ap, ◌∙◌, subst}
use Rattle.std.proofs.lemmas.Bool.{eq-eqb}
use Rattle.std.proofs.lemmas.List.{append_assoc}
use Rattle.writeable.specs.AnnotatedText.{bytes, text_of as written_text}
use Rattle.fixed_decimal.specs.CompactText.{CompactValue, compact_text_of}
use Rattle.fixed_decimal.specs.Number.{Number, fraction_digits, whole_digits}
use Rattle.fixed_decimal.specs.NumberText.{after_point, character}
use Rattle.fixed_decimal.specs.ScientificText.{ScientificValue, scientific_text_of}
use Rattle.fixed_decimal.specs.SignedText.{sign_text, signed_text_of}
use Rattle.fixed_decimal.specs.SignedValue.{SignedValue}
use Rattle.fixed_decimal.proofs.UnsignedWritingLemmas.{events_text}
use Rattle.icu_decimal.specs.Affixes.{WithSign}
use Rattle.icu_decimal.specs.CompactTables.{CompactTables}
use Rattle.icu_decimal.specs.CompactText.{compact_decimal_text, value_shown}
use Rattle.icu_decimal.specs.ShownChoice.{CanShow}
use Rattle.icu_decimal_scientific.specs.ExponentialText.{Exponential, ScientificSettings, scientific_events, scientific_formatted, scientific_text}
use Rattle.icu_decimal_scientific.specs.FormOf.{below_form}
use Rattle.icu_decimal_scientific.specs.ScientificTextLaws.{ScientificIsText}
use Rattle.locale_numbers_lines.specs.Growth.{Grows}
use Rattle.locale_numbers_answers.specs.AnswerLine.{refused, written}
use Rattle.locale_numbers_answers.specs.NumberAnswer.{number_answer, text_and_value}
use Rattle.locale_numbers_formats.specs.declared.NumberOptions.{NumberOptions}
use Rattle.locale_numbers_formatter.specs.CompactDigits.{below_exponent}
use Rattle.locale_numbers_formatter.specs.FormatText.{ScientificFormat, ShownValue, compact_tables, compact_value, digits_tables, format_text, format_value, scientific_tables, shown_text}
use Rattle.locale_numbers_formatter.specs.ShownOperands.{is_shown}
use Rattle.locale_numbers_formatter.specs.Laws.{CompactIsLayered, CompactValueIsShown, ScientificIsLayered, ScientificValueIsShown, scientific_number}
use Rattle.locale_numbers_requests.specs.Request.{tab}
use Rattle.locale_numbers_requests.specs.declared.Refusal.TheVariants as refusal
use Rattle.locale_numbers_answers.proofs.AnswerLineLemmas.{fits_after, front_fits, two_texts}
use Rattle.locale_numbers_answers.proofs.CompactAnswerLemmas.{by_test, can_test}

module _ (front back whole old : List ℕ) (is : front ++ back ≡ whole) where
  pub put_after : (begun new : List ℕ) → begun ≡ old ++ front → new ≡ begun ++ back → new ≡ old ++ whole
  put_after begun new put rest = rest ∙ ap (λ held. held ++ back) put ∙ append_assoc old front back ∙ ap (λ text. old ++ text) is

  pub first_fits : (room : ℕ) → length old + length whole ≤ room → length old + length front ≤ room
  first_fits room fits = front_fits front back old room (subst (λ text. length old + length text ≤ room) (sym is) fits)

  pub second_fits : (begun : List ℕ) (before after : ℕ) → begun ≡ old ++ front → before ≤ after → length old + length whole ≤ before → length begun + length back ≤ after
  second_fits begun before after put grows fits = fits_after front back old begun before after put grows (subst (λ text. length old + length text ≤ before) (sym is) fits)

-- what grew since a text was put has grown since before
pub grows_after : (old begun new front : List ℕ) → begun ≡ old ++ front → Grows begun new → Grows old new
grows_after old begun new front put grows = record { more = front ++ grows.more; grew = grows.grew ∙ ap (λ held. held ++ grows.more) put ∙ append_assoc old front grows.more }

-- a sign after a tab, and the text of the number without it
pub signed_whole : (v d : SignedValue Number) → v ≡ d
    → (tab ∷ sign_text v.sign) ++ written_text (bytes (map character (whole_digits v.absolute)) ++ bytes (after_point (map character (fraction_digits v.absolute)))) ≡ tab ∷ signed_text_of d
signed_whole v d is = ap (λ text. (tab ∷ sign_text v.sign) ++ text) (events_text v.absolute) ∙ ap (λ (x : SignedValue Number). tab ∷ signed_text_of x) is

-- the compact text and the value shown are the answer
pub compact_whole : CompactIsLayered → CompactValueIsShown → (t : CompactTables) (d : SignedValue Number) (shown : CompactValue) → CanShow t.patterns.entries d.absolute.count → shown ≡ value_shown t d
    → written (compact_decimal_text t d) ++ tab ∷ compact_text_of shown ≡ number_answer (compact_tables t) d
compact_whole texts values t d shown can is =
    two_texts (compact_decimal_text t d) (compact_text_of shown)
    ∙ ap (λ text. written (text ++ tab ∷ compact_text_of shown)) (sym (texts t d))
    ∙ ap (λ (v : ShownValue). written (format_text (compact_tables t) d ++ tab ∷ shown_text v)) (ap compact_value is ∙ sym (values t d))
    ∙ by_test (is_shown (compact_tables t) d) (written (text_and_value (compact_tables t) d)) (refused refusal.Range) (can_test t d can)

-- and of digits of its own
pub digits_whole : (t : CompactTables) (o : NumberOptions) (d : SignedValue Number) (shown : CompactValue) → below_exponent t.patterns.entries d ≡ 0 → compact_value shown ≡ format_value (digits_tables t o) d
    → written (format_text (digits_tables t o) d) ++ tab ∷ compact_text_of shown ≡ number_answer (digits_tables t o) d
digits_whole t o d shown whole is =
    two_texts (format_text (digits_tables t o) d) (compact_text_of shown)
    ∙ ap (λ (v : ShownValue). written (format_text (digits_tables t o) d ++ tab ∷ shown_text v)) is
    ∙ by_test (is_shown (digits_tables t o) d) (written (text_and_value (digits_tables t o) d)) (refused refusal.Range) (eq-eqb (below_exponent t.patterns.entries d) 0 whole)

-- a scientific number as it is written, and after a tab as it is printed
pub scientific_put : ScientificIsText → (s : ScientificSettings) (v : ScientificValue) (shown : WithSign Exponential) → shown ≡ scientific_formatted s v
    → written (written_text (scientific_events shown)) ++ tab ∷ scientific_text_of v ≡ written (scientific_text s v ++ tab ∷ scientific_text_of v)
scientific_put law s v shown is =
    two_texts (written_text (scientific_events shown)) (scientific_text_of v)
    ∙ ap (λ text. written (text ++ tab ∷ scientific_text_of v)) (ap (λ (x : WithSign Exponential). written_text (scientific_events x)) is ∙ law s v)

-- and that is the answer
pub scientific_whole : ScientificIsLayered → ScientificValueIsShown → (s : ScientificFormat) (d : SignedValue Number) (shown : ScientificValue)
    → below_form s.style.notation d.absolute.count ≡ 0 → shown ≡ scientific_number s d
    → written (scientific_text s.settings shown ++ tab ∷ scientific_text_of shown) ≡ number_answer (scientific_tables s) d
scientific_whole texts values s d shown whole is =
    ap (λ (v : ScientificValue). written (scientific_text s.settings v ++ tab ∷ scientific_text_of v)) is
    ∙ ap (λ text. written (text ++ tab ∷ scientific_text_of (scientific_number s d))) (sym (texts s d))
    ∙ ap (λ (v : ShownValue). written (format_text (scientific_tables s) d ++ tab ∷ shown_text v)) (sym (values s d))
    ∙ by_test (is_shown (scientific_tables s) d) (written (text_and_value (scientific_tables s) d)) (refused refusal.Range) (eq-eqb (below_form s.style.notation d.absolute.count) 0 whole)

module _ (texts : ScientificIsLayered) (values : ScientificValueIsShown) (s : ScientificFormat) (d : SignedValue Number) (shown : ScientificValue)
    (whole : below_form s.style.notation d.absolute.count ≡ 0) (is : shown ≡ scientific_number s d) (old : List ℕ) where
  -- what is put is the answer
  pub scientific_is_put : (new : List ℕ) → new ≡ old ++ written (scientific_text s.settings shown ++ tab ∷ scientific_text_of shown)
      → new ≡ old ++ number_answer (scientific_tables s) d
  scientific_is_put new put = put ∙ ap (λ answer. old ++ answer) (scientific_whole texts values s d shown whole is)

  -- where the answer has room, so has what is put
  pub scientific_fits : (room : ℕ) → length old + length (number_answer (scientific_tables s) d) ≤ room
      → length old + length (written (scientific_text s.settings shown ++ tab ∷ scientific_text_of shown)) ≤ room
  scientific_fits room fits = subst (λ answer. length old + length answer ≤ room) (sym (scientific_whole texts values s d shown whole is)) fits
