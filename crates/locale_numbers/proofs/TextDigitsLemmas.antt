-- The digits of a text are of the number that the text is read as, which some formats leave as it is given, but for the digits of a currency.
use Rattle.std.proofs.Common.{◌≡◌, ◌-◌, ◌≤◌, ◌&&◌, ℕ, ℤ, Bool, List, Option, None, Some, IfSome, Result, Ok, Err, true, refl, sym, ap, ◌∙◌, arith}
use Rattle.std.proofs.lemmas.Bool.{and_parts}
use Rattle.std.proofs.lemmas.Bool.Decides.{nat_tests}
use Rattle.std.specs.Prelude.{if◌then◌else◌, neg_ℤ}
use Rattle.fixed_decimal.specs.Number.{IsNumber, Number, place}
use Rattle.fixed_decimal.specs.SignedText.{ReadsSigned}
use Rattle.fixed_decimal.specs.SignedValue.{SignedValue}
use Rattle.icu_decimal.specs.PlainText.{Tables}
use Rattle.icu_decimal.specs.declared.error.DataError.{DataError}
use Rattle.icu_decimal_direct.specs.TextDigits.{number_spelled}
use Rattle.icu_decimal_direct.specs.UnitTexts.{IsShownBy, UnitTexts, shown_down}
use Rattle.icu_decimal_direct.specs.declared.text_digits.TextDigits.{TextDigits}
use Rattle.icu_dimension_fractions.specs.Fractions.{fraction_for}
use Rattle.icu_dimension_fractions.specs.declared.CurrencyUsage.TheVariants as usage
use Rattle.icu_dimension_fractions.specs.declared.FractionInfo.{FractionInfo}
use Rattle.locale_numbers_answers.specs.Answers.{written_found, written_to}
use Rattle.locale_numbers_answers.specs.DigitChange.{ChangesSo, digits_changed}
use Rattle.locale_numbers_answers.specs.NumberAnswer.{number_answer}
use Rattle.locale_numbers_answers.specs.NumberReading.{number, reading_of}
use Rattle.locale_numbers_answers.specs.UnitFractions.{has_digits_of}
use Rattle.locale_numbers_answers.specs.declared.DigitChange.{DigitChange}
use Rattle.locale_numbers_answers.proofs.NumberBounds.{amount_is_decimal, reading_is_decimal}
use Rattle.locale_numbers_answers.proofs.NumberReadingLemmas.{signed_number}
use Rattle.locale_numbers_answers.proofs.TextLemmas.{number_is_text}
use Rattle.locale_numbers_answers.proofs.UnitFractionsLemmas.{put_so}
use Rattle.locale_numbers_book.specs.Book.{BookTables}
use Rattle.locale_numbers_book.specs.FoundFormats.{found_for, mapped, notation_found}
use Rattle.locale_numbers_book.specs.TagFormatters.{found_plain}
use Rattle.locale_numbers_formats.specs.Changed.{amount_by, changed, changed_by, end_padded, end_trimmed, front_padded, front_trimmed, padded_down, rounded_by, settled_rounding, shown, shown_signed, signed_as, whole_shown, zeros_by}
use Rattle.locale_numbers_formats.specs.declared.LeadingZeros.{LeadingZeros}
use Rattle.locale_numbers_formats.specs.declared.LeadingZeros.TheVariants as leading
use Rattle.locale_numbers_formats.specs.declared.Notation.{Notation}
use Rattle.locale_numbers_formats.specs.declared.Notation.TheVariants.{Compact, CompactDigits, Scientific, Standard}
use Rattle.locale_numbers_formats.specs.declared.NumberFormat.{NumberFormat}
use Rattle.locale_numbers_formats.specs.declared.NumberOptions.{NumberOptions}
use Rattle.locale_numbers_formats.specs.declared.NumberUnit.{NumberUnit}
use Rattle.locale_numbers_formats.specs.declared.NumberUnit.TheVariants as unit
use Rattle.locale_numbers_formats.specs.declared.Rounding.{Rounding}
use Rattle.locale_numbers_formats.specs.declared.Rounding.TheVariants.{Usual, Cash, AsGiven, At, Significant, Either}
use Rattle.locale_numbers_formats.specs.declared.SignAsked.{SignAsked}
use Rattle.locale_numbers_formats.specs.declared.SignAsked.TheVariants.{Keep, Show}
use Rattle.locale_numbers_formats.specs.declared.TrailingZeros.{TrailingZeros}
use Rattle.locale_numbers_formats.specs.declared.TrailingZeros.TheVariants as trailing
use Rattle.locale_numbers_formats.proofs.ChangedLemmas.{same_fields}
use Rattle.locale_numbers_formatter.specs.FormatText.{FormatTables, fractions_in, plain_tables}
use Rattle.locale_numbers_requests.specs.Request.{keeps_sign}
use Rattle.locale_numbers_requests.specs.declared.Refusal.TheVariants as refusal
use Rattle.icu_locale_core.specs.TagPreferences.{Preferences}
use Rattle.locale_numbers.specs.Answer.{refused}
use Rattle.locale_numbers.specs.FormatterKeys.{key_text}
use Rattle.locale_numbers.specs.Front.{adds_none, as_usual, if_text, is_as_it_is, is_standard, is_usual, keeps_zeros, key_if_text, rounds_none, rounds_so}
use Rattle.locale_numbers.specs.declared.formatter_key.FormatterKey.{FormatterKey}

pub digits_read : (text : List ℕ) (found : Option TextDigits) → IfSome found (λ digits. ReadsSigned text (number_spelled digits)) → IfSome found (λ digits. reading_of text ≡ number (number_spelled digits))
digits_read text None reads = tt
digits_read text (Some digits) reads = signed_number text (number_spelled digits) reads

-- a text that says a number is answered as that
pub answered_so : (found : Result FormatTables DataError) (options : NumberOptions) (text : List ℕ) (value : SignedValue Number) → reading_of text ≡ number value
    → if_text text (written_to found options (reading_of text)) ≡ written_found found options value
answered_so found options text value reads =
    ap (λ reading. if_text text (written_to found options reading)) reads
    ∙ ap (λ b. if b then written_found found options value else refused refusal.Shape) (number_is_text text value reads)

pub keyed_so : (key : FormatterKey) (text : List ℕ) (value : SignedValue Number) → reading_of text ≡ number value → key_if_text text (key_text key (reading_of text)) ≡ Some key
keyed_so key text value reads =
    ap (λ reading. key_if_text text (key_text key reading)) reads ∙ ap (λ b. if b then Some key else None) (number_is_text text value reads)

-- ---- a format that leaves a number as it is given, but for the digits of a currency

usual_none : (rounding : Rounding) → is_usual rounding ≡ true → rounds_none rounding ≡ true
usual_none Usual h = refl
usual_none Cash h = absurd (cc)
usual_none AsGiven h = absurd (cc)
usual_none (At position mode increment) h = absurd (cc)
usual_none (Significant digits mode) h = absurd (cc)
usual_none (Either priority position digits mode) h = absurd (cc)

none_rounded : (of : NumberUnit) (rounding : Rounding) → rounds_so of rounding ≡ true → rounds_none rounding ≡ true
none_rounded unit.None rounding h = h
none_rounded (unit.Percent sign) rounding h = usual_none rounding h
none_rounded (unit.Currency currency) rounding h = usual_none rounding h

rounds : (rounding : Rounding) (value : SignedValue Number) → rounds_none rounding ≡ true → rounded_by rounding None value ≡ value
rounds Usual value h = refl
rounds Cash value h = refl
rounds AsGiven value h = refl
rounds (At position mode increment) value h = absurd (cc)
rounds (Significant digits mode) value h = absurd (cc)
rounds (Either priority position digits mode) value h = absurd (cc)

usual_amount : (rounding : Rounding) (fractions : Option FractionInfo) (value : SignedValue Number) → is_usual rounding ≡ true → rounded_by rounding fractions value ≡ amount_by fractions usage.Standard value
usual_amount Usual fractions value h = refl
usual_amount Cash fractions value h = absurd (cc)
usual_amount AsGiven fractions value h = absurd (cc)
usual_amount (At position mode increment) fractions value h = absurd (cc)
usual_amount (Significant digits mode) fractions value h = absurd (cc)
usual_amount (Either priority position digits mode) fractions value h = absurd (cc)

-- a number without a unit has no currency
rounds_amount : (of : NumberUnit) (rounding : Rounding) (fractions : Option FractionInfo) (value : SignedValue Number) → rounds_so of rounding ≡ true → (of ≡ unit.None → fractions ≡ None)
    → rounded_by rounding fractions value ≡ amount_by fractions usage.Standard value
rounds_amount unit.None rounding fractions value h none =
    ap (λ (f : Option FractionInfo). rounded_by rounding f value) (none refl)
    ∙ rounds rounding value h
    ∙ ap (λ (f : Option FractionInfo). amount_by f usage.Standard value) (sym (none refl))
rounds_amount (unit.Percent sign) rounding fractions value h none = usual_amount rounding fractions value h
rounds_amount (unit.Currency currency) rounding fractions value h none = usual_amount rounding fractions value h

amount_is_number : (fractions : Option FractionInfo) (value : SignedValue Number) → IsNumber value.absolute → IsNumber (amount_by fractions usage.Standard value).absolute
amount_is_number None value is = is
amount_is_number (Some info) value is = amount_is_decimal (fraction_for info usage.Standard) value is

settles : (rounding : Rounding) (value : SignedValue Number) → rounds_none rounding ≡ true → settled_rounding rounding value ≡ rounding
settles Usual value h = refl
settles Cash value h = refl
settles AsGiven value h = refl
settles (At position mode increment) value h = refl
settles (Significant digits mode) value h = refl
settles (Either priority position digits mode) value h = absurd (cc)

zeros_are : (rounding : Rounding) (zeros : TrailingZeros) → rounds_none rounding ≡ true → zeros_by rounding zeros ≡ zeros
zeros_are Usual zeros h = refl
zeros_are Cash zeros h = refl
zeros_are AsGiven zeros h = refl
zeros_are (At position mode increment) zeros h = refl
zeros_are (Significant digits mode) zeros h = absurd (cc)
zeros_are (Either priority position digits mode) zeros h = refl

least_is : (rounding : Rounding) (digits : ℤ) (n : Number) → rounds_none rounding ≡ true → end_padded rounding digits n ≡ padded_down (place (neg_ℤ digits)) n
least_is Usual digits n h = refl
least_is Cash digits n h = refl
least_is AsGiven digits n h = refl
least_is (At position mode increment) digits n h = refl
least_is (Significant significant mode) digits n h = absurd (cc)
least_is (Either priority position significant mode) digits n h = refl

trims : (front : LeadingZeros) (end : TrailingZeros) (rounding : Rounding) (value : Number) → keeps_zeros front end ≡ true → end_trimmed end (front_trimmed front rounding value) ≡ value
trims leading.Keep trailing.Keep rounding value h = refl
trims leading.Keep trailing.Trim rounding value h = absurd (cc)
trims leading.Keep trailing.TrimWhole rounding value h = absurd (cc)
trims leading.Keep trailing.TrimAll rounding value h = absurd (cc)
trims leading.TrimRoundedZero end rounding value h = absurd (cc)
trims leading.Trim end rounding value h = absurd (cc)

whole_is : (front : LeadingZeros) (end : TrailingZeros) (value : Number) → keeps_zeros front end ≡ true → whole_shown end value ≡ value
whole_is leading.Keep trailing.Keep value h = refl
whole_is leading.Keep trailing.Trim value h = refl
whole_is leading.Keep trailing.TrimWhole value h = absurd (cc)
whole_is leading.Keep trailing.TrimAll value h = absurd (cc)
whole_is leading.TrimRoundedZero end value h = absurd (cc)
whole_is leading.Trim end value h = absurd (cc)

signs : (sign : SignAsked) (value : SignedValue Number) → keeps_sign sign ≡ true → signed_as sign value ≡ value
signs Keep value h = refl
signs (Show display) value h = absurd (cc)

none_down : (digits : ℤ) → adds_none digits ≡ true → 32768 ≤ place (neg_ℤ digits)
none_down digits h = grind (arith, nat_tests)

none_up : (digits : ℤ) → adds_none digits ≡ true → place digits ≤ 32768
none_up digits h = grind (arith, nat_tests)

-- each part of what is asked
pub record LeavesAll (format : NumberFormat) : Type 0 where
  pub standard : is_standard format.shape.notation ≡ true
  pub rounds : rounds_so format.shape.unit format.options.rounding ≡ true
  pub zeros : keeps_zeros format.options.leading_zeros format.options.zeros ≡ true
  pub integer_digits : adds_none format.options.integer_digits ≡ true
  pub fraction_digits : adds_none format.options.fraction_digits ≡ true
  pub sign : keeps_sign format.options.sign ≡ true

pub leaves_all : (format : NumberFormat) → is_as_it_is format ≡ true → LeavesAll format
leaves_all format h =
    let o = format.options in
    let shape : Bool = is_standard format.shape.notation in
    let rounding : Bool = rounds_so format.shape.unit o.rounding in
    let e = and_parts (shape && rounding && keeps_zeros o.leading_zeros o.zeros && adds_none o.integer_digits && adds_none o.fraction_digits) (keeps_sign o.sign) h in
    let d = and_parts (shape && rounding && keeps_zeros o.leading_zeros o.zeros && adds_none o.integer_digits) (adds_none o.fraction_digits) e.0 in
    let c = and_parts (shape && rounding && keeps_zeros o.leading_zeros o.zeros) (adds_none o.integer_digits) d.0 in
    let b = and_parts (shape && rounding) (keeps_zeros o.leading_zeros o.zeros) c.0 in
    let a = and_parts shape rounding b.0 in
    record { standard = a.0; rounds = a.1; zeros = b.1; integer_digits = c.1; fraction_digits = d.1; sign = e.1 }

shown_so : (format : NumberFormat) → LeavesAll format → (value : Number) → IsNumber value → shown format.options.rounding format.options value ≡ value
shown_so format all value is =
    let o = format.options in
    let quiet = none_rounded format.shape.unit o.rounding all.rounds in
    let front : Number = front_trimmed o.leading_zeros o.rounding value in
    let end : Number = end_trimmed (zeros_by o.rounding o.zeros) front in
    let untrimmed : end ≡ value = ap (λ (zeros : TrailingZeros). end_trimmed zeros front) (zeros_are o.rounding o.zeros quiet) ∙ trims o.leading_zeros o.zeros o.rounding value all.zeros in
    let down = none_down o.fraction_digits all.fraction_digits in
    let up = none_up o.integer_digits all.integer_digits in
    let low = is.low in
    let ones = is.ones in
    whole_is o.leading_zeros o.zeros (end_padded o.rounding o.fraction_digits (front_padded o.integer_digits end)) all.zeros
    ∙ least_is o.rounding o.fraction_digits (front_padded o.integer_digits end) quiet
    ∙ ap (λ (n : Number). padded_down (place (neg_ℤ o.fraction_digits)) (front_padded o.integer_digits n)) untrimmed
    ∙ same_fields (padded_down (place (neg_ℤ o.fraction_digits)) (front_padded o.integer_digits value)) value refl (omega (arith, down, low)) (omega (arith, up, ones))

pub changes_amount : (format : NumberFormat) → is_as_it_is format ≡ true → (fractions : Option FractionInfo) → (format.shape.unit ≡ unit.None → fractions ≡ None)
    → (value : SignedValue Number) → IsNumber value.absolute → changed format.options fractions value ≡ amount_by fractions usage.Standard value
changes_amount format h fractions none value is =
    let all = leaves_all format h in
    let o = format.options in
    let amount : SignedValue Number = amount_by fractions usage.Standard value in
    ap (λ (asked : Rounding). changed_by asked o fractions value) (settles o.rounding value (none_rounded format.shape.unit o.rounding all.rounds))
    ∙ ap (shown_signed o.rounding o) (rounds_amount format.shape.unit o.rounding fractions value all.rounds none)
    ∙ ap (λ (n : Number). signed_as o.sign (record { sign = amount.sign; absolute = n })) (shown_so format all amount.absolute (amount_is_number fractions value is))
    ∙ signs o.sign amount all.sign

-- without a unit it finds plain tables
finds_plain : (notation : Notation) (of : NumberUnit) (book : BookTables) (p : Preferences) (format : NumberFormat) → is_standard notation ≡ true → of ≡ unit.None
    → notation_found notation of book p format.shape.grouping ≡ mapped plain_tables (found_plain book p (Some format.shape.grouping))
finds_plain Standard of book p format h none = ap (λ (u : NumberUnit). notation_found Standard u book p format.shape.grouping) none
finds_plain (Compact width) of book p format h none = absurd (cc)
finds_plain (CompactDigits width options) of book p format h none = absurd (cc)
finds_plain (Scientific style options) of book p format h none = absurd (cc)

no_fractions : (found : Result Tables DataError) (format : FormatTables) → mapped plain_tables found ≡ Ok format → fractions_in format ≡ None
no_fractions (Ok tables) format is = let one : plain_tables tables ≡ format = cc in ap fractions_in (sym one)
no_fractions (Err error) format is = absurd (cc)

-- so what it makes of a number is it as it usually shows it
pub leaves_so : (format : NumberFormat) → is_as_it_is format ≡ true → (book : BookTables) (p : Preferences) (made : FormatTables) → found_for format.shape book p ≡ Ok made
    → (value : SignedValue Number) (text : List ℕ) → reading_of text ≡ number value → changed format.options (fractions_in made) value ≡ as_usual made value
leaves_so format h book p made is value text reads =
    let standard = (leaves_all format h).standard in
    changes_amount format h (fractions_in made)
    (λ none. no_fractions (found_plain book p (Some format.shape.grouping)) made (sym (finds_plain format.shape.notation format.shape.unit book p format standard none) ∙ is))
    value (reading_is_decimal text value reads)

-- ---- put directly

-- as plain tables put it
pub plain_so : (format : FormatTables) (tables : Tables) → format ≡ plain_tables tables → (options : NumberOptions) (value : SignedValue Number)
    → changed options (fractions_in format) value ≡ as_usual format value → number_answer format (changed options (fractions_in format) value) ≡ number_answer (plain_tables tables) value
plain_so format tables is options value usual =
    ap (number_answer format) (usual ∙ ap (λ (f : FormatTables). as_usual f value) is)
    ∙ ap (λ (f : FormatTables). number_answer f value) is

-- and as those with a unit do
pub unit_so : (format : FormatTables) (u : UnitTexts) → has_digits_of (fractions_in format) u ≡ true → (options : NumberOptions) (value : SignedValue Number) (text : List ℕ) → reading_of text ≡ number value
    → IsShownBy u value → changed options (fractions_in format) value ≡ as_usual format value → changed options (fractions_in format) value ≡ shown_down u.least value
unit_so format u digits options value text reads shown usual = usual ∙ put_so (fractions_in format) u digits value (reading_is_decimal text value reads) shown

-- ---- options that round no digit away

-- a number that plain tables write is answered as it is put
pub plain_changed : (format : FormatTables) (t : Tables) → format ≡ plain_tables t → (options : NumberOptions) (change : DigitChange) → ChangesSo options change
    → (text : List ℕ) (value : SignedValue Number) → reading_of text ≡ number value → 32768 - change.most ≤ value.absolute.low
    → number_answer format (changed options (fractions_in format) value) ≡ number_answer (plain_tables t) (digits_changed change value)
plain_changed format t is options change so text value reads shows =
    ap (λ (f : FormatTables). number_answer f (changed options (fractions_in f) value)) is
    ∙ ap (number_answer (plain_tables t)) (so.same value (reading_is_decimal text value reads) shows)
