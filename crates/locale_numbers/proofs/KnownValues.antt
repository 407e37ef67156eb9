-- Known values of the definitions: what tags ask for, fields as a line, keys of formatters, the words and the lines of the program.
use Rattle.std.proofs.Common.{◌≡◌, [], ◌∷◌, ◌++◌, Bool, codes, true, false, Option, option_map, Some, None, refl}
use Rattle.locale_numbers_lines.specs.declared.RunError.TheVariants as run
use Rattle.locale_numbers_book.specs.declared.BookError.TheVariants as book
use Rattle.locale_numbers.specs.declared.fault.ProgramFault.TheVariants.{Usage, Book, Run}
use Rattle.locale_numbers.specs.Fault.{status_of, line_of}
use Rattle.icu_locale_core.specs.Stepping.{headed_after, whole_after}
use Rattle.icu_locale_core.specs.TagStages.{with_piece, body_after}
use Rattle.icu_locale_core.specs.Subtags.{Text}
use Rattle.icu_locale_core.specs.TagPreferences.{DataLocaleMeaning, Preferences, language_priority}
use Rattle.locale_numbers_book.specs.TagReading.{tag_of}
use Rattle.locale_numbers_book.specs.Wanted.{wanted_of}
use Rattle.locale_numbers.specs.AskedFormats.{compact_shape, options_of, plain_shape, shape_with}
use Rattle.locale_numbers.specs.FormatterKeys.{key_with, same_keys}
use Rattle.locale_numbers.specs.Front.{is_as_it_is}
use Rattle.locale_numbers.specs.Laws.{joined_fields}
use Rattle.locale_numbers.specs.Words.{words_said, capacity_named}
use Rattle.std.specs.Prelude.{pos, ℕ, List, option_and_then}
use Rattle.fixed_decimal.specs.declared.RoundingIncrement.TheVariants.{MultiplesOf1}
use Rattle.fixed_decimal.specs.declared.SignedRoundingMode.TheVariants.{Ceil, Floor}
use Rattle.icu_decimal.specs.declared.options.GroupingStrategy.TheVariants.{Auto, Always}
use Rattle.icu_dimension.specs.declared.CurrencyStyle.{CurrencyStyle}
use Rattle.icu_dimension.specs.declared.CurrencyStyle.TheVariants.{Standard, Accounting}
use Rattle.icu_dimension.specs.declared.CurrencyWidth.{CurrencyWidth}
use Rattle.icu_dimension.specs.declared.CurrencyWidth.TheVariants as width
use Rattle.icu_dimension.specs.declared.PercentSign.TheVariants.{Percent, Permille}
use Rattle.icu_plurals.specs.declared.PluralRuleType.TheVariants.{Cardinal, Ordinal}
use Rattle.locale_numbers_formats.specs.declared.CompactWidth.TheVariants.{Short, Long}
use Rattle.locale_numbers_formats.specs.declared.Notation.TheVariants.{CompactDigits}
use Rattle.locale_numbers_formats.specs.declared.NumberShape.{NumberShape}
use Rattle.locale_numbers_formats.specs.declared.NumberUnit.TheVariants as unit
use Rattle.locale_numbers_formats.specs.declared.Rounding.{Rounding}
use Rattle.locale_numbers_formats.specs.declared.Rounding.TheVariants.{Usual, At}
use Rattle.locale_numbers_formats.specs.declared.SignAsked.TheVariants.{Keep}
use Rattle.locale_numbers_requests.specs.Request.{Asked, request_in}
use Rattle.locale_numbers_requests.specs.declared.Task.{Task}
use Rattle.locale_numbers_requests.specs.declared.Task.TheVariants.{Write, Read, ReadLenient, Category, RangeCategory}

-- ---- what tags ask for

-- the locale and the system, with which tables are asked for
abbrev asked_of : Text → Option (DataLocaleMeaning × Option Text)
asked_of text = option_map {T = Preferences} {U = DataLocaleMeaning × Option Text} (λ p. (language_priority p.locale, p.numbering_system)) (wanted_of text)

-- case, `rg`, attributes, other keywords and extensions, private pieces and later variants say nothing
all_of_a_tag : asked_of (codes "DE-at-fonipa-1996-a-foo-u-attr-ca-buddhist-nu-LATN-rg-gbzzzz-sd-at9-x-foo") ≡ Some (
  record {
    language = codes "de";
    script = None;
    region = Some (codes "AT");
    variant = Some (codes "1996");
    subdivision = Some (record { region = codes "AT"; suffix = codes "9" });
  },
  Some (codes "latn"),
)
unfolding tag_of whole_after headed_after body_after with_piece
all_of_a_tag = refl

-- a subdivision without a region, and a system of two pieces, are none
nothing_that_reads : wanted_of (codes "en-u-nu-latn-thai-sd-12a") ≡ wanted_of (codes "en")
unfolding tag_of whole_after headed_after body_after with_piece
nothing_that_reads = refl

-- a region that is in `sd` alone is not one
no_region : asked_of (codes "en-u-sd-ustx") ≡ Some (
  record { language = codes "en"; script = None; region = None; variant = None; subdivision = Some (record { region = codes "US"; suffix = codes "tx" }) },
  None,
)
unfolding tag_of whole_after headed_after body_after with_piece
no_region = refl

no_tag : wanted_of (codes "en-u") ≡ None
unfolding tag_of whole_after headed_after body_after with_piece
no_tag = refl

-- ---- the program

no_words : words_said [] ≡ Some (record { book = None; capacity = 16 })
no_words = refl

book_alone : words_said (codes "b" ∷ []) ≡ Some (record { book = Some (codes "b"); capacity = 16 })
book_alone = refl

book_and_capacity : words_said (codes "b" ∷ codes "65535" ∷ []) ≡ Some (record { book = Some (codes "b"); capacity = 65535 })
book_and_capacity = refl

empty_book : words_said ([] ∷ codes "1" ∷ []) ≡ None
empty_book = refl

three_words : words_said (codes "b" ∷ codes "1" ∷ codes "2" ∷ []) ≡ None
three_words = refl

zeros_in_front : capacity_named (codes "00016") ≡ Some 16
zeros_in_front = refl

six_digits : capacity_named (codes "000016") ≡ None
six_digits = refl

no_formatters : capacity_named (codes "0") ≡ None
no_formatters = refl

too_many : capacity_named (codes "65536") ≡ None
too_many = refl

plus_sign : capacity_named (codes "+1") ≡ None
plus_sign = refl

usage_line : line_of Usage ≡ codes "fault: usage"
usage_line = refl

book_line : line_of (Book book.Shape) ≡ codes "fault: book shape"
book_line = refl

memory_lines : line_of (Book book.Memory) ≡ line_of (Run run.Memory)
memory_lines = refl

write_line : line_of (Run run.Write) ≡ codes "fault: write"
write_line = refl

read_status : status_of (Run run.Read) ≡ 5
read_status = refl

memory_status : status_of (Book book.Memory) ≡ 6
memory_status = refl

-- ---- lines of fields, and keys

no_field : joined_fields [] ≡ []
no_field = refl

one_field : joined_fields (codes "en" ∷ []) ≡ codes "en"
one_field = refl

-- an empty field in the middle
three_fields : joined_fields (codes "en" ∷ [] ∷ codes "1" ∷ []) ≡ codes "en" ++ 9 ∷ 9 ∷ codes "1"
three_fields = refl

-- keys of two shapes, and for two tasks
abbrev english : Preferences
english = record {
  locale = record { language = codes "en"; script = None; region = None; variant = None; subdivision = None; region_override = None };
  numbering_system = None;
}

abbrev same_shapes : NumberShape → NumberShape → Bool
same_shapes one other = same_keys (key_with Write one english) (key_with Write other english)

abbrev same_tasks : Task → Task → Bool
same_tasks one other = same_keys (key_with one (plain_shape Auto) english) (key_with other (plain_shape Auto) english)

-- `auto` and `always` group alike, and are two all the same
two_groupings : same_shapes (plain_shape Auto) (plain_shape Always) ≡ false
two_groupings = refl

-- two ways of writing an amount are two
abbrev euros : CurrencyStyle → CurrencyWidth → NumberShape
euros style width = shape_with (unit.Currency (record { code = codes "EUR"; style = style; width = width })) Auto

two_ways : same_shapes (euros Standard width.Short) (euros Standard width.IsoCode) ≡ false
two_ways = refl

two_styles : same_shapes (euros Standard width.Short) (euros Accounting width.Short) ≡ false
two_styles = refl

one_way : same_shapes (euros Standard width.Short) (euros Standard width.Short) ≡ true
one_way = refl

two_codes : same_shapes (euros Standard width.Short) (shape_with (unit.Currency (record { code = codes "USD"; style = Standard; width = width.Short })) Auto) ≡ false
two_codes = refl

two_units : same_shapes (shape_with (unit.Percent Percent) Auto) (plain_shape Auto) ≡ false
two_units = refl

two_signs : same_shapes (shape_with (unit.Percent Percent) Auto) (shape_with (unit.Percent Permille) Auto) ≡ false
two_signs = refl

two_lengths : same_shapes (compact_shape Short Auto) (compact_shape Long Auto) ≡ false
two_lengths = refl

one_length : same_shapes (compact_shape Long Auto) (compact_shape Long Auto) ≡ true
one_length = refl

-- compact numbers with digits of their own have a key for each choice of these
abbrev digits_shape : Rounding → NumberShape
digits_shape rounding = record { notation = CompactDigits Short (options_of rounding Keep); unit = unit.None; grouping = Auto }

own_digits : same_shapes (digits_shape Usual) (compact_shape Short Auto) ≡ false
own_digits = refl

two_digits : same_shapes (digits_shape (At (pos 0) Ceil MultiplesOf1)) (digits_shape (At (pos 0) Floor MultiplesOf1)) ≡ false
two_digits = refl

one_digit : same_shapes (digits_shape (At (pos 0) Ceil MultiplesOf1)) (digits_shape (At (pos 0) Ceil MultiplesOf1)) ≡ true
one_digit = refl

-- scientific numbers have a key for each notation, for how an exponent is shown, and for what is made of a significand
abbrev shape_asked : List ℕ → List ℕ → Option NumberShape
shape_asked form rounding =
    option_map {T = Asked} {U = NumberShape} (λ asked. asked.format.shape) (request_in (codes "en" ∷ form ∷ codes "auto" ∷ codes "keep" ∷ rounding ∷ codes "1" ∷ []))

abbrev same_forms : Option NumberShape → Option NumberShape → Option Bool
same_forms one other = option_and_then (λ shape. option_map (same_shapes shape) other) one

two_notations : same_forms (shape_asked (codes "scientific") (codes "-")) (shape_asked (codes "engineering") (codes "-")) ≡ Some false
two_notations = refl

two_significands : same_forms (shape_asked (codes "scientific") (codes "-")) (shape_asked (codes "scientific") (codes "0,trunc,1")) ≡ Some false
two_significands = refl

two_exponents : same_forms (shape_asked (codes "::scientific") (codes "-")) (shape_asked (codes "::scientific/*ee") (codes "-")) ≡ Some false
two_exponents = refl

two_exponent_signs : same_forms (shape_asked (codes "::scientific") (codes "-")) (shape_asked (codes "::scientific/sign-always") (codes "-")) ≡ Some false
two_exponent_signs = refl

one_notation : same_forms (shape_asked (codes "::engineering .00") (codes "-")) (shape_asked (codes "::EE0 .00") (codes "-")) ≡ Some true
one_notation = refl

not_plain : same_forms (shape_asked (codes "scientific") (codes "-")) (Some (plain_shape Auto)) ≡ Some false
not_plain = refl

-- what is read back has the formatter of what is written, and what was typed one of its own; a range has that of cardinal categories
one_formatter : same_tasks Read Write ≡ true
one_formatter = refl

typed_apart : same_tasks ReadLenient Write ≡ false
typed_apart = refl

categories_apart : same_tasks (Category Cardinal) Write ≡ false
categories_apart = refl

ordinals_apart : same_tasks (Category Ordinal) (Category Cardinal) ≡ false
ordinals_apart = refl

ranges_beside : same_tasks RangeCategory (Category Cardinal) ≡ true
ranges_beside = refl

-- plain numbers as they are given, and not with a rounding
given : is_as_it_is (record { shape = plain_shape Auto; options = options_of Usual Keep }) ≡ true
given = refl

rounded : is_as_it_is (record { shape = plain_shape Auto; options = options_of (At (pos 0) Ceil MultiplesOf1) Keep }) ≡ false
rounded = refl

-- nor with an exponent
scientific : option_map {T = NumberShape} {U = Bool} (λ shape. is_as_it_is (record { shape = shape; options = options_of Usual Keep })) (shape_asked (codes "scientific") (codes "-")) ≡ Some false
scientific = refl
