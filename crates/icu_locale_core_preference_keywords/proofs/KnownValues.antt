-- The definitions at known values of keywords.
use Rattle.std.proofs.Common.{◌≡◌, true, false, [], ◌∷◌, None, Some, Ok, Err, codes, refl}
use Rattle.icu_locale_core_grammar.specs.Subtags.{upper}
use Rattle.icu_locale_core_grammar.specs.TagPreferences.{one_piece, subdivision_text}
use Rattle.icu_locale_core_preference_keywords.specs.TypedKeywords.{keyword_answer, stated_case, word_value, stated_subdivision, stated_currency}
use Rattle.icu_locale_core_preference_keywords.specs.KeywordWords.{first_day, measurement, word_handling, case_first, numeric_ordering, numeric_ordering_word}
use Rattle.icu_locale_core_preference_keywords.specs.declared.error.PreferencesParseError.{PreferencesParseError}
use Rattle.icu_locale_core_preference_keywords.specs.declared.keywords.first_day.FirstDay.{FirstDay}
use Rattle.icu_locale_core_preference_keywords.specs.declared.keywords.measurement_system.MeasurementSystem.{MeasurementSystem}
use Rattle.icu_locale_core_preference_keywords.specs.declared.keywords.line_break.LineBreakWordHandling.{LineBreakWordHandling}
use Rattle.icu_locale_core_preference_keywords.specs.declared.keywords.collation.CollationCaseFirst.{CollationCaseFirst}
use Rattle.icu_locale_core_preference_keywords.specs.declared.keywords.collation.CollationNumericOrdering.{CollationNumericOrdering}

-- ---- words

pub monday : stated_case first_day (codes "mon" ∷ []) ≡ Some FirstDay.Mon
monday = refl

pub no_day : stated_case first_day (codes "abc" ∷ []) ≡ None
no_day = refl

pub two_days : stated_case first_day (codes "mon" ∷ codes "tue" ∷ []) ≡ None
two_days = refl

-- the empty value is the word `true`, which names no day
pub no_word : stated_case first_day [] ≡ None
no_word = refl

pub british : stated_case measurement (codes "uksystem" ∷ []) ≡ Some MeasurementSystem.Uksystem
british = refl

pub within_words : stated_case word_handling (codes "breakall" ∷ []) ≡ Some LineBreakWordHandling.BreakAll
within_words = refl

pub neither_first : stated_case case_first (codes "false" ∷ []) ≡ Some CollationCaseFirst.False
neither_first = refl

-- a case that is not the word `true` has no empty value
pub no_case_first : stated_case case_first [] ≡ None
no_case_first = refl

-- ---- the word `true`

pub numeric : stated_case numeric_ordering [] ≡ Some CollationNumericOrdering.True
numeric = refl

pub not_numeric : stated_case numeric_ordering (codes "false" ∷ []) ≡ Some CollationNumericOrdering.False
not_numeric = refl

pub numeric_written : word_value (numeric_ordering_word CollationNumericOrdering.True) ≡ []
numeric_written = refl

pub not_numeric_written : word_value (numeric_ordering_word CollationNumericOrdering.False) ≡ codes "false" ∷ []
not_numeric_written = refl

-- ---- one piece

pub two_systems : one_piece (codes "thai" ∷ codes "latn" ∷ []) ≡ None
two_systems = refl

pub texas : stated_subdivision (codes "ustx" ∷ []) ≡ Some (record { region = codes "US"; suffix = codes "tx" })
texas = refl

pub of_three_digits : stated_subdivision (codes "419abc" ∷ []) ≡ Some (record { region = codes "419"; suffix = codes "abc" })
of_three_digits = refl

-- a suffix of one letter
pub short_suffix : stated_subdivision (codes "usa" ∷ []) ≡ Some (record { region = codes "US"; suffix = codes "a" })
short_suffix = refl

-- a region alone is no subdivision, nor are a region and a suffix apart
pub region_alone : stated_subdivision (codes "419" ∷ []) ≡ None
region_alone = refl

pub apart : stated_subdivision (codes "419" ∷ codes "abc" ∷ []) ≡ None
apart = refl

pub england_written : subdivision_text (record { region = codes "GB"; suffix = codes "eng" }) ≡ codes "gbeng"
england_written = refl

pub dollar : stated_currency (codes "usd" ∷ []) ≡ Some (codes "usd")
dollar = refl

pub not_letters : stated_currency (codes "us1" ∷ []) ≡ None
not_letters = refl

pub four_letters : stated_currency (codes "usdx" ∷ []) ≡ None
four_letters = refl

pub dollar_code : upper (codes "usd") ≡ codes "USD"
dollar_code = refl

-- ---- what a keyword answers

pub of_another_key : keyword_answer false (Some FirstDay.Mon) ≡ Ok None
of_another_key = refl

pub of_its_key : keyword_answer true (Some FirstDay.Mon) ≡ Ok (Some FirstDay.Mon)
of_its_key = refl

pub not_read : keyword_answer true (stated_currency (codes "us1" ∷ [])) ≡ Err PreferencesParseError.InvalidKeywordValue
not_read = refl
