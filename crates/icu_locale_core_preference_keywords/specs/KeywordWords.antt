-- The keywords whose values are words: the key, the cases and the words of each.
-- UTS 35, section 3.6.1, "Key and Type Definitions"; docs/tags.md, "Typed keywords".
-- Cited by `as_str` and `TryFrom<&Value>` of each such type, and by `unicode_extension_key`.
use Rattle.std.specs.Prelude.{[], ◌∷◌, codes}
use Rattle.icu_locale_core_grammar.specs.Subtags.{Text}
use Rattle.icu_locale_core_preference_keywords.specs.TypedKeywords.{Words}
use Rattle.icu_locale_core_preference_keywords.specs.declared.keywords.first_day.FirstDay.{FirstDay}
use Rattle.icu_locale_core_preference_keywords.specs.declared.keywords.measurement_system.MeasurementSystem.{MeasurementSystem}
use Rattle.icu_locale_core_preference_keywords.specs.declared.keywords.currency.CurrencyFormatStyle.{CurrencyFormatStyle}
use Rattle.icu_locale_core_preference_keywords.specs.declared.keywords.emoji.EmojiPresentationStyle.{EmojiPresentationStyle}
use Rattle.icu_locale_core_preference_keywords.specs.declared.keywords.line_break.LineBreakStyle.{LineBreakStyle}
use Rattle.icu_locale_core_preference_keywords.specs.declared.keywords.line_break.LineBreakWordHandling.{LineBreakWordHandling}
use Rattle.icu_locale_core_preference_keywords.specs.declared.keywords.collation.CollationCaseFirst.{CollationCaseFirst}
use Rattle.icu_locale_core_preference_keywords.specs.declared.keywords.collation.CollationNumericOrdering.{CollationNumericOrdering}

-- ---- the first day of a week

abbrev pub first_day_word : FirstDay → Text
first_day_word FirstDay.Sun = codes "sun"
first_day_word FirstDay.Mon = codes "mon"
first_day_word FirstDay.Tue = codes "tue"
first_day_word FirstDay.Wed = codes "wed"
first_day_word FirstDay.Thu = codes "thu"
first_day_word FirstDay.Fri = codes "fri"
first_day_word FirstDay.Sat = codes "sat"

abbrev pub first_day : Words FirstDay
first_day = record {
  key = codes "fw";
  cases = FirstDay.Sun ∷ FirstDay.Mon ∷ FirstDay.Tue ∷ FirstDay.Wed ∷ FirstDay.Thu ∷ FirstDay.Fri ∷ FirstDay.Sat ∷ [];
  word = first_day_word;
}

-- ---- the system of measurement

abbrev pub measurement_word : MeasurementSystem → Text
measurement_word MeasurementSystem.Metric = codes "metric"
measurement_word MeasurementSystem.Ussystem = codes "ussystem"
measurement_word MeasurementSystem.Uksystem = codes "uksystem"

abbrev pub measurement : Words MeasurementSystem
measurement = record {
  key = codes "ms";
  cases = MeasurementSystem.Metric ∷ MeasurementSystem.Ussystem ∷ MeasurementSystem.Uksystem ∷ [];
  word = measurement_word;
}

-- ---- how amounts of money are written

abbrev pub currency_format_word : CurrencyFormatStyle → Text
currency_format_word CurrencyFormatStyle.Standard = codes "standard"
currency_format_word CurrencyFormatStyle.Account = codes "account"

abbrev pub currency_format : Words CurrencyFormatStyle
currency_format = record {
  key = codes "cf";
  cases = CurrencyFormatStyle.Standard ∷ CurrencyFormatStyle.Account ∷ [];
  word = currency_format_word;
}

-- ---- how emoji are shown

abbrev pub emoji_word : EmojiPresentationStyle → Text
emoji_word EmojiPresentationStyle.Emoji = codes "emoji"
emoji_word EmojiPresentationStyle.Text = codes "text"
emoji_word EmojiPresentationStyle.Default = codes "default"

abbrev pub emoji : Words EmojiPresentationStyle
emoji = record {
  key = codes "em";
  cases = EmojiPresentationStyle.Emoji ∷ EmojiPresentationStyle.Text ∷ EmojiPresentationStyle.Default ∷ [];
  word = emoji_word;
}

-- ---- how strictly lines are broken

abbrev pub line_break_word : LineBreakStyle → Text
line_break_word LineBreakStyle.Strict = codes "strict"
line_break_word LineBreakStyle.Normal = codes "normal"
line_break_word LineBreakStyle.Loose = codes "loose"

abbrev pub line_break : Words LineBreakStyle
line_break = record {
  key = codes "lb";
  cases = LineBreakStyle.Strict ∷ LineBreakStyle.Normal ∷ LineBreakStyle.Loose ∷ [];
  word = line_break_word;
}

-- ---- where lines are broken within words

abbrev pub word_handling_word : LineBreakWordHandling → Text
word_handling_word LineBreakWordHandling.Normal = codes "normal"
word_handling_word LineBreakWordHandling.BreakAll = codes "breakall"
word_handling_word LineBreakWordHandling.KeepAll = codes "keepall"
word_handling_word LineBreakWordHandling.Phrase = codes "phrase"

abbrev pub word_handling : Words LineBreakWordHandling
word_handling = record {
  key = codes "lw";
  cases = LineBreakWordHandling.Normal ∷ LineBreakWordHandling.BreakAll ∷ LineBreakWordHandling.KeepAll ∷ LineBreakWordHandling.Phrase ∷ [];
  word = word_handling_word;
}

-- ---- which case is sorted first

abbrev pub case_first_word : CollationCaseFirst → Text
case_first_word CollationCaseFirst.Upper = codes "upper"
case_first_word CollationCaseFirst.Lower = codes "lower"
case_first_word CollationCaseFirst.False = codes "false"

abbrev pub case_first : Words CollationCaseFirst
case_first = record {
  key = codes "kf";
  cases = CollationCaseFirst.Upper ∷ CollationCaseFirst.Lower ∷ CollationCaseFirst.False ∷ [];
  word = case_first_word;
}

-- ---- whether digits are sorted as numbers

abbrev pub numeric_ordering_word : CollationNumericOrdering → Text
numeric_ordering_word CollationNumericOrdering.True = codes "true"
numeric_ordering_word CollationNumericOrdering.False = codes "false"

abbrev pub numeric_ordering : Words CollationNumericOrdering
numeric_ordering = record {
  key = codes "kn";
  cases = CollationNumericOrdering.True ∷ CollationNumericOrdering.False ∷ [];
  word = numeric_ordering_word;
}
