-- That the keys are keys, and that each word states its case: the proofs of what `OwnWords.antt` states.
-- Defined in docs/tags.md, "Typed keywords".
-- Cited by the impls of `WordKeyword`, whose law they are; what a law cites is in specs/.
use Rattle.std.proofs.Common.{refl}
use Rattle.icu_locale_core_preference_keywords.specs.KeywordWords.{first_day, measurement, currency_format, emoji, line_break, word_handling, case_first, numeric_ordering}
use Rattle.icu_locale_core_preference_keywords.specs.declared.keywords.first_day.FirstDay.{FirstDay}
use Rattle.icu_locale_core_preference_keywords.specs.declared.keywords.measurement_system.MeasurementSystem.{MeasurementSystem}
use Rattle.icu_locale_core_preference_keywords.specs.declared.keywords.currency.CurrencyFormatStyle.{CurrencyFormatStyle}
use Rattle.icu_locale_core_preference_keywords.specs.declared.keywords.emoji.EmojiPresentationStyle.{EmojiPresentationStyle}
use Rattle.icu_locale_core_preference_keywords.specs.declared.keywords.line_break.LineBreakStyle.{LineBreakStyle}
use Rattle.icu_locale_core_preference_keywords.specs.declared.keywords.line_break.LineBreakWordHandling.{LineBreakWordHandling}
use Rattle.icu_locale_core_preference_keywords.specs.declared.keywords.collation.CollationCaseFirst.{CollationCaseFirst}
use Rattle.icu_locale_core_preference_keywords.specs.declared.keywords.collation.CollationNumericOrdering.{CollationNumericOrdering}
use Rattle.icu_locale_core_preference_keywords.specs.OwnWords.{IsOwnWord, OwnsWords}

first_day_words : (c : FirstDay) → IsOwnWord first_day c
first_day_words FirstDay.Sun = record { taken = refl; lowered = refl; stated = refl }
first_day_words FirstDay.Mon = record { taken = refl; lowered = refl; stated = refl }
first_day_words FirstDay.Tue = record { taken = refl; lowered = refl; stated = refl }
first_day_words FirstDay.Wed = record { taken = refl; lowered = refl; stated = refl }
first_day_words FirstDay.Thu = record { taken = refl; lowered = refl; stated = refl }
first_day_words FirstDay.Fri = record { taken = refl; lowered = refl; stated = refl }
first_day_words FirstDay.Sat = record { taken = refl; lowered = refl; stated = refl }

pub first_day_owns : OwnsWords first_day
first_day_owns = record { key_taken = refl; key_lowered = refl; each = first_day_words }

measurement_words : (c : MeasurementSystem) → IsOwnWord measurement c
measurement_words MeasurementSystem.Metric = record { taken = refl; lowered = refl; stated = refl }
measurement_words MeasurementSystem.Ussystem = record { taken = refl; lowered = refl; stated = refl }
measurement_words MeasurementSystem.Uksystem = record { taken = refl; lowered = refl; stated = refl }

pub measurement_owns : OwnsWords measurement
measurement_owns = record { key_taken = refl; key_lowered = refl; each = measurement_words }

currency_format_words : (c : CurrencyFormatStyle) → IsOwnWord currency_format c
currency_format_words CurrencyFormatStyle.Standard = record { taken = refl; lowered = refl; stated = refl }
currency_format_words CurrencyFormatStyle.Account = record { taken = refl; lowered = refl; stated = refl }

pub currency_format_owns : OwnsWords currency_format
currency_format_owns = record { key_taken = refl; key_lowered = refl; each = currency_format_words }

emoji_words : (c : EmojiPresentationStyle) → IsOwnWord emoji c
emoji_words EmojiPresentationStyle.Emoji = record { taken = refl; lowered = refl; stated = refl }
emoji_words EmojiPresentationStyle.Text = record { taken = refl; lowered = refl; stated = refl }
emoji_words EmojiPresentationStyle.Default = record { taken = refl; lowered = refl; stated = refl }

pub emoji_owns : OwnsWords emoji
emoji_owns = record { key_taken = refl; key_lowered = refl; each = emoji_words }

line_break_words : (c : LineBreakStyle) → IsOwnWord line_break c
line_break_words LineBreakStyle.Strict = record { taken = refl; lowered = refl; stated = refl }
line_break_words LineBreakStyle.Normal = record { taken = refl; lowered = refl; stated = refl }
line_break_words LineBreakStyle.Loose = record { taken = refl; lowered = refl; stated = refl }

pub line_break_owns : OwnsWords line_break
line_break_owns = record { key_taken = refl; key_lowered = refl; each = line_break_words }

word_handling_words : (c : LineBreakWordHandling) → IsOwnWord word_handling c
word_handling_words LineBreakWordHandling.Normal = record { taken = refl; lowered = refl; stated = refl }
word_handling_words LineBreakWordHandling.BreakAll = record { taken = refl; lowered = refl; stated = refl }
word_handling_words LineBreakWordHandling.KeepAll = record { taken = refl; lowered = refl; stated = refl }
word_handling_words LineBreakWordHandling.Phrase = record { taken = refl; lowered = refl; stated = refl }

pub word_handling_owns : OwnsWords word_handling
word_handling_owns = record { key_taken = refl; key_lowered = refl; each = word_handling_words }

case_first_words : (c : CollationCaseFirst) → IsOwnWord case_first c
case_first_words CollationCaseFirst.Upper = record { taken = refl; lowered = refl; stated = refl }
case_first_words CollationCaseFirst.Lower = record { taken = refl; lowered = refl; stated = refl }
case_first_words CollationCaseFirst.False = record { taken = refl; lowered = refl; stated = refl }

pub case_first_owns : OwnsWords case_first
case_first_owns = record { key_taken = refl; key_lowered = refl; each = case_first_words }

numeric_ordering_words : (c : CollationNumericOrdering) → IsOwnWord numeric_ordering c
numeric_ordering_words CollationNumericOrdering.True = record { taken = refl; lowered = refl; stated = refl }
numeric_ordering_words CollationNumericOrdering.False = record { taken = refl; lowered = refl; stated = refl }

pub numeric_ordering_owns : OwnsWords numeric_ordering
numeric_ordering_owns = record { key_taken = refl; key_lowered = refl; each = numeric_ordering_words }
