-- The meaning of a list of pieces as a function of the list: of a tag, and of a tag that is a data locale.
-- UTS 35, section 3; docs/tags.md, "Stages" and "Data locales". The laws of `laws.rt` of `locale_numbers_book` say that they find exactly the meanings
-- of the relations `MeansTag` and `MeansDataLocale`, which are to be believed in their place.
-- Cited by `Book::from_json`, through Fields.antt, and by the answer to a line.
use Rattle.std.specs.Prelude.{Bool, List, Option, None, Some, option_and_then, if◌then◌else◌}
use Rattle.icu_locale_core.specs.Subtags.{Text}
use Rattle.icu_locale_core.specs.Meaning.{TagMeaning}
use Rattle.icu_locale_core.specs.TagPreferences.{DataLocaleMeaning, data_meaning, locale_preferences_of, language_priority}
use Rattle.icu_locale_core.specs.Stepping.{run}
use Rattle.icu_locale_core.specs.TagStages.{tag_start, tag_after, tag_ends}
use Rattle.icu_locale_core.specs.LocaleValue.{same_locale}

-- the meaning of the stage after the last piece
unfoldable pub tag_of : List Text → Option TagMeaning
tag_of list = option_and_then tag_ends (run tag_after (Some tag_start) list)

-- the language-first form of a tag
abbrev pub data_locale_in : TagMeaning → DataLocaleMeaning
data_locale_in tag = language_priority (locale_preferences_of tag)

-- whether that form is all that the tag says
abbrev pub says_no_more : TagMeaning → Bool
says_no_more tag = same_locale (data_meaning (data_locale_in tag)) tag

-- the data locale that a tag is
abbrev pub alone : TagMeaning → Option DataLocaleMeaning
alone tag = if says_no_more tag then Some (data_locale_in tag) else None

unfoldable pub data_locale_of : List Text → Option DataLocaleMeaning
data_locale_of list = option_and_then alone (tag_of list)

-- the data locale of a language, a script, a region and a variant
abbrev pub one_variant_data : Text × Option Text × Option Text × Option Text → DataLocaleMeaning
one_variant_data parts = record { language = parts.0; script = parts.1; region = parts.2; variant = parts.3; subdivision = None }
