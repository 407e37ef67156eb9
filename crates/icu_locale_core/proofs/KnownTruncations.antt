-- Data locales cut by one part, at known values.
use Rattle.std.proofs.Common.{◌≡◌, Option, None, Some, codes, refl}
use Rattle.icu_locale_core_grammar.specs.Subtags.{Text}
use Rattle.icu_locale_core_grammar.specs.TagPreferences.{Subdivision, DataLocaleMeaning}
use Rattle.icu_locale_core.specs.DataLocales.{truncated, unknown_data}

abbrev chinese : Option Text → Option Text → Option Text → Option Subdivision → DataLocaleMeaning
chinese script region variant subdivision = record { language = codes "zh"; script = script; region = region; variant = variant; subdivision = subdivision }

abbrev Hant : Option Text
Hant = Some (codes "Hant")

abbrev TW : Option Text
TW = Some (codes "TW")

-- zh-Hant-TW-pinyin-u-sd-twtpe
subdivision_first : truncated (chinese Hant TW (Some (codes "pinyin")) (Some (record { region = codes "TW"; suffix = codes "tpe" }))) ≡ Some (chinese Hant TW (Some (codes "pinyin")) None)
subdivision_first = refl

variant_then : truncated (chinese Hant TW (Some (codes "pinyin")) None) ≡ Some (chinese Hant TW None None)
variant_then = refl

region_then : truncated (chinese Hant TW None None) ≡ Some (chinese Hant None None None)
region_then = refl

script_last : truncated (chinese Hant None None None) ≡ Some (chinese None None None None)
script_last = refl

language_stays : truncated (chinese None None None None) ≡ None
language_stays = refl

unknown_stays : truncated unknown_data ≡ None
unknown_stays = refl
