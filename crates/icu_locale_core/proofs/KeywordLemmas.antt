-- What a keyword states of a subdivision is what a tag prefers.
use Rattle.std.proofs.Common.{◌≡◌, Option, None, Some, List, refl}
use Rattle.std.specs.Prelude.{option_and_then}
use Rattle.icu_locale_core_grammar.specs.Subtags.{Text}
use Rattle.icu_locale_core_grammar.specs.TagPreferences.{subdivision_of, one_piece}
use Rattle.icu_locale_core_preference_keywords.specs.TypedKeywords.{stated_subdivision}

pub subdivision_stated : (value : Option (List Text)) → option_and_then stated_subdivision value ≡ option_and_then subdivision_of (option_and_then one_piece value)
subdivision_stated None = refl
subdivision_stated (Some subtags) = refl
