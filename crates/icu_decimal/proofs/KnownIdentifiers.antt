-- Values from outside that a wrong definition does not survive: the tables of docs/formatters.md.
use Rattle.std.proofs.Common.{◌≡◌, true, false, List, [], ◌∷◌, Option, None, Some, refl, codes}
use Rattle.std.specs.Prelude.{ℕ, Result, Ok, Err}
use Rattle.icu_locale_core.specs.Subtags.{Text}
use Rattle.icu_locale_core.specs.Collections.{Entry}
use Rattle.icu_locale_core.specs.Meaning.{TagMeaning, no_transform}
use Rattle.icu_locale_core.specs.TagPreferences.{LocalePreferencesMeaning, DataLocaleMeaning, Preferences, preferences_of, numbering_key}
use Rattle.icu_decimal_symbols.specs.declared.error.DataError.{DataError}
use Rattle.icu_decimal.specs.Choice.{first_found}
use Rattle.icu_decimal.specs.Identifiers.{of_both, of_locale, of_system, identifiers_along, symbols_identifiers, digits_identifiers}
use Rattle.icu_decimal.specs.Preferences.{nothing_preferred, joined, fails}

-- ---- the first table: the answers of a provider to identifiers, in their order

abbrev answer : Result ℕ DataError → Result ℕ DataError
answer given = given

abbrev found : List (Result ℕ DataError) → Result ℕ DataError
found answers = first_found answer answers

no_identifier : found [] ≡ Err DataError.InvalidRequest
no_identifier = refl

first_one : found (Ok 1 ∷ Ok 2 ∷ []) ≡ Ok 1
first_one = refl

second_one : found (Err DataError.IdentifierNotFound ∷ Ok 2 ∷ []) ≡ Ok 2
second_one = refl

custom_at_once : found (Err DataError.Custom ∷ Ok 2 ∷ []) ≡ Err DataError.Custom
custom_at_once = refl

invalid_at_once : found (Err DataError.InvalidRequest ∷ Ok 2 ∷ []) ≡ Err DataError.InvalidRequest
invalid_at_once = refl

none_found : found (Err DataError.IdentifierNotFound ∷ Err DataError.IdentifierNotFound ∷ []) ≡ Err DataError.IdentifierNotFound
none_found = refl

last_error : found (Err DataError.IdentifierNotFound ∷ Err DataError.Memory ∷ []) ≡ Err DataError.Memory
last_error = refl

-- ---- identifiers

abbrev locale_of : Text → LocalePreferencesMeaning
locale_of language = record { language = language; script = None; region = None; variant = None; subdivision = None; region_override = None }

abbrev data_of : Text → DataLocaleMeaning
data_of language = record { language = language; script = None; region = None; variant = None; subdivision = None }

abbrev asking : Text → Option Text → Preferences
asking language system = record { locale = locale_of language; numbering_system = system }

-- without parents
english_symbols : symbols_identifiers (λ locale. locale ∷ []) (asking (codes "en") None) ≡ of_locale (data_of (codes "en")) ∷ []
english_symbols = refl

thai_symbols : symbols_identifiers (λ locale. locale ∷ []) (asking (codes "en") (Some (codes "thai"))) ≡ of_both (codes "thai") (data_of (codes "en")) ∷ of_locale (data_of (codes "en")) ∷ []
thai_symbols = refl

-- with a parent: the whole chain with the system, then the whole chain without
along_parents : identifiers_along (Some (codes "thai")) (data_of (codes "en") ∷ data_of (codes "und") ∷ [])
    ≡ of_both (codes "thai") (data_of (codes "en")) ∷ of_both (codes "thai") (data_of (codes "und")) ∷ of_locale (data_of (codes "en")) ∷ of_locale (data_of (codes "und")) ∷ []
along_parents = refl

named_digits : digits_identifiers None (codes "latn") ≡ of_system (codes "latn") ∷ []
named_digits = refl

asked_digits : digits_identifiers (Some (codes "wxyz")) (codes "latn") ≡ of_system (codes "wxyz") ∷ of_system (codes "latn") ∷ []
asked_digits = refl

-- ---- preferences of the language `en` with a keyword

abbrev tag_with : List Entry → TagMeaning
tag_with entries = record {
  language = record { language = codes "en"; script = None; region = None; variants = [] };
  extensions = record { unicode = record { head = []; entries = entries }; transform = no_transform; others = [] };
  private_use = [];
}

one_system : preferences_of (tag_with ((numbering_key, codes "latn" ∷ []) ∷ [])) ≡ asking (codes "en") (Some (codes "latn"))
one_system = refl

two_systems : preferences_of (tag_with ((numbering_key, codes "latn" ∷ codes "thai" ∷ []) ∷ [])) ≡ asking (codes "en") None
two_systems = refl

one_reads : fails (tag_with ((numbering_key, codes "latn" ∷ []) ∷ [])) ≡ false
one_reads = refl

two_fail : fails (tag_with ((numbering_key, codes "latn" ∷ codes "thai" ∷ []) ∷ [])) ≡ true
two_fail = refl

none_reads : fails (tag_with []) ≡ false
none_reads = refl

subdivision_fails : fails (tag_with ((codes "sd", codes "12a" ∷ []) ∷ [])) ≡ true
subdivision_fails = refl

-- ---- joined

system_stays : joined (asking (codes "en") (Some (codes "thai"))) nothing_preferred ≡ asking (codes "en") (Some (codes "thai"))
system_stays = refl

other_wins : joined (asking (codes "en") (Some (codes "thai"))) (asking (codes "de") (Some (codes "latn"))) ≡ asking (codes "de") (Some (codes "latn"))
other_wins = refl

locale_wins : joined (asking (codes "en") (Some (codes "thai"))) (asking (codes "de") None) ≡ asking (codes "de") (Some (codes "thai"))
locale_wins = refl
