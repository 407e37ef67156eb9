-- Worked rows of `specs/Tables.antt`: what known books have, and their locales.
use Rattle.std.proofs.Common.{◌≡◌, ◌∷◌, [], codes, Some, None, Ok, Err, refl}
use Rattle.icu_locale_core.specs.TagPreferences.{DataLocaleMeaning}
use Rattle.icu_decimal.specs.declared.error.DataError.{DataError}
use Rattle.icu_decimal.specs.Identifiers.{of_both, of_system}
use Rattle.icu_decimal.specs.Symbols.{english_symbols}
use Rattle.locale_numbers_book.specs.Book.{BookTables}
use Rattle.locale_numbers_book.specs.SampleBook as sample
use Rattle.locale_numbers_book.specs.SampleBook.{sample_tables}
use Rattle.locale_numbers_book.specs.Tables.{chain_in, digits_under, locales_in, usual_locales}

-- ---- tables

abbrev latin_alone : BookTables
latin_alone = record { symbols = []; digits = (codes "latn", codes "0123456789") ∷ []; rules = []; short = []; long = []; parents = None; units = None; plurals = None; signs = [] }

abbrev english : DataLocaleMeaning
english = record { language = codes "en"; script = None; region = None; variant = None; subdivision = None }

latin_digits : digits_under latin_alone (of_system (codes "latn")) ≡ Ok (codes "0123456789")
latin_digits = refl

unknown_system : digits_under latin_alone (of_system (codes "wxyz")) ≡ Err DataError.IdentifierNotFound
unknown_system = refl

-- digits are under no locale
digits_of_a_locale : digits_under latin_alone (of_both (codes "latn") english) ≡ Err DataError.IdentifierNotFound
digits_of_a_locale = refl

-- ---- parents

abbrev american : DataLocaleMeaning
american = record { language = codes "en"; script = None; region = Some (codes "US"); variant = None; subdivision = None }

-- without a sixth array nothing comes after a locale
whole_locale : chain_in latin_alone american ≡ american ∷ []
whole_locale = refl

-- an empty one lets it be cut
cut_locale : chain_in (record latin_alone { parents = Some [] }) american ≡ american ∷ english ∷ []
cut_locale = refl

-- ---- locales

-- those of the sample book; an entry of a system is not counted
sample_locales : locales_in sample_tables ≡ sample.english ∷ sample.egyptian ∷ []
sample_locales = refl

with_a_system : usual_locales ((of_both (codes "thai") english, english_symbols) ∷ (of_both [] american, english_symbols) ∷ []) ≡ american ∷ []
with_a_system = refl
