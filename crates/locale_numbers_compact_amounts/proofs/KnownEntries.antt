-- Worked rows of `specs/AmountEntries.antt` and `specs/AmountChoice.antt`: what known entries say, a row for each fault, and which table is taken.
-- The entries are those of CLDR 48, or follow from the rules of README.md by hand.
use Rattle.std.proofs.Common.{◌≡◌, ℕ, List, [], ◌∷◌, ◌++◌, codes, Option, Some, None, Result, Ok, Err, refl}
use Rattle.std.specs.Char.{encode_utf8}
use Rattle.std.specs.Str.{chars, is_utf8}
use Rattle.serde_json.specs.Data.{Data, null}
use Rattle.icu_decimal.specs.Choice.{answered}
use Rattle.icu_decimal.specs.Elements.{only_other}
use Rattle.icu_decimal.specs.Identifiers.{Identifier, of_both}
use Rattle.icu_decimal.specs.declared.error.DataError.{DataError}
use Rattle.icu_dimension_compact.specs.AmountTables.{AmountTable}
use Rattle.icu_dimension_compact.specs.declared.CompactEntry.{CompactEntry}
use Rattle.icu_locale_core.specs.DataLocales.{unknown_data}
use Rattle.icu_locale_core.specs.Stepping.{headed_after, whole_after}
use Rattle.icu_locale_core.specs.TagPreferences.{DataLocaleMeaning}
use Rattle.icu_locale_core.specs.TagStages.{with_piece, body_after}
use Rattle.locale_numbers_tables.specs.Keys.{same_key, table_at}
use Rattle.locale_numbers_tables.specs.TagReading.{tag_of, data_locale_of}
use Rattle.locale_numbers_tables.specs.declared.BookError.{BookError}
use Rattle.locale_numbers_tables.specs.declared.BookError.TheVariants.{Shape, Tag, System, Text, Types, Exponents, Duplicate}
use Rattle.locale_numbers_compact_amounts.specs.AmountChoice.{amounts_found}
use Rattle.locale_numbers_compact_amounts.specs.AmountEntries.{amounts_entry, amounts_faults, amounts_said}
use Rattle.locale_numbers_compact_amounts.proofs.KnownValues.{after, alone, apart, entry, german_millions, in_thousands, items, list, place, size, slot, spanish_milliards, texts, thousands, type, without_beside}

-- ---- entries

abbrev english : Data
english = entry (codes "en") [] (type 3 3 (thousands ∷ []) ∷ [])

abbrev typed : ℕ → ℕ → CompactEntry
typed log10_type exponent = record { log10_type = log10_type; exponent = exponent }

abbrev english_table : AmountTable
english_table = record { entries = typed 3 3 ∷ []; patterns = in_thousands ∷ [] }

abbrev locale : List ℕ → DataLocaleMeaning
locale language = record { language = language; script = None; region = None; variant = None; subdivision = None }

english_entry : amounts_entry english ≡ Some (of_both [] (locale (codes "en")), english_table)
unfolding data_locale_of tag_of whole_after headed_after body_after with_piece
english_entry = refl

-- in German thousands are written as plain amounts, `1234~€`
german_said : amounts_said (entry (codes "de") [] (type 3 0 [] ∷ type 6 6 german_millions ∷ []))
    ≡ Some (record { entries = typed 3 0 ∷ typed 6 6 ∷ []; patterns = None ∷ Some (only_other (without_beside (alone (after [] (apart ++ (codes "Mio." ++ apart)) [])))) ∷ [] })
german_said = refl

-- an exponent below its type: `12~mil~M~€` of 12 with the exponent 9
spanish_said : amounts_said (entry (codes "es") [] (type 10 9 spanish_milliards ∷ []))
    ≡ Some (record { entries = typed 10 9 ∷ []; patterns = Some (only_other (without_beside (alone (after [] (apart ++ (codes "mil" ++ (apart ++ (codes "M" ++ apart)))) [])))) ∷ [] })
spanish_said = refl

-- ---- tables that are taken

abbrev arabic_table : AmountTable
arabic_table = record { entries = typed 3 0 ∷ []; patterns = None ∷ [] }

-- entries of `en`, and of `und` with `arab`
abbrev provided : Identifier → Result AmountTable DataError
provided id = answered (table_at same_key id ((of_both [] (locale (codes "en")), english_table) ∷ (of_both (codes "arab") unknown_data, arabic_table) ∷ []))

abbrev taken : Option (List ℕ) → Result AmountTable DataError
taken system = amounts_found provided (locale (codes "en") ∷ unknown_data ∷ []) system

without_system : taken None ≡ Ok english_table
without_system = refl

-- the system goes before a nearer locale
with_system : taken (Some (codes "arab")) ≡ Ok arabic_table
with_system = refl

other_system : taken (Some (codes "thai")) ≡ Ok english_table
other_system = refl

no_table : amounts_found provided (unknown_data ∷ []) (Some (codes "thai")) ≡ Err DataError.IdentifierNotFound
no_table = refl

-- ---- faults

abbrev faults : List Data → Option BookError
faults entries = amounts_faults (items entries)

-- two systems of one locale are two keys
no_fault : faults (english ∷ entry (codes "en") (codes "arab") [] ∷ []) ≡ None
unfolding data_locale_of tag_of whole_after headed_after body_after with_piece chars is_utf8 encode_utf8
no_fault = refl

no_array : faults (null ∷ []) ≡ Some Shape
no_array = refl

no_type : faults (entry (codes "en") [] (list (size 3 ∷ size 3 ∷ []) ∷ []) ∷ []) ≡ Some Shape
no_type = refl

large_type : faults (entry (codes "en") [] (type 256 3 [] ∷ []) ∷ []) ≡ Some Shape
large_type = refl

without_place : faults (entry (codes "e") (codes "E") (type 3 3 (slot (codes "other") (texts [] (9 ∷ [])) null ∷ []) ∷ []) ∷ []) ≡ Some Shape
without_place = refl

no_locale : faults (entry (codes "e") (codes "E") (type 3 3 (slot (codes "other") (texts place (9 ∷ [])) null ∷ []) ∷ []) ∷ []) ≡ Some Tag
unfolding data_locale_of tag_of whole_after headed_after body_after with_piece
no_locale = refl

capital_system : faults (entry (codes "en") (codes "LATN") (type 3 3 (slot (codes "other") (texts place (9 ∷ [])) null ∷ []) ∷ []) ∷ []) ≡ Some System
unfolding data_locale_of tag_of whole_after headed_after body_after with_piece
capital_system = refl

tab_in_a_pattern : faults (entry (codes "en") [] (type 3 3 (slot (codes "other") (texts place (9 ∷ [])) null ∷ []) ∷ type 3 3 [] ∷ []) ∷ []) ≡ Some Text
unfolding data_locale_of tag_of whole_after headed_after body_after with_piece chars is_utf8 encode_utf8
tab_in_a_pattern = refl

same_type : faults (entry (codes "en") [] (type 3 3 [] ∷ type 3 4 [] ∷ []) ∷ []) ≡ Some Types
unfolding data_locale_of tag_of whole_after headed_after body_after with_piece chars is_utf8 encode_utf8
same_type = refl

exponent_above : faults (entry (codes "en") [] (type 3 4 [] ∷ []) ∷ []) ≡ Some Exponents
unfolding data_locale_of tag_of whole_after headed_after body_after with_piece chars is_utf8 encode_utf8
exponent_above = refl

exponent_falls : faults (entry (codes "en") [] (type 3 3 [] ∷ type 6 2 [] ∷ []) ∷ []) ≡ Some Exponents
unfolding data_locale_of tag_of whole_after headed_after body_after with_piece chars is_utf8 encode_utf8
exponent_falls = refl

many_zeros : faults (entry (codes "en") [] (type 20 4 [] ∷ []) ∷ []) ≡ Some Exponents
unfolding data_locale_of tag_of whole_after headed_after body_after with_piece chars is_utf8 encode_utf8
many_zeros = refl

-- a tag in capitals is the same locale
same_locale : faults (english ∷ entry (codes "EN") [] [] ∷ []) ≡ Some Duplicate
unfolding data_locale_of tag_of whole_after headed_after body_after with_piece chars is_utf8 encode_utf8
same_locale = refl

-- the first faulty entry decides, and not the least number
first_entry : faults (entry (codes "en") [] (type 3 4 [] ∷ []) ∷ null ∷ []) ≡ Some Exponents
unfolding data_locale_of tag_of whole_after headed_after body_after with_piece chars is_utf8 encode_utf8
first_entry = refl
