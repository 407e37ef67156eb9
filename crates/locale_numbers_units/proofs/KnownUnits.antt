-- Worked rows of `specs/Percents.antt`, `specs/Amounts.antt` and `specs/Units.antt`: what the entries of five locales say, and a row for each fault.
-- The entries of en, tr and de-CH are those of docs/books.md, "Units"; the rest follows from its rules by hand.
use Rattle.std.proofs.Common.{◌≡◌, ℕ, List, [], ◌∷◌, codes, Option, Some, None, refl, true}
use Rattle.std.specs.Char.{encode_utf8}
use Rattle.std.specs.Str.{chars, is_utf8}
use Rattle.serde_json.specs.Data.{Data, null, no_items}
use Rattle.icu_decimal.specs.Symbols.{Symbols}
use Rattle.icu_locale_core.specs.Stepping.{headed_after, whole_after}
use Rattle.icu_locale_core.specs.TagStages.{with_piece, body_after}
use Rattle.icu_dimension.specs.UnitPatterns.{AffixesText, PatternTexts}
use Rattle.icu_dimension.specs.declared.UnitPlace.TheVariants.{Before, After}
use Rattle.locale_numbers_tables.specs.Entries.{entry_key}
use Rattle.locale_numbers_tables.specs.Keys.{same_key}
use Rattle.locale_numbers_tables.specs.TagReading.{tag_of, data_locale_of}
use Rattle.locale_numbers_tables.specs.declared.BookError.{BookError}
use Rattle.locale_numbers_tables.specs.declared.BookError.TheVariants.{Shape, Tag, System, Text, Duplicate, Unit, Code}
use Rattle.locale_numbers_units.specs.Amounts.{accounts_fault, accounts_key, amounts_said, currencies_fault, currencies_key}
use Rattle.locale_numbers_units.specs.Faults.{first_fault_after}
use Rattle.locale_numbers_units.specs.Units.{units_fault}
use Rattle.locale_numbers_units.specs.Percents.{percents_fault, percents_said}
use Rattle.locale_numbers_units.proofs.KnownValues.{digits, items, list, size, symbol, text}

-- ---- entries

-- the place of the unit, a no-break space, and the marks from right to left and from left to right
abbrev place : List ℕ
place = 194 ∷ 164 ∷ []

abbrev space : List ℕ
space = 194 ∷ 160 ∷ []

abbrev rlm : List ℕ
rlm = 226 ∷ 128 ∷ 143 ∷ []

abbrev lrm : List ℕ
lrm = 226 ∷ 128 ∷ 142 ∷ []

abbrev two : List ℕ → List ℕ → Data
two before after = list (text before ∷ text after ∷ [])

abbrev percents : List ℕ → List ℕ → List ℕ → Data → Data → Data
percents locale system sign own pattern = list (text locale ∷ text system ∷ text sign ∷ own ∷ pattern ∷ [])

abbrev with_permille : List ℕ → Data → List ℕ → Data
with_permille locale pattern permille = list (text locale ∷ text [] ∷ text (codes "%") ∷ null ∷ pattern ∷ text permille ∷ [])

abbrev amounts : List ℕ → List ℕ → Data → Data → Data → Data
amounts locale attribute own pattern beside = list (text locale ∷ text attribute ∷ own ∷ pattern ∷ beside ∷ [])

abbrev affixes_before : List ℕ → AffixesText
affixes_before second = record { place = Before; first = []; second = second; third = [] }

abbrev no_sign : AffixesText → PatternTexts
no_sign unsigned = record { unsigned = unsigned; minus = None; plus = None }

-- ---- what they say

-- in Turkish the percent sign is before the number
turkish : percents_said (percents (codes "tr") [] (codes "%") null (two place []))
    ≡ Some (record { sign = codes "%"; permille = None; symbols = None; pattern = no_sign (affixes_before []) })
unfolding chars is_utf8 encode_utf8
turkish = refl

-- and so is the permille sign
abbrev permille : List ℕ
permille = 226 ∷ 128 ∷ 176 ∷ []

turkish_permille : percents_said (with_permille (codes "tr") (two place []) permille)
    ≡ Some (record { sign = codes "%"; permille = Some permille; symbols = None; pattern = no_sign (affixes_before []) })
unfolding chars is_utf8 encode_utf8
turkish_permille = refl

-- in English a unit that ends with a letter has a space after it
english : amounts_said (amounts (codes "en") [] null (two place []) (two (194 ∷ 164 ∷ space) []))
    ≡ Some (record { symbols = None; patterns = record { standard = no_sign (affixes_before []); alpha_next_to_number = Some (no_sign (affixes_before space)) } })
english = refl

-- in Swiss German a sign takes the place of the space
swiss : amounts_said (amounts (codes "de-CH") [] null
    (list (text (194 ∷ 164 ∷ space) ∷ text [] ∷ text (194 ∷ 164 ∷ codes "-") ∷ text [] ∷ text (194 ∷ 164 ∷ codes "+") ∷ text [] ∷ [])) null)
    ≡ Some (record {
      symbols = None;
      patterns = record {
        standard = record { unsigned = affixes_before space; minus = Some (affixes_before (codes "-")); plus = Some (affixes_before (codes "+")) };
        alpha_next_to_number = None;
      };
    })
swiss = refl

-- in Austrian German amounts have separators of their own
abbrev austrian_own : Data
austrian_own = list (
    text (codes "latn") ∷ text (codes "-") ∷ text [] ∷ text (codes "+") ∷ text [] ∷ text (codes ",") ∷ text (codes ".")
    ∷ size 3 ∷ size 3 ∷ size 1 ∷ [])

abbrev austrian_symbols : Symbols
austrian_symbols = record {
  strings = record {
    minus_sign_prefix = codes "-";
    minus_sign_suffix = [];
    plus_sign_prefix = codes "+";
    plus_sign_suffix = [];
    decimal_separator = codes ",";
    grouping_separator = codes ".";
    numsys = codes "latn";
  };
  grouping_sizes = record { primary = 3; secondary = 3; min_grouping = 1 };
}

austrian : amounts_said (amounts (codes "de-AT") [] austrian_own (two (194 ∷ 164 ∷ space) []) null)
    ≡ Some (record { symbols = Some austrian_symbols; patterns = record { standard = no_sign (affixes_before space); alpha_next_to_number = None } })
unfolding chars is_utf8 encode_utf8
austrian = refl

-- in Hebrew the unit is after the number, and marks of direction are texts like others
abbrev hebrew_after : List ℕ → AffixesText
hebrew_after first = record { place = After; first = first; second = 194 ∷ 160 ∷ rlm; third = [] }

abbrev hebrew_unit : List ℕ
hebrew_unit = 194 ∷ 160 ∷ 226 ∷ 128 ∷ 143 ∷ place

hebrew : amounts_said (amounts (codes "he") [] null
    (list (text rlm ∷ text hebrew_unit ∷ text (226 ∷ 128 ∷ 143 ∷ 226 ∷ 128 ∷ 142 ∷ codes "-") ∷ text hebrew_unit ∷ text (226 ∷ 128 ∷ 143 ∷ 226 ∷ 128 ∷ 142 ∷ codes "+") ∷ text hebrew_unit ∷ [])) null)
    ≡ Some (record {
      symbols = None;
      patterns = record {
        standard = record {
          unsigned = hebrew_after rlm;
          minus = Some (hebrew_after (226 ∷ 128 ∷ 143 ∷ 226 ∷ 128 ∷ 142 ∷ codes "-"));
          plus = Some (hebrew_after (226 ∷ 128 ∷ 143 ∷ 226 ∷ 128 ∷ 142 ∷ codes "+"));
        };
        alpha_next_to_number = None;
      };
    })
hebrew = refl

-- ---- faults

abbrev percents_faults : List Data → Option BookError
percents_faults entries = first_fault_after same_key entry_key percents_fault [] (items entries)

abbrev currencies_faults : List Data → Option BookError
currencies_faults entries = first_fault_after same_key currencies_key currencies_fault [] (items entries)

abbrev accounts_faults : List Data → Option BookError
accounts_faults entries = first_fault_after same_key accounts_key accounts_fault [] (items entries)

abbrev english_percents : Data → Data
english_percents pattern = percents (codes "en") [] (codes "%") null pattern

three_texts : percents_faults (english_percents (list (text [] ∷ text place ∷ text [] ∷ [])) ∷ []) ≡ Some Shape
three_texts = refl

nine_symbols : currencies_faults (amounts (codes "en") [] (list (text (codes "latn") ∷ [])) (two place []) null ∷ []) ≡ Some Shape
nine_symbols = refl

no_locale : percents_faults (percents (codes "e") [] (codes "%") null (two [] place) ∷ []) ≡ Some Tag
unfolding data_locale_of tag_of whole_after headed_after body_after with_piece
no_locale = refl

-- a code is the second field of currencies only
code_of_percents : percents_faults (percents (codes "en") (codes "EUR") (codes "%") null (two [] place) ∷ []) ≡ Some System
unfolding data_locale_of tag_of whole_after headed_after body_after with_piece
code_of_percents = refl

code_of_accounts : accounts_faults (amounts (codes "en") (codes "EUR") null (two place []) null ∷ []) ≡ Some System
unfolding data_locale_of tag_of whole_after headed_after body_after with_piece
code_of_accounts = refl

code_of_currencies : currencies_faults (amounts (codes "en") (codes "EUR") null (two place []) null ∷ []) ≡ None
unfolding data_locale_of tag_of whole_after headed_after body_after with_piece chars is_utf8 encode_utf8
code_of_currencies = refl

tab_as_sign : percents_faults (percents (codes "en") [] (9 ∷ []) null (two [] place) ∷ []) ≡ Some Text
unfolding data_locale_of tag_of whole_after headed_after body_after with_piece chars is_utf8 encode_utf8
tab_as_sign = refl

tab_as_permille : percents_faults (with_permille (codes "en") (two [] place) (9 ∷ []) ∷ []) ≡ Some Text
unfolding data_locale_of tag_of whole_after headed_after body_after with_piece chars is_utf8 encode_utf8
tab_as_permille = refl

six_fields : percents_faults (with_permille (codes "en") (two [] place) permille ∷ []) ≡ None
unfolding data_locale_of tag_of whole_after headed_after body_after with_piece chars is_utf8 encode_utf8
six_fields = refl

permille_null : percents_faults (list (text (codes "en") ∷ text [] ∷ text (codes "%") ∷ null ∷ two [] place ∷ null ∷ []) ∷ []) ≡ Some Shape
permille_null = refl

no_place : percents_faults (english_percents (two [] []) ∷ []) ≡ Some Unit
unfolding data_locale_of tag_of whole_after headed_after body_after with_piece chars is_utf8 encode_utf8
no_place = refl

place_twice : percents_faults (english_percents (two place place) ∷ []) ≡ Some Unit
unfolding data_locale_of tag_of whole_after headed_after body_after with_piece chars is_utf8 encode_utf8
place_twice = refl

-- of an entry with both faults the least number decides: it is a duplicate, and not one without a place
duplicate_without_place : percents_faults (english_percents (two [] place) ∷ english_percents (two [] []) ∷ []) ≡ Some Duplicate
unfolding data_locale_of tag_of whole_after headed_after body_after with_piece chars is_utf8 encode_utf8
duplicate_without_place = refl

-- of two faulty entries the first decides
first_entry : percents_faults (english_percents (two [] []) ∷ percents (codes "e") [] (codes "%") null (two [] place) ∷ []) ≡ Some Unit
unfolding data_locale_of tag_of whole_after headed_after body_after with_piece chars is_utf8 encode_utf8
first_entry = refl

-- ---- the whole

-- the first array with a fault decides: symbols are before digits
first_array : units_fault no_items no_items no_items (items (symbol (codes "en") (codes "US") (codes "$") 0 ∷ [])) (items (digits (codes "CHF") 2 3 ∷ [])) ≡ Some Code
unfolding data_locale_of tag_of whole_after headed_after body_after with_piece chars is_utf8 encode_utf8
first_array = refl

no_arrays : units_fault no_items no_items no_items no_items no_items ≡ None
no_arrays = refl
