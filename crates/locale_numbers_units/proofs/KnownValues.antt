-- Worked rows of `specs/CurrencyDigits.antt`, `specs/CurrencySymbols.antt` and `specs/Faults.antt`: what known entries say, and a row for each fault.
-- Each is an example of docs/books.md, "Units" and "Faults of a pair", or follows from its rules by hand.
use Rattle.std.proofs.Common.{◌≡◌, ℕ, true, false, List, [], ◌∷◌, codes, Option, Some, None, refl}
use Rattle.std.specs.Char.{encode_utf8}
use Rattle.std.specs.Str.{bytes_eq, chars, is_utf8}
use Rattle.serde_json.specs.Data.{Data, Items, number, unsigned, string, array, no_items, item}
use Rattle.icu_locale_core.specs.Stepping.{headed_after, whole_after}
use Rattle.icu_locale_core.specs.TagStages.{with_piece, body_after}
use Rattle.icu_dimension.specs.declared.FractionIncrement.TheVariants.{MultiplesOf1, MultiplesOf5}
use Rattle.locale_numbers_tables.specs.Keys.{same_key}
use Rattle.locale_numbers_tables.specs.TagReading.{tag_of, data_locale_of}
use Rattle.locale_numbers_tables.specs.declared.BookError.{BookError}
use Rattle.locale_numbers_tables.specs.declared.BookError.TheVariants.{Shape, Tag, Text, Duplicate, Code}
use Rattle.locale_numbers_units.specs.CurrencyDigits.{digits_fault, digits_key, digits_said}
use Rattle.locale_numbers_units.specs.CurrencySymbols.{symbols_fault, symbols_key, symbols_said}
use Rattle.locale_numbers_units.specs.Faults.{first_fault_after}

-- ---- entries

abbrev pub items : List Data → Items
items [] = no_items
items (d ∷ ds) = item d (items ds)

abbrev pub list : List Data → Data
list ds = array (items ds)

abbrev pub text : List ℕ → Data
text bytes = string bytes

abbrev pub size : ℕ → Data
size n = number (unsigned n)

-- ---- digits of currencies

abbrev pub digits : List ℕ → ℕ → ℕ → Data
digits code shown increment = list (text code ∷ size shown ∷ size 1 ∷ size 2 ∷ size increment ∷ [])

-- francs: two digits, and in cash multiples of 5
francs : digits_said (digits (codes "CHF") 2 5) ≡ Some (record { standard = record { digits = 2; increment = MultiplesOf1 }; cash = record { digits = 2; increment = MultiplesOf5 } })
francs = refl

francs_key : digits_key (digits (codes "CHF") 2 5) ≡ Some (codes "CHF")
francs_key = refl

abbrev digits_faults : List Data → Option BookError
digits_faults entries = first_fault_after bytes_eq digits_key digits_fault [] (items entries)

no_fault : digits_faults (digits (codes "CHF") 2 5 ∷ digits (codes "JPY") 0 1 ∷ []) ≡ None
no_fault = refl

other_increment : digits_faults (digits (codes "CHF") 2 3 ∷ []) ≡ Some Shape
other_increment = refl

too_many_digits : digits_faults (digits (codes "CHF") 256 5 ∷ []) ≡ Some Shape
too_many_digits = refl

two_letters : digits_faults (digits (codes "CH") 2 5 ∷ []) ≡ Some Code
two_letters = refl

small_letters : digits_faults (digits (codes "chf") 2 5 ∷ []) ≡ Some Code
small_letters = refl

twice : digits_faults (digits (codes "CHF") 2 5 ∷ digits (codes "CHF") 2 1 ∷ []) ≡ Some Duplicate
twice = refl

-- the first faulty entry decides, and not the least number
first_entry : digits_faults (digits (codes "CH") 2 5 ∷ digits (codes "CHF") 2 3 ∷ []) ≡ Some Code
first_entry = refl

-- ---- symbols of currencies

abbrev pub symbol : List ℕ → List ℕ → List ℕ → ℕ → Data
symbol locale code said ends = list (text locale ∷ text code ∷ text said ∷ size ends ∷ [])

-- dollars begin with a letter
dollars : symbols_said (symbol (codes "und") (codes "USD") (codes "US$") 1) ≡ Some (record { text = codes "US$"; ends = record { first = true; last = false } })
unfolding chars is_utf8 encode_utf8
dollars = refl

both_ends : symbols_said (symbol (codes "de-CH") (codes "EUR") (codes "EUR") 3) ≡ Some (record { text = codes "EUR"; ends = record { first = true; last = true } })
unfolding chars is_utf8 encode_utf8
both_ends = refl

abbrev symbols_faults : List Data → Option BookError
symbols_faults entries = first_fault_after same_key symbols_key symbols_fault [] (items entries)

sound_symbol : symbols_faults (symbol (codes "und") (codes "USD") (codes "US$") 1 ∷ []) ≡ None
unfolding data_locale_of tag_of whole_after headed_after body_after with_piece chars is_utf8 encode_utf8
sound_symbol = refl

four_ends : symbols_faults (symbol (codes "en") (codes "USD") (codes "$") 4 ∷ []) ≡ Some Shape
four_ends = refl

no_locale : symbols_faults (symbol (codes "e") (codes "USD") (codes "$") 0 ∷ []) ≡ Some Tag
unfolding data_locale_of tag_of whole_after headed_after body_after with_piece
no_locale = refl

tab_in_symbol : symbols_faults (symbol (codes "en") (codes "USD") (9 ∷ []) 0 ∷ []) ≡ Some Text
unfolding data_locale_of tag_of whole_after headed_after body_after with_piece chars is_utf8 encode_utf8
tab_in_symbol = refl

no_code : symbols_faults (symbol (codes "en") (codes "US") (codes "$") 0 ∷ []) ≡ Some Code
unfolding data_locale_of tag_of whole_after headed_after body_after with_piece chars is_utf8 encode_utf8
no_code = refl

-- a tag in capitals is the same locale
same_locale : symbols_faults (symbol (codes "en") (codes "USD") (codes "$") 0 ∷ symbol (codes "EN") (codes "USD") (codes "US$") 1 ∷ []) ≡ Some Duplicate
unfolding data_locale_of tag_of whole_after headed_after body_after with_piece chars is_utf8 encode_utf8
same_locale = refl
