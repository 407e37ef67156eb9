-- Entries of CLDR, and fields that a wrong definition does not survive.
use Rattle.std.proofs.Common.{◌≡◌, List, ℕ, [], Some, None, codes, refl}
use Rattle.serde_json.specs.Data.{Data, array, string, item, no_items}
use Rattle.icu_decimal.specs.declared.plurals.PluralCategory.TheVariants.{One, Other}
use Rattle.locale_numbers_faults.specs.declared.BookError.TheVariants.{Shape}
use Rattle.locale_numbers_plurals.specs.RangesEntries.{range_in, range_of, ranges_fault, ranges_in}

abbrev words : List ℕ → List ℕ → List ℕ → Data
words start end result = array (item (string start) (item (string end) (item (string result) no_items)))

-- in English 0 to 1 is of `other`
zero_to_one : range_in (words (codes "other") (codes "one") (codes "other")) ≡ Some (range_of Other One Other)
zero_to_one = refl

unknown_word : range_in (words (codes "other") (codes "three") (codes "other")) ≡ None
unknown_word = refl

no_ranges : ranges_in (array no_items) ≡ Some []
no_ranges = refl

no_array : ranges_fault (array (item (string (codes "en")) (item (string []) no_items))) ≡ Some Shape
no_array = refl
