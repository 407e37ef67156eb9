-- Rows of docs/books.md, "More": the plural rules and the ranges that a book has for what a tag prefers, whatever rules its entries have.
use Rattle.std.proofs.Common.{◌≡◌, ℕ, List, [], ◌∷◌, Option, None, Some, codes, refl}
use Rattle.icu_decimal.specs.Rules.{Rules}
use Rattle.icu_decimal.specs.declared.plurals.PluralCategory.TheVariants.{One, Other}
use Rattle.icu_locale_core.specs.DataLocales.{unknown_data}
use Rattle.icu_locale_core.specs.TagPreferences.{Preferences}
use Rattle.icu_plurals.specs.declared.PluralRange.{PluralRange}
use Rattle.icu_plurals.specs.declared.PluralRuleType.TheVariants.{Cardinal, Ordinal}
use Rattle.locale_numbers_book.specs.Book.{BookTables}
use Rattle.locale_numbers_book.specs.FoundRules.{plural_rules_for}
use Rattle.locale_numbers_book.specs.SampleBook.{english}

abbrev preferring : List ℕ → Option (List ℕ) → Preferences
preferring language region = record {
  locale = record { language = language; script = None; region = region; variant = None; subdivision = None; region_override = None };
  numbering_system = Some (codes "thai");
}

-- in English a range from `other` to `one` is of `other`
abbrev other_to_one : PluralRange
other_to_one = record { start = Other; end = One; result = Other }

module _ (cardinal ordinal root : Rules) where
  abbrev book : BookTables
  book = record {
    symbols = [];
    digits = [];
    rules = (english, cardinal) ∷ [];
    short = [];
    long = [];
    parents = Some [];
    units = None;
    plurals = Some (record { ordinals = (english, ordinal) ∷ (unknown_data, root) ∷ []; ranges = (english, other_to_one ∷ []) ∷ [] });
    signs = [];
  }

  english_cardinals : plural_rules_for Cardinal book (preferring (codes "en") None) ≡ Some (cardinal, other_to_one ∷ [])
  english_cardinals = refl

  -- those of the language for a region
  american_ordinals : plural_rules_for Ordinal book (preferring (codes "en") (Some (codes "US"))) ≡ Some (ordinal, other_to_one ∷ [])
  american_ordinals = refl

  -- ordinal rules of `und`, but no cardinal ones
  german_ordinals : plural_rules_for Ordinal book (preferring (codes "de") (Some (codes "AT"))) ≡ Some (root, [])
  german_ordinals = refl

  german_cardinals : plural_rules_for Cardinal book (preferring (codes "de") None) ≡ None
  german_cardinals = refl

  -- without plurals only cardinal rules are there
  cardinals_alone : plural_rules_for Cardinal (record book { plurals = None }) (preferring (codes "en") None) ≡ Some (cardinal, [])
  cardinals_alone = refl

  no_ordinals : plural_rules_for Ordinal (record book { plurals = None }) (preferring (codes "en") None) ≡ None
  no_ordinals = refl

  -- without a sixth array a locale is looked up whole, and then `und`
  whole_locale : plural_rules_for Ordinal (record book { parents = None }) (preferring (codes "en") (Some (codes "US"))) ≡ Some (root, [])
  whole_locale = refl
