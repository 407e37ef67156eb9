-- The premises of the laws of printed values are met: `-0` as `short` and as `exact-short` under a small book.
use Rattle.std.proofs.Common.{◌≡◌, [], ◌∷◌, codes, Some, None, refl, arith, inl, inr}
use Rattle.fixed_decimal.specs.Rounding.{count_limit}
use Rattle.icu_decimal.specs.CompactText.{lowest_place}
use Rattle.icu_decimal.specs.Identifiers.{of_locale}
use Rattle.icu_decimal.specs.Symbols.{english_symbols}
use Rattle.icu_decimal.specs.declared.options.GroupingStrategy.TheVariants.{Auto}
use Rattle.icu_locale_core.specs.TagPreferences.{DataLocaleMeaning}
use Rattle.icu_locale_core.specs.Stepping as stepping
use Rattle.locale_numbers_book.specs.Book.{BookTables}
use Rattle.locale_numbers_book.specs.TagReading as reading
use Rattle.locale_numbers.specs.Answer.{answer_asked, written}
use Rattle.locale_numbers.specs.Printed.{FindsCompact, KeepsEntry, Prints, PrintsSize, exact_request}
use Rattle.locale_numbers_requests.specs.Request.{Asked}
use Rattle.locale_numbers_requests.specs.declared.Task.TheVariants.{Write}
use Rattle.locale_numbers_formats.specs.declared.CompactWidth.TheVariants.{Short}
use Rattle.locale_numbers_formats.specs.declared.Rounding.TheVariants.{Usual}
use Rattle.locale_numbers_formats.specs.declared.SignAsked.TheVariants.{Keep}
use Rattle.locale_numbers.specs.AskedFormats.{compact_shape, options_of}
use Rattle.locale_numbers_answers.proofs.KnownCompactAnswers.{english, zero_of}

abbrev en : DataLocaleMeaning
en = record { language = codes "en"; script = None; region = None; variant = None; subdivision = None }

abbrev book : BookTables
book = record {
  symbols = (of_locale en, english_symbols) ∷ [];
  digits = (codes "latn", codes "0123456789") ∷ [];
  rules = (en, english.rules) ∷ [];
  short = (of_locale en, english.patterns) ∷ [];
  long = [];
  parents = None;
  units = None;
  plurals = None;
  signs = [];
}

abbrev asked : Asked
asked = record { tag = codes "en"; task = Write; format = record { shape = compact_shape Short Auto; options = options_of Usual Keep }; text = codes "-0" }

finds : FindsCompact book asked Short english zero_of
unfolding reading.tag_of stepping.whole_after
finds = record {
  task = refl;
  shape = refl;
  fits = record { position = tt; integer = omega arith };
  preferences = record { locale = record { language = codes "en"; script = None; region = None; variant = None; subdivision = None; region_override = None }; numbering_system = None };
  tag = refl;
  found = refl;
  sound = record {
    rises = (omega arith, record { within = omega arith; zeros = omega arith }, (omega arith, record { within = omega arith; zeros = omega arith }, tt));
    small = ((omega arith, omega arith), ((omega arith, omega arith), tt));
  };
  reading = refl;
}

prints : Prints book asked (codes "-0") (codes "-0")
unfolding count_limit lowest_place lib.Utf8.encode reading.tag_of stepping.whole_after
prints = record { whole = refl; last = ((λ e. absurd (omega arith)), ((λ e. absurd (omega arith)), tt)) }

-- a value of the size 0
prints_zero : PrintsSize book asked 0
prints_zero = record { text = codes "-0"; printed = codes "-0"; prints = prints; value = record { significand = zero_of; exponent = 0 }; reading = refl; is = refl }

-- each type is its exponent
keeps : KeepsEntry english.patterns.entries 0
keeps = inr (inl (refl, (refl, tt)))

sent_back : answer_asked book (Some (exact_request asked Short (codes "-0"))) ≡ written (codes "-0")
unfolding lib.Utf8.encode reading.tag_of stepping.whole_after
sent_back = refl
