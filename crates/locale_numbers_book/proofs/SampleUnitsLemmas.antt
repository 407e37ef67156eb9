-- The sample book with units is read, and its tables and units are those of `specs/SampleUnitsBook.antt`: by computation.
use Rattle.std.proofs.Common.{ℕ, List, [], ◌∷◌, codes, refl}
use Rattle.std.proofs.lemmas.Str.{IsUtf8-from_is_utf8}
use Rattle.std.specs.Char.{encode_utf8}
use Rattle.std.specs.Str.{chars, is_utf8}
use Rattle.serde_json.proofs.OnLiterals.{serde_json_on_literals}
use Rattle.serde_json.specs.Data.{Data, null}
use Rattle.icu_locale_core.specs.Stepping.{headed_after, whole_after}
use Rattle.icu_locale_core.specs.TagStages.{with_piece, body_after}
use Rattle.locale_numbers_tables.specs.TagReading.{tag_of, data_locale_of}
use Rattle.locale_numbers_book.specs.declared.sample_book.TheConstants.{SAMPLE_UNITS_BOOK}
use Rattle.locale_numbers_book.specs.Book.{IsBook}
use Rattle.locale_numbers_book.specs.Json.{Reads}
use Rattle.locale_numbers_book.specs.Laws.{SampleUnitsBookIsKnown}
use Rattle.locale_numbers_book.specs.SampleUnitsBook.{euro, rlm, sample_units_tables, yen}
use Rattle.locale_numbers_book.proofs.KnownFaults.{list, size, text}

-- ---- the value

abbrev place : List ℕ
place = 194 ∷ 164 ∷ []

abbrev symbols : List Data
symbols =
    list (text (codes "de") ∷ text [] ∷ text (codes "latn") ∷ text (codes "-") ∷ text [] ∷ text (codes "+") ∷ text [] ∷ text (codes ",") ∷ text (codes ".") ∷ size 3 ∷ size 3 ∷ size 1 ∷ [])
    ∷ list (text (codes "de-CH") ∷ text [] ∷ text (codes "latn") ∷ text (codes "-") ∷ text [] ∷ text (codes "+") ∷ text [] ∷ text (codes ".") ∷ text (codes "'") ∷ size 3 ∷ size 3 ∷ size 1 ∷ [])
    ∷ list (text (codes "en") ∷ text [] ∷ text (codes "latn") ∷ text (codes "-") ∷ text [] ∷ text (codes "+") ∷ text [] ∷ text (codes ".") ∷ text (codes ",") ∷ size 3 ∷ size 3 ∷ size 1 ∷ [])
    ∷ list (text (codes "he") ∷ text [] ∷ text (codes "latn") ∷ text (226 ∷ 128 ∷ 142 ∷ 45 ∷ []) ∷ text [] ∷ text (226 ∷ 128 ∷ 142 ∷ 43 ∷ []) ∷ text [] ∷ text (codes ".") ∷ text (codes ",") ∷ size 3 ∷ size 3 ∷ size 1 ∷ [])
    ∷ list (text (codes "tr") ∷ text [] ∷ text (codes "latn") ∷ text (codes "-") ∷ text [] ∷ text (codes "+") ∷ text [] ∷ text (codes ",") ∷ text (codes ".") ∷ size 3 ∷ size 3 ∷ size 1 ∷ [])
    ∷ []

abbrev digits : List Data
digits =
    list (text (codes "latn") ∷ text (codes "0123456789") ∷ [])
    ∷ []

abbrev percents : List Data
percents =
    list (text (codes "de") ∷ text [] ∷ text (codes "%") ∷ null ∷ list (text [] ∷ text (194 ∷ 160 ∷ 194 ∷ 164 ∷ []) ∷ []) ∷ [])
    ∷ list (text (codes "de-CH") ∷ text [] ∷ text (codes "%") ∷ null ∷ list (text [] ∷ text place ∷ []) ∷ [])
    ∷ list (text (codes "en") ∷ text [] ∷ text (codes "%") ∷ null ∷ list (text [] ∷ text place ∷ []) ∷ [])
    ∷ list (text (codes "he") ∷ text [] ∷ text (codes "%") ∷ null ∷ list (text [] ∷ text place ∷ []) ∷ [])
    ∷ list (text (codes "tr") ∷ text [] ∷ text (codes "%") ∷ null ∷ list (text place ∷ text [] ∷ []) ∷ [])
    ∷ []

abbrev currencies : List Data
currencies =
    list (text (codes "de") ∷ text [] ∷ null ∷ list (text [] ∷ text (194 ∷ 160 ∷ 194 ∷ 164 ∷ []) ∷ []) ∷ null ∷ [])
    ∷ list (text (codes "de-CH") ∷ text [] ∷ null ∷ list (text (194 ∷ 164 ∷ 194 ∷ 160 ∷ []) ∷ text [] ∷ text (194 ∷ 164 ∷ 45 ∷ []) ∷ text [] ∷ text (194 ∷ 164 ∷ 43 ∷ []) ∷ text [] ∷ []) ∷ null ∷ [])
    ∷ list (text (codes "en") ∷ text [] ∷ null ∷ list (text place ∷ text [] ∷ []) ∷ list (text (194 ∷ 164 ∷ 194 ∷ 160 ∷ []) ∷ text [] ∷ []) ∷ [])
    ∷ list (text (codes "he") ∷ text [] ∷ null ∷ list (text rlm ∷ text (194 ∷ 160 ∷ 226 ∷ 128 ∷ 143 ∷ 194 ∷ 164 ∷ []) ∷ text (226 ∷ 128 ∷ 143 ∷ 226 ∷ 128 ∷ 142 ∷ 45 ∷ []) ∷ text (194 ∷ 160 ∷ 226 ∷ 128 ∷ 143 ∷ 194 ∷ 164 ∷ []) ∷ text (226 ∷ 128 ∷ 143 ∷ 226 ∷ 128 ∷ 142 ∷ 43 ∷ []) ∷ text (194 ∷ 160 ∷ 226 ∷ 128 ∷ 143 ∷ 194 ∷ 164 ∷ []) ∷ []) ∷ null ∷ [])
    ∷ list (text (codes "tr") ∷ text [] ∷ null ∷ list (text place ∷ text [] ∷ []) ∷ list (text (194 ∷ 164 ∷ 194 ∷ 160 ∷ []) ∷ text [] ∷ []) ∷ [])
    ∷ []

abbrev accounts : List Data
accounts =
    list (text (codes "en") ∷ text [] ∷ null ∷ list (text place ∷ text [] ∷ text (40 ∷ 194 ∷ 164 ∷ []) ∷ text (codes ")") ∷ text (43 ∷ 194 ∷ 164 ∷ []) ∷ text [] ∷ []) ∷ list (text (194 ∷ 164 ∷ 194 ∷ 160 ∷ []) ∷ text [] ∷ text (40 ∷ 194 ∷ 164 ∷ 194 ∷ 160 ∷ []) ∷ text (codes ")") ∷ text (43 ∷ 194 ∷ 164 ∷ 194 ∷ 160 ∷ []) ∷ text [] ∷ []) ∷ [])
    ∷ list (text (codes "tr") ∷ text [] ∷ null ∷ list (text place ∷ text [] ∷ text (40 ∷ 194 ∷ 164 ∷ []) ∷ text (codes ")") ∷ text (43 ∷ 194 ∷ 164 ∷ []) ∷ text [] ∷ []) ∷ list (text (194 ∷ 164 ∷ 194 ∷ 160 ∷ []) ∷ text [] ∷ text (40 ∷ 194 ∷ 164 ∷ 194 ∷ 160 ∷ []) ∷ text (codes ")") ∷ text (43 ∷ 194 ∷ 164 ∷ 194 ∷ 160 ∷ []) ∷ text [] ∷ []) ∷ [])
    ∷ []

abbrev names : List Data
names =
    list (text (codes "de") ∷ text (codes "EUR") ∷ text euro ∷ size 0 ∷ [])
    ∷ list (text (codes "de") ∷ text (codes "USD") ∷ text (codes "$") ∷ size 0 ∷ [])
    ∷ list (text (codes "de-CH") ∷ text (codes "EUR") ∷ text (codes "EUR") ∷ size 3 ∷ [])
    ∷ list (text (codes "en") ∷ text (codes "EUR") ∷ text euro ∷ size 0 ∷ [])
    ∷ list (text (codes "en") ∷ text (codes "JPY") ∷ text yen ∷ size 0 ∷ [])
    ∷ list (text (codes "en") ∷ text (codes "USD") ∷ text (codes "$") ∷ size 0 ∷ [])
    ∷ list (text (codes "he") ∷ text (codes "EUR") ∷ text euro ∷ size 0 ∷ [])
    ∷ list (text (codes "tr") ∷ text (codes "EUR") ∷ text euro ∷ size 0 ∷ [])
    ∷ list (text (codes "tr") ∷ text (codes "USD") ∷ text (codes "$") ∷ size 0 ∷ [])
    ∷ []

abbrev fractions : List Data
fractions =
    list (text (codes "CHF") ∷ size 2 ∷ size 1 ∷ size 2 ∷ size 5 ∷ [])
    ∷ list (text (codes "JPY") ∷ size 0 ∷ size 1 ∷ size 0 ∷ size 1 ∷ [])
    ∷ list (text (codes "KWD") ∷ size 3 ∷ size 1 ∷ size 3 ∷ size 1 ∷ [])
    ∷ []

abbrev arrays : Data
arrays = list (list symbols ∷ list digits ∷ list [] ∷ list [] ∷ list [] ∷ list [] ∷ [])

abbrev units : Data
units = list (list percents ∷ list currencies ∷ list accounts ∷ list names ∷ list fractions ∷ [])

abbrev sample : Data
sample = list (arrays ∷ units ∷ [])

-- ---- it is read, and is a book

sample_reads : Reads SAMPLE_UNITS_BOOK.now sample
unfolding serde_json_on_literals chars is_utf8 encode_utf8
sample_reads = (IsUtf8-from_is_utf8 _ refl, refl)

sample_is_book : IsBook sample sample_units_tables
unfolding data_locale_of tag_of whole_after headed_after body_after with_piece chars is_utf8 encode_utf8
sample_is_book = record {
  sound = refl;
  arrays = record {
    symbols = refl;
    digits = refl;
    rules = refl;
    short = refl;
    long = refl;
    parents = refl;
  };
  units = record {
    sound = refl;
    percents_are = refl;
    currencies_are = refl;
    accounts_are = refl;
    symbols_are = refl;
    digits_are = refl;
  };
  plurals = tt;
  signs = refl;
}

pub sample_units_is_known : SampleUnitsBookIsKnown
sample_units_is_known = (sample, sample_reads, sample_is_book)
