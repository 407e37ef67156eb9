-- The sample book is read, and its tables are those of `specs/SampleBook.antt`: by computation.
use Rattle.std.proofs.Common.{ℕ, List, [], ◌∷◌, codes, refl}
use Rattle.std.proofs.lemmas.Str.{IsUtf8-from_is_utf8}
use Rattle.std.specs.Char.{encode_utf8}
use Rattle.std.specs.Str.{chars, is_utf8}
use Rattle.serde_json.proofs.OnLiterals.{serde_json_on_literals}
use Rattle.serde_json.specs.Data.{Data}
use Rattle.icu_locale_core.specs.Stepping.{headed_after, whole_after}
use Rattle.icu_locale_core.specs.TagStages.{with_piece, body_after}
use Rattle.locale_numbers_tables.specs.TagReading.{tag_of, data_locale_of}
use Rattle.locale_numbers_book.specs.declared.sample_book.TheConstants.{SAMPLE_BOOK}
use Rattle.locale_numbers_book.specs.Book.{IsBook}
use Rattle.locale_numbers_book.specs.Json.{Reads}
use Rattle.locale_numbers_book.specs.Laws.{SampleBookIsKnown}
use Rattle.locale_numbers_book.specs.SampleBook.{sample_tables}
use Rattle.locale_numbers_book.proofs.KnownFaults.{book, condition, digits, list, patterns, rules, size, symbols, text, type}

-- ---- the value

-- symbols with Arabic separators
abbrev arabic : Data
arabic = list (
    text (codes "ar-EG") ∷ text [] ∷ text (codes "arab") ∷ text (codes "-") ∷ text [] ∷ text (codes "+") ∷ text []
    ∷ text (0xD9 ∷ 0xAB ∷ []) ∷ text (0xD9 ∷ 0xAC ∷ []) ∷ size 3 ∷ size 3 ∷ size 1 ∷ [])

-- ten digits in UTF-8, of which the last byte of zero is this
abbrev arabic_digits : List ℕ
arabic_digits =
    0xD9 ∷ 0xA0 ∷ 0xD9 ∷ 0xA1 ∷ 0xD9 ∷ 0xA2 ∷ 0xD9 ∷ 0xA3 ∷ 0xD9 ∷ 0xA4 ∷ 0xD9 ∷ 0xA5 ∷ 0xD9 ∷ 0xA6 ∷ 0xD9 ∷ 0xA7 ∷ 0xD9 ∷ 0xA8 ∷ 0xD9 ∷ 0xA9 ∷ []

abbrev thai_digits : List ℕ
thai_digits =
    0xE0 ∷ 0xB9 ∷ 0x90 ∷ 0xE0 ∷ 0xB9 ∷ 0x91 ∷ 0xE0 ∷ 0xB9 ∷ 0x92 ∷ 0xE0 ∷ 0xB9 ∷ 0x93 ∷ 0xE0 ∷ 0xB9 ∷ 0x94
    ∷ 0xE0 ∷ 0xB9 ∷ 0x95 ∷ 0xE0 ∷ 0xB9 ∷ 0x96 ∷ 0xE0 ∷ 0xB9 ∷ 0x97 ∷ 0xE0 ∷ 0xB9 ∷ 0x98 ∷ 0xE0 ∷ 0xB9 ∷ 0x99 ∷ []

-- a name and a pattern of these texts
abbrev slot : List ℕ → List Data → Data
slot name texts = list (text name ∷ list texts ∷ [])

abbrev typed : ℕ → List Data → Data
typed log10_type slots = list (size log10_type ∷ size log10_type ∷ list slots ∷ [])

abbrev long : Data
long = patterns (codes "en") (
    typed 3 (slot (codes "1") (text (codes "a thousand") ∷ []) ∷ slot (codes "other") (text [] ∷ text (codes "-thousands") ∷ []) ∷ [])
    ∷ typed 6 (slot (codes "one") (text [] ∷ text (codes "-million") ∷ []) ∷ slot (codes "other") (text [] ∷ text (codes "-millions") ∷ []) ∷ [])
    ∷ [])

abbrev sample : Data
sample = book
    (symbols (codes "en") [] (codes "-") ∷ arabic ∷ [])
    (digits (codes "latn") (codes "0123456789") ∷ digits (codes "arab") arabic_digits ∷ digits (codes "thai") thai_digits ∷ [])
    (rules (codes "en") (condition (codes "one") (codes "i = 1 and v = 0 @integer 1") ∷ condition (codes "other") (codes " @integer 0, 2") ∷ []) ∷ [])
    (patterns (codes "en") (type 3 3 [] (codes "K") ∷ type 6 6 [] (codes "M") ∷ []) ∷ [])
    (long ∷ [])

-- ---- it is read, and is a book

sample_reads : Reads SAMPLE_BOOK.now sample
unfolding serde_json_on_literals chars is_utf8 encode_utf8
sample_reads = (IsUtf8-from_is_utf8 _ refl, refl)

sample_is_book : IsBook sample sample_tables
unfolding data_locale_of tag_of whole_after headed_after body_after with_piece chars is_utf8 encode_utf8
sample_is_book = record {
  sound = refl;
  arrays = record {
    symbols = refl;
    digits = refl;
    rules = refl;
    short = refl;
    long = refl;
    parents = refl;
  };
  units = tt;
  plurals = tt;
  signs = refl;
}

pub sample_is_known : SampleBookIsKnown
sample_is_known = (sample, sample_reads, sample_is_book)
