-- What a text is read as: the decimal that is written so with its words, or that none is.
-- Defined in docs/words.md, "Reading".
-- Cited by the calls of `WordTables` that read, and by the laws.
use Rattle.std.specs.Prelude.{◌≡◌, ◌≢◌, ◌==◌, ℕ, Bool, true, false, not, ◌&&◌, ◌||◌, List, [], ◌∷◌, reverse, Option, None, Some, IfSome, is_some}
use Rattle.std.specs.Str.{IsUtf8, bytes_eq, chars}
use Rattle.fixed_decimal.specs.Number.{Number}
use Rattle.fixed_decimal.specs.SignedValue.{SignedValue}
use Rattle.fixed_decimal.specs.TextLaws.{IsDecimal}
use Rattle.icu_decimal_plain.specs.PlainText.{Tables}
use Rattle.icu_decimal_plurals.specs.declared.category.PluralCategory.{PluralCategory}
use Rattle.icu_decimal_plurals.specs.declared.category.PluralCategory.TheVariants.{Zero, One, Two, Few, Many, Other}
use Rattle.icu_decimal_plurals.specs.Reading.{is_same}
use Rattle.icu_decimal_reading.specs.DecimalOfText.{HasManyDigits, PlainReading, decimal, not_written, unreadable}
use Rattle.icu_decimal_reading.specs.Readable.{digit_of, is_readable_by}
use Rattle.icu_decimal_reading.specs.ReadingLaws.{AreTables}
use Rattle.icu_dimension_words.specs.Words.{Pair, Word, Words, around, bare, own_word}
use Rattle.icu_dimension_words.specs.WordsText.{WordSettings, between, words_text}

-- ---- readable

-- a character is the first of these
abbrev pub is_first : ℕ → List ℕ → Bool
is_first c [] = false
is_first c (d ∷ ds) = d == c

-- a number begins with a digit, or with the first character of a sign
abbrev pub begins : Tables → ℕ → Bool
begins t c =
    is_some (digit_of t.digits c)
    || (is_first c (chars t.symbols.strings.minus_sign_prefix) || is_first c (chars t.symbols.strings.plus_sign_prefix))

-- it ends with a digit, or with the last character of a sign
abbrev pub ends : Tables → ℕ → Bool
ends t c =
    is_some (digit_of t.digits c)
    || (is_first c (reverse (chars t.symbols.strings.minus_sign_suffix)) || is_first c (reverse (chars t.symbols.strings.plus_sign_suffix)))

-- two texts may come before numbers at one place of one text: they are one, or the longer one goes on as a number begins
abbrev pub may_clash : (ℕ → Bool) → List ℕ → List ℕ → Bool
may_clash good [] [] = true
may_clash good [] (d ∷ ds) = good d
may_clash good (c ∷ cs) [] = good c
may_clash good (c ∷ cs) (d ∷ ds) = c == d && may_clash good cs ds

-- the text before a number, and the one after it; a bare text is both
abbrev pub front_of : Word → List ℕ
front_of (around pair) = pair.before
front_of (bare text) = text

abbrev pub back_of : Word → List ℕ
back_of (around pair) = pair.after
back_of (bare text) = text

abbrev pub is_one_pair : Word → Word → Bool
is_one_pair (around p) (around q) = bytes_eq p.before q.before && bytes_eq p.after q.after
is_one_pair (around p) (bare text) = false
is_one_pair (bare text) other = false

-- numbers with these words are told apart: these are one pair, or they do not clash on both sides
abbrev pub are_apart : Tables → Word → Word → Bool
are_apart t w u =
    is_one_pair w u
    || not (may_clash (begins t) (chars (front_of w)) (chars (front_of u))
    && may_clash (ends t) (reverse (chars (back_of w))) (reverse (chars (back_of u))))

-- where both are there
abbrev pub are_apart_where : Tables → Option Word → Option Word → Bool
are_apart_where t None other = true
are_apart_where t (Some w) None = true
are_apart_where t (Some w) (Some u) = are_apart t w u

abbrev pub of_all : (PluralCategory → Bool) → Bool
of_all test = test Zero && (test One && (test Two && (test Few && (test Many && test Other))))

abbrev pub are_told_apart : Tables → Words → PluralCategory → PluralCategory → Bool
are_told_apart t words x y = is_same x y || are_apart_where t (own_word words x) (own_word words y)

-- the tables are readable, and so are the words of each two categories
abbrev pub is_words_readable_by : WordSettings → Bool
is_words_readable_by s = is_readable_by s.tables && of_all (λ x. of_all (λ y. are_told_apart s.tables s.words x y))

-- ---- texts

abbrev pub IsWordText : Word → Type 0
IsWordText w = IsUtf8 (front_of w) × IsUtf8 (back_of w)

-- what holds of all settings: they are texts
pub record AreWordTexts (s : WordSettings) : Type 0 where
  pub tables : AreTables s.tables
  pub words : (category : PluralCategory) → IfSome (own_word s.words category) IsWordText

-- ---- reading

-- this is the text of the decimal with its words
pub record IsWordsText (s : WordSettings) (text : List ℕ) (v : SignedValue Number) : Type 0 where
  pub decimal : IsDecimal v
  pub written : words_text s v ≡ text

-- it is that of no decimal
abbrev pub HasNoDecimal : WordSettings → List ℕ → Type 0
HasNoDecimal s text = (v : SignedValue Number) → IsDecimal v → words_text s v ≢ text

-- what is between the pair of some category has more than sixteen digits
pub record HasManyBetween (s : WordSettings) (text : List ℕ) : Type 0 where
  pub category : PluralCategory
  pub pair : Pair
  pub own : own_word s.words category ≡ Some (around pair)
  pub inner : List ℕ
  pub between : between pair inner ≡ text
  pub many : HasManyDigits s.tables inner

-- the text is what the reading says
abbrev pub IsWordsReading : WordSettings → List ℕ → PlainReading → Type 0
IsWordsReading s text unreadable = is_words_readable_by s ≡ false
IsWordsReading s text not_written = (is_words_readable_by s ≡ true) × HasNoDecimal s text
IsWordsReading s text (decimal v) = (is_words_readable_by s ≡ true) × IsWordsText s text v
