-- The text of a number with its words, and its parts.
-- UTS 35, part 2 (general), unit elements, and part 3 (numbers), currencies; docs/words.md, "The text" and "Parts".
-- Cited by the calls of `WordTables`, by the view and the events of `NumberInWords`, and by the laws.
use Rattle.std.specs.Prelude.{ℕ, ◌==◌, Bool, true, false, ◌&&◌, cond, List, ◌++◌, Option, None, Some, codes}
use Rattle.writeable.specs.AnnotatedText.{Event}
use Rattle.writeable.specs.PartName.{PartName}
use Rattle.fixed_decimal.specs.Number.{Number, digit}
use Rattle.fixed_decimal.specs.SignedValue.{SignedValue}
use Rattle.fixed_decimal.specs.declared.Sign.{Sign}
use Rattle.fixed_decimal.specs.declared.Sign.TheVariants.{None as NoSign, Negative, Positive}
use Rattle.icu_decimal_plain.specs.Affixes.{WithSign}
use Rattle.icu_decimal_plain.specs.PlainText.{PlainNumber, Tables, decimal_events, decimal_text, formatted}
use Rattle.icu_decimal_plurals.specs.Operands.{operands_of}
use Rattle.icu_decimal_plurals.specs.Rules.{Rules, category_of}
use Rattle.icu_decimal_plurals.specs.declared.category.PluralCategory.{PluralCategory}
use Rattle.icu_decimal_plurals.specs.declared.category.PluralCategory.TheVariants.{Zero, One, Two, Few, Many, Other}
use Rattle.icu_dimension_words.specs.WordSides.{side_events}
use Rattle.icu_dimension_words.specs.Words.{Pair, Word, Words, around, bare, own_word}
use Rattle.icu_dimension_words.specs.declared.word.WordKind.{WordKind}
use Rattle.icu_dimension_words.specs.declared.word.WordKind.TheVariants.{Unit, Currency}

-- what numbers with words are written with
pub record WordSettings : Type 0 where
  pub tables : Tables
  pub rules : Rules
  pub words : Words
  pub kind : WordKind

-- ---- which words

abbrev pub has_no_sign : Sign → Bool
has_no_sign NoSign = true
has_no_sign Negative = false
has_no_sign Positive = false

-- this digit is all that is shown: there is no sign, no fraction, and no zero in front
abbrev pub is_just : ℕ → SignedValue Number → Bool
is_just n v = has_no_sign v.sign && (v.absolute.low == 32768 && (v.absolute.high == 32768 && digit v.absolute.count 32768 == n))

-- the number that a category is named after
abbrev pub named_number : PluralCategory → Option ℕ
named_number Zero = Some 0
named_number One = Some 1
named_number Two = Some 2
named_number Few = None
named_number Many = None
named_number Other = None

abbrev pub is_named_number : Option ℕ → SignedValue Number → Bool
is_named_number None v = false
is_named_number (Some n) v = is_just n v

abbrev pub is_named : PluralCategory → SignedValue Number → Bool
is_named category v = is_named_number (named_number category) v

-- the category of a number as it is shown
abbrev pub category_in : Rules → SignedValue Number → PluralCategory
category_in rules v = category_of rules (operands_of v.absolute 0)

-- the words that a category has of its own, but a bare text only for the number that the category is named after; else
-- those of `other`
abbrev pub taken : Option Word → Bool → Pair → Word
taken None named other = around other
taken (Some (around pair)) named other = around pair
taken (Some (bare text)) named other = cond named (bare text) (around other)

abbrev pub word_for : WordSettings → SignedValue Number → Word
word_for s v =
    let category = category_in s.rules v in taken (own_word s.words category) (is_named category v) s.words.other

-- ---- the text

-- a number between a pair of texts
abbrev pub between : Pair → List ℕ → List ℕ
between pair number = pair.before ++ (number ++ pair.after)

abbrev pub written : Word → List ℕ → List ℕ
written (around pair) number = between pair number
written (bare text) number = text

-- the plain text of the number, with its sign, between the words that it takes, or the bare text
abbrev pub words_text : WordSettings → SignedValue Number → List ℕ
words_text s v = written (word_for s v) (decimal_text s.tables v)

-- ---- the text with its parts

-- the part that the words are
abbrev pub kind_part : WordKind → PartName
kind_part Unit = record { category = codes "dimension"; value = codes "unit" }
kind_part Currency = record { category = codes "dimension"; value = codes "currency" }

-- a number, and the words that it takes
pub record NumberWithWord : Type 0 where
  pub number : WithSign PlainNumber
  pub word : Word
  pub kind : WordKind

abbrev pub word_events : PartName → Word → List Event → List Event
word_events part (around pair) inner = side_events part pair.before ++ (inner ++ side_events part pair.after)
word_events part (bare text) inner = side_events part text

abbrev pub words_events : NumberWithWord → List Event
words_events n = word_events (kind_part n.kind) n.word (decimal_events n.number)

-- what a decimal is written as
abbrev pub words_formatted : WordSettings → SignedValue Number → NumberWithWord
words_formatted s v = record { number = formatted s.tables v; word = word_for s v; kind = s.kind }
