-- The text of a number with its words.
use Rattle.std.proofs.Common.{◌≡◌, ℕ, List, ◌++◌, sym, ap, ◌∙◌}
use Rattle.std.proofs.lemmas.List.{append_cancel_left, append_cancel_right}
use Rattle.writeable.specs.AnnotatedText.{Event, text_of}
use Rattle.writeable.specs.PartName.{PartName}
use Rattle.writeable.specs.SinkLaws.{text_of_joined}
use Rattle.fixed_decimal.specs.Number.{Number}
use Rattle.fixed_decimal.specs.SignedValue.{SignedValue}
use Rattle.icu_decimal_plain.specs.PlainText.{decimal_events, decimal_text, formatted}
use Rattle.icu_decimal_plain.proofs.TextLemmas.{decimal_is_text}
use Rattle.icu_dimension_words.specs.WordSides.{side_events}
use Rattle.icu_dimension_words.specs.Words.{Pair, Word, around, bare}
use Rattle.icu_dimension_words.specs.WordsLaws.{WordsStandAround}
use Rattle.icu_dimension_words.specs.WordsText.{WordSettings, between, kind_part, word_events, word_for, words_events, words_formatted, words_text, written}
use Rattle.icu_dimension_words.proofs.SideLemmas.{side_is_text}

-- two texts one after another
both_texts : (first second : List Event) (one other : List ℕ) → text_of first ≡ one → text_of second ≡ other → text_of (first ++ second) ≡ one ++ other
both_texts first second one other same alike =
    text_of_joined first second ∙ ap (λ text. text ++ text_of second) same ∙ ap (λ text. one ++ text) alike

word_is_text : (part : PartName) (w : Word) (inner : List Event) (number : List ℕ) → text_of inner ≡ number → text_of (word_events part w inner) ≡ written w number
word_is_text part (around pair) inner number same =
    both_texts (side_events part pair.before) (inner ++ side_events part pair.after) pair.before (number ++ pair.after) (side_is_text part pair.before)
    (both_texts inner (side_events part pair.after) number pair.after same (side_is_text part pair.after))
word_is_text part (bare text) inner number same = side_is_text part text

pub words_are_text : (s : WordSettings) (v : SignedValue Number) → text_of (words_events (words_formatted s v)) ≡ words_text s v
words_are_text s v =
    word_is_text (kind_part s.kind) (word_for s v) (decimal_events (formatted s.tables v)) (decimal_text s.tables v) (decimal_is_text s.tables v)

-- what is between a pair is the number
pub same_between : (pair : Pair) (xs ys : List ℕ) → between pair xs ≡ between pair ys → xs ≡ ys
same_between pair xs ys same =
    append_cancel_right xs ys pair.after (append_cancel_left pair.before (xs ++ pair.after) (ys ++ pair.after) same)

pub words_stand_around : WordsStandAround
words_stand_around s v pair inner takes same =
    same_between pair inner (decimal_text s.tables v) (sym same ∙ ap (λ w. written w (decimal_text s.tables v)) takes)
