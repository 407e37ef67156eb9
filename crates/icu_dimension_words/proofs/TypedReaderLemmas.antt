-- The words that a reader owns, and what it is made of.
use Rattle.std.proofs.Common.{◌≡◌, ℕ, List, [], ◌∷◌, ◌++◌, Option, None, Some, Result, Err, sym, ap, ◌∙◌, option_map}
use Rattle.std.proofs.lemmas.List.{append-nil}
use Rattle.icu_decimal_plain.specs.PlainText.{Tables}
use Rattle.icu_decimal_plurals.specs.declared.category.PluralCategory.{PluralCategory}
use Rattle.icu_decimal_reading.specs.declared.error.ReadError.{ReadError}
use Rattle.icu_dimension_words.specs.Words.{Word, Words, own_word}
use Rattle.icu_dimension_words.specs.WordsText.{WordSettings, named_number}
use Rattle.icu_dimension_words.specs.HeldTypedWords.{held_words}
use Rattle.icu_dimension_words.specs.LenientWords.{LenientWords, lenient_words, with_words}
use Rattle.icu_dimension_words.specs.TypedWords.{TypedWord, listed, typed_word, typed_words, words_of}

-- ---- words put after others

-- those that a category has
abbrev words_by : List ℕ → PluralCategory → Option Word → List TypedWord
words_by digits category own = listed (option_map (typed_word digits (named_number category)) own)

pub pushed_some : (digits : List ℕ) (words : Words) (category : PluralCategory) (w : Word) (typed : TypedWord) (old new : List TypedWord)
    → Some w ≡ own_word words category → typed ≡ typed_word digits (named_number category) w → new ≡ old ++ typed ∷ [] → new ≡ old ++ words_of digits words category
pushed_some digits words category w typed old new own is pushed =
    pushed ∙ ap (λ x. old ++ x ∷ []) is ∙ ap (λ o. old ++ words_by digits category o) own

pub pushed_none : (digits : List ℕ) (words : Words) (category : PluralCategory) (old : List TypedWord) → None ≡ own_word words category → old ≡ old ++ words_of digits words category
pushed_none digits words category old own = sym (append-nil old) ∙ ap (λ o. old ++ words_by digits category o) own

-- ---- readers

pub made_is : (s other : WordSettings) (kept : Tables) (words : Words) (items : List TypedWord) → s ≡ other → kept ≡ s.tables → words ≡ other.words → items ≡ typed_words kept.digits words
    → held_words s items ≡ lenient_words other
made_is s other kept words items same tables is typed =
    ap (λ x. held_words x items) same
    ∙ ap (held_words other)
    (typed ∙ ap (λ (t : Tables). typed_words t.digits words) (tables ∙ ap (λ (x : WordSettings). x.tables) same) ∙ ap (typed_words other.tables.digits) is)

pub more_is : (s : WordSettings) (kept : Tables) (a : LenientWords) (words : Words) (items new : List TypedWord) → held_words s items ≡ a → kept ≡ s.tables → new ≡ items ++ typed_words kept.digits words
    → held_words s new ≡ with_words a words
more_is s kept a words items new same tables is =
    ap (held_words s) (is ∙ ap (λ (t : Tables). items ++ typed_words t.digits words) tables) ∙ ap (λ x. with_words x words) same

-- ---- errors

same_error : (X : Type 0) (e f : ReadError) → ◌≡◌ {A = Result X ReadError} (Err e) (Err f) → e ≡ f
same_error X e f is = cc

-- an error of one call is that of another
pub error_too : (X Y : Type 0) (e f : ReadError) → ◌≡◌ {A = Result X ReadError} (Err e) (Err f) → ◌≡◌ {A = Result Y ReadError} (Err e) (Err f)
error_too X Y e f is = ap Err (same_error X e f is)
