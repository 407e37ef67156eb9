-- The words that a number takes: those of its category, or of `other`.
use Rattle.std.proofs.Common.{◌≡◌, ℕ, Bool, true, false, List, Option, None, Some, ◌⊎◌, inl, inr, refl, sym, ap, subst, ◌∙◌}
use Rattle.std.proofs.lemmas.Bool.{false≢true}
use Rattle.fixed_decimal.specs.Number.{Number}
use Rattle.fixed_decimal.specs.SignedValue.{SignedValue}
use Rattle.fixed_decimal.specs.TextLaws.{IsDecimal}
use Rattle.icu_decimal_plurals.specs.declared.category.PluralCategory.{PluralCategory}
use Rattle.icu_decimal_plurals.specs.declared.category.PluralCategory.TheVariants.{Other}
use Rattle.icu_dimension_words.specs.ReadingSteps.{IsNamedIfBare, TakesFrom}
use Rattle.icu_dimension_words.specs.Words.{Pair, Word, around, bare, own_word}
use Rattle.icu_dimension_words.specs.WordsLaws.{NoNumberIsHidden, WordsAreOfTheCategory, digit_alone}
use Rattle.icu_dimension_words.specs.WordsText.{WordSettings, category_in, is_named, is_named_number, named_number, taken, word_for}
use Rattle.icu_dimension_words.proofs.JustLemmas.{just_is_digit}

is_bare : Word → Bool
is_bare (around pair) = false
is_bare (bare text) = true

pub around_or_bare : (pair : Pair) (text : List ℕ) → around pair ≡ bare text → ⊥
unfolding is_bare
around_or_bare pair text same = false≢true (ap is_bare same)

-- which words are taken, by those of the category and whether the number is the one that it is named after
pub word_by : (s : WordSettings) (v : SignedValue Number) (own : Option Word) (named : Bool) → own_word s.words (category_in s.rules v) ≡ own → is_named (category_in s.rules v) v ≡ named
    → word_for s v ≡ taken own named s.words.other
word_by s v own named e f = λ i. taken (e i) (f i) s.words.other

from_word : (s : WordSettings) (v : SignedValue Number) (category : PluralCategory) (w : Word) → own_word s.words category ≡ Some w → word_for s v ≡ w → IsNamedIfBare w category v → TakesFrom s category v
from_word s v category w own same named = record {
  own = own ∙ ap Some (sym same);
  named = subst (λ x. IsNamedIfBare x category v) (sym same) named;
}

-- a category, and that the number takes its words
pub record SomeTaken (s : WordSettings) (v : SignedValue Number) : Type 0 where
  pub category : PluralCategory
  pub takes : TakesFrom s category v

taken_by : (s : WordSettings) (v : SignedValue Number) (own : Option Word) (named : Bool) → own_word s.words (category_in s.rules v) ≡ own → is_named (category_in s.rules v) v ≡ named → SomeTaken s v
taken_by s v None named e f = record { category = Other; takes = from_word s v Other (around s.words.other) refl (word_by s v None named e f) tt }
taken_by s v (Some (around pair)) named e f =
    record { category = category_in s.rules v; takes = from_word s v (category_in s.rules v) (around pair) e (word_by s v (Some (around pair)) named e f) tt }
taken_by s v (Some (bare text)) true e f =
    record { category = category_in s.rules v; takes = from_word s v (category_in s.rules v) (bare text) e (word_by s v (Some (bare text)) true e f) f }
taken_by s v (Some (bare text)) false e f =
    record { category = Other; takes = from_word s v Other (around s.words.other) refl (word_by s v (Some (bare text)) false e f) tt }

pub some_taken : (s : WordSettings) (v : SignedValue Number) → SomeTaken s v
some_taken s v = taken_by s v (own_word s.words (category_in s.rules v)) (is_named (category_in s.rules v) v) refl refl

category_by : (s : WordSettings) (v : SignedValue Number) (own : Option Word) (named : Bool) → own_word s.words (category_in s.rules v) ≡ own → is_named (category_in s.rules v) v ≡ named
    → (own_word s.words (category_in s.rules v) ≡ Some (word_for s v)) ⊎ (word_for s v ≡ around s.words.other)
category_by s v None named e f = inr (word_by s v None named e f)
category_by s v (Some (around pair)) named e f = inl (e ∙ ap Some (sym (word_by s v (Some (around pair)) named e f)))
category_by s v (Some (bare text)) true e f = inl (e ∙ ap Some (sym (word_by s v (Some (bare text)) true e f)))
category_by s v (Some (bare text)) false e f = inr (word_by s v (Some (bare text)) false e f)

pub words_are_of_the_category : WordsAreOfTheCategory
words_are_of_the_category s v = category_by s v (own_word s.words (category_in s.rules v)) (is_named (category_in s.rules v) v) refl refl

-- ---- a bare text

abbrev pub IsNamedDigit : PluralCategory → SignedValue Number → Type 0
IsNamedDigit category v = (n : ℕ) × ((named_number category ≡ Some n) × (v ≡ digit_alone n))

named_by : (category : PluralCategory) (v : SignedValue Number) (number : Option ℕ) → IsDecimal v → named_number category ≡ number → is_named_number number v ≡ true → IsNamedDigit category v
named_by category v None is e just = absurd (false≢true just)
named_by category v (Some n) is e just = (n, (e, just_is_digit n v is just))

-- a number that a category is named after is its digit
pub named_digit : (category : PluralCategory) (v : SignedValue Number) → IsDecimal v → is_named category v ≡ true → IsNamedDigit category v
named_digit category v is named = named_by category v (named_number category) is refl named

hidden_by : (s : WordSettings) (v : SignedValue Number) (text : List ℕ) (own : Option Word) (named : Bool) → IsDecimal v → own_word s.words (category_in s.rules v) ≡ own → is_named (category_in s.rules v) v ≡ named
    → word_for s v ≡ bare text → IsNamedDigit (category_in s.rules v) v
hidden_by s v text None named is e f same = absurd (around_or_bare s.words.other text (sym (word_by s v None named e f) ∙ same))
hidden_by s v text (Some (around pair)) named is e f same = absurd (around_or_bare pair text (sym (word_by s v (Some (around pair)) named e f) ∙ same))
hidden_by s v text (Some (bare own)) true is e f same = named_digit (category_in s.rules v) v is f
hidden_by s v text (Some (bare own)) false is e f same = absurd (around_or_bare s.words.other text (sym (word_by s v (Some (bare own)) false e f) ∙ same))

pub no_number_is_hidden : NoNumberIsHidden
no_number_is_hidden s v text is same =
    hidden_by s v text (own_word s.words (category_in s.rules v)) (is_named (category_in s.rules v) v) is refl refl same
