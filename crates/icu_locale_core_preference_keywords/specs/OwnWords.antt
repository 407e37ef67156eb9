-- What a type of words owes: its key is one, and each word is a piece in lower case which, as a value, states its case.
-- Defined in docs/tags.md, "Typed keywords".
-- Cited by the trait `WordKeyword`, whose law it is.
use Rattle.std.specs.Prelude.{◌≡◌, true, Some}
use Rattle.icu_locale_core_grammar.specs.Subtags.{is_key, is_other_piece, lower}
use Rattle.icu_locale_core_preference_keywords.specs.TypedKeywords.{Words, stated_case, word_value}

-- the word is a piece in lower case, and as a value it states this case
pub record IsOwnWord {A : Type 0} (words : Words A) (case : A) : Type 0 where
  pub taken : is_other_piece (words.word case) ≡ true
  pub lowered : lower (words.word case) ≡ words.word case
  pub stated : stated_case words (word_value (words.word case)) ≡ Some case

-- the key is one, in lower case, and so is each word
pub record OwnsWords {A : Type 0} (words : Words A) : Type 0 where
  pub key_taken : is_key words.key ≡ true
  pub key_lowered : lower words.key ≡ words.key
  pub each : (case : A) → IsOwnWord words case
