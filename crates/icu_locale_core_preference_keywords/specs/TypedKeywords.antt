-- What the value of a typed keyword states: a word of a list, or one piece of a form.
-- UTS 35, section 3.6.1, "Key and Type Definitions"; docs/tags.md, "Typed keywords".
-- Cited by `PreferenceKey` and by `TryFrom<&Value>` of each type.
use Rattle.std.specs.Prelude.{◌≡◌, Bool, true, false, Option, None, Some, List, [], ◌∷◌, Result, Ok, Err, MatchResult, option_and_then, ◌&&◌, ◌==◌, length, codes, if◌then◌else◌}
use Rattle.std.specs.List.{find, list_all}
use Rattle.std.specs.Char.{is_ascii_alphabetic}
use Rattle.icu_locale_core_grammar.specs.Subtags.{Text, is_true, lower, same_text, true_text}
use Rattle.icu_locale_core_grammar.specs.TagPreferences.{one_piece, Subdivision, subdivision_of}
use Rattle.icu_locale_core_keywords_fields.specs.Values.{without_true}
use Rattle.icu_locale_core_preference_keywords.specs.declared.error.PreferencesParseError.{PreferencesParseError}
use Rattle.icu_locale_core_preference_keywords.specs.declared.error.PreferencesParseError.TheVariants.{InvalidKeywordValue}

-- what is stated is returned, and what states nothing is an error
abbrev pub IsReading : {A : Type 0} → Option A → Result A PreferencesParseError → Type 0
IsReading stated answer =
    MatchResult answer (λ p. stated ≡ Some p) (λ e. (stated ≡ None) × (e ≡ InvalidKeywordValue))

-- what a preference reads of a keyword: nothing where the key is another's
abbrev pub keyword_answer : {A : Type 0} → Bool → Option A → Result (Option A) PreferencesParseError
keyword_answer false stated = Ok None
keyword_answer true (Some p) = Ok (Some p)
keyword_answer true None = Err InvalidKeywordValue

-- ---- words

-- a keyword of words: its key, its cases in their order, and the word of each
pub record Words (A : Type 0) : Type 0 where
  pub key : Text
  pub cases : List A
  pub word : A → Text

-- the word that a value is: `true` where it has no piece, and none where it has more than one
abbrev pub word_in : List Text → Option Text
word_in [] = Some true_text
word_in (v ∷ []) = Some v
word_in (v ∷ w ∷ vs) = None

-- the value that is a word
abbrev pub word_value : Text → List Text
word_value w = without_true (w ∷ [])

-- the case of which this is the word
abbrev pub case_of : {A : Type 0} → (A → Text) → List A → Text → Option A
case_of word cases text = find (λ c. same_text (word c) text) cases

-- the case that a value states
abbrev pub stated_case : {A : Type 0} → Words A → List Text → Option A
stated_case words vs = option_and_then (case_of words.word words.cases) (word_in vs)

-- ---- one piece

-- what a keyword of one subtag holds: its subtag is in lower case and not `true`, and as a value it states what is held
pub record IsOwnPiece {A : Type 0} (stated : List Text → Option A) (piece : A → Text) (own : A) : Type 0 where
  pub lowered : lower (piece own) ≡ piece own
  pub other : is_true (piece own) ≡ false
  pub states : stated (piece own ∷ []) ≡ Some own

-- the subdivision that a value states
abbrev pub stated_subdivision : List Text → Option Subdivision
stated_subdivision vs = option_and_then subdivision_of (one_piece vs)

-- the key of a currency; those of `nu`, `sd` and `rg` are with the preferences of a tag
abbrev pub currency_key : Text
currency_key = codes "cu"

-- three letters
abbrev pub is_currency : Text → Bool
is_currency p = (length p == 3) && list_all is_ascii_alphabetic p

-- the currency that a piece in lower case is
abbrev pub currency_of : Text → Option Text
currency_of p = if is_currency p then Some p else None

-- the currency that a value states
abbrev pub stated_currency : List Text → Option Text
stated_currency vs = option_and_then currency_of (one_piece vs)
