-- What a text gives, as one computation: its meaning, or the fault.
-- Defined in docs/tags.md, "Rows"; that this result is the meaning's, or the fault's, is a law.
-- Cited by the rows that hold the definitions.
use Rattle.std.specs.Prelude.{List, [], ◌∷◌, Option, None, Some, Result, Ok, Err}
use Rattle.icu_locale_core_grammar.specs.declared.error.ParseError.{ParseError}
use Rattle.icu_locale_core_grammar.specs.Subtags.{Text}
use Rattle.icu_locale_core_grammar.specs.Pieces.{pieces}
use Rattle.icu_locale_core_grammar.specs.Meaning.{TagMeaning}
use Rattle.icu_locale_core_grammar.specs.NormalText.{language_text, normal_text}
use Rattle.icu_locale_core_grammar.specs.TagPreferences.{locale_preferences_of, data_meaning, language_priority, region_priority}
use Rattle.icu_locale_core_grammar.specs.SingleVariant.{SingleMeaning, single_tag, InLanguage, single_after, single_ends, single_fault}
use Rattle.icu_locale_core_grammar.specs.TagStages.{language_after, language_ends, language_fault, tag_start, tag_after, tag_ends, tag_fault}

-- over any steps: where they end, and the fault of a stage that does not go on
module _ {S M : Type 0} (step : S → Text → Option S) (ends : S → Option M) (fault : S → Option Text → ParseError) where
  -- the result at the end of the pieces
  abbrev pub end_answer : S → Option M → Result M ParseError
  end_answer s None = Err (fault s None)
  end_answer s (Some m) = Ok m

  -- the result from a stage on
  abbrev pub answer_from : S → List Text → Result M ParseError
  answer_from s [] = end_answer s (ends s)
  answer_from s (p ∷ ps) = elim (step s p) [ None ↦ Err (fault s (Some p)) | Some t ↦ answer_from t ps ]

-- a result that is shown by a text
abbrev pub shown_by : {M : Type 0} → (M → Text) → Result M ParseError → Result Text ParseError
shown_by show (Ok m) = Ok (show m)
shown_by show (Err e) = Err e

-- ---- whole tags, language identifiers, and tags of one variant and one keyword

abbrev pub tag_answer : Text → Result TagMeaning ParseError
tag_answer text = answer_from tag_after tag_ends tag_fault tag_start (pieces text)

abbrev pub answer_to : Text → Result Text ParseError
answer_to text = shown_by normal_text (tag_answer text)

abbrev pub language_answer : Text → Result Text ParseError
language_answer text = shown_by language_text (answer_from language_after language_ends (λ s place. language_fault s) None (pieces text))

abbrev pub single_text : SingleMeaning → Text
single_text m = normal_text (single_tag m)

abbrev pub single_answer : Text → Result Text ParseError
single_answer text = shown_by single_text (answer_from single_after single_ends single_fault (InLanguage None) (pieces text))

-- ---- preferences, shown by the text of the locale that data is asked for

abbrev pub language_first_text : TagMeaning → Text
language_first_text m = normal_text (data_meaning (language_priority (locale_preferences_of m)))

abbrev pub region_first_text : TagMeaning → Text
region_first_text m = normal_text (data_meaning (region_priority (locale_preferences_of m)))

abbrev pub language_first_answer : Text → Result Text ParseError
language_first_answer text = shown_by language_first_text (tag_answer text)

abbrev pub region_first_answer : Text → Result Text ParseError
region_first_answer text = shown_by region_first_text (tag_answer text)
