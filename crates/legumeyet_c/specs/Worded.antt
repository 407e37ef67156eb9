-- What a formatter writes of a number or of an exact form, its text or the word of its plural category, and the word of a range, or why it writes nothing.
-- Defined in include/legumeyet.h, `legumeyet_formatter_open` and `legumeyet_formatter_format_range`, and docs/plurals.md, "Numbers as they are shown" and "Ranges".
-- Cited by the exports that write numbers, through Writing.antt.
use Rattle.std.specs.Prelude.{◌≡◌, ◌⊎◌, ℕ, List, [], Option, Some, None, option_map}
use Rattle.fixed_decimal.specs.CompactText.{CompactValue}
use Rattle.fixed_decimal.specs.Number.{Number}
use Rattle.fixed_decimal.specs.SignedText.{ReadsSigned}
use Rattle.fixed_decimal.specs.SignedValue.{SignedValue}
use Rattle.icu_plurals.specs.Categories.{word}
use Rattle.icu_plurals.specs.Operands.{Operands, operands_of}
use Rattle.icu_plurals.specs.Ranges.{range_category}
use Rattle.icu_plurals.specs.Rules.{Rules, category_of}
use Rattle.locale_numbers_formatter.specs.ExactForms.{IsFormInRange, exact_shown}
use Rattle.locale_numbers_formatter.specs.FormatText.{FormatTables, MayLengthen}
use Rattle.locale_numbers_formatter.specs.ShownOperands.{shown_operands, value_operands}
use Rattle.writeable.specs.AnnotatedText.{AnnotatedText}
use Rattle.legumeyet_c_values.specs.declared.CallError.{CallError}
use Rattle.legumeyet_c_values.specs.declared.CallError.TheVariants.{Memory, Range}
use Rattle.legumeyet_c.specs.Formatted.{IsExactFault, IsExactText, IsFormatFault, IsFormatInParts, IsFormatText, IsPartsFault, IsShownFault, IsShownText}
use Rattle.legumeyet_c.specs.HeldFormats.{Plurals, Wording}

-- ---- words

-- that of the category of a number as it is shown, where that is a decimal
abbrev pub category_word : Rules → FormatTables → SignedValue Number → Option (List ℕ)
category_word rules f value = option_map (λ operands. word (category_of rules operands)) (shown_operands f value)

-- that of the number that a text spells, where it is shown as it is given
pub record IsSpelledWord (rules : Rules) (spelled text : List ℕ) : Type 0 where
  pub number : SignedValue Number
  pub reads : ReadsSigned spelled number
  pub is : text ≡ word (category_of rules (operands_of number.absolute 0))

-- that of an exact form, where numbers of its magnitude have its exponent
abbrev pub form_word : Rules → FormatTables → CompactValue → Option (List ℕ)
form_word rules f form = option_map (λ shown. word (category_of rules (value_operands form))) (exact_shown f form)

-- that of a range, by its ends as they are shown
abbrev pub word_between : Plurals → Option Operands → Option Operands → Option (List ℕ)
word_between plurals None second = None
word_between plurals (Some first) None = None
word_between plurals (Some first) (Some second) = Some (word (range_category plurals.1 (category_of plurals.0 first) (category_of plurals.0 second)))

-- the two ends of a range
abbrev pub Ends : Type 0
Ends = SignedValue Number × SignedValue Number

abbrev pub range_word : Plurals → FormatTables → Ends → Option (List ℕ)
range_word plurals f ends = word_between plurals (shown_operands f ends.0) (shown_operands f ends.1)

-- ---- of a number

-- its text, or its word
abbrev pub IsTextBy : Option Plurals → FormatTables → SignedValue Number → List ℕ → Type 0
IsTextBy None f value text = IsFormatText f value text
IsTextBy (Some plurals) f value text = category_word plurals.0 f value ≡ Some text

abbrev pub IsText : Wording → SignedValue Number → List ℕ → Type 0
IsText w value text = IsTextBy w.plurals w.tables value text

-- why it is not seen: it is not shown, or memory is wanted, since what is shown may be longer
abbrev pub IsUnseen : FormatTables → SignedValue Number → CallError → Type 0
IsUnseen f value Range = shown_operands f value ≡ None
IsUnseen f value Memory = MayLengthen f
IsUnseen f value _ = ⊥

abbrev pub IsTextFaultBy : Option Plurals → FormatTables → SignedValue Number → CallError → Type 0
IsTextFaultBy None f value error = IsFormatFault f value error
IsTextFaultBy (Some plurals) f value error = IsUnseen f value error

abbrev pub IsTextFault : Wording → SignedValue Number → CallError → Type 0
IsTextFault w value error = IsTextFaultBy w.plurals w.tables value error

-- ---- with its parts

-- a word has none
pub record IsWordInParts (rules : Rules) (f : FormatTables) (value : SignedValue Number) (text : AnnotatedText) : Type 0 where
  pub is : category_word rules f value ≡ Some text.text
  pub parts : text.parts ≡ []

abbrev pub IsInPartsBy : Option Plurals → FormatTables → SignedValue Number → AnnotatedText → Type 0
IsInPartsBy None f value text = IsFormatInParts f value text
IsInPartsBy (Some plurals) f value text = IsWordInParts plurals.0 f value text

abbrev pub IsTextInParts : Wording → SignedValue Number → AnnotatedText → Type 0
IsTextInParts w value text = IsInPartsBy w.plurals w.tables value text

-- memory is wanted anyhow
abbrev pub IsWordPartsFault : FormatTables → SignedValue Number → CallError → Type 0
IsWordPartsFault f value error = (error ≡ Memory) ⊎ IsUnseen f value error

abbrev pub IsInPartsFaultBy : Option Plurals → FormatTables → SignedValue Number → CallError → Type 0
IsInPartsFaultBy None f value error = IsPartsFault f value error
IsInPartsFaultBy (Some plurals) f value error = IsWordPartsFault f value error

abbrev pub IsInPartsFault : Wording → SignedValue Number → CallError → Type 0
IsInPartsFault w value error = IsInPartsFaultBy w.plurals w.tables value error

-- ---- the value that is shown, whatever is written for it

abbrev pub IsShown : Wording → SignedValue Number → List ℕ → Type 0
IsShown w value text = IsShownText w.tables value text

abbrev pub IsNotShown : Wording → SignedValue Number → CallError → Type 0
IsNotShown w value error = IsShownFault w.tables value error

-- ---- of an exact form

pub record IsFormWord (rules : Rules) (f : FormatTables) (form : CompactValue) (text : List ℕ) : Type 0 where
  pub can : IsFormInRange f form
  pub is : form_word rules f form ≡ Some text

abbrev pub IsFormBy : Option Plurals → FormatTables → CompactValue → List ℕ → Type 0
IsFormBy None f form text = IsExactText f form text
IsFormBy (Some plurals) f form text = IsFormWord plurals.0 f form text

abbrev pub IsForm : Wording → CompactValue → List ℕ → Type 0
IsForm w form text = IsFormBy w.plurals w.tables form text

abbrev pub IsFormFault : Wording → CompactValue → CallError → Type 0
IsFormFault w form error = IsExactFault w.tables form error

-- ---- of a range

-- without rules there is none
abbrev pub IsRangeBy : Option Plurals → FormatTables → Ends → List ℕ → Type 0
IsRangeBy None f ends text = ⊥
IsRangeBy (Some plurals) f ends text = range_word plurals f ends ≡ Some text

abbrev pub IsRange : Wording → Ends → List ℕ → Type 0
IsRange w ends text = IsRangeBy w.plurals w.tables ends text

abbrev pub IsRangeWordFault : FormatTables → Ends → CallError → Type 0
IsRangeWordFault f ends error = IsUnseen f ends.0 error ⊎ IsUnseen f ends.1 error

abbrev pub IsRangeFaultBy : Option Plurals → FormatTables → Ends → CallError → Type 0
IsRangeFaultBy None f ends error = ⊥
IsRangeFaultBy (Some plurals) f ends error = IsRangeWordFault f ends error

abbrev pub IsRangeFault : Wording → Ends → CallError → Type 0
IsRangeFault w ends error = IsRangeFaultBy w.plurals w.tables ends error
