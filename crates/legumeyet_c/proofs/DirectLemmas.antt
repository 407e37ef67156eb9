-- The options of no words leave a number that is no amount as it is given, so what is written of it directly is what they ask for.
use Rattle.std.proofs.Common.{◌≡◌, ◌-◌, ℕ, ℤ, Bool, None, Some, Option, Ok, IfOk, Result, List, [], ◌∷◌, max, min, true, refl, ap, sym, subst, arith, inl, ◌∙◌}
use Rattle.std.specs.Prelude.{is_none, option_map}
use Rattle.std.specs.List.{list_all}
use Rattle.std.proofs.lemmas.Bool.{and_parts, false≢true}
use Rattle.fixed_decimal.specs.Number.{IsNumber, Number}
use Rattle.fixed_decimal.specs.SignedText.{ReadsSigned}
use Rattle.fixed_decimal.specs.SignedValue.{SignedValue}
use Rattle.icu_decimal.specs.PlainText.{Tables}
use Rattle.icu_dimension_fractions.specs.declared.FractionInfo.{FractionInfo}
use Rattle.icu_plurals.specs.Categories.{word}
use Rattle.icu_plurals.specs.Operands.{Operands, operands_of}
use Rattle.icu_plurals.specs.Rules.{Rules, category_of}
use Rattle.icu_plurals.specs.declared.PluralRange.{PluralRange}
use Rattle.locale_numbers_formats.specs.Changed.{changed}
use Rattle.locale_numbers_formats.specs.declared.NumberOptions.{NumberOptions}
use Rattle.locale_numbers_formats.proofs.ChangedLemmas.{same_fields}
use Rattle.locale_numbers_formatter.specs.FormatText.{FormatTables, compact_tables, digits_tables, fractions_in, plain_tables, scientific_tables, unit_tables}
use Rattle.locale_numbers_formatter.specs.ShownOperands.{shown_operands}
use Rattle.locale_numbers_answers.proofs.NumberBounds.{reading_is_decimal}
use Rattle.locale_numbers_answers.proofs.NumberReadingLemmas.{signed_number}
use Rattle.legumeyet_c_values.specs.Numbers.{Gives, IsGiven, IsNumberFault, spelled}
use Rattle.legumeyet_c_values.specs.Putting.{IsPut}
use Rattle.legumeyet_c_values.specs.UsualOptions.{is_usual}
use Rattle.legumeyet_c_values.specs.Words.{is_zero, usual}
use Rattle.legumeyet_c_values.specs.declared.CallError.{CallError}
use Rattle.legumeyet_c_values.proofs.PuttingLemmas.{put_by}
use Rattle.legumeyet_c_values.proofs.UsualLemmas.{usual_is}
use Rattle.legumeyet_c_values.proofs.WordLemmas.{zeros_ask}
use Rattle.legumeyet_c.specs.ColumnWriting.{IsAskedFault, WritesAsked}
use Rattle.legumeyet_c.specs.HeldFormats.{HeldFormat, Plurals, Wording, in_numbers}
use Rattle.legumeyet_c.specs.Worded.{IsSpelledWord, IsText, IsTextBy, IsTextFault}
use Rattle.legumeyet_c.specs.Writing.{AreWordsAsked, Asked, GivesNumber, IsNumberRefused, IsWritingFault, Writes, asked_beside, asked_by, asked_for, asked_given, asked_in, asked_of, asked_plainly, is_as_given, shows_as_given, significand_by}
use Rattle.legumeyet_c.proofs.AskedLemmas.{asked_open, asked_put, written}
use Rattle.legumeyet_c.proofs.CategoryLemmas.{word_shown}

-- ---- the number that a text spells

usual_leaves : (value : SignedValue Number) → IsNumber value.absolute → changed usual None value ≡ value
usual_leaves value is =
    let n = value.absolute in
    let low = is.low in
    let ones = is.ones in
    ap (λ (m : Number). record { sign = value.sign; absolute = m })
    (same_fields (record { count = n.count; low = min n.low 32768; high = max n.high (32768 - 1) }) n refl (omega (arith, low)) (omega (arith, ones)))

gives_spelled : (text : List ℕ) (value : SignedValue Number) → ReadsSigned text value → Gives usual None (IsGiven (spelled text)) value
gives_spelled text value reads = record {
  given = value;
  given_is = reads;
  changes = sym (usual_leaves value (reading_is_decimal text value (signed_number text value reads)));
}

-- as it is where no amounts are written
is_nothing : {T : Type 0} (o : Option T) → is_none o ≡ true → None ≡ o
is_nothing None is = refl
is_nothing (Some x) is = absurd (false≢true is)

no_fractions : (f : FormatTables) → shows_as_given f ≡ true → None ≡ fractions_in f
no_fractions (plain_tables t) is = refl
no_fractions (compact_tables t) is = refl
no_fractions (digits_tables t options) is = refl
no_fractions (scientific_tables s) is = refl
no_fractions (unit_tables u) is = is_nothing u.fractions is

gives_as_given : (asked : Asked) (text : List ℕ) (value : SignedValue Number) → is_usual asked.options ≡ true → shows_as_given asked.wording.tables ≡ true → ReadsSigned text value
    → GivesNumber (spelled text) asked value
gives_as_given asked text value plain shows reads =
    subst (λ (o : NumberOptions). Gives o (fractions_in asked.wording.tables) (IsGiven (spelled text)) value) (sym (usual_is asked.options plain))
    (subst (λ (f : Option FractionInfo). Gives usual f (IsGiven (spelled text)) value) (no_fractions asked.wording.tables shows) (gives_spelled text value reads))

-- ---- what is put directly

pub plainly_put : (tables : Tables) (asked : Asked) (text : List ℕ) (value : SignedValue Number) (before after : List ℕ) (was told : ℕ) (outcome : Result (Unit {0}) CallError)
    → asked_plainly tables ≡ asked → ReadsSigned text value
    → IsPut (IsText (in_numbers (plain_tables tables)) value) (IsTextFault (in_numbers (plain_tables tables)) value) before after was told outcome
    → IsPut (WritesAsked asked (spelled text)) (IsAskedFault asked (spelled text)) before after was told outcome
plainly_put tables asked text value before after was told outcome is reads put =
    subst (λ (a : Asked). IsPut (WritesAsked a (spelled text)) (IsAskedFault a (spelled text)) before after was told outcome) is
    (written IsText IsTextFault (GivesNumber (spelled text)) (IsNumberRefused (spelled text)) (asked_plainly tables) value before after was told outcome
    (gives_spelled text value reads) put)

-- the word of a category
shown_given : (f : FormatTables) (value : SignedValue Number) → shows_as_given f ≡ true → Some (operands_of value.absolute 0) ≡ shown_operands f value
shown_given (plain_tables t) value is = refl
shown_given (compact_tables t) value is = absurd (false≢true is)
shown_given (digits_tables t options) value is = absurd (false≢true is)
shown_given (scientific_tables s) value is = absurd (false≢true is)
shown_given (unit_tables u) value is = refl

word_given : (rules : Rules) (ranges : List PluralRange) (wording : Wording) (value : SignedValue Number) (text : List ℕ) → Some (rules, ranges) ≡ wording.plurals
    → shows_as_given wording.tables ≡ true → text ≡ word (category_of rules (operands_of value.absolute 0)) → IsText wording value text
word_given rules ranges wording value text plurals shows is =
    subst (λ (p : Option Plurals). IsTextBy p wording.tables value text) plurals
    (word_shown rules wording.tables value (operands_of value.absolute 0) text (shown_given wording.tables value shows) is)

pub words_put : (rules : Rules) (asking : Result Asked CallError) (text : List ℕ) (before after : List ℕ) (was told : ℕ) (outcome : Result (Unit {0}) CallError)
    → AreWordsAsked rules asking → IsPut (IsSpelledWord rules text) (IsNumberFault text) before after was told outcome
    → IsPut (Writes IsText (GivesNumber (spelled text)) asking) (IsWritingFault IsTextFault (GivesNumber (spelled text)) (IsNumberRefused (spelled text)) asking) before after was told outcome
words_put rules asking text before after was told outcome words put =
    let both = and_parts (is_usual words.asked.options) (shows_as_given words.asked.wording.tables) words.as_given in
    asked_put IsText IsTextFault (GivesNumber (spelled text)) (IsNumberRefused (spelled text)) asking (Ok words.asked) before after was told outcome words.is
    (put_by before after was told outcome
    (λ (said : List ℕ) (is : IsSpelledWord rules text said). record {
      value = is.number;
      given = gives_as_given words.asked text is.number both.0 both.1 is.reads;
      said = word_given rules words.ranges words.asked.wording is.number said words.plurals both.1 is.is;
    })
    (λ (error : CallError) (fault : IsNumberFault text error). inl (inl fault))
    put)

-- ---- what is asked

-- numbers that are shown as they are given have no significand that options change
no_significand : (options : NumberOptions) (f : FormatTables) → shows_as_given f ≡ true → None ≡ significand_by options f
no_significand options (plain_tables t) is = refl
no_significand options (compact_tables t) is = refl
no_significand options (digits_tables t own) is = refl
no_significand options (scientific_tables s) is = absurd (false≢true is)
no_significand options (unit_tables u) is = refl

given_before : (wording : Wording) (options : NumberOptions) → shows_as_given wording.tables ≡ true → asked_for wording options ≡ asked_given wording options
given_before wording options shows =
    ap (λ (f : Option FormatTables). asked_beside (option_map (λ tables. record wording { tables = tables }) f) wording options) (no_significand options wording.tables shows)

-- words that ask for nothing, of a formatter whose options are those of no words
nothing_asked : (held : HeldFormat) (words : List ℤ) → held.options ≡ usual → shows_as_given held.wording.tables ≡ true → list_all is_zero words ≡ true
    → Ok (asked_for held.wording held.options) ≡ asked_in held words
nothing_asked held [] is shows zeros = refl
nothing_asked held (word ∷ words) is shows zeros =
    ap (λ (o : NumberOptions). Ok (asked_for held.wording o)) is ∙ ap (λ (a : Asked). Ok a) (given_before held.wording usual shows)
    ∙ ap (λ (o : Option NumberOptions). asked_by held.wording o) (sym (zeros_ask (word ∷ words) zeros))

asked_own : (open_format : Option HeldFormat) (held : HeldFormat) (words : List ℤ) → Some held ≡ open_format → held.options ≡ usual → shows_as_given held.wording.tables ≡ true
    → list_all is_zero words ≡ true → Ok (asked_for held.wording held.options) ≡ asked_of open_format words
asked_own open_format held words is plain shows zeros =
    asked_open open_format held words (Ok (asked_for held.wording held.options)) is (nothing_asked held words plain shows zeros)

pub plainly_asked : (open_format : Option HeldFormat) (held : HeldFormat) (words : List ℤ) (tables : Tables) → Some held ≡ open_format
    → asked_plainly tables ≡ asked_for held.wording held.options → list_all is_zero words ≡ true → Ok (asked_plainly tables) ≡ asked_of open_format words
plainly_asked open_format held words tables is plain zeros =
    ap (λ (a : Asked). Ok a) plain
    ∙ asked_own open_format held words is (sym (ap (λ (a : Asked). a.options) plain)) (sym (ap (λ (a : Asked). shows_as_given a.wording.tables) plain)) zeros

pub words_asked : (open_format : Option HeldFormat) (held : HeldFormat) (words : List ℤ) (rules : Rules) → Some held ≡ open_format
    → AreWordsAsked rules (Ok (asked_for held.wording held.options)) → list_all is_zero words ≡ true → AreWordsAsked rules (asked_of open_format words)
words_asked open_format held words rules is asked zeros =
    let as_given : is_as_given (asked_for held.wording held.options) ≡ true =
    subst (λ (r : Result Asked CallError). IfOk r (λ a. is_as_given a ≡ true)) asked.is asked.as_given in
    let both = and_parts (is_usual held.options) (shows_as_given held.wording.tables) as_given in
    subst (λ (r : Result Asked CallError). AreWordsAsked rules r) (asked_own open_format held words is (usual_is held.options both.0) both.1 zeros) asked
