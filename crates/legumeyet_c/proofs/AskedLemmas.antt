-- What a call asks for, and what follows of what is written of a value that is given.
use Rattle.std.proofs.Common.{arith, ◌≡◌, ◌≢◌, ℕ, ◌<◌, ◌≤◌, List, [], ◌∷◌, Option, Some, None, Result, Ok, Err, IfOk, IfErr, refl, subst, ap, sym, ◌∙◌, inl, inr}
use Rattle.std.proofs.Math.Nat.{lt_of_not-le}
use Rattle.std.specs.Prelude.{ℤ}
use Rattle.fixed_decimal.specs.CompactText.{CompactValue}
use Rattle.fixed_decimal.specs.Number.{Number}
use Rattle.fixed_decimal.specs.SignedValue.{SignedValue}
use Rattle.icu_dimension_fractions.specs.declared.FractionInfo.{FractionInfo}
use Rattle.locale_numbers_formats.specs.declared.NumberOptions.{NumberOptions}
use Rattle.locale_numbers_formatter.specs.ExactForms.{IsFormInRange}
use Rattle.locale_numbers_formatter.specs.FormatText.{FormatTables, compact_tables, digits_tables, fractions_in, plain_tables, scientific_tables, unit_tables}
use Rattle.legumeyet_c_values.specs.Numbers.{Given, Gives, GivesCompact, IsChangeFault, IsCompactChangeFault, IsGiven, IsGivenFault}
use Rattle.legumeyet_c_values.specs.Putting.{IsPut}
use Rattle.legumeyet_c_values.specs.Words.{number_options_of}
use Rattle.legumeyet_c_values.specs.declared.CallError.{CallError}
use Rattle.legumeyet_c_values.specs.declared.CallError.TheVariants.{TooSmall, UnknownOption}
use Rattle.legumeyet_c_values.proofs.NumbersLemmas.{change_fault_other}
use Rattle.legumeyet_c_values.proofs.PuttingLemmas.{put_by, put_refused}
use Rattle.legumeyet_c.specs.Formatted.{IsFormatFault, IsFormatText, IsPartsFault}
use Rattle.legumeyet_c.specs.HeldFormats.{HeldFormat, Plurals, Wording}
use Rattle.legumeyet_c.specs.Worded.{IsInPartsFault, IsInPartsFaultBy}
use Rattle.legumeyet_c.specs.Writing.{Asked, GivesForm, GivesNumber, IsFormRefused, IsNumberRefused, IsNumberWritingFault, IsWritingFault, Writes, asked_by, asked_for, asked_in, asked_of, asked_with, range_asked_by, range_asked_of}
use Rattle.legumeyet_c.proofs.CategoryLemmas.{unseen_other}

-- ---- what is asked

-- of a formatter that is open
pub asked_open : (open_format : Option HeldFormat) (held : HeldFormat) (words : List ℤ) (outcome : Result Asked CallError)
    → Some held ≡ open_format → outcome ≡ asked_in held words → outcome ≡ asked_of open_format words
asked_open open_format held words outcome is asks = asks ∙ ap (λ (o : Option HeldFormat). asked_of o words) is

-- without a word by its own options
pub asked_by_own : (held : HeldFormat) (words : List ℤ) → words ≡ [] → Ok (asked_for held.wording held.options) ≡ asked_in held words
asked_by_own held words none = ap (λ (w : List ℤ). asked_in held w) (sym none)

-- and else by those that words say
pub asked_by_words : (held : HeldFormat) (words : List ℤ) (found : Option NumberOptions) → words ≢ [] → found ≡ number_options_of words
    → asked_by held.wording found ≡ asked_in held words
asked_by_words held [] found some is = absurd (some refl)
asked_by_words held (word ∷ words) found some is = ap (λ (o : Option NumberOptions). asked_by held.wording o) is

-- why nothing is asked is not that a text is too long
options_other : (wording : Wording) (options : Option NumberOptions) (error : CallError) → Err error ≡ asked_by wording options → error ≢ TooSmall
options_other wording None error is = λ same. absurd (cc (is, same))
options_other wording (Some options) error is = absurd (cc is)

words_other : (held : HeldFormat) (words : List ℤ) (error : CallError) → Err error ≡ asked_in held words → error ≢ TooSmall
words_other held [] error is = absurd (cc is)
words_other held (word ∷ words) error is = options_other held.wording (number_options_of (word ∷ words)) error is

pub asked_other : (open_format : Option HeldFormat) (words : List ℤ) (error : CallError) → Err error ≡ asked_of open_format words → error ≢ TooSmall
asked_other None words error is = λ same. absurd (cc (is, same))
asked_other (Some held) words error is = words_other held words error is

-- ---- a text

-- what is written with this of the value that is given to it
pub written : {N : Type 0} (says : Wording → N → List ℕ → Type 0) (fails : Wording → N → CallError → Type 0) (gives : Asked → N → Type 0) (fault : Asked → CallError → Type 0)
    (asked : Asked) (value : N) (before after : List ℕ) (was told : ℕ) (outcome : Result (Unit {0}) CallError)
    → gives asked value → IsPut (says asked.wording value) (fails asked.wording value) before after was told outcome
    → IsPut (Writes says gives (Ok asked)) (IsWritingFault fails gives fault (Ok asked)) before after was told outcome
written says fails gives fault asked value before after was told outcome given put =
    put_by before after was told outcome
    (λ text said. record { value = value; given = given; said = said })
    (λ error failed. inr (record { value = value; given = given; failed = failed }))
    put

-- no value is given
pub ungiven : {N : Type 0} (says : Wording → N → List ℕ → Type 0) (fails : Wording → N → CallError → Type 0) (gives : Asked → N → Type 0) (fault : Asked → CallError → Type 0)
    (asked : Asked) (out : List ℕ) (told : ℕ) (error : CallError) → error ≢ TooSmall → fault asked error
    → IsPut (Writes says gives (Ok asked)) (IsWritingFault fails gives fault (Ok asked)) out out told told (Err error)
ungiven says fails gives fault asked out told error other refused =
    put_refused (Writes says gives (Ok asked)) (IsWritingFault fails gives fault (Ok asked)) out told error other (inl refused)

-- what is written as is asked is written by the call that asks it
pub asked_put : {N : Type 0} (says : Wording → N → List ℕ → Type 0) (fails : Wording → N → CallError → Type 0) (gives : Asked → N → Type 0) (fault : Asked → CallError → Type 0)
    (asking asked : Result Asked CallError) (before after : List ℕ) (was told : ℕ) (outcome : Result (Unit {0}) CallError) → asked ≡ asking
    → IsPut (Writes says gives asked) (IsWritingFault fails gives fault asked) before after was told outcome
    → IsPut (Writes says gives asking) (IsWritingFault fails gives fault asking) before after was told outcome
asked_put says fails gives fault asking asked before after was told outcome is put =
    subst (λ (a : Result Asked CallError). IsPut (Writes says gives a) (IsWritingFault fails gives fault a) before after was told outcome) is put

-- nothing is asked
pub unasked_put : {N : Type 0} (says : Wording → N → List ℕ → Type 0) (fails : Wording → N → CallError → Type 0) (gives : Asked → N → Type 0) (fault : Asked → CallError → Type 0)
    (open_format : Option HeldFormat) (words : List ℤ) (out : List ℕ) (told : ℕ) (error : CallError) → Err error ≡ asked_of open_format words
    → IsPut (Writes says gives (asked_of open_format words)) (IsWritingFault fails gives fault (asked_of open_format words)) out out told told (Err error)
unasked_put says fails gives fault open_format words out told error is =
    asked_put says fails gives fault (asked_of open_format words) (Err error) out out told told (Err error) is
    (put_refused (Writes says gives (Err error)) (IsWritingFault fails gives fault (Err error)) out told error (asked_other open_format words error is) refl)

-- nor of a range
pub range_unasked : {N : Type 0} (says : Wording → N → List ℕ → Type 0) (fails : Wording → N → CallError → Type 0) (gives : Asked → N → Type 0) (fault : Asked → CallError → Type 0)
    (open_format : Option HeldFormat) (words : List ℤ) (out : List ℕ) (told : ℕ) (error : CallError) → Err error ≡ asked_of open_format words
    → IsPut (Writes says gives (range_asked_of open_format words)) (IsWritingFault fails gives fault (range_asked_of open_format words)) out out told told (Err error)
range_unasked says fails gives fault open_format words out told error is =
    asked_put says fails gives fault (range_asked_of open_format words) (Err error) out out told told (Err error) (ap range_asked_by is)
    (put_refused (Writes says gives (Err error)) (IsWritingFault fails gives fault (Err error)) out told error (asked_other open_format words error is) refl)

-- a formatter without rules is asked for no range
pub range_unworded : {N : Type 0} (says : Wording → N → List ℕ → Type 0) (fails : Wording → N → CallError → Type 0) (gives : Asked → N → Type 0) (fault : Asked → CallError → Type 0)
    (asked : Asked) (out : List ℕ) (told : ℕ) → None ≡ asked.wording.plurals
    → IsPut (Writes says gives (range_asked_by (Ok asked))) (IsWritingFault fails gives fault (range_asked_by (Ok asked))) out out told told (Err UnknownOption)
range_unworded says fails gives fault asked out told none =
    asked_put says fails gives fault (range_asked_by (Ok asked)) (Err UnknownOption) out out told told (Err UnknownOption) (ap (λ (p : Option Plurals). asked_with p asked) none)
    (put_refused (Writes says gives (Err UnknownOption)) (IsWritingFault fails gives fault (Err UnknownOption)) out told UnknownOption (λ same. absurd (cc same)) refl)

-- and one with rules as any other call
pub range_worded : {N : Type 0} (says : Wording → N → List ℕ → Type 0) (fails : Wording → N → CallError → Type 0) (gives : Asked → N → Type 0) (fault : Asked → CallError → Type 0)
    (asked : Asked) (plurals : Plurals) (before after : List ℕ) (was told : ℕ) (outcome : Result (Unit {0}) CallError) → Some plurals ≡ asked.wording.plurals
    → IsPut (Writes says gives (Ok asked)) (IsWritingFault fails gives fault (Ok asked)) before after was told outcome
    → IsPut (Writes says gives (range_asked_by (Ok asked))) (IsWritingFault fails gives fault (range_asked_by (Ok asked))) before after was told outcome
range_worded says fails gives fault asked plurals before after was told outcome some put =
    asked_put says fails gives fault (range_asked_by (Ok asked)) (Ok asked) before after was told outcome (ap (λ (p : Option Plurals). asked_with p asked) some) put

-- what is written with one of two tables that are the same
pub put_with : (tables other : FormatTables) (value : SignedValue Number) (before after : List ℕ) (was told : ℕ) (outcome : Result (Unit {0}) CallError) → tables ≡ other
    → IsPut (IsFormatText tables value) (IsFormatFault tables value) before after was told outcome
    → IsPut (IsFormatText other value) (IsFormatFault other value) before after was told outcome
put_with tables other value before after was told outcome is put =
    subst (λ (t : FormatTables). IsPut (IsFormatText t value) (IsFormatFault t value) before after was told outcome) is put

-- ---- numbers

-- a number that is given to this is one that is asked
pub gives_number : (number : Given) (asked : Asked) (fractions : Option FractionInfo) (value : SignedValue Number) → fractions ≡ fractions_in asked.wording.tables
    → Gives asked.options fractions (IsGiven number) value → GivesNumber number asked value
gives_number number asked fractions value counted given = subst (λ (f : Option FractionInfo). Gives asked.options f (IsGiven number) value) counted given

pub refuses_number : (number : Given) (asked : Asked) (fractions : Option FractionInfo) (error : CallError) → fractions ≡ fractions_in asked.wording.tables
    → IsChangeFault asked.options fractions (IsGiven number) (IsGivenFault number) error → IsNumberRefused number asked error
refuses_number number asked fractions error counted refused =
    subst (λ (f : Option FractionInfo). IsChangeFault asked.options f (IsGiven number) (IsGivenFault number) error) counted refused

-- the same of an exact form
pub gives_form : (spelled : List ℕ) (asked : Asked) (fractions : Option FractionInfo) (form : CompactValue) → fractions ≡ fractions_in asked.wording.tables
    → GivesCompact asked.options fractions spelled form → GivesForm spelled asked form
gives_form spelled asked fractions form counted given = subst (λ (f : Option FractionInfo). GivesCompact asked.options f spelled form) counted given

pub refuses_form : (spelled : List ℕ) (asked : Asked) (fractions : Option FractionInfo) (error : CallError) → fractions ≡ fractions_in asked.wording.tables
    → IsCompactChangeFault asked.options fractions spelled error → IsFormRefused spelled asked error
refuses_form spelled asked fractions error counted refused = subst (λ (f : Option FractionInfo). IsCompactChangeFault asked.options f spelled error) counted refused

-- ---- with parts

-- what is said with this of the value that is given to it, where something is
pub says_given : {N T X : Type 0} (says : Wording → N → X → Type 0) (gives : Asked → N → Type 0) (text : T → X) (asked : Asked) (value : N) (outcome : Result T CallError)
    → gives asked value → IfOk outcome (λ said. says asked.wording value (text said)) → IfOk outcome (λ said. Writes says gives (Ok asked) (text said))
says_given says gives text asked value (Ok said) given holds = record { value = value; given = given; said = holds }
says_given says gives text asked value (Err error) given holds = tt

pub fails_given : {N T : Type 0} (fails : Wording → N → CallError → Type 0) (gives : Asked → N → Type 0) (fault : Asked → CallError → Type 0) (asked : Asked) (value : N)
    (outcome : Result T CallError) → gives asked value → IfErr outcome (λ error. fails asked.wording value error) → IfErr outcome (λ error. IsWritingFault fails gives fault (Ok asked) error)
fails_given fails gives fault asked value (Ok said) given failed = tt
fails_given fails gives fault asked value (Err error) given failed = inr (record { value = value; given = given; failed = failed })

-- why there is no text with its parts is not that it is too long
in_parts_other : (plurals : Option Plurals) (f : FormatTables) (value : SignedValue Number) (error : CallError) → IsInPartsFaultBy plurals f value error → error ≢ TooSmall
in_parts_other None f value error failed = λ same. subst (λ (e : CallError). IsPartsFault f value e) same failed
in_parts_other (Some plurals) f value error (inl memory) = λ same. absurd (cc (memory, same))
in_parts_other (Some plurals) f value error (inr unseen) = unseen_other f value error unseen

asked_parts_other : (asking : Result Asked CallError) (number : Given) (error : CallError) → ((cause : CallError) → Err cause ≡ asking → cause ≢ TooSmall)
    → IsWritingFault IsInPartsFault (GivesNumber number) (IsNumberRefused number) asking error → error ≢ TooSmall
asked_parts_other (Err cause) number error other is = λ same. other cause refl (sym is ∙ same)
asked_parts_other (Ok asked) number error other (inl refused) = change_fault_other asked.options (fractions_in asked.wording.tables) number error refused
asked_parts_other (Ok asked) number error other (inr failed) = in_parts_other asked.wording.plurals asked.wording.tables failed.value error failed.failed

pub parts_other : (open_format : Option HeldFormat) (words : List ℤ) (number : Given) (error : CallError)
    → IsNumberWritingFault IsInPartsFault open_format words number error → error ≢ TooSmall
parts_other open_format words number error is =
    asked_parts_other (asked_of open_format words) number error (λ cause refused. asked_other open_format words cause refused) is

-- ---- exact forms

within : (n m : ℕ) → ¬ (¬ (n < m)) → n < m
within n m kept = lt_of_not-le (λ (above : m ≤ n). kept (λ (below : n < m). omega arith))

-- a form that is not beyond the range is in it
pub form_in_range : (f : FormatTables) (form : CompactValue) → ¬ (¬ (IsFormInRange f form)) → IsFormInRange f form
form_in_range (plain_tables t) form kept = tt
form_in_range (compact_tables t) form kept = within _ _ kept
form_in_range (digits_tables t options) form kept = within _ _ kept
form_in_range (scientific_tables s) form kept = tt
form_in_range (unit_tables u) form kept = tt
