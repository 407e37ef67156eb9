-- What facts are told of, and the fact that a number asks for.
use Rattle.std.proofs.Common.{◌≡◌, ℕ, List, Option, Some, None, Result, Ok, Err, refl, subst, ap, sym, ◌∙◌}
use Rattle.std.specs.Borrow.{Bor}
use Rattle.std.specs.Prelude.{option_map}
use Rattle.icu_decimal.specs.Symbols.{Symbols}
use Rattle.icu_dimension_fractions.specs.declared.FractionInfo.{FractionInfo}
use Rattle.icu_plurals.specs.Rules.{Rules}
use Rattle.locale_numbers_formatter.specs.FormatText.{FormatTables, digit_tables, fractions_in}
use Rattle.legumeyet_c_values.specs.Facts.{IsNoFact, Told, fact_numbered, fact_text}
use Rattle.legumeyet_c_values.specs.Putting.{IsPut}
use Rattle.legumeyet_c_values.specs.declared.CallError.{CallError}
use Rattle.legumeyet_c_values.specs.declared.CallError.TheVariants.{Closed, UnknownOption}
use Rattle.legumeyet_c_values.specs.declared.Fact.{Fact}
use Rattle.legumeyet_c_values.proofs.PuttingLemmas.{put_by, put_refused}
use Rattle.legumeyet_c.specs.HeldFormats.{HeldFormat, Wording}
use Rattle.legumeyet_c.specs.Telling.{IsFactFault, SaysFact, fact_in, told_by}

-- ---- what is told of

abbrev pub told : Symbols → List ℕ → Option FractionInfo → Option Rules → Told
told symbols digits fractions rules = record { strings = symbols.strings; digits = digits; fractions = fractions; rules = rules }

pub told_same : (w : Wording) (f : FormatTables) (symbols : Symbols) (digits : List ℕ) (fractions : Option FractionInfo) (rules : Option Rules) → f ≡ w.tables
    → symbols ≡ (digit_tables f).symbols → digits ≡ (digit_tables f).digits → fractions ≡ fractions_in w.tables → rules ≡ option_map (λ plurals. plurals.0) w.plurals
    → told symbols digits fractions rules ≡ told_by w
told_same w f symbols digits fractions rules is by_symbols by_digits by_fractions by_rules =
    ap (λ (s : Symbols). told s digits fractions rules) (by_symbols ∙ ap (λ (t : FormatTables). (digit_tables t).symbols) is)
    ∙ ap (λ (d : List ℕ). told (digit_tables w.tables).symbols d fractions rules) (by_digits ∙ ap (λ (t : FormatTables). (digit_tables t).digits) is)
    ∙ ap (λ (i : Option FractionInfo). told (digit_tables w.tables).symbols (digit_tables w.tables).digits i rules) by_fractions
    ∙ ap (λ (r : Option Rules). told (digit_tables w.tables).symbols (digit_tables w.tables).digits (fractions_in w.tables) r) by_rules

pub put_told : (known told : Told) (fact : Fact) (before after : List ℕ) (was length : ℕ) (outcome : Result (Unit {0}) CallError) → known ≡ told
    → IsPut (λ text. fact_text known fact ≡ Some text) (IsNoFact known fact) before after was length outcome
    → IsPut (λ text. fact_text told fact ≡ Some text) (IsNoFact told fact) before after was length outcome
put_told known told fact before after was length outcome is put =
    subst (λ (t : Told). IsPut (λ text. fact_text t fact ≡ Some text) (IsNoFact t fact) before after was length outcome) is put

-- ---- by its number

-- a fact of what is open
pub fact_open : (open_format : Option HeldFormat) (held : HeldFormat) (lent : Wording) (number : ℕ) (fact : Fact) (before after : List ℕ) (was length : ℕ) (outcome : Result (Unit {0}) CallError)
    → Some held ≡ open_format → lent ≡ held.wording → Some fact ≡ fact_numbered number
    → IsPut (λ text. fact_text (told_by lent) fact ≡ Some text) (IsNoFact (told_by lent) fact) before after was length outcome
    → IsPut (SaysFact open_format number) (IsFactFault open_format number) before after was length outcome
fact_open open_format held lent number fact before after was length outcome is lends numbered put =
    subst (λ (o : Option HeldFormat). IsPut (SaysFact o number) (IsFactFault o number) before after was length outcome) is
    (let same : fact_in held.wording (fact_numbered number) ≡ fact_text (told_by lent) fact =
    ap (λ (f : Option Fact). fact_in held.wording f) (sym numbered) ∙ ap (λ (w : Wording). fact_text (told_by w) fact) (sym lends) in
    put_by {saying = SaysFact (Some held) number} {faulty = IsFactFault (Some held) number} before after was length outcome (λ text said. same ∙ said) (λ error none. record { is = none.is; none = same ∙ none.none }) put)

-- no fact has the number
pub fact_unknown : (open_format : Option HeldFormat) (held : HeldFormat) (number : ℕ) (out : List ℕ) (length : ℕ) → Some held ≡ open_format → None ≡ fact_numbered number
    → IsPut (SaysFact open_format number) (IsFactFault open_format number) out out length length (Err UnknownOption)
fact_unknown open_format held number out length is none =
    subst (λ (o : Option HeldFormat). IsPut (SaysFact o number) (IsFactFault o number) out out length length (Err UnknownOption)) is
    (put_refused (SaysFact (Some held) number) (IsFactFault (Some held) number) out length UnknownOption (λ same. absurd (cc same))
    (record { is = refl; none = ap (λ (f : Option Fact). fact_in held.wording f) (sym none) }))

-- nothing is open
pub fact_closed : (open_format : Option HeldFormat) (number : ℕ) (out : List ℕ) (length : ℕ) → None ≡ open_format
    → IsPut (SaysFact open_format number) (IsFactFault open_format number) out out length length (Err Closed)
fact_closed open_format number out length is =
    subst (λ (o : Option HeldFormat). IsPut (SaysFact o number) (IsFactFault o number) out out length length (Err Closed)) is
    (put_refused (SaysFact None number) (IsFactFault None number) out length Closed (λ same. absurd (cc same)) refl)
