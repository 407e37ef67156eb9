-- The groupings `auto` and `always` have one answer: `specs/Laws.antt`.
use Rattle.std.proofs.Common.{◌≡◌, ◌==◌, ℕ, Bool, true, false, cond, List, Option, Some, None, Result, Ok, Err, refl, sym, ap, ap₂, ◌∙◌}
use Rattle.std.specs.Prelude.{if◌then◌else◌, option_and_then, option_map}
use Rattle.std.specs.Result.{result_ok}
use Rattle.std.specs.Str.{bytes_eq}
use Rattle.fixed_decimal.specs.CompactText.{CompactValue}
use Rattle.fixed_decimal.specs.Number.{Number}
use Rattle.fixed_decimal.specs.SignedValue.{SignedValue}
use Rattle.icu_decimal.specs.declared.error.DataError.{DataError}
use Rattle.icu_decimal.specs.declared.options.GroupingStrategy.{GroupingStrategy}
use Rattle.icu_decimal.specs.declared.provider.CompactEntry.{CompactEntry}
use Rattle.icu_decimal.specs.declared.options.GroupingStrategy.TheVariants.{Auto, Always}
use Rattle.icu_decimal.specs.Choice.{first_found}
use Rattle.icu_decimal.specs.CompactTables.{CompactTables}
use Rattle.icu_decimal.specs.FoundCompactTables.{patterns_identifiers, rules_identifiers, with_plain}
use Rattle.icu_decimal.specs.FoundTables.{with_digits, with_symbols}
use Rattle.icu_decimal.specs.Identifiers.{digits_identifiers, symbols_identifiers}
use Rattle.icu_decimal.specs.KeptEntries.{CompactTable}
use Rattle.icu_decimal.specs.Folding.{plain_digits}
use Rattle.icu_decimal.specs.Pattern.{PatternText}
use Rattle.icu_decimal.specs.PlainText.{Tables}
use Rattle.icu_decimal.specs.Rules.{Rules}
use Rattle.icu_decimal.specs.ShownChoice.{exact_entry}
use Rattle.icu_decimal.specs.SameSymbols.{same_symbols}
use Rattle.icu_decimal.specs.Symbols.{Symbols}
use Rattle.icu_dimension.specs.FoundUnits.{CurrencySettings, amount_settings, percent_settings, sign_found, then_found, unit_locales, with_own}
use Rattle.icu_dimension.specs.ProvidedUnits.{AmountTexts, PercentTexts, SymbolText}
use Rattle.icu_dimension.specs.UnitChoice.{amounts_found, fractions_found, name_found, percent_found}
use Rattle.icu_dimension.specs.UnitPatterns.{chosen}
use Rattle.icu_dimension.specs.declared.FractionInfo.{FractionInfo}
use Rattle.icu_dimension.specs.declared.PercentSign.{PercentSign}
use Rattle.icu_dimension.specs.declared.UnitKind.TheVariants as kind
use Rattle.icu_locale_core.specs.TagPreferences.{Preferences}
use Rattle.icu_plurals.specs.declared.PluralRange.{PluralRange}
use Rattle.icu_plurals.specs.declared.PluralRuleType.TheVariants.{Cardinal}
use Rattle.locale_numbers_answers.specs.Answers.{answer_by, exact_found, read_found, typed_found, written_to}
use Rattle.locale_numbers_answers.specs.CategoryAnswer.{category_found, category_to, range_category_to, range_ends_to, range_found}
use Rattle.locale_numbers_answers.specs.CompactReading.{CompactReading, compact_beyond, compact_nothing, compact_number, compact_reading_of}
use Rattle.locale_numbers_answers.specs.NumberAnswer.{exact_written, is_form_in_range, signed_form}
use Rattle.locale_numbers_answers.specs.NumberReading.{Reading, beyond, nothing, number, reading_of}
use Rattle.locale_numbers_answers.specs.ReadAnswer.{read_answer}
use Rattle.locale_numbers_book.specs.Book.{BookTables}
use Rattle.locale_numbers_book.specs.NumberSigns.{SignTexts}
use Rattle.locale_numbers_book.specs.FoundFormats.{amount_options, amounts_by, compact_found, in_ascii, in_latin, mapped, notation_found, percent_options, plainly_written, scientific_found, scientific_of, second_for, with_exponents, with_symbols_of}
use Rattle.locale_numbers_book.specs.Tables.{chain_in, digits_under, rules_under, symbols_under}
use Rattle.locale_numbers_book.specs.TagFormatters.{currencies_in, currency_found_in, found_plain, patterns_under, percent_found_in, percents_in, signs_found_in}
use Rattle.locale_numbers_book.specs.Wanted.{wanted_of}
use Rattle.locale_numbers_formats.specs.declared.CompactWidth.{CompactWidth}
use Rattle.locale_numbers_formats.specs.declared.CurrencyUnit.{CurrencyUnit}
use Rattle.locale_numbers_formats.specs.declared.Notation.{Notation}
use Rattle.locale_numbers_formats.specs.declared.Notation.TheVariants.{Standard, Compact, CompactDigits, Scientific}
use Rattle.locale_numbers_formats.specs.declared.NumberOptions.{NumberOptions}
use Rattle.locale_numbers_formats.specs.declared.NumberShape.{NumberShape}
use Rattle.locale_numbers_formats.specs.declared.NumberUnit.{NumberUnit}
use Rattle.locale_numbers_formats.specs.declared.NumberUnit.TheVariants as unit
use Rattle.locale_numbers_formats.specs.declared.Rounding.{Rounding}
use Rattle.locale_numbers_formats.specs.declared.SignAsked.{SignAsked}
use Rattle.locale_numbers_formatter.specs.ExactForms.{exact_format_text, under_entry}
use Rattle.locale_numbers_formatter.specs.FormatText.{FormatTables, UnitFormat, compact_tables, digit_tables, digits_tables, plain_tables, scientific_tables, shown_as_it_is, shown_in, text_of_shown, unit_tables}
use Rattle.locale_numbers_formatter.specs.FormatTyped.{format_typed_reading, plain_in, typed_unit, unit_in, units_in_turn}
use Rattle.locale_numbers_formatter.specs.HeldFormats.{currency_format, percent_format}
use Rattle.locale_numbers_formatter.specs.Regrouped.{compact_regrouped, plain_regrouped, regrouped, scientific_regrouped, unit_regrouped}
use Rattle.locale_numbers_formatter.specs.TypedPlain.{reading_by}
use Rattle.locale_numbers_formatter.specs.TypedUnits.{lenient_unit_reading, unit_reading_by}
use Rattle.locale_numbers_formatter.proofs.LenientUnitLemmas.{in_turn_same}
use Rattle.locale_numbers_requests.specs.RangeEnds.{range_ends}
use Rattle.locale_numbers_requests.specs.Request.{Asked}
use Rattle.locale_numbers_requests.specs.declared.Refusal.TheVariants as refusal
use Rattle.locale_numbers_requests.specs.declared.Task.{Task}
use Rattle.locale_numbers_requests.specs.declared.Task.TheVariants.{Write, WriteExact, Read, ReadLenient, Category, RangeCategory}
use Rattle.locale_numbers.specs.Answer.{answer_tagged, plural_rules_for, refused}
use Rattle.locale_numbers.specs.Laws.{AutoIsAnsweredAsAlways, grouped_by}

-- ---- what is found with any grouping: what is found with `auto`, regrouped

-- amounts with another grouping
abbrev amount_regrouped : GroupingStrategy → CurrencySettings → CurrencySettings
amount_regrouped by settings = record settings { unit = unit_regrouped by settings.unit }

module _ (by : GroupingStrategy) where
  -- what is made of what is found
  through : {A : Type 0} (f : A → FormatTables) (regroup : A → A) → ((a : A) → f (regroup a) ≡ regrouped by (f a)) → (one two : Result A DataError) → one ≡ mapped regroup two
      → mapped f one ≡ mapped (regrouped by) (mapped f two)
  through {A = A} f regroup same one two is = ap (mapped f) is ∙ past two
    where
      past : (r : Result A DataError) → mapped f (mapped regroup r) ≡ mapped (regrouped by) (mapped f r)
      past (Ok a) = ap (λ g. Ok g) (same a)
      past (Err error) = refl

  digits_by : (symbols : Symbols) (r : Result (List ℕ) DataError) → with_digits by symbols r ≡ mapped (plain_regrouped by) (with_digits Auto symbols r)
  digits_by symbols (Ok digits) = refl
  digits_by symbols (Err error) = refl

  symbols_by : (book : BookTables) (p : Preferences) (r : Result Symbols DataError) → with_symbols by (digits_under book) p r ≡ mapped (plain_regrouped by) (with_symbols Auto (digits_under book) p r)
  symbols_by book p (Ok symbols) = digits_by symbols (first_found (digits_under book) (digits_identifiers p.numbering_system symbols.strings.numsys))
  symbols_by book p (Err error) = refl

  plain_by : (book : BookTables) (p : Preferences) → found_plain book p (Some by) ≡ mapped (plain_regrouped by) (found_plain book p (Some Auto))
  plain_by book p = symbols_by book p (first_found (symbols_under book) (symbols_identifiers (chain_in book) p))

  patterns_by : (plain : Result Tables DataError) (rules : Result Rules DataError) (patterns : Result CompactTable DataError)
      → with_plain (mapped (plain_regrouped by) plain) rules patterns ≡ mapped (compact_regrouped by) (with_plain plain rules patterns)
  patterns_by (Ok plain) (Ok rules) (Ok patterns) = refl
  patterns_by _ _ _ = refl

  compact_by : (width : CompactWidth) (of : NumberUnit) (book : BookTables) (p : Preferences) → compact_found width of book p by ≡ mapped (compact_regrouped by) (compact_found width of book p Auto)
  compact_by width unit.None book p =
      let rules = first_found (rules_under book) (rules_identifiers (chain_in book) p) in
      let patterns = first_found (patterns_under width book) (patterns_identifiers (chain_in book) p) in
      ap (λ plain. with_plain plain rules patterns) (plain_by book p) ∙ patterns_by (found_plain book p (Some Auto)) rules patterns
  compact_by width _ book p = refl

  -- what comes of plain tables
  past_plain : {S : Type 0} (regroup : S → S) (next : Tables → Result S DataError) → ((t : Tables) → next (plain_regrouped by t) ≡ mapped regroup (next t)) → (book : BookTables) (p : Preferences)
      → then_found (found_plain book p (Some by)) next ≡ mapped regroup (then_found (found_plain book p (Some Auto)) next)
  past_plain regroup next same book p = ap (λ plain. then_found plain next) (plain_by book p) ∙ past (found_plain book p (Some Auto))
    where
      past : (r : Result Tables DataError) → then_found (mapped (plain_regrouped by) r) next ≡ mapped regroup (then_found r next)
      past (Ok t) = same t
      past (Err error) = refl

  -- with the symbols of an entry's own, or those of plain text
  own_by : (own : Option Symbols) (t : Tables) → with_own own (plain_regrouped by t) ≡ plain_regrouped by (with_own own t)
  own_by None t = refl
  own_by (Some own) t = refl

  sign_by : (e : PercentTexts) (t : Tables) (text : Result (List ℕ) DataError)
      → then_found text (λ text. Ok (percent_settings (plain_regrouped by t) e text)) ≡ mapped (unit_regrouped by) (then_found text (λ text. Ok (percent_settings t e text)))
  sign_by e t (Ok text) = ap (λ tables. Ok (record { tables = tables; pattern = e.pattern; unit = record { kind = kind.Percent; text = text } })) (own_by e.symbols t)
  sign_by e t (Err error) = refl

  percents_by : (of : PercentSign) (percents : Result PercentTexts DataError) (t : Tables)
      → then_found percents (λ e. then_found (sign_found of e) (λ text. Ok (percent_settings (plain_regrouped by t) e text)))
      ≡ mapped (unit_regrouped by) (then_found percents (λ e. then_found (sign_found of e) (λ text. Ok (percent_settings t e text))))
  percents_by of (Ok e) t = sign_by e t (sign_found of e)
  percents_by of (Err error) t = refl

  amounts_by_turn : (amounts : Result AmountTexts DataError) (name : Result SymbolText DataError) (fractions : Result FractionInfo DataError) (t : Tables)
      → then_found amounts (λ e. then_found name (λ n. then_found fractions (λ f. Ok (record { unit = amount_settings (plain_regrouped by t) e n; fractions = f }))))
      ≡ mapped (amount_regrouped by) (then_found amounts (λ e. then_found name (λ n. then_found fractions (λ f. Ok (record { unit = amount_settings t e n; fractions = f })))))
  amounts_by_turn (Ok e) (Ok n) (Ok f) t =
      ap (λ tables. Ok (record { unit = record { tables = tables; pattern = chosen e.patterns n.ends; unit = record { kind = kind.Currency; text = n.text } }; fractions = f })) (own_by e.symbols t)
  amounts_by_turn _ _ _ t = refl

  percent_by : (of : PercentSign) (book : BookTables) (p : Preferences)
      → percent_found_in book p (percent_options of by) ≡ mapped (unit_regrouped by) (percent_found_in book p (percent_options of Auto))
  percent_by of book p =
      let percents = percent_found (percents_in book).percents (unit_locales (percents_in book).decimals p) p.numbering_system in
      past_plain (unit_regrouped by) (λ t. then_found percents (λ e. then_found (sign_found of e) (λ text. Ok (percent_settings t e text)))) (percents_by of percents) book p

  currency_by : (currency : CurrencyUnit) (book : BookTables) (p : Preferences)
      → currency_found_in book p currency.code (amount_options currency by) ≡ mapped (amount_regrouped by) (currency_found_in book p currency.code (amount_options currency Auto))
  currency_by currency book p =
      let s = currencies_in book in
      let amounts = amounts_found currency.style s.currencies s.accounts (unit_locales s.decimals p) p.numbering_system currency.code in
      let name = name_found currency.width s.symbols (unit_locales s.decimals p) currency.code in
      let fractions = fractions_found s.fractions currency.code in
      past_plain (amount_regrouped by)
      (λ t. then_found amounts (λ e. then_found name (λ n. then_found fractions (λ f. Ok (record { unit = amount_settings t e n; fractions = f })))))
      (amounts_by_turn amounts name fractions) book p

  -- exponents have the same tables with each grouping
  exponents_by : (t : Tables) (signs : Result SignTexts DataError) → mapped (with_exponents (plain_regrouped by t)) signs ≡ mapped (scientific_regrouped by) (mapped (with_exponents t) signs)
  exponents_by t (Ok signs) = refl
  exponents_by t (Err error) = refl

  scientific_by : (of : NumberUnit) (book : BookTables) (p : Preferences) → scientific_found of book p by ≡ mapped (scientific_regrouped by) (scientific_found of book p Auto)
  scientific_by unit.None book p =
      let signs = signs_found_in book p in past_plain (scientific_regrouped by) (λ t. mapped (with_exponents t) signs) (λ t. exponents_by t signs) book p
  scientific_by _ book p = refl

  -- of any format
  format_by : (notation : Notation) (of : NumberUnit) (book : BookTables) (p : Preferences) → notation_found notation of book p by ≡ mapped (regrouped by) (notation_found notation of book p Auto)
  format_by Standard unit.None book p = through plain_tables (plain_regrouped by) (λ t. refl) (found_plain book p (Some by)) (found_plain book p (Some Auto)) (plain_by book p)
  format_by Standard (unit.Percent sign) book p =
      through (λ settings. unit_tables (percent_format sign settings)) (unit_regrouped by) (λ settings. refl)
      (percent_found_in book p (percent_options sign by)) (percent_found_in book p (percent_options sign Auto)) (percent_by sign book p)
  format_by Standard (unit.Currency currency) book p =
      through (λ settings. unit_tables (currency_format currency.code settings)) (amount_regrouped by) (λ settings. refl)
      (currency_found_in book p currency.code (amount_options currency by)) (currency_found_in book p currency.code (amount_options currency Auto)) (currency_by currency book p)
  format_by (Compact width) of book p = through compact_tables (compact_regrouped by) (λ t. refl) (compact_found width of book p by) (compact_found width of book p Auto) (compact_by width of book p)
  format_by (CompactDigits width options) of book p =
      through (λ t. digits_tables t options) (compact_regrouped by) (λ t. refl) (compact_found width of book p by) (compact_found width of book p Auto) (compact_by width of book p)
  format_by (Scientific style options) of book p =
      through (scientific_of style options) (scientific_regrouped by) (λ settings. refl) (scientific_found of book p by) (scientific_found of book p Auto) (scientific_by of book p)

  -- ---- what typed texts are read with beside it

  same_digits : (f : FormatTables) → (digit_tables (regrouped by f)).digits ≡ (digit_tables f).digits
  same_digits (plain_tables t) = refl
  same_digits _ = refl

  -- amounts by the symbols of plain numbers
  with_symbols_by : (t : Tables) (u : UnitFormat) (fractions : Option FractionInfo)
      → with_symbols_of (plain_regrouped by t) (record u { settings = unit_regrouped by u.settings }) fractions ≡ option_map (regrouped by) (with_symbols_of t u fractions)
  with_symbols_by t u None = refl
  with_symbols_by t u (Some f) = at (same_symbols t.symbols u.settings.tables.symbols)
    where
      at : (b : Bool)
          → (if b then None else Some (unit_tables (record u { settings = record u.settings { tables = plain_regrouped by t } })))
          ≡ option_map (regrouped by) (if b then None else Some (unit_tables (record u { settings = record u.settings { tables = t } })))
      at true = refl
      at false = refl

  amounts_of : (f : FormatTables) (t : Tables) → amounts_by (plain_regrouped by t) (regrouped by f) ≡ option_map (regrouped by) (amounts_by t f)
  amounts_of (unit_tables u) t = with_symbols_by t u u.fractions
  amounts_of _ t = refl

  plainly_by : (f : FormatTables) (r : Result Tables DataError)
      → option_and_then (λ plain. amounts_by plain (regrouped by f)) (result_ok (mapped (plain_regrouped by) r)) ≡ option_map (regrouped by) (option_and_then (λ plain. amounts_by plain f) (result_ok r))
  plainly_by f (Ok t) = amounts_of f t
  plainly_by f (Err error) = refl

  ascii_by : (r : Result FormatTables DataError) → result_ok (mapped (regrouped by) r) ≡ option_map (regrouped by) (result_ok r)
  ascii_by (Ok f) = refl
  ascii_by (Err error) = refl

  either_by : (b : Bool) (one two m n : Option FormatTables) → one ≡ option_map (regrouped by) m → two ≡ option_map (regrouped by) n
      → (if b then one else two) ≡ option_map (regrouped by) (if b then m else n)
  either_by true one two m n first second = first
  either_by false one two m n first second = second

  module _ (notation : Notation) (of : NumberUnit) (book : BookTables) (p : Preferences) where
    abbrev shape : GroupingStrategy → NumberShape
    shape grouping = record { notation = notation; unit = of; grouping = grouping }

    second_by : (f : FormatTables) → second_for (shape by) book p (regrouped by f) ≡ option_map (regrouped by) (second_for (shape Auto) book p f)
    second_by f =
        ap (λ digits. if bytes_eq digits plain_digits then plainly_written (shape by) book p (regrouped by f) else in_ascii (shape by) book p) (same_digits f)
        ∙ either_by (bytes_eq (digit_tables f).digits plain_digits)
        (plainly_written (shape by) book p (regrouped by f)) (in_ascii (shape by) book p) (plainly_written (shape Auto) book p f) (in_ascii (shape Auto) book p)
        (ap (λ r. option_and_then (λ plain. amounts_by plain (regrouped by f)) (result_ok r)) (plain_by book p) ∙ plainly_by f (found_plain book p (Some Auto)))
        (ap result_ok (format_by notation of book (in_latin p)) ∙ ascii_by (notation_found notation of book (in_latin p) Auto))

-- ---- it is answered alike

-- what is found with a grouping
abbrev by_grouping : GroupingStrategy → Result FormatTables DataError → Result FormatTables DataError
by_grouping grouping = mapped (regrouped grouping)

same_written : (r : Result FormatTables DataError) (options : NumberOptions) (reading : Reading) → written_to (by_grouping Auto r) options reading ≡ written_to (by_grouping Always r) options reading
same_written r options nothing = refl
same_written r options beyond = refl
same_written (Ok (plain_tables t)) options (number value) = refl
same_written _ options (number value) = refl

same_shown : (f : FormatTables) (d : SignedValue Number) (exponent : ℕ) (pattern : Option PatternText)
    → text_of_shown (shown_in (regrouped Auto f) d exponent pattern) ≡ text_of_shown (shown_in (regrouped Always f) d exponent pattern)
same_shown (plain_tables t) d exponent pattern = refl
same_shown _ d exponent pattern = refl

-- an exact form that is shown or not, without an exponent and under an entry
same_if_shown : (f : FormatTables) (d : SignedValue Number) (b : Bool)
    → option_map text_of_shown (cond b (Some (shown_as_it_is (regrouped Auto f) d)) None) ≡ option_map text_of_shown (cond b (Some (shown_as_it_is (regrouped Always f) d)) None)
same_if_shown f d true = ap (λ text. Some text) (same_shown f d 0 None)
same_if_shown f d false = refl

same_under : (t : CompactTables) (form : CompactValue) (entry : Option (Option CompactEntry))
    → option_map text_of_shown (option_map (under_entry (compact_regrouped Auto t) form) entry) ≡ option_map text_of_shown (option_map (under_entry (compact_regrouped Always t) form) entry)
same_under t form None = refl
same_under t form (Some entry) = refl

same_exact : (f : FormatTables) (form : CompactValue) → exact_format_text (regrouped Auto f) form ≡ exact_format_text (regrouped Always f) form
same_exact (plain_tables t) form = same_if_shown (plain_tables t) form.significand (form.exponent == 0)
same_exact (compact_tables t) form = same_under t form (exact_entry 32768 t.patterns.entries form.significand.absolute.count form.exponent)
same_exact (digits_tables t o) form = same_under t form (exact_entry 32768 t.patterns.entries form.significand.absolute.count form.exponent)
same_exact (scientific_tables s) form = refl
same_exact (unit_tables u) form = same_if_shown (unit_tables u) form.significand (form.exponent == 0)

same_range : (f : FormatTables) (form : CompactValue) → is_form_in_range (regrouped Auto f) form ≡ is_form_in_range (regrouped Always f) form
same_range (plain_tables t) form = refl
same_range _ form = refl

same_forms : (r : Result FormatTables DataError) (sign : SignAsked) (reading : CompactReading) → exact_found (by_grouping Auto r) sign reading ≡ exact_found (by_grouping Always r) sign reading
same_forms r sign compact_nothing = refl
same_forms r sign compact_beyond = refl
same_forms (Ok f) sign (compact_number form) =
    ap₂ (λ b text. if b then exact_written text else refused refusal.Range) (same_range f (signed_form sign form)) (same_exact f (signed_form sign form))
same_forms (Err error) sign (compact_number form) = refl

same_read : (r : Result FormatTables DataError) (rounding : Rounding) (text : List ℕ) → read_found (by_grouping Auto r) rounding text ≡ read_found (by_grouping Always r) rounding text
same_read (Ok (plain_tables t)) rounding text = refl
same_read _ rounding text = refl

same_plain : (t : Tables) (second : Option FormatTables) (text : List ℕ)
    → reading_by (plain_regrouped Auto t) (plain_in (option_map (regrouped Auto) second)) text ≡ reading_by (plain_regrouped Always t) (plain_in (option_map (regrouped Always) second)) text
same_plain t (Some (plain_tables s)) text = refl
same_plain t _ text = refl

abbrev unit_by : GroupingStrategy → UnitFormat → UnitFormat
unit_by grouping u = record u { settings = unit_regrouped grouping u.settings }

same_unit : (u : UnitFormat) (second : Option FormatTables) (text : List ℕ)
    → unit_reading_by (typed_unit (unit_by Auto u)) (option_map typed_unit (unit_in (option_map (regrouped Auto) second))) text
    ≡ unit_reading_by (typed_unit (unit_by Always u)) (option_map typed_unit (unit_in (option_map (regrouped Always) second))) text
unfolding lenient_unit_reading
same_unit u (Some (plain_tables s)) text = refl
same_unit u _ text = refl

same_typed : (f : FormatTables) (second : Option FormatTables) (text : List ℕ)
    → format_typed_reading (regrouped Auto f) (option_map (regrouped Auto) second) text ≡ format_typed_reading (regrouped Always f) (option_map (regrouped Always) second) text
same_typed (plain_tables t) second text = same_plain t second text
same_typed (compact_tables t) second text = refl
same_typed (digits_tables t o) second text = refl
same_typed (scientific_tables s) second text = refl
same_typed (unit_tables u) second text =
    in_turn_same (units_in_turn (unit_by Auto u) (unit_in (option_map (regrouped Auto) second))) (units_in_turn (unit_by Always u) (unit_in (option_map (regrouped Always) second)))
    (λ some. same_unit u second some) (λ some. refl) text

same_category : (r : Result FormatTables DataError) (rules : Option (Rules × List PluralRange)) (options : NumberOptions) (value : SignedValue Number)
    → category_found (by_grouping Auto r) rules options value ≡ category_found (by_grouping Always r) rules options value
same_category (Err error) rules options value = refl
same_category (Ok f) None options value = refl
same_category (Ok (plain_tables t)) (Some held) options value = refl
same_category (Ok _) (Some held) options value = refl

same_told : (r : Result FormatTables DataError) (rules : Option (Rules × List PluralRange)) (options : NumberOptions) (reading : Reading)
    → category_to (by_grouping Auto r) rules options reading ≡ category_to (by_grouping Always r) rules options reading
same_told r rules options (number value) = same_category r rules options value
same_told r rules options _ = refl

same_ranges : (r : Result FormatTables DataError) (rules : Option (Rules × List PluralRange)) (options : NumberOptions) (first second : SignedValue Number)
    → range_found (by_grouping Auto r) rules options first second ≡ range_found (by_grouping Always r) rules options first second
same_ranges (Err error) rules options first second = refl
same_ranges (Ok f) None options first second = refl
same_ranges (Ok (plain_tables t)) (Some held) options first second = refl
same_ranges (Ok _) (Some held) options first second = refl

same_ends : (r : Result FormatTables DataError) (rules : Option (Rules × List PluralRange)) (options : NumberOptions) (first second : Reading)
    → range_ends_to (by_grouping Auto r) rules options first second ≡ range_ends_to (by_grouping Always r) rules options first second
same_ends r rules options (number first) (number second) = same_ranges r rules options first second
same_ends r rules options _ _ = refl

same_told_range : (r : Result FormatTables DataError) (rules : Option (Rules × List PluralRange)) (options : NumberOptions) (ends : Option (List ℕ × List ℕ))
    → range_category_to (by_grouping Auto r) rules options ends ≡ range_category_to (by_grouping Always r) rules options ends
same_told_range r rules options None = refl
same_told_range r rules options (Some ends) = same_ends r rules options (reading_of ends.0) (reading_of ends.1)

-- ---- the law

module _ (book : BookTables) (asked : Asked) (p : Preferences) where
  abbrev of_auto : Result FormatTables DataError
  of_auto = notation_found asked.format.shape.notation asked.format.shape.unit book p Auto

  -- the answer to a task by what is found
  abbrev answer_with : GroupingStrategy → (FormatTables → Option FormatTables) → Task → Result FormatTables DataError → List ℕ
  answer_with grouping second task found =
      answer_by task (grouped_by grouping asked).format found second (λ rule_type. plural_rules_for rule_type book p) asked.text

  abbrev beside : GroupingStrategy → FormatTables → Option FormatTables
  beside grouping = second_for (record asked.format.shape { grouping = grouping }) book p

  same_lenient : (r : Result FormatTables DataError) → typed_found (by_grouping Auto r) (beside Auto) asked.text ≡ typed_found (by_grouping Always r) (beside Always) asked.text
  same_lenient (Ok f) =
      ap (λ second. read_answer (format_typed_reading (regrouped Auto f) second asked.text)) (second_by Auto asked.format.shape.notation asked.format.shape.unit book p f)
      ∙ ap read_answer (same_typed f (beside Auto f) asked.text)
      ∙ sym (ap (λ second. read_answer (format_typed_reading (regrouped Always f) second asked.text)) (second_by Always asked.format.shape.notation asked.format.shape.unit book p f))
  same_lenient (Err error) = refl

  same_answer : (task : Task) → answer_with Auto (beside Auto) task (by_grouping Auto of_auto) ≡ answer_with Always (beside Always) task (by_grouping Always of_auto)
  same_answer Write = same_written of_auto asked.format.options (reading_of asked.text)
  same_answer WriteExact = same_forms of_auto asked.format.options.sign (compact_reading_of asked.text)
  same_answer Read = same_read of_auto asked.format.options.rounding asked.text
  same_answer ReadLenient = same_lenient of_auto
  same_answer (Category rule_type) = same_told of_auto (plural_rules_for rule_type book p) asked.format.options (reading_of asked.text)
  same_answer RangeCategory = same_told_range of_auto (plural_rules_for Cardinal book p) asked.format.options (range_ends asked.text)

auto_tagged : (book : BookTables) (asked : Asked) (p : Option Preferences)
    → answer_tagged book p (grouped_by Auto asked) ≡ answer_tagged book p (grouped_by Always asked)
auto_tagged book asked None = refl
auto_tagged book asked (Some p) =
    let shape = asked.format.shape in
    ap (answer_with book asked p Auto (beside book asked p Auto) asked.task) (format_by Auto shape.notation shape.unit book p)
    ∙ same_answer book asked p asked.task
    ∙ sym (ap (answer_with book asked p Always (beside book asked p Always) asked.task) (format_by Always shape.notation shape.unit book p))

pub auto_is_always : AutoIsAnsweredAsAlways
auto_is_always book asked = auto_tagged book asked (wanted_of asked.tag)
