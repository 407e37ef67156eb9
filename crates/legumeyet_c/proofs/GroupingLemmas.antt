-- What a book has for a format has the strategy that is asked for, so a copy with that strategy is the same; what is found beside it is held with it.
use Rattle.std.proofs.Common.{◌≡◌, ℕ, Bool, true, false, List, Option, Some, None, Result, Ok, Err, IfOk, IfSome, refl, subst, ap, sym, ◌∙◌, inl, inr}
use Rattle.std.specs.Option.{option_and_then}
use Rattle.std.specs.Prelude.{◌⊎◌, if◌then◌else◌, option_map}
use Rattle.std.specs.Result.{result_map_both, result_ok}
use Rattle.std.specs.Str.{bytes_eq}
use Rattle.icu_decimal.specs.Choice.{first_found}
use Rattle.icu_decimal.specs.CompactTables.{CompactTables}
use Rattle.icu_decimal.specs.Chains.{chain}
use Rattle.icu_decimal.specs.Folding.{plain_digits}
use Rattle.icu_decimal.specs.FoundCompactTables.{found_compact_tables, patterns_identifiers, rules_identifiers, with_patterns, with_plain, with_rules}
use Rattle.icu_decimal.specs.FoundTables.{found_tables, with_digits, with_symbols}
use Rattle.icu_decimal.specs.Identifiers.{Identifier, digits_identifiers, symbols_identifiers}
use Rattle.icu_decimal.specs.KeptEntries.{CompactTable}
use Rattle.icu_decimal.specs.Options.{strategy_in}
use Rattle.icu_decimal.specs.PlainText.{Tables}
use Rattle.icu_decimal.specs.Rules.{Rules}
use Rattle.icu_decimal.specs.SameSymbols.{same_symbols}
use Rattle.icu_decimal.specs.Symbols.{Symbols}
use Rattle.icu_decimal.specs.declared.error.DataError.{DataError}
use Rattle.icu_decimal.specs.declared.options.GroupingStrategy.{GroupingStrategy}
use Rattle.icu_decimal_scientific.specs.ExponentialText.{ScientificSettings}
use Rattle.icu_dimension.specs.FoundUnits.{CurrencySettings, amount_settings, decimals_found, found_currency, found_percent, percent_settings, sign_found, then_found, unit_locales, with_own}
use Rattle.icu_dimension.specs.ProvidedUnits.{AmountTexts, PercentTexts, SymbolText}
use Rattle.icu_dimension.specs.UnitChoice.{amounts_found, fractions_found, name_found, percent_found}
use Rattle.icu_dimension.specs.UnitSources.{CurrencySource, DecimalSource, PercentSource}
use Rattle.icu_dimension.specs.UnitText.{UnitSettings}
use Rattle.icu_dimension.specs.declared.CurrencyFormatterOptions.{CurrencyFormatterOptions}
use Rattle.icu_dimension.specs.declared.FractionInfo.{FractionInfo}
use Rattle.icu_dimension.specs.declared.PercentSign.{PercentSign}
use Rattle.icu_locale_core.specs.TagPreferences.{DataLocaleMeaning, Preferences}
use Rattle.locale_numbers.specs.Book.{BookTables}
use Rattle.locale_numbers.specs.FoundFormats.{amount_options, amounts_by, beside_second, both_found, compact_found, formats_for, found_for, in_ascii, in_latin, mapped, notation_found, percent_options, plainly_written, scientific_found, scientific_of, second_for, standard_found, with_exponents, with_symbols_of}
use Rattle.locale_numbers.specs.Tables.{chain_in, digits_under, rules_under, symbols_under}
use Rattle.locale_numbers.specs.TagFormatters.{currencies_in, currency_found_in, found_by, found_plain, or_no_table, patterns_under, percent_found_in, percents_in, signs_found_in}
use Rattle.locale_numbers.specs.Wanted.{wanted_of}
use Rattle.locale_numbers.specs.declared.FormatterError.{FormatterError}
use Rattle.locale_numbers.specs.declared.FormatterError.TheVariants as fault
use Rattle.locale_numbers_formats.specs.declared.CompactWidth.{CompactWidth}
use Rattle.locale_numbers_formats.specs.declared.CurrencyUnit.{CurrencyUnit}
use Rattle.locale_numbers_formats.specs.declared.Notation.{Notation}
use Rattle.locale_numbers_formats.specs.declared.Notation.TheVariants.{Standard, Compact, CompactDigits, Scientific}
use Rattle.locale_numbers_formats.specs.declared.NumberOptions.{NumberOptions}
use Rattle.locale_numbers_formats.specs.declared.NumberShape.{NumberShape}
use Rattle.locale_numbers_formats.specs.declared.NumberUnit.{NumberUnit}
use Rattle.locale_numbers_formats.specs.declared.NumberUnit.TheVariants as unit
use Rattle.locale_numbers_formatter.specs.FormatText.{FormatTables, UnitFormat, compact_tables, digit_tables, digits_tables, plain_tables, scientific_tables, unit_tables}
use Rattle.locale_numbers_formatter.specs.HeldFormats.{currency_format, percent_format}
use Rattle.locale_numbers_formatter.specs.Regrouped.{regrouped}
use Rattle.legumeyet_c.specs.HeldFormats.{HeldFormat, Plurals, held_format}
use Rattle.legumeyet_c.specs.Opening.{format_found, held_with, plurals_found}
use Rattle.legumeyet_c.specs.declared.asked_format.AskedFormat.{AskedFormat}

-- ---- the tables of plain numbers

digits_have : (strategy : GroupingStrategy) (symbols : Symbols) (found : Result (List ℕ) DataError) → IfOk (with_digits strategy symbols found) (λ (t : Tables). t.strategy ≡ strategy)
digits_have strategy symbols (Ok digits) = refl
digits_have strategy symbols (Err error) = tt

symbols_have : (strategy : GroupingStrategy) (digits : Identifier → Result (List ℕ) DataError) (p : Preferences) (found : Result Symbols DataError)
    → IfOk (with_symbols strategy digits p found) (λ (t : Tables). t.strategy ≡ strategy)
symbols_have strategy digits p (Ok symbols) = digits_have strategy symbols (first_found digits (digits_identifiers p.numbering_system symbols.strings.numsys))
symbols_have strategy digits p (Err error) = tt

tables_have : (chain : DataLocaleMeaning → List DataLocaleMeaning) (symbols : Identifier → Result Symbols DataError) (digits : Identifier → Result (List ℕ) DataError) (p : Preferences) (option : Option GroupingStrategy)
    → IfOk (found_tables chain symbols digits p option) (λ (t : Tables). t.strategy ≡ strategy_in option)
tables_have chain symbols digits p option = symbols_have (strategy_in option) digits p (first_found symbols (symbols_identifiers chain p))

own_have : (own : Option Symbols) (t : Tables) (strategy : GroupingStrategy) → t.strategy ≡ strategy → (with_own own t).strategy ≡ strategy
own_have None t strategy has = has
own_have (Some own) t strategy has = has

-- ---- compact numbers

abbrev CompactHas : GroupingStrategy → CompactTables → Type 0
CompactHas strategy t = t.plain.strategy ≡ strategy

patterns_have : (strategy : GroupingStrategy) (plain : Tables) (rules : Rules) (found : Result CompactTable DataError) → plain.strategy ≡ strategy
    → IfOk (with_patterns plain rules found) (CompactHas strategy)
patterns_have strategy plain rules (Ok patterns) has = has
patterns_have strategy plain rules (Err error) has = tt

rules_have : (strategy : GroupingStrategy) (plain : Tables) (rules : Result Rules DataError) (patterns : Result CompactTable DataError) → plain.strategy ≡ strategy
    → IfOk (with_rules plain rules patterns) (CompactHas strategy)
rules_have strategy plain (Ok rules) patterns has = patterns_have strategy plain rules patterns has
rules_have strategy plain (Err error) patterns has = tt

plain_have : (strategy : GroupingStrategy) (plain : Result Tables DataError) (rules : Result Rules DataError) (patterns : Result CompactTable DataError) → IfOk plain (λ (t : Tables). t.strategy ≡ strategy)
    → IfOk (with_plain plain rules patterns) (CompactHas strategy)
plain_have strategy (Ok plain) rules patterns has = rules_have strategy plain rules patterns has
plain_have strategy (Err error) rules patterns has = tt

-- ---- numbers with a unit

then_have : {A B : Type 0} (found : Result A DataError) (next : A → Result B DataError) (P : B → Type 0) → ((a : A) → IfOk (next a) P) → IfOk (then_found found next) P
then_have (Ok a) next P each = each a
then_have (Err error) next P each = tt

decimals_have : {B : Type 0} (strategy : GroupingStrategy) (found : Result Tables DataError) (next : Tables → Result B DataError) (P : B → Type 0)
    → IfOk found (λ (t : Tables). t.strategy ≡ strategy) → ((t : Tables) → t.strategy ≡ strategy → IfOk (next t) P) → IfOk (then_found found next) P
decimals_have strategy (Ok t) next P has each = each t has
decimals_have strategy (Err error) next P has each = tt

source_has : (s : DecimalSource) (p : Preferences) (option : Option GroupingStrategy) → IfOk (decimals_found s p option) (λ (t : Tables). t.strategy ≡ strategy_in option)
source_has s p option = tables_have (chain s.next s.limit) s.symbols s.digits p option

percents_have : (s : PercentSource) (p : Preferences) (of : PercentSign) (strategy : GroupingStrategy) → IfOk (found_percent s p (percent_options of strategy)) (λ (u : UnitSettings). u.tables.strategy ≡ strategy)
percents_have s p of strategy =
    let has : UnitSettings → Type 0 = λ u. u.tables.strategy ≡ strategy in
    let percents : Result PercentTexts DataError = percent_found s.percents (unit_locales s.decimals p) p.numbering_system in
    let ended : Tables → PercentTexts → Result UnitSettings DataError = λ t e. then_found (sign_found of e) (λ text. Ok (percent_settings t e text)) in
    decimals_have strategy (decimals_found s.decimals p (Some strategy)) (λ t. then_found percents (ended t)) has (source_has s.decimals p (Some strategy))
    (λ t of_t. then_have percents (ended t) has (λ e. then_have (sign_found of e) (λ text. Ok (percent_settings t e text)) has (λ text. own_have e.symbols t strategy of_t)))

amounts_have : (s : CurrencySource) (p : Preferences) (code : List ℕ) (options : CurrencyFormatterOptions)
    → IfOk (found_currency s p code options) (λ (u : CurrencySettings). u.unit.tables.strategy ≡ strategy_in options.grouping_strategy)
amounts_have s p code options =
    let strategy : GroupingStrategy = strategy_in options.grouping_strategy in
    let has : CurrencySettings → Type 0 = λ u. u.unit.tables.strategy ≡ strategy in
    let amounts : Result AmountTexts DataError = amounts_found options.style s.currencies s.accounts (unit_locales s.decimals p) p.numbering_system code in
    let names : Result SymbolText DataError = name_found options.width s.symbols (unit_locales s.decimals p) code in
    let fractions : Result FractionInfo DataError = fractions_found s.fractions code in
    let ended : Tables → AmountTexts → SymbolText → FractionInfo → Result CurrencySettings DataError = λ t e name f. Ok (record { unit = amount_settings t e name; fractions = f }) in
    decimals_have strategy (decimals_found s.decimals p options.grouping_strategy)
    (λ t. then_found amounts (λ e. then_found names (λ name. then_found fractions (λ f. ended t e name f)))) has (source_has s.decimals p options.grouping_strategy)
    (λ t of_t. then_have amounts (λ e. then_found names (λ name. then_found fractions (λ f. ended t e name f))) has
    (λ e. then_have names (λ name. then_found fractions (λ f. ended t e name f)) has
    (λ name. then_have fractions (λ f. ended t e name f) has (λ f. own_have e.symbols t strategy of_t))))

-- ---- formats

abbrev HasStrategy : GroupingStrategy → FormatTables → Type 0
HasStrategy strategy f = (digit_tables f).strategy ≡ strategy

mapped_have : {A B : Type 0} (f : A → B) (found : Result A DataError) (P : A → Type 0) (Q : B → Type 0) → ((a : A) → P a → Q (f a)) → IfOk found P → IfOk (mapped f found) Q
mapped_have f (Ok a) P Q each has = each a has
mapped_have f (Err error) P Q each has = tt

standard_has : (beside : NumberUnit) (book : BookTables) (p : Preferences) (strategy : GroupingStrategy) → IfOk (standard_found beside book p strategy) (HasStrategy strategy)
standard_has unit.None book p strategy =
    mapped_have plain_tables (found_plain book p (Some strategy)) (λ (t : Tables). t.strategy ≡ strategy) (HasStrategy strategy) (λ t has. has)
    (tables_have (chain_in book) (symbols_under book) (digits_under book) p (Some strategy))
standard_has (unit.Percent sign) book p strategy =
    mapped_have (λ settings. unit_tables (percent_format sign settings)) (percent_found_in book p (percent_options sign strategy)) (λ (u : UnitSettings). u.tables.strategy ≡ strategy)
    (HasStrategy strategy) (λ u has. has) (percents_have (percents_in book) p sign strategy)
standard_has (unit.Currency currency) book p strategy =
    mapped_have (λ settings. unit_tables (currency_format currency.code settings)) (currency_found_in book p currency.code (amount_options currency strategy))
    (λ (u : CurrencySettings). u.unit.tables.strategy ≡ strategy) (HasStrategy strategy) (λ u has. has)
    (amounts_have (currencies_in book) p currency.code (amount_options currency strategy))

compact_has : (width : CompactWidth) (beside : NumberUnit) (book : BookTables) (p : Preferences) (strategy : GroupingStrategy) → IfOk (compact_found width beside book p strategy) (CompactHas strategy)
compact_has width unit.None book p strategy =
    plain_have strategy (found_tables (chain_in book) (symbols_under book) (digits_under book) p (Some strategy))
    (first_found (rules_under book) (rules_identifiers (chain_in book) p)) (first_found (patterns_under width book) (patterns_identifiers (chain_in book) p))
    (tables_have (chain_in book) (symbols_under book) (digits_under book) p (Some strategy))
compact_has width (unit.Percent sign) book p strategy = tt
compact_has width (unit.Currency currency) book p strategy = tt

abbrev ScientificHas : GroupingStrategy → ScientificSettings → Type 0
ScientificHas strategy s = s.tables.strategy ≡ strategy

each_has : {A B : Type 0} (f : A → B) (found : Result A DataError) (P : B → Type 0) → ((a : A) → P (f a)) → IfOk (mapped f found) P
each_has f (Ok a) P each = each a
each_has f (Err error) P each = tt

scientific_has : (beside : NumberUnit) (book : BookTables) (p : Preferences) (strategy : GroupingStrategy) → IfOk (scientific_found beside book p strategy) (ScientificHas strategy)
scientific_has unit.None book p strategy =
    decimals_have strategy (found_plain book p (Some strategy)) (λ t. mapped (with_exponents t) (signs_found_in book p)) (ScientificHas strategy)
    (tables_have (chain_in book) (symbols_under book) (digits_under book) p (Some strategy))
    (λ t has. each_has (with_exponents t) (signs_found_in book p) (ScientificHas strategy) (λ signs. has))
scientific_has (unit.Percent sign) book p strategy = tt
scientific_has (unit.Currency currency) book p strategy = tt

notation_has : (notation : Notation) (beside : NumberUnit) (book : BookTables) (p : Preferences) (strategy : GroupingStrategy) → IfOk (notation_found notation beside book p strategy) (HasStrategy strategy)
notation_has Standard beside book p strategy = standard_has beside book p strategy
notation_has (Compact width) beside book p strategy =
    mapped_have compact_tables (compact_found width beside book p strategy) (CompactHas strategy) (HasStrategy strategy) (λ t has. has) (compact_has width beside book p strategy)
notation_has (CompactDigits width options) beside book p strategy =
    mapped_have (λ t. digits_tables t options) (compact_found width beside book p strategy) (CompactHas strategy) (HasStrategy strategy) (λ t has. has) (compact_has width beside book p strategy)
notation_has (Scientific style options) beside book p strategy =
    mapped_have (scientific_of style options) (scientific_found beside book p strategy) (ScientificHas strategy) (HasStrategy strategy) (λ s has. has) (scientific_has beside book p strategy)

found_has : (shape : NumberShape) (book : BookTables) (p : Preferences) → IfOk (found_for shape book p) (HasStrategy shape.grouping)
found_has shape book p = notation_has shape.notation shape.unit book p shape.grouping

-- ---- both

either_has : {T : Type 0} (is_plain : Bool) (first second : Option T) (P : T → Type 0) → IfSome first P → IfSome second P → IfSome (if is_plain then first else second) P
either_has true first second P has other = has
either_has false first second P has other = other

ok_has : {T : Type 0} (found : Result T DataError) (P : T → Type 0) → IfOk found P → IfSome (result_ok found) P
ok_has (Ok t) P has = has
ok_has (Err error) P has = tt

abbrev BothHave : GroupingStrategy → FormatTables × Option FormatTables → Type 0
BothHave strategy both = HasStrategy strategy both.0 × IfSome both.1 (HasStrategy strategy)

-- amounts by the symbols of plain numbers
symbols_of_have : (strategy : GroupingStrategy) (plain : Tables) (u : UnitFormat) (fractions : Option FractionInfo) → plain.strategy ≡ strategy
    → IfSome (with_symbols_of plain u fractions) (HasStrategy strategy)
symbols_of_have strategy plain u None has = tt
symbols_of_have strategy plain u (Some fractions) has =
    either_has (same_symbols plain.symbols u.settings.tables.symbols) None (Some (unit_tables (record u { settings = record u.settings { tables = plain } }))) (HasStrategy strategy) tt has

amounts_by_have : (strategy : GroupingStrategy) (plain : Tables) (f : FormatTables) → plain.strategy ≡ strategy → IfSome (amounts_by plain f) (HasStrategy strategy)
amounts_by_have strategy plain (plain_tables t) has = tt
amounts_by_have strategy plain (compact_tables t) has = tt
amounts_by_have strategy plain (digits_tables t options) has = tt
amounts_by_have strategy plain (scientific_tables s) has = tt
amounts_by_have strategy plain (unit_tables u) has = symbols_of_have strategy plain u u.fractions has

plainly_have : (strategy : GroupingStrategy) (found : Result Tables DataError) (f : FormatTables) → IfOk found (λ (t : Tables). t.strategy ≡ strategy)
    → IfSome (option_and_then (λ plain. amounts_by plain f) (result_ok found)) (HasStrategy strategy)
plainly_have strategy (Ok plain) f has = amounts_by_have strategy plain f has
plainly_have strategy (Err error) f has = tt

second_has : (shape : NumberShape) (book : BookTables) (p : Preferences) (f : FormatTables) → IfSome (second_for shape book p f) (HasStrategy shape.grouping)
second_has shape book p f =
    either_has (bytes_eq (digit_tables f).digits plain_digits) (plainly_written shape book p f) (in_ascii shape book p) (HasStrategy shape.grouping)
    (plainly_have shape.grouping (found_plain book p (Some shape.grouping)) f (tables_have (chain_in book) (symbols_under book) (digits_under book) p (Some shape.grouping)))
    (ok_has (found_for shape book (in_latin p)) (HasStrategy shape.grouping) (found_has shape book (in_latin p)))

both_have : (shape : NumberShape) (book : BookTables) (p : Preferences) → IfOk (both_found shape book p) (BothHave shape.grouping)
both_have shape book p =
    mapped_have (beside_second shape book p) (found_for shape book p) (HasStrategy shape.grouping) (BothHave shape.grouping) (λ f has. (has, second_has shape book p f)) (found_has shape book p)

table_has : {T : Type 0} (found : Result T DataError) (P : T → Type 0) → IfOk found P → IfOk (or_no_table found) P
table_has (Ok t) P has = has
table_has (Err error) P has = tt

tag_has : {T : Type 0} (find : Preferences → Result T DataError) (wanted : Option Preferences) (P : T → Type 0) → ((p : Preferences) → IfOk (find p) P) → IfOk (found_by find wanted) P
tag_has find None P each = tt
tag_has find (Some p) P each = table_has (find p) P (each p)

formats_have : (shape : NumberShape) (book : BookTables) (tag : List ℕ) → IfOk (formats_for book tag shape) (BothHave shape.grouping)
formats_have shape book tag = tag_has (both_found shape book) (wanted_of tag) (BothHave shape.grouping) (both_have shape book)

-- ---- copies

regrouped_same : (strategy : GroupingStrategy) (f : FormatTables) → HasStrategy strategy f → regrouped strategy f ≡ f
regrouped_same strategy (plain_tables t) has = subst (λ (g : GroupingStrategy). regrouped g (plain_tables t) ≡ plain_tables t) has refl
regrouped_same strategy (compact_tables t) has = subst (λ (g : GroupingStrategy). regrouped g (compact_tables t) ≡ compact_tables t) has refl
regrouped_same strategy (digits_tables t options) has = subst (λ (g : GroupingStrategy). regrouped g (digits_tables t options) ≡ digits_tables t options) has refl
regrouped_same strategy (scientific_tables s) has = subst (λ (g : GroupingStrategy). regrouped g (scientific_tables s) ≡ scientific_tables s) has refl
regrouped_same strategy (unit_tables u) has = subst (λ (g : GroupingStrategy). regrouped g (unit_tables u) ≡ unit_tables u) has refl

second_same : (strategy : GroupingStrategy) (second : Option FormatTables) → IfSome second (HasStrategy strategy) → option_map (regrouped strategy) second ≡ second
second_same strategy None has = refl
second_same strategy (Some f) has = ap Some (regrouped_same strategy f has)

-- what is found is held
pub found_held : (book : BookTables) (asked : AskedFormat) (tag : List ℕ) (first : FormatTables) (second : Option FormatTables) (plurals : Option Plurals)
    → formats_for book tag asked.format.shape ≡ Ok (first, second) → plurals_found book asked.plurals tag ≡ Ok plurals
    → format_found book asked tag ≡ Ok (held_format first plurals second asked.format.options)
found_held book asked tag first second plurals found rules =
    ap (λ (r : Result (FormatTables × Option FormatTables) FormatterError). held_with asked.format.options r (plurals_found book asked.plurals tag)) found
    ∙ ap (λ (r : Result (Option Plurals) FormatterError). held_with asked.format.options (Ok (first, second)) r) rules

-- why it is not
pub tables_missed : (book : BookTables) (asked : AskedFormat) (tag : List ℕ) (missing : FormatterError) → (missing ≡ fault.Memory) ⊎ (formats_for book tag asked.format.shape ≡ Err missing)
    → (missing ≡ fault.Memory) ⊎ (format_found book asked tag ≡ Err missing)
tables_missed book asked tag missing (inl memory) = inl memory
tables_missed book asked tag missing (inr missed) =
    inr (ap (λ (r : Result (FormatTables × Option FormatTables) FormatterError). held_with asked.format.options r (plurals_found book asked.plurals tag)) missed)

pub plurals_missed : (book : BookTables) (asked : AskedFormat) (tag : List ℕ) (both : FormatTables × Option FormatTables) (missing : FormatterError) → formats_for book tag asked.format.shape ≡ Ok both
    → (missing ≡ fault.Memory) ⊎ (plurals_found book asked.plurals tag ≡ Err missing) → (missing ≡ fault.Memory) ⊎ (format_found book asked tag ≡ Err missing)
plurals_missed book asked tag both missing found (inl memory) = inl memory
plurals_missed book asked tag both missing found (inr missed) =
    inr (ap (λ (r : Result (FormatTables × Option FormatTables) FormatterError). held_with asked.format.options r (plurals_found book asked.plurals tag)) found
    ∙ ap (λ (r : Result (Option Plurals) FormatterError). held_with asked.format.options (Ok both) r) missed)

-- what is made of two that are the same
pub held_same : {X Y : Type 0} (make : X → Y → HeldFormat) (held : HeldFormat) (x other : X) (y another : Y) → held ≡ make x y → x ≡ other → y ≡ another → held ≡ make other another
held_same make held x other y another is same alike = is ∙ ap (λ a. make a y) same ∙ ap (λ b. make other b) alike

-- and a copy with the strategy of the format is what is held
pub copy_held : (book : BookTables) (asked : AskedFormat) (tag : List ℕ) (first : FormatTables) (second : Option FormatTables) (plurals : Option Plurals) (held : HeldFormat)
    → formats_for book tag asked.format.shape ≡ Ok (first, second) → plurals_found book asked.plurals tag ≡ Ok plurals
    → held ≡ held_format (regrouped asked.format.shape.grouping first) plurals (option_map (regrouped asked.format.shape.grouping) second) asked.format.options
    → format_found book asked tag ≡ Ok held
copy_held book asked tag first second plurals held found rules is =
    let strategy : GroupingStrategy = asked.format.shape.grouping in
    let options : NumberOptions = asked.format.options in
    let have : BothHave strategy (first, second) =
    subst (λ (r : Result (FormatTables × Option FormatTables) FormatterError). IfOk r (BothHave strategy)) found (formats_have asked.format.shape book tag) in
    let same : held_format (regrouped strategy first) plurals (option_map (regrouped strategy) second) options ≡ held_format first plurals second options =
    ap (λ (f : FormatTables). held_format f plurals (option_map (regrouped strategy) second) options) (regrouped_same strategy first have.0)
    ∙ ap (λ (o : Option FormatTables). held_format first plurals o options) (second_same strategy second have.1) in
    found_held book asked tag first second plurals found rules ∙ ap Ok (sym (is ∙ same))
