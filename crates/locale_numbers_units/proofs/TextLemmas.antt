-- What is read of a field is a text: symbols, patterns, and the entries of units: `specs/UnitTexts.antt`.
use Rattle.std.proofs.Common.{◌≡◌, ◌==◌, ℕ, Bool, true, false, ◌&&◌, ◌||◌, List, [], Option, Some, None, is_some, option_map, refl, subst, ap, if◌then◌else◌}
use Rattle.std.proofs.lemmas.Bool.{and_parts, eqb-true}
use Rattle.std.proofs.lemmas.Str.{IsUtf8-from_is_utf8, IsUtf8-nil}
use Rattle.std.specs.List.{list_all}
use Rattle.std.specs.Option.{option_and_then, option_map_or}
use Rattle.std.specs.Prelude.{IfSome, chars, unwrap_or}
use Rattle.std.specs.Str.{IsUtf8, is_utf8}
use Rattle.serde_json.specs.Data.{Data, Items}
use Rattle.serde_json.specs.Find.{as_array, as_str, at}
use Rattle.icu_decimal.specs.Symbols.{Symbols}
use Rattle.icu_decimal.specs.declared.provider.GroupingSizes.{GroupingSizes}
use Rattle.icu_dimension.specs.ProvidedUnits.{AmountTexts, PercentTexts, SymbolText}
use Rattle.icu_dimension.specs.UnitPatterns.{AffixesText, PatternChoice, PatternTexts}
use Rattle.icu_dimension.specs.declared.LetterEnds.{LetterEnds}
use Rattle.icu_locale_core.specs.Subtags.{Text as Subtag}
use Rattle.locale_numbers_tables.specs.Entries.{count_of_items, field_at, grouping_sizes_of, has_count, is_text_at, symbol_texts, text_or_empty}
use Rattle.locale_numbers_tables.specs.Fields.{is_plain, plain_text, plain_text_in}
use Rattle.locale_numbers_units.specs.Amounts.{amounts_said, patterns_of}
use Rattle.locale_numbers_units.specs.CurrencySymbols.{symbols_said}
use Rattle.locale_numbers_units.specs.Fields.{ends_in, has_at}
use Rattle.locale_numbers_units.specs.OwnSymbols.{as_entry, is_null, own_in, system_or_empty}
use Rattle.locale_numbers_units.specs.Patterns.{affixes_at, affixes_of, is_plain_at, is_plain_pattern, or_null, pattern_in, pattern_or_null_in, six_texts_in, two_texts_in}
use Rattle.locale_numbers_units.specs.Percents.{percents_said, permille_said}
use Rattle.locale_numbers_units.specs.UnitTexts.{AreAffixTexts, AreAmountTexts, ArePatternTexts, ArePercentTexts, AreSymbolTexts}
use Rattle.locale_numbers_units.proofs.CutLemmas.{affixes_texts}

-- ---- fields

plain_by : (u p : Bool) (text other : List ℕ) → (u ≡ true → IsUtf8 text) → (if u && p then Some text else None) ≡ Some other → IsUtf8 other
plain_by true true text other utf8 is = let one : text ≡ other = cc in subst IsUtf8 one (utf8 refl)
plain_by true false text other utf8 is = absurd (cc)
plain_by false p text other utf8 is = absurd (cc)

pub text_utf8 : (o : Option (List ℕ)) (other : List ℕ) → option_and_then plain_text o ≡ Some other → IsUtf8 other
text_utf8 None other is = absurd (cc)
text_utf8 (Some text) other is = plain_by (is_utf8 text) (list_all is_plain (chars text)) text other (IsUtf8-from_is_utf8 text) is

field_utf8 : (o : Option Data) (other : List ℕ) → option_and_then plain_text_in o ≡ Some other → IsUtf8 other
field_utf8 None other is = absurd (cc)
field_utf8 (Some field) other is = text_utf8 (as_str field) other is

or_empty : (o : Option (List ℕ)) → ((text : List ℕ) → o ≡ Some text → IsUtf8 text) → IsUtf8 (unwrap_or o [])
or_empty None each = IsUtf8-nil
or_empty (Some text) each = each text refl

pub entry_utf8 : (place : ℕ) (entry : Data) → IsUtf8 (text_or_empty place entry)
entry_utf8 place entry = or_empty (field_at plain_text_in place entry) (λ text is. field_utf8 (at place entry) text is)

-- a string that is plain text is UTF-8
plain_string : (u p : Bool) (text : List ℕ) → (u ≡ true → IsUtf8 text) → is_some (if u && p then Some text else None) ≡ true → IsUtf8 text
plain_string true p text utf8 is = utf8 refl
plain_string false p text utf8 is = absurd (cc)

string_utf8 : (o : Option (List ℕ)) (text : List ℕ) → is_some (option_and_then plain_text o) ≡ true → o ≡ Some text → IsUtf8 text
string_utf8 None text plain is = absurd (cc)
string_utf8 (Some other) text plain is =
    let one : other ≡ text = cc in
    subst IsUtf8 one (plain_string (is_utf8 other) (list_all is_plain (chars other)) other (IsUtf8-from_is_utf8 other) plain)

plain_field : (o : Option Data) (text : List ℕ) → is_some (option_and_then plain_text_in o) ≡ true → option_and_then as_str o ≡ Some text → IsUtf8 text
plain_field None text plain is = absurd (cc)
plain_field (Some field) text plain is = string_utf8 (as_str field) text plain is

-- ---- symbols

pub symbols_texts : (system : Subtag) (entry : Data) → AreSymbolTexts (symbol_texts system entry)
symbols_texts system entry = record {
  minus_prefix = entry_utf8 3 entry;
  minus_suffix = entry_utf8 4 entry;
  plus_prefix = entry_utf8 5 entry;
  plus_suffix = entry_utf8 6 entry;
  point = entry_utf8 7 entry;
  group = entry_utf8 8 entry;
}

-- an entry's own
abbrev OwnTexts : Option Symbols → Type 0
OwnTexts own = IfSome own (λ symbols. AreSymbolTexts symbols.strings)

own_texts : (own : Data) (o : Option Symbols) → own_in own ≡ Some o → OwnTexts o
own_texts own o is = by (is_null own) (grouping_sizes_of (as_entry own)) is
  where
    by : (b : Bool) (sizes : Option GroupingSizes)
        → (if b then Some None else option_map {T = Symbols} {U = Option Symbols} (λ symbols. Some symbols) (option_map (λ s. record { strings = symbol_texts (system_or_empty (as_entry own)) (as_entry own); grouping_sizes = s }) sizes)) ≡ Some o
        → OwnTexts o
    by true sizes same = let one : ◌≡◌ {A = Option Symbols} None o = cc in subst OwnTexts one tt
    by false (Some s) same =
        let one : ◌≡◌ {A = Option Symbols} (Some (record { strings = symbol_texts (system_or_empty (as_entry own)) (as_entry own); grouping_sizes = s })) o = cc in
        subst OwnTexts one (symbols_texts (system_or_empty (as_entry own)) (as_entry own))
    by false None same = absurd (cc)

own_field : (field : Option Data) (o : Option Symbols) → option_and_then own_in field ≡ Some o → OwnTexts o
own_field None o is = absurd (cc)
own_field (Some own) o is = own_texts own o is

-- ---- patterns

affixes_by : (o p : Option (List ℕ)) (affixes : AffixesText) → ((text : List ℕ) → o ≡ Some text → IsUtf8 text) → ((text : List ℕ) → p ≡ Some text → IsUtf8 text)
    → option_and_then (λ before. option_and_then (λ after. affixes_of before after) p) o ≡ Some affixes → AreAffixTexts affixes
affixes_by (Some before) (Some after) affixes first second is = affixes_texts before after affixes (first before refl) (second after refl) is
affixes_by (Some before) None affixes first second is = absurd (cc)
affixes_by None p affixes first second is = absurd (cc)

affixes_there : (first second : ℕ) (pattern : Data) (affixes : AffixesText) → is_plain_at first pattern ≡ true → is_plain_at second pattern ≡ true
    → affixes_at first second pattern ≡ Some affixes → AreAffixTexts affixes
affixes_there first second pattern affixes one other is =
    affixes_by (field_at as_str first pattern) (field_at as_str second pattern) affixes
    (λ text same. plain_field (at first pattern) text one same)
    (λ text same. plain_field (at second pattern) text other same) is

two_by : (o : Option AffixesText) (texts : PatternTexts) → ((affixes : AffixesText) → o ≡ Some affixes → AreAffixTexts affixes)
    → option_map (λ unsigned. record { unsigned = unsigned; minus = None; plus = None }) o ≡ Some texts → ArePatternTexts texts
two_by (Some affixes) texts each is =
    let one : ◌≡◌ {A = PatternTexts} (record { unsigned = affixes; minus = None; plus = None }) texts = cc in
    subst ArePatternTexts one (record { unsigned = each affixes refl; minus = tt; plus = tt })
two_by None texts each is = absurd (cc)

six_by : (o p q : Option AffixesText) (texts : PatternTexts)
    → ((affixes : AffixesText) → o ≡ Some affixes → AreAffixTexts affixes)
    → ((affixes : AffixesText) → p ≡ Some affixes → AreAffixTexts affixes)
    → ((affixes : AffixesText) → q ≡ Some affixes → AreAffixTexts affixes)
    → option_and_then (λ unsigned. option_and_then (λ minus. option_map (λ plus. record { unsigned = unsigned; minus = Some minus; plus = Some plus }) q) p) o ≡ Some texts
    → ArePatternTexts texts
six_by (Some unsigned) (Some minus) (Some plus) texts first second third is =
    let one : ◌≡◌ {A = PatternTexts} (record { unsigned = unsigned; minus = Some minus; plus = Some plus }) texts = cc in
    subst ArePatternTexts one (record { unsigned = first unsigned refl; minus = second minus refl; plus = third plus refl })
six_by (Some unsigned) (Some minus) None texts first second third is = absurd (cc)
six_by (Some unsigned) None q texts first second third is = absurd (cc)
six_by None p q texts first second third is = absurd (cc)

-- which of its texts a pattern has plain
record AreTwoPlain (pattern : Data) : Type 0 where
  first : is_plain_at 0 pattern ≡ true
  second : is_plain_at 1 pattern ≡ true

record AreFourPlain (pattern : Data) : Type 0 where
  third : is_plain_at 2 pattern ≡ true
  fourth : is_plain_at 3 pattern ≡ true
  fifth : is_plain_at 4 pattern ≡ true
  sixth : is_plain_at 5 pattern ≡ true

two_plain : (pattern : Data) → is_plain_pattern pattern ≡ true → AreTwoPlain pattern
two_plain pattern plain =
    let last = and_parts _ (is_plain_at 1 pattern) plain in
    let first = and_parts _ (is_plain_at 0 pattern) last.0 in
    record { first = first.1; second = last.1 }

four_by : (c a b d e : Bool) → c ≡ false → (c || a && b && d && e) ≡ true → (a && b && d && e) ≡ true
four_by true a b d e never is = absurd (cc)
four_by false a b d e never is = is

four_plain : (pattern : Data) → has_count 2 pattern ≡ false → is_plain_pattern pattern ≡ true → AreFourPlain pattern
four_plain pattern never plain =
    let last = and_parts _ (is_plain_at 1 pattern) plain in
    let first = and_parts _ (is_plain_at 0 pattern) last.0 in
    let all = four_by (has_count 2 pattern) (is_plain_at 2 pattern) (is_plain_at 3 pattern) (is_plain_at 4 pattern) (is_plain_at 5 pattern) never first.0 in
    let sixth = and_parts _ (is_plain_at 5 pattern) all in
    let fifth = and_parts _ (is_plain_at 4 pattern) sixth.0 in
    let fourth = and_parts (is_plain_at 2 pattern) (is_plain_at 3 pattern) fifth.0 in
    record { third = fourth.0; fourth = fourth.1; fifth = fifth.1; sixth = sixth.1 }

-- six items are not two
not_two : (items : Option Items) → option_map_or (λ ds. count_of_items ds == 6) items false ≡ true → option_map_or (λ ds. count_of_items ds == 2) items false ≡ false
not_two None six = absurd (cc)
not_two (Some ds) six = ap (λ (n : ℕ). n == 2) (eqb-true (count_of_items ds) 6 six)

pattern_texts : (pattern : Data) (texts : PatternTexts) → is_plain_pattern pattern ≡ true → pattern_in pattern ≡ Some texts → ArePatternTexts texts
pattern_texts pattern texts plain is = by (has_count 6 pattern) refl is
  where
    two : AreTwoPlain pattern
    two = two_plain pattern plain

    by : (b : Bool) → has_count 6 pattern ≡ b → (if b then six_texts_in pattern else two_texts_in pattern) ≡ Some texts → ArePatternTexts texts
    by true count same =
        let four = four_plain pattern (not_two (as_array pattern) count) plain in
        six_by (affixes_at 0 1 pattern) (affixes_at 2 3 pattern) (affixes_at 4 5 pattern) texts
        (λ affixes there. affixes_there 0 1 pattern affixes two.first two.second there)
        (λ affixes there. affixes_there 2 3 pattern affixes four.third four.fourth there)
        (λ affixes there. affixes_there 4 5 pattern affixes four.fifth four.sixth there) same
    by false count same = two_by (affixes_at 0 1 pattern) texts (λ affixes there. affixes_there 0 1 pattern affixes two.first two.second there) same

pattern_field : (field : Option Data) (texts : PatternTexts) → option_map_or is_plain_pattern field false ≡ true → option_and_then pattern_in field ≡ Some texts → ArePatternTexts texts
pattern_field None texts plain is = absurd (cc)
pattern_field (Some pattern) texts plain is = pattern_texts pattern texts plain is

-- one that may be null
abbrev BesideTexts : Option PatternTexts → Type 0
BesideTexts beside = IfSome beside ArePatternTexts

beside_by : (b : Bool) (o beside : Option PatternTexts) → ((texts : PatternTexts) → b ≡ false → o ≡ Some texts → ArePatternTexts texts)
    → (if b then Some None else option_map {T = PatternTexts} {U = Option PatternTexts} (λ texts. Some texts) o) ≡ Some beside → BesideTexts beside
beside_by true o beside each is = let one : ◌≡◌ {A = Option PatternTexts} None beside = cc in subst BesideTexts one tt
beside_by false (Some texts) beside each is = let one : ◌≡◌ {A = Option PatternTexts} (Some texts) beside = cc in subst BesideTexts one (each texts refl refl)
beside_by false None beside each is = absurd (cc)

or_plain : (b p : Bool) → b ≡ false → (b || p) ≡ true → p ≡ true
or_plain true p never is = absurd (cc)
or_plain false p never is = is

beside_field : (field : Option Data) (beside : Option PatternTexts) → option_map_or (or_null is_plain_pattern) field false ≡ true → option_and_then pattern_or_null_in field ≡ Some beside → BesideTexts beside
beside_field None beside plain is = absurd (cc)
beside_field (Some pattern) beside plain is =
    beside_by (is_null pattern) (pattern_in pattern) beside
    (λ texts never same. pattern_texts pattern texts (or_plain (is_null pattern) (is_plain_pattern pattern) never plain) same) is

-- ---- entries

where_said : (said : Bool) (text : List ℕ) → IsUtf8 text → IfSome (if said then Some text else None) IsUtf8
where_said true text utf8 = utf8
where_said false text utf8 = tt

percents_by : (o : Option (Option Symbols)) (p : Option PatternTexts) (sign : List ℕ) (permille : Option (List ℕ)) (percents : PercentTexts) → IsUtf8 sign → IfSome permille IsUtf8
    → ((own : Option Symbols) → o ≡ Some own → OwnTexts own) → ((texts : PatternTexts) → p ≡ Some texts → ArePatternTexts texts)
    → option_and_then (λ own. option_map (λ pattern. record { sign = sign; permille = permille; symbols = own; pattern = pattern }) p) o ≡ Some percents → ArePercentTexts percents
percents_by (Some own) (Some pattern) sign permille percents utf8 other symbols texts is =
    let one : ◌≡◌ {A = PercentTexts} (record { sign = sign; permille = permille; symbols = own; pattern = pattern }) percents = cc in
    subst ArePercentTexts one (record { sign = utf8; permille = other; symbols = symbols own refl; pattern = texts pattern refl })
percents_by (Some own) None sign permille percents utf8 other symbols texts is = absurd (cc)
percents_by None p sign permille percents utf8 other symbols texts is = absurd (cc)

pub percents_texts : (entry : Data) (percents : PercentTexts) → has_at is_plain_pattern 4 entry ≡ true → percents_said entry ≡ Some percents → ArePercentTexts percents
percents_texts entry percents plain is =
    percents_by (field_at own_in 3 entry) (field_at pattern_in 4 entry) (text_or_empty 2 entry) (permille_said entry) percents (entry_utf8 2 entry)
    (where_said (is_text_at 5 entry) (text_or_empty 5 entry) (entry_utf8 5 entry))
    (λ own same. own_field (at 3 entry) own same) (λ texts same. pattern_field (at 4 entry) texts plain same) is

-- two patterns
record AreChoiceTexts (choice : PatternChoice) : Type 0 where
  standard : ArePatternTexts choice.standard
  beside : BesideTexts choice.alpha_next_to_number

choice_by : (o : Option PatternTexts) (p : Option (Option PatternTexts)) (choice : PatternChoice)
    → ((texts : PatternTexts) → o ≡ Some texts → ArePatternTexts texts) → ((beside : Option PatternTexts) → p ≡ Some beside → BesideTexts beside)
    → option_and_then (λ standard. option_map (λ beside. record { standard = standard; alpha_next_to_number = beside }) p) o ≡ Some choice → AreChoiceTexts choice
choice_by (Some standard) (Some beside) choice first second is =
    let one : ◌≡◌ {A = PatternChoice} (record { standard = standard; alpha_next_to_number = beside }) choice = cc in
    subst AreChoiceTexts one (record { standard = first standard refl; beside = second beside refl })
choice_by (Some standard) None choice first second is = absurd (cc)
choice_by None p choice first second is = absurd (cc)

amounts_by : (o : Option (Option Symbols)) (p : Option PatternChoice) (amounts : AmountTexts)
    → ((own : Option Symbols) → o ≡ Some own → OwnTexts own) → ((choice : PatternChoice) → p ≡ Some choice → AreChoiceTexts choice)
    → option_and_then (λ own. option_map (λ patterns. record { symbols = own; patterns = patterns }) p) o ≡ Some amounts → AreAmountTexts amounts
amounts_by (Some own) (Some choice) amounts symbols texts is =
    let one : ◌≡◌ {A = AmountTexts} (record { symbols = own; patterns = choice }) amounts = cc in
    let both = texts choice refl in
    subst AreAmountTexts one (record { symbols = symbols own refl; standard = both.standard; alpha_next_to_number = both.beside })
amounts_by (Some own) None amounts symbols texts is = absurd (cc)
amounts_by None p amounts symbols texts is = absurd (cc)

pub amounts_texts : (entry : Data) (amounts : AmountTexts) → has_at is_plain_pattern 3 entry ≡ true → has_at (or_null is_plain_pattern) 4 entry ≡ true
    → amounts_said entry ≡ Some amounts → AreAmountTexts amounts
amounts_texts entry amounts plain beside is =
    amounts_by (field_at own_in 2 entry) (patterns_of entry) amounts (λ own same. own_field (at 2 entry) own same)
    (λ choice same. choice_by (field_at pattern_in 3 entry) (field_at pattern_or_null_in 4 entry) choice
    (λ texts there. pattern_field (at 3 entry) texts plain there) (λ other there. beside_field (at 4 entry) other beside there) same) is

symbols_by : (o : Option LetterEnds) (text : List ℕ) (symbol : SymbolText) → IsUtf8 text → option_map (λ ends. record { text = text; ends = ends }) o ≡ Some symbol → IsUtf8 symbol.text
symbols_by (Some ends) text symbol utf8 is =
    let one : ◌≡◌ {A = SymbolText} (record { text = text; ends = ends }) symbol = cc in subst (λ (s : SymbolText). IsUtf8 s.text) one utf8
symbols_by None text symbol utf8 is = absurd (cc)

pub symbol_texts_are : (entry : Data) (symbol : SymbolText) → symbols_said entry ≡ Some symbol → IsUtf8 symbol.text
symbol_texts_are entry symbol is = symbols_by (field_at ends_in 3 entry) (text_or_empty 2 entry) symbol (entry_utf8 2 entry) is
