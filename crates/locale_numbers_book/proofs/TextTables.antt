-- Symbols and digits of a book are texts: `specs/Laws.antt`.
use Rattle.std.proofs.Common.{◌≡◌, ◌==◌, ℕ, Bool, true, false, List, [], ◌∷◌, length, Option, Some, None, subst, refl, if◌then◌else◌}
use Rattle.std.proofs.lemmas.Bool.{and_parts, eqb-true}
use Rattle.std.proofs.lemmas.Str.{scalars-chars}
use Rattle.std.specs.Char.{IsScalar}
use Rattle.std.specs.List.{AllByRecursion}
use Rattle.std.specs.Option.{option_and_then}
use Rattle.std.specs.Prelude.{chars}
use Rattle.std.specs.Str.{IsUtf8, all_scalars, bytes_eq}
use Rattle.serde_json.specs.Data.{Data}
use Rattle.serde_json.specs.Find.{as_str, at}
use Rattle.icu_locale_core.specs.DataLocales.{unknown_data}
use Rattle.icu_locale_core.specs.Subtags.{Text}
use Rattle.icu_decimal.specs.Identifiers.{Identifier}
use Rattle.icu_decimal.specs.Symbols.{Symbols}
use Rattle.icu_decimal.specs.declared.provider.GroupingSizes.{GroupingSizes}
use Rattle.locale_numbers_tables.specs.Entries.{digits_entry, digits_key, entry_key, field_at, grouping_sizes_of, has_count, has_texts, symbol_texts, symbols_entry, symbols_of, symbols_with}
use Rattle.locale_numbers_tables.specs.Fields.{digits_in, plain_text_in, system_in, ten_characters}
use Rattle.locale_numbers_tables.specs.Keys.{same_data_locale, same_key, table_at}
use Rattle.locale_numbers_book.specs.Form.{book_part, items_at}
use Rattle.locale_numbers_book.specs.Laws.{BookTablesAreTexts}
use Rattle.locale_numbers_book.specs.Tables.{digits_there}
use Rattle.locale_numbers_units.specs.UnitTexts.{AreSymbolTexts}
use Rattle.locale_numbers_units.proofs.TextLemmas.{symbols_texts, text_utf8}
use Rattle.locale_numbers_book.proofs.ReadTables.{entry_by, is_there, table_holds, under_holds}

-- ---- symbols

-- the texts of symbols are UTF-8
abbrev HasTexts : Symbols → Type 0
HasTexts symbols = AreSymbolTexts symbols.strings

texts_by : (b : Bool) (numsys : Text) (sizes : GroupingSizes) (entry : Data) (symbols : Symbols)
    → (if b then Some (record { strings = symbol_texts numsys entry; grouping_sizes = sizes }) else None) ≡ Some symbols → HasTexts symbols
texts_by true numsys sizes entry symbols is =
    let one : ◌≡◌ {A = Symbols} (record { strings = symbol_texts numsys entry; grouping_sizes = sizes }) symbols = cc in subst HasTexts one (symbols_texts numsys entry)
texts_by false numsys sizes entry symbols is = absurd (cc)

symbols_by : (n : Option Text) (g : Option GroupingSizes) (entry : Data) (symbols : Symbols)
    → option_and_then (λ numsys. option_and_then (λ sizes. symbols_with numsys sizes entry) g) n ≡ Some symbols → HasTexts symbols
symbols_by (Some numsys) (Some sizes) entry symbols is = texts_by (has_texts entry) numsys sizes entry symbols is
symbols_by (Some numsys) None entry symbols is = absurd (cc)
symbols_by None g entry symbols is = absurd (cc)

read_texts : (entry : Data) (pair : Identifier × Symbols) → symbols_entry entry ≡ Some pair → HasTexts pair.1
read_texts entry pair is =
    entry_by HasTexts (has_count 12 entry) (entry_key entry) (symbols_of entry) pair is
    (λ symbols one. symbols_by (field_at system_in 2 entry) (grouping_sizes_of entry) entry symbols one)

-- ---- digits

record AreCharacters (digits : List ℕ) : Type 0 where
  ten : length digits ≡ 10
  each : AllByRecursion IsScalar digits

all_scalar : (cs : List ℕ) → all_scalars cs ≡ true → AllByRecursion IsScalar cs
all_scalar [] all = tt
all_scalar (c ∷ cs) all = let parts = and_parts _ (all_scalars cs) all in (parts.0, all_scalar cs parts.1)

ten_by : (b : Bool) (cs digits : List ℕ) → (length cs == 10) ≡ b → AllByRecursion IsScalar cs → (if b then Some cs else None) ≡ Some digits → AreCharacters digits
ten_by true cs digits test all is = let one : cs ≡ digits = cc in subst AreCharacters one (record { ten = eqb-true (length cs) 10 test; each = all })
ten_by false cs digits test all is = absurd (cc)

characters_by : (o : Option (List ℕ)) (digits : List ℕ) → ((text : List ℕ) → o ≡ Some text → IsUtf8 text)
    → option_and_then (λ text. ten_characters (chars text)) o ≡ Some digits → AreCharacters digits
characters_by None digits utf8 is = absurd (cc)
characters_by (Some text) digits utf8 is =
    ten_by (length (chars text) == 10) (chars text) digits refl (all_scalar (chars text) (scalars-chars text (utf8 text refl))) is

field_characters : (o : Option Data) (digits : List ℕ) → option_and_then digits_in o ≡ Some digits → AreCharacters digits
field_characters None digits is = absurd (cc)
field_characters (Some field) digits is = characters_by (plain_text_in field) digits (λ text one. text_utf8 (as_str field) text one) is

digits_characters : (entry : Data) (pair : Text × List ℕ) → digits_entry entry ≡ Some pair → AreCharacters pair.1
digits_characters entry pair is =
    entry_by AreCharacters (has_count 2 entry) (digits_key entry) (field_at digits_in 1 entry) pair is (λ digits one. field_characters (at 1 entry) digits one)

there_by : (b : Bool) (o : Option (List ℕ)) (digits : List ℕ) → (if b then o else None) ≡ Some digits → o ≡ Some digits
there_by true o digits is = is
there_by false o digits is = absurd (cc)

-- ---- the law

pub tables_texts : BookTablesAreTexts
tables_texts value book is symbols digits strategy id other first second =
    let texts : HasTexts symbols = under_holds HasTexts same_key id book.symbols symbols
    (table_holds HasTexts same_key symbols_entry read_texts (items_at 0 (book_part value)) book.symbols is.arrays.symbols)
    (is_there (table_at same_key id book.symbols) symbols first) in
    let characters : AreCharacters digits = under_holds AreCharacters bytes_eq other.attributes book.digits digits
    (table_holds AreCharacters bytes_eq digits_entry digits_characters (items_at 1 (book_part value)) book.digits is.arrays.digits)
    (there_by (same_data_locale other.locale unknown_data) (table_at bytes_eq other.attributes book.digits) digits (is_there (digits_there book other) digits second)) in
    record {
      ten = characters.ten;
      digits = characters.each;
      minus_prefix = texts.minus_prefix;
      minus_suffix = texts.minus_suffix;
      plus_prefix = texts.plus_prefix;
      plus_suffix = texts.plus_suffix;
      point = texts.point;
      group = texts.group;
    }
