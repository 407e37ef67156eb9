-- What a contract sees of a locale's symbols: each text as the list of its bytes, the numbering system, and where groups end.
-- The names are those of the symbols of UTS 35, part 3 (numbers); docs/formatters.md, "Symbols".
-- Cited by the calls of `DecimalSymbols` and its texts, and by all that writes with them.
use Rattle.std.specs.Prelude.{◌≡◌, ℕ, List, [], codes}
use Rattle.icu_decimal_symbols.specs.declared.grouping_sizes.GroupingSizes.{GroupingSizes}

-- the affixes and separators, in UTF-8, and the numbering system
pub record SymbolStrings : Type 0 where
  pub minus_sign_prefix : List ℕ
  pub minus_sign_suffix : List ℕ
  pub plus_sign_prefix : List ℕ
  pub plus_sign_suffix : List ℕ
  pub decimal_separator : List ℕ
  pub grouping_separator : List ℕ
  pub numsys : List ℕ

pub record Symbols : Type 0 where
  pub strings : SymbolStrings
  pub grouping_sizes : GroupingSizes

-- all texts but the name of the system are empty
abbrev pub HasNoText : SymbolStrings → Type 0
HasNoText s =
    (s.minus_sign_prefix ≡ []) × (s.minus_sign_suffix ≡ []) × (s.plus_sign_prefix ≡ []) × (s.plus_sign_suffix ≡ [])
    × (s.decimal_separator ≡ []) × (s.grouping_separator ≡ [])

-- ---- those of English

abbrev pub english_strings : SymbolStrings
english_strings = record {
  minus_sign_prefix = codes "-";
  minus_sign_suffix = [];
  plus_sign_prefix = codes "+";
  plus_sign_suffix = [];
  decimal_separator = codes ".";
  grouping_separator = codes ",";
  numsys = codes "latn";
}

abbrev pub english_symbols : Symbols
english_symbols = record { strings = english_strings; grouping_sizes = record { primary = 3; secondary = 3; min_grouping = 1 } }
