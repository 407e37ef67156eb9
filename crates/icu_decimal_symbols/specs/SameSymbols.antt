-- When two tables of symbols are one: text by text, and size by size.
-- Defined in docs/formatters.md, "Symbols".
-- Cited by `==` of symbols and of their texts.
use Rattle.std.specs.Prelude.{ℕ, Bool, List, ◌&&◌, ◌==◌, nat_eq}
use Rattle.std.specs.Cmp.Lexicographic.{pointwise}
use Rattle.icu_decimal_symbols.specs.declared.grouping_sizes.GroupingSizes.{GroupingSizes}
use Rattle.icu_decimal_symbols.specs.Symbols.{SymbolStrings, Symbols}

-- byte by byte
abbrev same_text : List ℕ → List ℕ → Bool
same_text a b = pointwise nat_eq a b

-- the affixes
abbrev pub same_affixes : SymbolStrings → SymbolStrings → Bool
same_affixes a b =
    same_text a.minus_sign_prefix b.minus_sign_prefix
    && (same_text a.minus_sign_suffix b.minus_sign_suffix && (same_text a.plus_sign_prefix b.plus_sign_prefix && same_text a.plus_sign_suffix b.plus_sign_suffix))

-- the separators and the numbering system
abbrev pub same_marks : SymbolStrings → SymbolStrings → Bool
same_marks a b =
    same_text a.decimal_separator b.decimal_separator
    && (same_text a.grouping_separator b.grouping_separator && same_text a.numsys b.numsys)

abbrev pub same_strings : SymbolStrings → SymbolStrings → Bool
same_strings a b = same_affixes a b && same_marks a b

abbrev pub same_sizes : GroupingSizes → GroupingSizes → Bool
same_sizes a b = a.primary == b.primary && (a.secondary == b.secondary && a.min_grouping == b.min_grouping)

abbrev pub same_symbols : Symbols → Symbols → Bool
same_symbols a b = same_strings a.strings b.strings && same_sizes a.grouping_sizes b.grouping_sizes
