-- The tests of two tables of symbols are true exactly where the tables are equal.
-- Defined in docs/formatters.md, "Symbols".
-- Cited by the impls of `PartialEq` and `Eq` of `DecimalSymbols` and of its texts, whose laws it proves.
use Rattle.std.proofs.Common.{◌≡◌, ap, Decides}
use Rattle.std.specs.Cmp.{unsigned_Decides}
use Rattle.std.specs.Cmp.Lexicographic.{bytes_decides}
use Rattle.std.proofs.lemmas.Bool.Decides.{Decides-and, Decides-like}
use Rattle.icu_decimal_symbols.specs.declared.grouping_sizes.GroupingSizes.{GroupingSizes}
use Rattle.icu_decimal_symbols.specs.Symbols.{SymbolStrings, Symbols}
use Rattle.icu_decimal_symbols.specs.SameSymbols.{same_strings, same_sizes, same_symbols}

pub same_strings_decides : (a b : SymbolStrings) → Decides (same_strings a b) (a ≡ b)
same_strings_decides a b = Decides-like (same_strings a b)
    (λ h i. record {
      minus_sign_prefix = h.0.0 i;
      minus_sign_suffix = h.0.1.0 i;
      plus_sign_prefix = h.0.1.1.0 i;
      plus_sign_suffix = h.0.1.1.1 i;
      decimal_separator = h.1.0 i;
      grouping_separator = h.1.1.0 i;
      numsys = h.1.1.1 i;
    })
    (λ e. (
      (ap (λ s. s.minus_sign_prefix) e, (ap (λ s. s.minus_sign_suffix) e, (ap (λ s. s.plus_sign_prefix) e, ap (λ s. s.plus_sign_suffix) e))),
      (ap (λ s. s.decimal_separator) e, (ap (λ s. s.grouping_separator) e, ap (λ s. s.numsys) e)),
    ))
    (Decides-and _ _
    (Decides-and _ _ (bytes_decides a.minus_sign_prefix b.minus_sign_prefix)
    (Decides-and _ _ (bytes_decides a.minus_sign_suffix b.minus_sign_suffix)
    (Decides-and _ _ (bytes_decides a.plus_sign_prefix b.plus_sign_prefix) (bytes_decides a.plus_sign_suffix b.plus_sign_suffix))))
    (Decides-and _ _ (bytes_decides a.decimal_separator b.decimal_separator)
    (Decides-and _ _ (bytes_decides a.grouping_separator b.grouping_separator) (bytes_decides a.numsys b.numsys))))

pub same_sizes_decides : (a b : GroupingSizes) → Decides (same_sizes a b) (a ≡ b)
same_sizes_decides a b = Decides-like (same_sizes a b)
    (λ h i. record { primary = h.0 i; secondary = h.1.0 i; min_grouping = h.1.1 i })
    (λ e. (ap (λ s. s.primary) e, (ap (λ s. s.secondary) e, ap (λ s. s.min_grouping) e)))
    (Decides-and _ _ (unsigned_Decides a.primary b.primary)
    (Decides-and _ _ (unsigned_Decides a.secondary b.secondary) (unsigned_Decides a.min_grouping b.min_grouping)))

pub same_symbols_decides : (a b : Symbols) → Decides (same_symbols a b) (a ≡ b)
same_symbols_decides a b = Decides-like (same_symbols a b)
    (λ h i. record { strings = h.0 i; grouping_sizes = h.1 i })
    (λ e. (ap (λ s. s.strings) e, ap (λ s. s.grouping_sizes) e))
    (Decides-and _ _ (same_strings_decides a.strings b.strings) (same_sizes_decides a.grouping_sizes b.grouping_sizes))
