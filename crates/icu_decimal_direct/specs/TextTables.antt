-- The symbols, the digits and the strategy that texts are put with, and which they may be.
-- Defined in docs/formatters.md, "Choosing tables", and docs/plain-text.md, "Of a text".
-- Cited by `TextTables::of` and `TextTables::put`.
use Rattle.std.specs.Prelude.{◌≡◌, ◌≤◌, ◌⊎◌, codes, length}
use Rattle.icu_decimal_symbols.specs.declared.grouping_sizes.GroupingSizes.{GroupingSizes}
use Rattle.icu_decimal_symbols.specs.declared.options.GroupingStrategy.{GroupingStrategy}
use Rattle.icu_decimal_plain.specs.PlainText.{Tables}
use Rattle.icu_decimal_direct.specs.declared.text_tables.TextTables.{TextTables}

abbrev pub text_tables : TextTables → Tables
text_tables t = record { symbols = t.symbols.now; digits = t.digits.now; strategy = t.strategy }

-- no groups, or groups of three digits of which those between the first and the last may have two
abbrev pub HasKnownGroups : GroupingStrategy → GroupingSizes → Type 0
HasKnownGroups t s =
    (s.primary ≡ 0) ⊎ ((t ≡ GroupingStrategy.Never)
    ⊎ ((s.primary ≡ 3) × (((s.secondary ≡ 0) ⊎ ((s.secondary ≡ 2) ⊎ (s.secondary ≡ 3))) × (s.min_grouping ≤ 200))))

-- tables that texts can be put with
pub record CanPut (t : Tables) : Type 0 where
  pub digits : t.digits ≡ codes "0123456789"
  pub group : length t.symbols.strings.grouping_separator ≤ 4
  pub decimal : length t.symbols.strings.decimal_separator ≤ 4
  pub prefix : length t.symbols.strings.minus_sign_prefix ≤ 4
  pub suffix : length t.symbols.strings.minus_sign_suffix ≤ 4
  pub plus_prefix : length t.symbols.strings.plus_sign_prefix ≤ 4
  pub plus_suffix : length t.symbols.strings.plus_sign_suffix ≤ 4
  pub groups : HasKnownGroups t.strategy t.symbols.grouping_sizes
