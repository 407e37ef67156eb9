-- What texts are put with: ASCII digits, short symbols, and groups of three digits, or of two before the last, or none.
-- Defined in docs/plain-text.md, "Of a text".
-- Cited only by private steps of the writer.
use Rattle.std.specs.Prelude.{◌≡◌, ℕ, ◌<◌, ◌≤◌, length, true, false, IsUtf8}
use Rattle.icu_decimal_grouping.specs.Grouper.{is_grouped, middle_size}
use Rattle.icu_decimal_symbols.specs.declared.grouping_sizes.GroupingSizes.{GroupingSizes}
use Rattle.icu_decimal_symbols.specs.declared.options.GroupingStrategy.{GroupingStrategy}
use Rattle.icu_decimal_plain.specs.PlainText.{Tables}
use Rattle.icu_decimal_plain.specs.Runs.{IsRun}
use Rattle.icu_decimal_direct.specs.declared.text_tables.Direct.{Direct}
use Rattle.icu_decimal_direct.specs.declared.text_tables.Grouped.{Grouped}

-- up to thirty-two digits have groups from so many on, of which the last has three digits, and those between it and the first
-- have so many each
pub record AreGrouped (t : GroupingStrategy) (s : GroupingSizes) (g : Grouped) : Type 0 where
  pub some : 4 ≤ g.least
  pub below : (n : ℕ) → n < g.least → n ≤ 32 → is_grouped t s n ≡ false
  pub above : (n : ℕ) → g.least ≤ n → n ≤ 32 → is_grouped t s n ≡ true
  pub primary : g.least ≤ 32 → s.primary ≡ 3
  pub middle : g.least ≤ 32 → middle_size s ≡ g.middle
  pub two : 2 ≤ g.middle
  pub three : g.middle ≤ 3

-- the symbols of these tables, each of at most four bytes
pub record AreHeld (d : Direct) (t : Tables) : Type 0 where
  pub run : IsRun 48 t.digits
  pub group : d.group.now ≡ t.symbols.strings.grouping_separator
  pub decimal : d.decimal.now ≡ t.symbols.strings.decimal_separator
  pub prefix : d.prefix.now ≡ t.symbols.strings.minus_sign_prefix
  pub suffix : d.suffix.now ≡ t.symbols.strings.minus_sign_suffix
  pub plus_prefix : d.plus_prefix.now ≡ t.symbols.strings.plus_sign_prefix
  pub plus_suffix : d.plus_suffix.now ≡ t.symbols.strings.plus_sign_suffix
  pub short_group : length d.group.now ≤ 4
  pub short_decimal : length d.decimal.now ≤ 4
  pub short_prefix : length d.prefix.now ≤ 4
  pub short_suffix : length d.suffix.now ≤ 4
  pub short_plus_prefix : length d.plus_prefix.now ≤ 4
  pub short_plus_suffix : length d.plus_suffix.now ≤ 4
  pub utf8_group : ∥ IsUtf8 d.group.now ∥₁
  pub utf8_decimal : ∥ IsUtf8 d.decimal.now ∥₁
  pub utf8_prefix : ∥ IsUtf8 d.prefix.now ∥₁
  pub utf8_suffix : ∥ IsUtf8 d.suffix.now ∥₁
  pub utf8_plus_prefix : ∥ IsUtf8 d.plus_prefix.now ∥₁
  pub utf8_plus_suffix : ∥ IsUtf8 d.plus_suffix.now ∥₁
  pub groups : AreGrouped t.strategy t.symbols.grouping_sizes d.groups
