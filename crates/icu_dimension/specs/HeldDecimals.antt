-- The tables of plain text, before an entry's own symbols take the place of theirs.
-- Defined in docs/units.md, "Choosing units".
-- Cited only by private steps.
use Rattle.icu_decimal.specs.PlainText.{Tables}
use Rattle.icu_dimension.specs.declared.provider.decimals.HeldDecimals.{HeldDecimals}

abbrev pub held_tables : HeldDecimals → Tables
held_tables d = record { symbols = d.symbols.now; digits = d.digits.now; strategy = d.strategy }
