-- The strategy that options name: none means `Auto`.
-- Defined in docs/formatters.md, "Options".
-- Cited by `strategy_of`.
use Rattle.std.specs.Prelude.{Option, None, Some}
use Rattle.icu_decimal_symbols.specs.declared.options.GroupingStrategy.{GroupingStrategy}

abbrev pub strategy_in : Option GroupingStrategy → GroupingStrategy
strategy_in None = GroupingStrategy.Auto
strategy_in (Some strategy) = strategy
