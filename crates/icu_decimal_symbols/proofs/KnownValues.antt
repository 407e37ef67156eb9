-- Values from outside that a wrong definition does not survive: the tables of docs/formatters.md, "Options".
use Rattle.std.proofs.Common.{◌≡◌, None, Some, refl}
use Rattle.icu_decimal_symbols.specs.declared.options.GroupingStrategy.{GroupingStrategy}
use Rattle.icu_decimal_symbols.specs.Options.{strategy_in}

nothing_is_auto : strategy_in None ≡ GroupingStrategy.Auto
nothing_is_auto = refl

option_stays : strategy_in (Some GroupingStrategy.Min2) ≡ GroupingStrategy.Min2
option_stays = refl

aligned_stays : strategy_in (Some GroupingStrategy.OnAligned) ≡ GroupingStrategy.OnAligned
aligned_stays = refl
