-- The parts of the text of a number of any format: the same layers over events.
-- Defined in docs/formatters.md, "Parts", docs/units.md, "Parts", docs/compact-text.md, "Exact forms", and docs/scientific-text.md, "Parts".
-- Cited by the calls of `NumberFormatter`, and by the laws.
use Rattle.std.specs.Prelude.{List, ◌++◌, Option, None, Some, codes, option_map}
use Rattle.writeable.specs.AnnotatedText.{Event, bytes}
use Rattle.fixed_decimal.specs.CompactText.{CompactValue}
use Rattle.fixed_decimal.specs.Number.{Number}
use Rattle.fixed_decimal.specs.SignedValue.{SignedValue}
use Rattle.fixed_decimal.specs.declared.Sign.{Sign}
use Rattle.fixed_decimal.specs.declared.Sign.TheVariants.{None as NoSign}
use Rattle.icu_decimal.specs.Affixes.{AffixTexts, affixes_of, as_part, decimal_part, prefix_events, suffix_events}
use Rattle.icu_decimal.specs.PlainText.{unsigned_events, unsigned_text}
use Rattle.icu_decimal_scientific.specs.ExponentialText.{exponent_events, signed_exponent}
use Rattle.icu_dimension.specs.UnitPatterns.{AffixesText, after_in, before_in, own_affixes}
use Rattle.icu_dimension.specs.UnitText.{UnitName, UnitSettings, side_events}
use Rattle.locale_numbers_formatter.specs.ExactForms.{exact_shown}
use Rattle.locale_numbers_formatter.specs.FormatText.{FormatTables, Power, Shown, compact_tables, digits_tables, plain_tables, scientific_tables, shown_by, unit_tables}
use Rattle.locale_numbers_formatter.specs.Layers.{Layers, LayersOf, layered_by}

-- ---- the layers

-- the same patterns, around these sides
abbrev pub with_sides : Layers → List Event → List Event → LayersOf Event
with_sides l before after = record { inner = l.inner; before = before; after = after; outer = l.outer }

-- the affixes of a sign, each a part
abbrev pub symbol_layers : Option AffixTexts → Layers → LayersOf Event
symbol_layers affixes l = with_sides l (prefix_events affixes) (suffix_events affixes)

-- with a unit: the sign's own affixes, or those without a sign between the ones of the symbols
abbrev pub unit_layers_by : Option AffixesText → AffixesText → Option AffixTexts → Sign → UnitName → Layers → LayersOf Event
unit_layers_by None unsigned affixes sign name l =
    with_sides l (prefix_events affixes ++ side_events NoSign (before_in unsigned) name) (side_events NoSign (after_in unsigned) name ++ suffix_events affixes)
unit_layers_by (Some own) unsigned affixes sign name l =
    with_sides l (side_events sign (before_in own) name) (side_events sign (after_in own) name)

abbrev pub unit_layers : UnitSettings → Sign → Layers → LayersOf Event
unit_layers s sign l = unit_layers_by (own_affixes s.pattern sign) s.pattern.unsigned (affixes_of s.tables.symbols.strings sign) sign s.unit l

abbrev pub part_layers : FormatTables → Sign → Layers → LayersOf Event
part_layers (plain_tables t) sign l = symbol_layers (affixes_of t.symbols.strings sign) l
part_layers (compact_tables t) sign l = symbol_layers (affixes_of t.plain.symbols.strings sign) l
part_layers (digits_tables t o) sign l = symbol_layers (affixes_of t.plain.symbols.strings sign) l
part_layers (unit_tables u) sign l = unit_layers u.settings sign l
part_layers (scientific_tables s) sign l = symbol_layers (affixes_of s.settings.tables.symbols.strings sign) l

-- ---- the digits

abbrev pub events_of_digits : Shown → List Event
events_of_digits s = unsigned_events (record { number = s.significand.absolute; tables = s.tables })

-- what is shown for a number in compact text has no parts of its digits; digits of its own have theirs
abbrev pub digit_events_in : FormatTables → Shown → List Event
digit_events_in (plain_tables t) s = events_of_digits s
digit_events_in (compact_tables t) s = bytes (unsigned_text s.tables s.significand.absolute)
digit_events_in (digits_tables t o) s = events_of_digits s
digit_events_in (unit_tables u) s = events_of_digits s
digit_events_in (scientific_tables f) s = events_of_digits s

-- an exponent after them: the text before it, and the exponent
abbrev pub power_events : Power → List Event
power_events p = as_part (decimal_part (codes "exponentSeparator")) p.separator ++ exponent_events (signed_exponent p.tables p.exponent)

-- digits with an exponent after them, or with none
abbrev pub with_power_events : Option Power → List Event → List Event
with_power_events None digits = digits
with_power_events (Some p) digits = digits ++ power_events p

-- ---- the text with its parts

abbrev pub events_around : FormatTables → Shown → List Event → List Event
events_around f s digits = layered_by bytes (part_layers f s.significand.sign s.layers) (with_power_events s.power digits)

abbrev pub format_events : FormatTables → SignedValue Number → List Event
format_events f d = let s = shown_by f d in events_around f s (digit_events_in f s)

-- an exact form has all parts
abbrev pub exact_format_events : FormatTables → CompactValue → Option (List Event)
exact_format_events f form = option_map (λ s. events_around f s (events_of_digits s)) (exact_shown f form)
