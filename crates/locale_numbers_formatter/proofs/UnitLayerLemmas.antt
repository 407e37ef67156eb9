-- The layers of numbers with a unit: a pair within a pair, put together in another order.
use Rattle.std.proofs.Common.{◌≡◌, List, ◌++◌, Option, None, Some, sym}
use Rattle.std.proofs.lemmas.List.{append-nil, append_assoc}
use Rattle.writeable.specs.AnnotatedText.{Event, bytes}
use Rattle.fixed_decimal.specs.declared.Sign.{Sign}
use Rattle.fixed_decimal.specs.declared.Sign.TheVariants.{None as NoSign}
use Rattle.icu_decimal.specs.Affixes.{AffixTexts, affixes_of, prefix_events, suffix_events}
use Rattle.icu_decimal.specs.PlainText.{PlainNumber, unsigned_events}
use Rattle.icu_dimension.specs.UnitPatterns.{AffixPair, AffixesText, after_in, before_in, own_affixes}
use Rattle.icu_dimension.specs.UnitText.{UnitName, formatted_by, side_events, unit_decimal_events}
use Rattle.locale_numbers_formatter.specs.FormatParts.{unit_layers_by}
use Rattle.locale_numbers_formatter.specs.Laws.{UnitPartsAreLayered}
use Rattle.locale_numbers_formatter.specs.Layers.{Layers, layered_by}

-- a pair between a pair, around what is inside
nested : (p s u t q : List Event) → (p ++ s) ++ (u ++ (t ++ q)) ≡ p ++ ((s ++ (u ++ t)) ++ q)
nested p s u t q = simp append_assoc

-- a pair that has no pattern inside or outside of it
abbrev plain_pair : AffixPair → Layers
plain_pair pair = record { inner = None; before = pair.before; after = pair.after; outer = None }

by_own : (own : Option AffixesText) (unsigned : AffixesText) (affixes : Option AffixTexts) (sign : Sign) (n : PlainNumber) (name : UnitName) (pair : AffixPair)
    → layered_by bytes (unit_layers_by own unsigned affixes sign name (plain_pair pair)) (unsigned_events n) ≡ unit_decimal_events (formatted_by own unsigned affixes sign n name)
by_own None unsigned affixes sign n name pair =
    nested (prefix_events affixes) (side_events NoSign (before_in unsigned) name) (unsigned_events n) (side_events NoSign (after_in unsigned) name) (suffix_events affixes)
by_own (Some own) unsigned affixes sign n name pair =
    sym (append-nil (side_events sign (before_in own) name ++ (unsigned_events n ++ side_events sign (after_in own) name)))

pub unit_parts_are : UnitPartsAreLayered
unit_parts_are u d =
    let s = u.settings in
    by_own (own_affixes s.pattern d.sign) s.pattern.unsigned (affixes_of s.tables.symbols.strings d.sign) d.sign (record { number = d.absolute; tables = s.tables }) s.unit _
