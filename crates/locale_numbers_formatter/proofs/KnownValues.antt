-- Values from outside that a wrong definition of the layers does not survive: the tables of docs/plain-text.md, docs/compact-text.md and docs/units.md.
use Rattle.std.proofs.Common.{◌≡◌, ℕ, List, [], Option, None, Some, refl}
use Rattle.std.specs.Prelude.{codes}
use Rattle.fixed_decimal.specs.declared.Sign.{Sign}
use Rattle.fixed_decimal.specs.declared.Sign.TheVariants.{None as NoSign, Negative, Positive}
use Rattle.icu_decimal.specs.Pattern.{PatternText, literal, around}
use Rattle.icu_decimal.specs.PlainText.{Tables}
use Rattle.icu_decimal.specs.Symbols.{english_symbols}
use Rattle.icu_decimal.specs.declared.options.GroupingStrategy.TheVariants.{Auto}
use Rattle.icu_dimension.specs.UnitPatterns.{AffixesText}
use Rattle.icu_dimension.specs.declared.UnitKind.TheVariants.{Currency}
use Rattle.icu_dimension.specs.declared.UnitPlace.TheVariants.{Before}
use Rattle.locale_numbers_formatter.specs.FormatText.{FormatTables, layers_in, plain_tables, unit_tables}
use Rattle.locale_numbers_formatter.specs.Layers.{layered}

abbrev english : Tables
english = record { symbols = english_symbols; digits = codes "0123456789"; strategy = Auto }

abbrev plain_english : FormatTables
plain_english = plain_tables english

-- the digits of a number of this sign, in a compact pattern or none
abbrev around_digits : FormatTables → Sign → Option PatternText → List ℕ → List ℕ
around_digits f sign pattern digits = layered (layers_in f sign pattern) digits

-- plain text
plain_negative : around_digits plain_english Negative None (codes "1,234.5") ≡ codes "-1,234.5"
plain_negative = refl

plain_unsigned : around_digits plain_english NoSign None (codes "1,234.5") ≡ codes "1,234.5"
plain_unsigned = refl

-- a compact pattern is within the affixes of the sign
compact_negative : around_digits plain_english Negative (Some (around [] (codes "M"))) (codes "1.2") ≡ codes "-1.2M"
compact_negative = refl

-- and one without a place for the number stands in place of the digits
literal_negative : around_digits plain_english Negative (Some (literal (codes "thousand"))) (codes "1") ≡ codes "-thousand"
literal_negative = refl

-- a pattern that is outside of all hides the sign too
outer_literal : layered (record { inner = None; before = codes "-"; after = []; outer = Some (literal (codes "one")) }) (codes "1") ≡ codes "one"
outer_literal = refl

outer_around : layered (record { inner = Some (around [] (codes "K")); before = codes "-"; after = []; outer = Some (around [] (codes " euros")) }) (codes "1.2") ≡ codes "-1.2K euros"
outer_around = refl

-- amounts: `CHF-5.00` in Swiss German, where a minus has affixes of its own
abbrev francs : List ℕ → AffixesText
francs behind = record { place = Before; first = []; second = behind; third = [] }

abbrev swiss : FormatTables
swiss = unit_tables (record {
  settings = record {
    tables = english;
    pattern = record { unsigned = francs (codes " "); minus = Some (francs (codes "-")); plus = None };
    unit = record { kind = Currency; text = codes "CHF" };
  };
  code = codes "CHF";
  fractions = None;
})

own_minus : around_digits swiss Negative None (codes "5.00") ≡ codes "CHF-5.00"
own_minus = refl

own_unsigned : around_digits swiss NoSign None (codes "5.00") ≡ codes "CHF 5.00"
own_unsigned = refl

-- a plus has none of its own, and so it is outside of those without a sign
symbols_plus : around_digits swiss Positive None (codes "5.00") ≡ codes "+CHF 5.00"
symbols_plus = refl
