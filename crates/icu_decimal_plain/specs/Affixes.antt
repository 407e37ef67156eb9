-- A value between the affixes of its sign, each in its part.
-- UTS 35, part 3 (numbers), the symbols of signs; docs/plain-text.md, "Affixes", and docs/formatters.md, "Parts".
-- Cited by the calls of `FormattedSign`.
use Rattle.std.specs.Prelude.{ℕ, List, [], ◌++◌, Option, None, Some, codes}
use Rattle.writeable.specs.AnnotatedText.{Event, bytes, opening, closing}
use Rattle.writeable.specs.PartName.{PartName}
use Rattle.fixed_decimal.specs.declared.Sign.{Sign}
use Rattle.fixed_decimal.specs.declared.Sign.TheVariants.{None as NoSign, Negative, Positive}
use Rattle.icu_decimal_symbols.specs.Symbols.{SymbolStrings}

-- the affixes of a sign, and the part that each of them is
pub record AffixTexts : Type 0 where
  pub part : PartName
  pub prefix : List ℕ
  pub suffix : List ℕ

abbrev pub decimal_part : List ℕ → PartName
decimal_part value = record { category = codes "decimal"; value = value }

-- those of a sign in a locale
abbrev pub affixes_of : SymbolStrings → Sign → Option AffixTexts
affixes_of s NoSign = None
affixes_of s Negative = Some (record { part = decimal_part (codes "minusSign"); prefix = s.minus_sign_prefix; suffix = s.minus_sign_suffix })
affixes_of s Positive = Some (record { part = decimal_part (codes "plusSign"); prefix = s.plus_sign_prefix; suffix = s.plus_sign_suffix })

-- a text as a part
abbrev pub as_part : PartName → List ℕ → List Event
as_part part text = opening part ++ (bytes text ++ closing)

abbrev pub prefix_events : Option AffixTexts → List Event
prefix_events None = []
prefix_events (Some affixes) = as_part affixes.part affixes.prefix

abbrev pub suffix_events : Option AffixTexts → List Event
suffix_events None = []
suffix_events (Some affixes) = as_part affixes.part affixes.suffix

-- a value, and the affixes of its sign
pub record WithSign (T : Type 0) : Type 0 where
  pub value : T
  pub affixes : Option AffixTexts

-- the value between them
abbrev pub events_with_sign : {T : Type 0} → (T → List Event) → WithSign T → List Event
events_with_sign events s = prefix_events s.affixes ++ (events s.value ++ suffix_events s.affixes)
