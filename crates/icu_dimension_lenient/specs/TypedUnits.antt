-- The spellings of a decimal with its unit that are read: as the formatter writes it, without its unit, and folded, between the affixes of its sign or with the unit or its code beside it.
-- Defined in docs/units.md, "Lenient reading".
-- Cited by the laws of lenient reading.
use Rattle.std.specs.Prelude.{◌≡◌, ◌⊎◌, ℕ, List, [], ◌++◌}
use Rattle.std.specs.Str.{trim}
use Rattle.fixed_decimal.specs.Number.{Number}
use Rattle.fixed_decimal.specs.SignedValue.{SignedValue}
use Rattle.fixed_decimal.specs.declared.Sign.{Sign}
use Rattle.fixed_decimal.specs.declared.Sign.TheVariants.{None as NoSign, Negative, Positive}
use Rattle.icu_decimal_symbols.specs.Symbols.{Symbols}
use Rattle.icu_decimal_plain.specs.PlainText.{Tables}
use Rattle.icu_decimal_lenient.specs.Folding.{folded_symbols}
use Rattle.icu_decimal_lenient.specs.LenientReading.{IsGroupedText, IsTypedText, filled_text, trimmed_fold}
use Rattle.icu_dimension_affixes.specs.UnitPatterns.{AffixPair}
use Rattle.icu_dimension_affixes.specs.UnitReading.{IsUnitText, SignPairs, pair_for}
use Rattle.icu_dimension_affixes.specs.UnitText.{text_between}
use Rattle.icu_dimension_lenient.specs.LenientUnits.{FoldedUnit, LenientTexts, minus_pair, plus_pair}

-- a decimal without its sign
abbrev pub unsigned : SignedValue Number → SignedValue Number
unsigned v = record { sign = NoSign; absolute = v.absolute }

-- the number without its sign, between two texts
pub record IsBetween (folded : Symbols) (pair : AffixPair) (text : List ℕ) (v : SignedValue Number) : Type 0 where
  pub inner : List ℕ
  pub between : text_between pair inner ≡ text
  pub number : IsGroupedText folded inner (unsigned v)

-- between the affixes of its sign
abbrev pub IsOwnSpelling : Symbols → SignPairs → List ℕ → SignedValue Number → Type 0
IsOwnSpelling folded pairs text v = IsBetween folded (pair_for pairs v.sign) text v

-- the decimal with a name directly before it or after it, and spaces at its ends
pub record IsBeside (folded : Symbols) (name text : List ℕ) (v : SignedValue Number) : Type 0 where
  pub rest : List ℕ
  pub beside : (name ++ rest ≡ text) ⊎ (rest ++ name ≡ text)
  pub number : IsGroupedText folded (trim rest) v

-- this without its sign, between two texts, and spaces at its ends
pub record IsBesideWithin (folded : Symbols) (pair : AffixPair) (name text : List ℕ) (v : SignedValue Number) : Type 0 where
  pub inner : List ℕ
  pub between : text_between pair inner ≡ text
  pub beside : IsBeside folded name (trim inner) (unsigned v)

-- the affixes that a sign has in the symbols
abbrev pub symbols_pair : Symbols → Sign → AffixPair
symbols_pair s NoSign = record { before = []; after = [] }
symbols_pair s Negative = minus_pair s
symbols_pair s Positive = plus_pair s

-- the sign next to the number, or before and after both
abbrev pub IsNamedSpelling : Symbols → List ℕ → List ℕ → SignedValue Number → Type 0
IsNamedSpelling folded name text v = IsBeside folded name text v ⊎ IsBesideWithin folded (symbols_pair folded v.sign) name text v

-- a folded and trimmed text: between the affixes of its sign, with its unit or its code beside it, or filled between these affixes
abbrev pub IsFoldedSpelling : Symbols → FoldedUnit → List ℕ → SignedValue Number → Type 0
IsFoldedSpelling folded u text v =
    IsOwnSpelling folded u.pairs text v
    ⊎ (IsNamedSpelling folded u.unit text v
    ⊎ (IsNamedSpelling folded u.code text v ⊎ IsOwnSpelling folded u.pairs (filled_text folded.strings.decimal_separator text) v))

-- any text that the formatter does not write: without its unit, or folded
abbrev pub IsUnitSpelling : Tables → FoldedUnit → List ℕ → SignedValue Number → Type 0
IsUnitSpelling t u text v = IsTypedText t text v ⊎ IsFoldedSpelling (folded_symbols t) u (trimmed_fold t text) v

-- any text
abbrev pub IsTypedUnit : LenientTexts → List ℕ → SignedValue Number → Type 0
IsTypedUnit a text v = IsUnitText a.reader text v ⊎ IsUnitSpelling a.reader.tables a.folded text v
