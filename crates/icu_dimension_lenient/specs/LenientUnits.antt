-- What a typed text with a unit is read as: as the exact reader reads it; else as the decimal that it is without its unit, as plain lenient reading reads it, or folded, with the affixes of its sign, or with the unit or its code beside the number, where it is no other decimal in another one of these ways.
-- Defined in docs/units.md, "Lenient reading".
-- Cited by the calls of `LenientUnitReader`, by NativeUnits.antt, and by the laws.
use Rattle.std.specs.Prelude.{◌≡◌, ◌⊎◌, ℕ, ◌-◌, Bool, true, false, ◌&&◌, List, [], ◌∷◌, length, take, drop, Option, None, Some}
use Rattle.std.specs.Str.{bytes_eq, trim}
use Rattle.fixed_decimal.specs.Number.{Number}
use Rattle.fixed_decimal.specs.SignedValue.{SignedValue}
use Rattle.fixed_decimal.specs.declared.Sign.{Sign}
use Rattle.fixed_decimal.specs.declared.Sign.TheVariants.{None as NoSign, Negative, Positive}
use Rattle.icu_decimal_symbols.specs.Symbols.{Symbols}
use Rattle.icu_decimal_plain.specs.PlainText.{Tables}
use Rattle.icu_decimal_reading.specs.DecimalOfText.{PlainReading, decimal, not_written, unreadable}
use Rattle.icu_decimal_lenient.specs.Folding.{folded_symbols, folded_text, plain_digits}
use Rattle.icu_decimal_lenient.specs.LenientReading.{filled_text, is_leniently_readable_by, lenient_reading, or_else, read_either, trimmed_fold}
use Rattle.icu_dimension_affixes.specs.UnitPatterns.{AffixPair}
use Rattle.icu_dimension_affixes.specs.UnitReading.{AreReaderTexts, HasManyBetween, HasNoDecimal, IsUnitText, ReaderTexts, SignPairs, are_clear_pairs, do_pairs_differ, is_unit_readable_by, reader_texts}
use Rattle.icu_dimension_affixes.specs.UnitText.{UnitSettings}
use Rattle.icu_dimension_lenient.specs.Agreement.{agreed_reading}

-- ---- ends of a text

-- a text, where a test holds
abbrev pub where_true : Bool → List ℕ → Option (List ℕ)
where_true true text = Some text
where_true false text = None

-- what follows a name at the front of a text
abbrev pub past_front : List ℕ → List ℕ → Option (List ℕ)
past_front name text = where_true (bytes_eq (take (length name) text) name) (drop (length name) text)

-- what comes before a name at the end of a text
abbrev pub past_back : List ℕ → List ℕ → Option (List ℕ)
past_back name text =
    where_true (bytes_eq (drop (length text - length name) text) name) (take (length text - length name) text)

-- what is between two affixes
abbrev pub back_of_some : List ℕ → Option (List ℕ) → Option (List ℕ)
back_of_some end None = None
back_of_some end (Some rest) = past_back end rest

abbrev pub between : AffixPair → List ℕ → Option (List ℕ)
between pair text = back_of_some pair.after (past_front pair.before text)

-- ---- texts

-- what folded texts are read with: the affixes of each sign, the unit and its code, all of them folded
pub record FoldedUnit : Type 0 where
  pub pairs : SignPairs
  pub unit : List ℕ
  pub code : List ℕ

-- what texts are read with
pub record LenientTexts : Type 0 where
  pub reader : ReaderTexts
  pub folded : FoldedUnit

abbrev pub folded_pair : List ℕ → AffixPair → AffixPair
folded_pair digits pair = record { before = folded_text digits pair.before; after = folded_text digits pair.after }

abbrev pub folded_pairs : List ℕ → SignPairs → SignPairs
folded_pairs digits pairs = record {
  none = folded_pair digits pairs.none;
  minus = folded_pair digits pairs.minus;
  plus = folded_pair digits pairs.plus;
}

abbrev pub texts_with : ReaderTexts → List ℕ → List ℕ → LenientTexts
texts_with r unit code = record {
  reader = r;
  folded = record {
    pairs = folded_pairs r.tables.digits r.pairs;
    unit = folded_text r.tables.digits unit;
    code = folded_text r.tables.digits code;
  };
}

abbrev pub lenient_texts : UnitSettings → List ℕ → LenientTexts
lenient_texts s code = texts_with (reader_texts s) s.unit.text code

-- texts are readable, and the folded ones tell a number and its sign too
abbrev pub is_leniently_unit_readable_by : LenientTexts → Bool
is_leniently_unit_readable_by a =
    is_unit_readable_by a.reader
    && (is_leniently_readable_by a.reader.tables && (are_clear_pairs plain_digits a.folded.pairs && do_pairs_differ a.folded.pairs))

-- ---- a folded text

-- a number without its sign, with a sign
abbrev pub with_own_sign : Sign → Sign → Number → PlainReading
with_own_sign sign NoSign n = decimal (record { sign = sign; absolute = n })
with_own_sign sign Negative n = not_written
with_own_sign sign Positive n = not_written

abbrev pub signed_as : Sign → PlainReading → PlainReading
signed_as sign unreadable = unreadable
signed_as sign not_written = not_written
signed_as sign (decimal v) = with_own_sign sign v.sign v.absolute

-- a number without its sign between the affixes of a sign
abbrev pub signed_within : Symbols → Sign → Option (List ℕ) → PlainReading
signed_within folded sign None = not_written
signed_within folded sign (Some inner) = signed_as sign (read_either folded inner)

abbrev pub read_between : Symbols → Sign → AffixPair → List ℕ → PlainReading
read_between folded sign pair text = signed_within folded sign (between pair text)

-- between those of any sign
abbrev pub read_own : Symbols → SignPairs → List ℕ → PlainReading
read_own folded pairs text =
    or_else (read_between folded NoSign pairs.none text)
    (or_else (read_between folded Negative pairs.minus text) (read_between folded Positive pairs.plus text))

-- a number, with spaces at its ends
abbrev pub read_rest : Symbols → Option (List ℕ) → PlainReading
read_rest folded None = not_written
read_rest folded (Some rest) = read_either folded (trim rest)

-- a number with a name before it, or else after it
abbrev pub read_beside : Symbols → List ℕ → List ℕ → PlainReading
read_beside folded name text = or_else (read_rest folded (past_front name text)) (read_rest folded (past_back name text))

-- this without a sign, between the affixes that a sign has in the symbols
abbrev pub beside_within : Symbols → List ℕ → Sign → Option (List ℕ) → PlainReading
beside_within folded name sign None = not_written
beside_within folded name sign (Some inner) = signed_as sign (read_beside folded name (trim inner))

abbrev pub minus_pair : Symbols → AffixPair
minus_pair s = record { before = s.strings.minus_sign_prefix; after = s.strings.minus_sign_suffix }

abbrev pub plus_pair : Symbols → AffixPair
plus_pair s = record { before = s.strings.plus_sign_prefix; after = s.strings.plus_sign_suffix }

-- a name beside a number, with the sign next to the number, or before and after both
abbrev pub read_named : Symbols → List ℕ → List ℕ → PlainReading
read_named folded name text =
    or_else (read_beside folded name text)
    (or_else (beside_within folded name Negative (between (minus_pair folded) text))
    (beside_within folded name Positive (between (plus_pair folded) text)))

-- by the affixes of a sign, by the unit beside the number, by its code, and by the affixes of a sign around what is filled
abbrev pub folded_ways : Symbols → FoldedUnit → List ℕ → List PlainReading
folded_ways folded u text =
    read_own folded u.pairs text
    ∷ (read_named folded u.unit text
    ∷ (read_named folded u.code text ∷ (read_own folded u.pairs (filled_text folded.strings.decimal_separator text) ∷ [])))

-- ---- any text

-- a text that the formatter does not write: without its unit, and with it, folded and trimmed
abbrev pub unit_ways : Tables → FoldedUnit → List ℕ → List PlainReading
unit_ways t u text = lenient_reading t text ∷ folded_ways (folded_symbols t) u (trimmed_fold t text)

-- the decimal that it is in one of these ways, and in no other one another
abbrev pub typed_unit_reading : Tables → FoldedUnit → List ℕ → PlainReading
typed_unit_reading t u text = agreed_reading (unit_ways t u text)

-- the text is what the reading says
abbrev pub IsLenientUnitReading : LenientTexts → List ℕ → PlainReading → Type 0
IsLenientUnitReading a text reading =
    ((v : SignedValue Number) × (IsUnitText a.reader text v × (reading ≡ decimal v)))
    ⊎ (HasNoDecimal a.reader text × (reading ≡ typed_unit_reading a.reader.tables a.folded text))

-- memory is asked for where more than sixteen digits are between the affixes of a sign, or where the formatter does not write the text
abbrev pub MayAllocateUnit : LenientTexts → List ℕ → Type 0
MayAllocateUnit a text = HasManyBetween a.reader text ⊎ HasNoDecimal a.reader text

-- what a reader keeps: its tables, folded too, which are leniently readable, and its texts are readable
pub record AreKeptTexts (reader : ReaderTexts) (decimals kept : Tables) : Type 0 where
  pub own : decimals ≡ reader.tables
  pub tables : kept ≡ reader.tables
  pub texts : AreReaderTexts reader
  pub readable : is_unit_readable_by reader ≡ true
