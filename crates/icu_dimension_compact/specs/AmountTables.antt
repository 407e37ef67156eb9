-- The types of compact amounts with their patterns, and what is wrong with lists of them.
-- UTS 35, part 3 (numbers), "Compact Number Formats"; crates/icu_dimension_compact/README.md, "Tables".
-- Cited by the calls of `ShortCurrencyCompact`.
use Rattle.std.specs.Prelude.{ℕ, suc, ◌+◌, ◌==◌, Bool, true, ◌&&◌, not, cond, nat_le, length, List, [], ◌∷◌, Option, None, Some, option_and_then}
use Rattle.std.specs.List.{slice_get}
use Rattle.icu_decimal_compact_value.specs.declared.entry.CompactEntry.{CompactEntry}
use Rattle.icu_decimal_patterns.specs.Elements.{Elements}
use Rattle.icu_dimension_affixes.specs.UnitPatterns.{PatternChoice}
use Rattle.icu_dimension_compact.specs.declared.error.ShortCurrencyCompactError.{ShortCurrencyCompactError}
use Rattle.icu_dimension_compact.specs.declared.error.ShortCurrencyCompactError.TheVariants.{Lengths, Types, Exponents}

-- the patterns of a type, one for each plural; or none, where amounts are written as plain ones are
abbrev pub AmountPatterns : Type 0
AmountPatterns = Option (Elements PatternChoice)

-- the types with their exponents, and the patterns of each in the same order
pub record AmountTable : Type 0 where
  pub entries : List CompactEntry
  pub patterns : List AmountPatterns

-- ---- the patterns of an entry

-- those beside the entry of this type
abbrev pub beside_type : List CompactEntry → List AmountPatterns → ℕ → AmountPatterns
beside_type [] ps log10_type = None
beside_type (x ∷ xs) [] log10_type = None
beside_type (x ∷ xs) (p ∷ ps) log10_type = cond (x.log10_type == log10_type) p (beside_type xs ps log10_type)

abbrev pub beside_entry : List CompactEntry → List AmountPatterns → Option CompactEntry → AmountPatterns
beside_entry xs ps None = None
beside_entry xs ps (Some entry) = beside_type xs ps entry.log10_type

abbrev pub patterns_of : AmountTable → Option CompactEntry → AmountPatterns
patterns_of t entry = beside_entry t.entries t.patterns entry

-- those at an index, where some are there
abbrev pub patterns_at : List AmountPatterns → ℕ → AmountPatterns
patterns_at ps i = option_and_then (λ p. p) (slice_get ps i)

-- ---- what is wrong

-- the types rise strictly, and none is below `least`
abbrev pub rise_from : ℕ → List CompactEntry → Bool
rise_from least [] = true
rise_from least (x ∷ xs) = nat_le least x.log10_type && rise_from (suc x.log10_type) xs

-- an exponent is not above its type, and at most 15 below it
abbrev pub fits : CompactEntry → Bool
fits x = nat_le x.exponent x.log10_type && nat_le x.log10_type (x.exponent + 15)

-- each exponent fits its type, none is below the one before it, and none below `least`
abbrev pub fit_from : ℕ → List CompactEntry → Bool
fit_from least [] = true
fit_from least (x ∷ xs) = (nat_le least x.exponent && fits x) && fit_from x.exponent xs

-- the first rule that is broken
abbrev pub table_fault : List CompactEntry → List AmountPatterns → Option ShortCurrencyCompactError
table_fault entries patterns =
    cond (not (length entries == length patterns)) (Some Lengths)
    (cond (not (rise_from 0 entries)) (Some Types)
    (cond (not (fit_from 0 entries)) (Some Exponents) None))
