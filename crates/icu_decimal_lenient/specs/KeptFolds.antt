-- Folded symbols that are kept by who has the tables: whether the symbols are readable, and the folded ones where these are readable too.
-- Defined in docs/reading.md, "Lenient reading".
-- Cited by the calls of `FoldedSymbols`.
use Rattle.std.specs.Prelude.{Bool, cond, Option, None, Some}
use Rattle.icu_decimal_symbols.specs.Symbols.{Symbols}
use Rattle.icu_decimal_plain.specs.PlainText.{Tables}
use Rattle.icu_decimal_reading.specs.Readable.{is_readable_by}
use Rattle.icu_decimal_lenient.specs.Folding.{folded_symbols}
use Rattle.icu_decimal_lenient.specs.LenientReading.{is_leniently_readable_by}

-- what is kept of tables
pub record KeptFolds : Type 0 where
  pub is_readable : Bool
  pub symbols : Option Symbols

-- the fold of tables, under each grouping the same
abbrev pub folds_of : Tables → KeptFolds
folds_of t = record { is_readable = is_readable_by t; symbols = cond (is_leniently_readable_by t) (Some (folded_symbols t)) None }
