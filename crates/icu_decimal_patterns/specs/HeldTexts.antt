-- The texts of a pattern where they are borrowed, as from a JSON value.
-- Defined in docs/compact-text.md, "The JSON form".
-- Cited by the view of `BorrowedPattern`.
use Rattle.icu_decimal_patterns.specs.declared.borrowed.BorrowedTexts.{BorrowedTexts}
use Rattle.icu_decimal_patterns.specs.declared.borrowed.BorrowedTexts.TheVariants.{Literal, Around}
use Rattle.icu_decimal_patterns.specs.Pattern.{PatternText, literal, around}

abbrev pub borrowed : BorrowedTexts → PatternText
borrowed (Literal text) = literal text.now
borrowed (Around before after) = around before.now after.now
