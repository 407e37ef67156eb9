-- The signs of a locale: of scientific text, of permille, of about and of ranges.
-- UTS 35, part 3 (numbers), number symbols and miscellaneous patterns; docs/books.md, "More".
-- Cited by the types of signs, and by the reading of an entry.
use Rattle.std.specs.Prelude.{ℕ, List}

-- what is before the first end of a range, between both, and after the second
pub record RangeTexts : Type 0 where
  pub before : List ℕ
  pub between : List ℕ
  pub after : List ℕ

-- what is before and after a number that is the least or the greatest
pub record BoundTexts : Type 0 where
  pub before : List ℕ
  pub after : List ℕ

pub record SignTexts : Type 0 where
  pub exponent : List ℕ
  pub multiplication : List ℕ
  pub permille : List ℕ
  pub about : List ℕ
  pub range : RangeTexts
  pub at_least : BoundTexts
  pub at_most : BoundTexts
