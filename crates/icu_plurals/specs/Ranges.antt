-- The category of a range, by those of its ends.
-- UTS 35, part 3 (numbers), section 5; docs/plurals.md, "Ranges".
-- Cited by `resolve_range` and `category_for_range`, and by the law of ranges.
use Rattle.std.specs.Prelude.{Bool, cond, ◌&&◌, List, [], ◌∷◌}
use Rattle.icu_decimal_plurals.specs.declared.category.PluralCategory.{PluralCategory}
use Rattle.icu_decimal_plurals.specs.Reading.{is_same}
use Rattle.icu_plurals.specs.declared.ranges.PluralRange.{PluralRange}

-- a range is for ends of these categories
abbrev pub is_for : PluralCategory → PluralCategory → PluralRange → Bool
is_for start end range = is_same range.start start && is_same range.end end

-- the result of the first range that is for the two ends, else the second end
abbrev pub range_category : List PluralRange → PluralCategory → PluralCategory → PluralCategory
range_category [] start end = end
range_category (range ∷ rest) start end = cond (is_for start end range) range.result (range_category rest start end)
