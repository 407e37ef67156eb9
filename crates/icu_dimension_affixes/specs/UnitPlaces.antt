-- The place of the unit in the affixes of a pattern: how often it is there.
-- UTS 35, part 3 (numbers), number patterns: the currency sign, U+00A4; docs/units.md, "Patterns".
-- Cited by `UnitAffixes::try_new`.
use Rattle.std.specs.Prelude.{ℕ, ◌+◌, ◌==◌, ◌&&◌, Bool, false, cond, List, [], ◌∷◌}

-- the character in whose place the unit is written, U+00A4, in UTF-8
abbrev pub placeholder : List ℕ
placeholder = 194 ∷ 164 ∷ []

-- these bytes begin with the second one of it
abbrev pub begins_with_second : List ℕ → Bool
begins_with_second [] = false
begins_with_second (b ∷ bs) = b == 164

-- how often it is in a text
abbrev pub places : List ℕ → ℕ
places [] = 0
places (b ∷ bs) = cond (b == 194 && begins_with_second bs) 1 0 + places bs
