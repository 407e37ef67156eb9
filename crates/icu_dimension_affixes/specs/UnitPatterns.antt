-- The pattern of a unit: texts around the number and the unit, and such texts for the signs, where it has these.
-- UTS 35, part 3 (numbers), number patterns: positive and negative subpatterns, prefix and suffix; docs/units.md, "Patterns".
-- Cited by the calls of `UnitAffixes`, `UnitPattern` and `UnitPatterns`.
use Rattle.std.specs.Prelude.{◌≡◌, ℕ, Bool, cond, List, [], ◌++◌, IfSome, Option, None, Some}
use Rattle.fixed_decimal.specs.declared.Sign.{Sign}
use Rattle.fixed_decimal.specs.declared.Sign.TheVariants.{None as NoSign, Negative, Positive}
use Rattle.icu_dimension_affixes.specs.declared.affixes.UnitPlace.{UnitPlace}
use Rattle.icu_dimension_affixes.specs.declared.affixes.UnitPlace.TheVariants.{Before, After}
use Rattle.icu_dimension_affixes.specs.declared.patterns.LetterEnds.{LetterEnds}

-- what is written before or after the number: a text, or two with the unit between them
pub data AffixText : Type 0 where
  literal : List ℕ → AffixText
  around : List ℕ → List ℕ → AffixText

-- the affixes of a number: the side on which the unit is, and three texts in the order in which they are written
pub record AffixesText : Type 0 where
  pub place : UnitPlace
  pub first : List ℕ
  pub second : List ℕ
  pub third : List ℕ

-- the unit between the first two, or only the first
abbrev pub before_at : UnitPlace → List ℕ → List ℕ → AffixText
before_at Before first second = around first second
before_at After first second = literal first

-- only the third, or the unit between the last two
abbrev pub after_at : UnitPlace → List ℕ → List ℕ → AffixText
after_at Before second third = literal third
after_at After second third = around second third

abbrev pub before_in : AffixesText → AffixText
before_in a = before_at a.place a.first a.second

abbrev pub after_in : AffixesText → AffixText
after_in a = after_at a.place a.second a.third

-- with the unit in its place
abbrev pub affix_text : AffixText → List ℕ → List ℕ
affix_text (literal text) unit = text
affix_text (around before after) unit = before ++ (unit ++ after)

-- what is written before and after the number
pub record AffixPair : Type 0 where
  pub before : List ℕ
  pub after : List ℕ

abbrev pub pair_with : AffixesText → List ℕ → AffixPair
pair_with a unit = record { before = affix_text (before_in a) unit; after = affix_text (after_in a) unit }

-- the affixes of a number without a sign, and those that a minus or a plus sign has of its own
pub record PatternTexts : Type 0 where
  pub unsigned : AffixesText
  pub minus : Option AffixesText
  pub plus : Option AffixesText

-- no text of affixes is there, beside the place of the unit
abbrev pub HasNoText : AffixesText → Type 0
HasNoText a = (a.first ≡ []) × (a.second ≡ []) × (a.third ≡ [])

-- nor one of any that a pattern has
pub record HaveNoText (p : PatternTexts) : Type 0 where
  pub unsigned : HasNoText p.unsigned
  pub minus : IfSome p.minus HasNoText
  pub plus : IfSome p.plus HasNoText

-- those that a sign has of its own
abbrev pub own_affixes : PatternTexts → Sign → Option AffixesText
own_affixes p NoSign = None
own_affixes p Negative = p.minus
own_affixes p Positive = p.plus

-- ---- which pattern

-- whether the end of the unit that is next to the number is a letter
abbrev pub is_letter_next : UnitPlace → LetterEnds → Bool
is_letter_next Before ends = ends.last
is_letter_next After ends = ends.first

-- a pattern, and the one for a unit with a letter next to the number, where there is one
pub record PatternChoice : Type 0 where
  pub standard : PatternTexts
  pub alpha_next_to_number : Option PatternTexts

abbrev pub chosen_from : PatternTexts → Option PatternTexts → Bool → PatternTexts
chosen_from standard None is_letter = standard
chosen_from standard (Some beside) is_letter = cond is_letter beside standard

abbrev pub chosen : PatternChoice → LetterEnds → PatternTexts
chosen c ends = chosen_from c.standard c.alpha_next_to_number (is_letter_next c.standard.unsigned.place ends)
