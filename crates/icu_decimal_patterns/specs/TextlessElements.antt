-- Patterns that have no text, one for each plural.
-- Defined in docs/compact-text.md, "Patterns".
-- Cited by `try_clone` of elements of patterns.
use Rattle.std.specs.Prelude.{IfSome}
use Rattle.icu_decimal_patterns.specs.Elements.{Elements}
use Rattle.icu_decimal_patterns.specs.Pattern.{HasNoText, PatternText}

-- each pattern that is there has no text
pub record HaveNoText (s : Elements PatternText) : Type 0 where
  pub explicit_zero : IfSome s.explicit_zero HasNoText
  pub explicit_one : IfSome s.explicit_one HasNoText
  pub zero : IfSome s.zero HasNoText
  pub one : IfSome s.one HasNoText
  pub two : IfSome s.two HasNoText
  pub few : IfSome s.few HasNoText
  pub many : IfSome s.many HasNoText
  pub other : HasNoText s.other
