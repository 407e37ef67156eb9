-- Layers around the digits of a number, from inside: a pattern, which may be in their place; what is before and after; a pattern again.
-- Defined in docs/plain-text.md, "Layers".
-- Cited by the calls of `NumberFormatter`, through FormatText.antt and FormatParts.antt.
use Rattle.std.specs.Prelude.{ℕ, List, ◌++◌, Option, None, Some}
use Rattle.icu_decimal.specs.Pattern.{PatternText, literal, around}

-- over any kind of element: the bytes of a text, or these with the openings and closings of its parts
pub record LayersOf (A : Type 0) : Type 0 where
  pub inner : Option PatternText
  pub before : List A
  pub after : List A
  pub outer : Option PatternText

-- a list in a pattern whose texts are spelled so; without a pattern it stands alone
abbrev pub in_pattern : {A : Type 0} → (List ℕ → List A) → Option PatternText → List A → List A
in_pattern spell None inner = inner
in_pattern spell (Some (literal text)) inner = spell text
in_pattern spell (Some (around before after)) inner = spell before ++ (inner ++ spell after)

-- the digits in all layers
abbrev pub layered_by : {A : Type 0} → (List ℕ → List A) → LayersOf A → List A → List A
layered_by spell l digits = in_pattern spell l.outer (l.before ++ (in_pattern spell l.inner digits ++ l.after))

-- of a text
abbrev pub Layers : Type 0
Layers = LayersOf ℕ

abbrev pub layered : Layers → List ℕ → List ℕ
layered l digits = layered_by (λ text. text) l digits
