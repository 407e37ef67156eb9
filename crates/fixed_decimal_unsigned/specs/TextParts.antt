-- What the steps of reading say of the rest of a text.
-- Defined in docs/numbers.md, "The text".
-- Cited by the private functions that take a text apart, and by no public clause.
use Rattle.std.specs.Prelude.{◌≡◌, ℕ, ◌<◌, ◌⊎◌, Bool, List, [], ◌∷◌}
use Rattle.std.specs.Char.{digit_value}
use Rattle.fixed_decimal_unsigned.specs.NumberText.{point, minus, small_mark, capital_mark, SpellsExponent}

-- the text is empty or begins with another character than a digit
abbrev pub StartsNoDigit : List ℕ → Type 0
StartsNoDigit [] = Unit {0}
StartsNoDigit (c ∷ cs) = ¬ (digit_value c < 10)

-- the text is empty or begins with another character than a point
abbrev pub StartsNoPoint : List ℕ → Type 0
StartsNoPoint [] = Unit {0}
StartsNoPoint (c ∷ cs) = ¬ (c ≡ point)

-- the text begins with a point, and no digit follows
pub record IsNoFraction (text : List ℕ) : Type 0 where
  pub tail : List ℕ
  pub whole : text ≡ point ∷ tail
  pub rest : StartsNoDigit tail

-- the text is no exponent
abbrev pub IsNoExponent : List ℕ → Type 0
IsNoExponent text = (negative : Bool) (exponent : List ℕ) → ¬ (SpellsExponent text negative exponent)

-- the text is empty or begins with another character than a minus
abbrev pub StartsNoMinus : List ℕ → Type 0
StartsNoMinus [] = Unit {0}
StartsNoMinus (c ∷ cs) = ¬ (c ≡ minus)

-- the character marks an exponent
abbrev pub IsMark : ℕ → Type 0
IsMark c = (c ≡ small_mark) ⊎ (c ≡ capital_mark)
