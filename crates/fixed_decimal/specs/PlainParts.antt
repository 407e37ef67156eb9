-- What the steps of reading a compact or a scientific text say of the rest of a text.
-- Defined in docs/numbers.md, "Compact and scientific texts".
-- Cited by the private functions that take such a text apart, and by no public clause.
use Rattle.std.specs.Prelude.{◌<◌, ℕ, List, [], ◌∷◌, length}
use Rattle.fixed_decimal_signed.specs.NumberText.{AreDigits}
use Rattle.fixed_decimal_signed.specs.declared.ParseError.{ParseError}
use Rattle.fixed_decimal_signed.specs.declared.ParseError.TheVariants.{Limit, Syntax, Memory}
use Rattle.fixed_decimal.specs.PlainText.{MarksExponent}
use Rattle.fixed_decimal.specs.CompactText.{StartsNoZero, SpellsCompact}
use Rattle.fixed_decimal.specs.ScientificText.{SpellsScientific}

-- the text is empty or begins with a mark
abbrev pub StartsWithMark : List ℕ → Type 0
StartsWithMark [] = Unit {0}
StartsWithMark (c ∷ cs) = MarksExponent c

-- the text can follow the mark of a compact text
pub record IsCompactExponent (text : List ℕ) : Type 0 where
  pub some : 0 < length text
  pub are_digits : AreDigits text
  pub first : StartsNoZero text

-- nothing makes the text a compact one
abbrev pub IsNotCompact : List ℕ → Type 0
IsNotCompact text = (front digits : List ℕ) → ¬ (SpellsCompact text front digits)

-- nothing makes the text a scientific one
abbrev pub IsNotScientific : List ℕ → Type 0
IsNotScientific text = (left right : List ℕ) → ¬ (SpellsScientific text left right)

-- an error where a limit counts as syntax
abbrev pub without_limit : ParseError → ParseError
without_limit Limit = Syntax
without_limit Syntax = Syntax
without_limit Memory = Memory
