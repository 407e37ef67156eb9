-- Laws that join texts and numbers.
-- Defined in docs/numbers.md, "Laws".
-- Cited by the functions of the module `laws`.
use Rattle.std.specs.Prelude.{◌≡◌, ◌↔◌, ℕ, List}
use Rattle.std.specs.Bool.{Decides}
use Rattle.fixed_decimal_unsigned.specs.Equality.{are_equal}
use Rattle.fixed_decimal_unsigned.specs.Number.{Number, IsNumber}
use Rattle.fixed_decimal_unsigned.specs.NumberText.{Reads, IsBeyond, text_of}
use Rattle.fixed_decimal_unsigned.specs.ReadNumber.{ReadsAs, IsPastLimits}

-- a text has one reading, or one error
pub record ReadsOnce (text : List ℕ) : Type 0 where
  pub number : (a b : Number) → Reads text a → Reads text b → a ≡ b
  pub limit : (a : Number) → Reads text a → ¬ (IsBeyond text)

abbrev pub TextsReadOnce : Type 0
TextsReadOnce = (text : List ℕ) → ReadsOnce text

-- a text spells the number that its exponent, a whole number, makes of its digits, and no other
pub record ReadsByExponent (text : List ℕ) : Type 0 where
  pub number : (v : Number) → Reads text v ↔ ReadsAs text v
  pub limit : IsBeyond text ↔ IsPastLimits text

abbrev pub TextsReadByExponent : Type 0
TextsReadByExponent = (text : List ℕ) → ReadsByExponent text

-- a number's printed text spells it
abbrev pub PrintedTextsReadBack : Type 0
PrintedTextsReadBack = (v : Number) → IsNumber v → Reads (text_of v) v

-- texts tell numbers apart
abbrev pub EqualTextsAreEqualNumbers : Type 0
EqualTextsAreEqualNumbers = (a b : Number) → IsNumber a → IsNumber b → text_of a ≡ text_of b → a ≡ b

-- `==` is true of one number and no others
abbrev pub EqualityIsIdentity : Type 0
EqualityIsIdentity = (a b : Number) → Decides (are_equal a b) (a ≡ b)

-- and for one printed text and no others
abbrev pub EqualityIsThatOfTexts : Type 0
EqualityIsThatOfTexts = (a b : Number) → IsNumber a → IsNumber b → Decides (are_equal a b) (text_of a ≡ text_of b)
