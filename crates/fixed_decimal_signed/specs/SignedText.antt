-- Which text spells which number with its sign: an unsigned number's text, with a plus or a minus before it or none.
-- Defined in docs/numbers.md, "The text".
-- Cited by `try_from_str`, `try_from_utf8`, `assign_from_utf8` of `Decimal`, by `run_calls` and the printed text.
use Rattle.std.specs.Prelude.{◌≡◌, ℕ, List, [], ◌∷◌, ◌++◌}
use Rattle.fixed_decimal_unsigned.specs.Number.{Number}
use Rattle.fixed_decimal_unsigned.specs.NumberText.{minus, Reads, IsBeyond, IsNoText, text_of}
use Rattle.fixed_decimal_unsigned.specs.DigitCount.{IsLong, IsLonger}
use Rattle.fixed_decimal_signed.specs.SignedValue.{SignedValue}
use Rattle.fixed_decimal_signed.specs.declared.sign.Sign.{Sign}
use Rattle.fixed_decimal_signed.specs.declared.sign.Sign.TheVariants.{None, Negative, Positive}

-- the plus sign
abbrev pub plus : ℕ
plus = 43

-- a sign as it is written
abbrev pub sign_text : Sign → List ℕ
sign_text None = []
sign_text Negative = minus ∷ []
sign_text Positive = plus ∷ []

-- the text is a sign and a text that spells the number
pub record ReadsSigned (text : List ℕ) (number : SignedValue Number) : Type 0 where
  pub rest : List ℕ
  pub whole : text ≡ sign_text number.sign ++ rest
  pub reads : Reads rest number.absolute

-- the text is a sign and a text that spells a number beyond the limits
pub record IsBeyondSigned (text : List ℕ) : Type 0 where
  pub sign : Sign
  pub rest : List ℕ
  pub whole : text ≡ sign_text sign ++ rest
  pub beyond : IsBeyond rest

-- the text spells a number of more digits than lie inline, from the first to the last one that is not zero
pub record ReadsLongSigned (text : List ℕ) : Type 0 where
  pub number : SignedValue Number
  pub reads : ReadsSigned text number
  pub long : IsLong number.absolute.count

-- the text spells a number of more digits than a count has
pub record ReadsLongerSigned (text : List ℕ) (other : ℕ) : Type 0 where
  pub number : SignedValue Number
  pub reads : ReadsSigned text number
  pub longer : IsLonger other number.absolute.count

-- what follows the sign, or the whole text where it has none, is no number's text
abbrev pub IsNoSignedText : List ℕ → Type 0
IsNoSignedText text = (sign : Sign) (rest : List ℕ) → text ≡ sign_text sign ++ rest → IsNoText rest

-- the text spells no decimal, or one beyond the limits
abbrev pub ReadsNothing : List ℕ → Type 0
ReadsNothing text = (number : SignedValue Number) → ¬ (ReadsSigned text number)

-- the printed text: the sign, then the text of the number
abbrev pub signed_text_of : SignedValue Number → List ℕ
signed_text_of v = sign_text v.sign ++ text_of v.absolute

-- the text is empty or begins with another character than a sign
abbrev pub StartsNoSign : List ℕ → Type 0
StartsNoSign [] = Unit {0}
StartsNoSign (c ∷ cs) = (¬ (c ≡ minus)) × (¬ (c ≡ plus))
