-- The steps by which a text is cut and read.
-- Defined in docs/scientific-text.md, "Reading".
-- Cited only by private steps of the calls that read.
use Rattle.std.specs.Prelude.{◌≡◌, ◌≢◌, ◌⊎◌, ◌==◌, ℕ, Bool, true, false, not, List, [], ◌∷◌, ◌++◌, encode_utf8}
use Rattle.std.specs.List.{list_all}
use Rattle.std.specs.Str.{NoCharPasses, chars, encode_utf8_all}
use Rattle.fixed_decimal.specs.IntegerText.{ShowsNoFraction}
use Rattle.fixed_decimal.specs.Number.{IsNumber, Number}
use Rattle.fixed_decimal.specs.ScientificText.{IsScientific, ScientificValue}
use Rattle.fixed_decimal.specs.SignedValue.{SignedValue}
use Rattle.fixed_decimal.specs.TextLaws.{IsDecimal}
use Rattle.fixed_decimal.specs.declared.Sign.{Sign}
use Rattle.fixed_decimal.specs.declared.Sign.TheVariants.{None as NoSign}
use Rattle.icu_decimal_plain.specs.Affixes.{affixes_of}
use Rattle.icu_decimal_plain.specs.PlainText.{Tables, decimal_text, prefix_text, suffix_text, unsigned_text}
use Rattle.icu_decimal_reading.specs.DecimalOfText.{HasManyDigits}
use Rattle.icu_decimal_scientific.specs.ExponentialText.{ScientificSettings, exponential_text}

-- a text before a character, which is not in it, and one after it
pub record IsCutAt (mark : ℕ) (text front back : List ℕ) : Type 0 where
  pub whole : text ≡ front ++ (encode_utf8 mark ++ back)
  pub clear : NoCharPasses (λ c. c == mark) front

-- the first of the characters of a text is not among others
abbrev pub lacks_first : List ℕ → List ℕ → Bool
lacks_first [] others = false
lacks_first (c ∷ cs) others = list_all (λ d. not (d == c)) others

-- a text before a separator, and one after it: the only ones where the first character of the separator is not in the
-- first of them
pub record IsOnlySplit (separator text front back : List ℕ) : Type 0 where
  pub whole : text ≡ front ++ (separator ++ back)
  pub only : (fs bs : List ℕ) → lacks_first (chars separator) fs ≡ true → text ≡ encode_utf8_all fs ++ (separator ++ encode_utf8_all bs)
      → (front ≡ encode_utf8_all fs) × (back ≡ encode_utf8_all bs)

abbrev pub HasNoSplit : List ℕ → List ℕ → Type 0
HasNoSplit separator text = (fs bs : List ℕ) → lacks_first (chars separator) fs ≡ true → text ≢ encode_utf8_all fs ++ (separator ++ encode_utf8_all bs)

-- ---- the significand and the exponent

-- the number is written so without a sign, and has none
pub record IsUnsigned (t : Tables) (text : List ℕ) (v : SignedValue Number) : Type 0 where
  pub decimal : IsDecimal v
  pub unsigned : v.sign ≡ NoSign
  pub written : unsigned_text t v.absolute ≡ text

abbrev pub HasNoUnsigned : Tables → List ℕ → Type 0
HasNoUnsigned t text = (n : Number) → IsNumber n → unsigned_text t n ≢ text

-- the whole number is written so
pub record IsWholeText (t : Tables) (text : List ℕ) (v : SignedValue Number) : Type 0 where
  pub decimal : IsDecimal v
  pub whole : ShowsNoFraction v
  pub written : decimal_text t v ≡ text

abbrev pub HasNoWhole : Tables → List ℕ → Type 0
HasNoWhole t text = (v : SignedValue Number) → IsDecimal v → ShowsNoFraction v → decimal_text t v ≢ text

-- a scientific number without the sign of its significand is written so
pub record IsExponentialText (s : ScientificSettings) (text : List ℕ) (v : ScientificValue) : Type 0 where
  pub number : IsScientific v
  pub unsigned : v.significand.sign ≡ NoSign
  pub written : exponential_text s v.significand.absolute v.exponent ≡ text

abbrev pub HasNoExponential : ScientificSettings → List ℕ → Type 0
HasNoExponential s text = (v : ScientificValue) → IsScientific v → exponential_text s v.significand.absolute v.exponent ≢ text

-- one of its sides has more than sixteen digits
pub record HasManyAround (s : ScientificSettings) (text : List ℕ) : Type 0 where
  pub front : List ℕ
  pub back : List ℕ
  pub cut : text ≡ front ++ (s.separator ++ back)
  pub many : HasManyDigits s.tables front ⊎ HasManyDigits s.exponents back

-- ---- between the affixes of a sign

abbrev pub text_with : ScientificSettings → Sign → List ℕ → List ℕ
text_with s sign inner =
    let affixes = affixes_of s.tables.symbols.strings sign in prefix_text affixes ++ (inner ++ suffix_text affixes)

-- no number is written so with this sign
abbrev pub HasNoneWith : ScientificSettings → Sign → List ℕ → Type 0
HasNoneWith s sign text =
    (v : ScientificValue) → IsScientific v → text_with s sign (exponential_text s v.significand.absolute v.exponent) ≢ text
