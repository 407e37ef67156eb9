-- What a call answers that reads a text with a unit.
use Rattle.std.proofs.Common.{◌≡◌, inl, inr, ℕ, List, Option, None, Some, Result, Ok, Err, refl, sym, ap, subst}
use Rattle.fixed_decimal.specs.Number.{Number}
use Rattle.fixed_decimal.specs.SignedValue.{SignedValue}
use Rattle.fixed_decimal.specs.declared.Sign.{Sign}
use Rattle.icu_decimal_symbols.specs.Symbols.{Symbols}
use Rattle.icu_decimal_plain.specs.PlainText.{Tables}
use Rattle.icu_decimal_reading.specs.DecimalOfText.{IsAnswered, PlainReading, decimal, not_written}
use Rattle.icu_decimal_reading.specs.declared.error.ReadError.{ReadError}
use Rattle.icu_decimal_reading.specs.declared.error.ReadError.TheVariants.{Unreadable, NotWritten, Memory}
use Rattle.icu_decimal_lenient.specs.LenientReading.{read_either}
use Rattle.icu_dimension_affixes.specs.UnitPatterns.{AffixPair}
use Rattle.icu_dimension_lenient.specs.LenientUnits.{LenientTexts, beside_within, between, read_between, read_rest, signed_as, signed_within, typed_unit_reading, with_own_sign}

-- ---- a sign

pub signed_read : (r : Result (SignedValue Number) ReadError) (reading : PlainReading) (sign : Sign) (v : SignedValue Number)
    → reading ≡ decimal v → IsAnswered r (with_own_sign sign v.sign v.absolute) → IsAnswered r (signed_as sign reading)
signed_read r reading sign v is answered = subst (λ p. IsAnswered r (signed_as sign p)) (sym is) answered

pub signed_missing : (e : ReadError) (reading : PlainReading) (sign : Sign) → IsAnswered (Err e) reading → IsAnswered (Err e) (signed_as sign reading)
signed_missing Unreadable reading sign is = ap (signed_as sign) is
signed_missing NotWritten reading sign is = ap (signed_as sign) is
signed_missing Memory reading sign is = tt

-- ---- what is left of a text

pub between_read : (r : Result (SignedValue Number) ReadError) (folded : Symbols) (sign : Sign) (pair : AffixPair) (text inner : List ℕ)
    → Some inner ≡ between pair text → IsAnswered r (signed_as sign (read_either folded inner)) → IsAnswered r (read_between folded sign pair text)
between_read r folded sign pair text inner is answered = subst (λ o. IsAnswered r (signed_within folded sign o)) is answered

pub between_missing : (folded : Symbols) (sign : Sign) (pair : AffixPair) (text : List ℕ)
    → None ≡ between pair text → read_between folded sign pair text ≡ not_written
between_missing folded sign pair text none = ap (signed_within folded sign) (sym none)

pub rest_same : (r : Result (SignedValue Number) ReadError) (folded : Symbols) (one other : Option (List ℕ))
    → one ≡ other → IsAnswered r (read_rest folded one) → IsAnswered r (read_rest folded other)
rest_same r folded one other same answered = subst (λ o. IsAnswered r (read_rest folded o)) same answered

pub within_same : (r : Result (SignedValue Number) ReadError) (folded : Symbols) (name : List ℕ) (sign : Sign) (one other : Option (List ℕ))
    → one ≡ other → IsAnswered r (beside_within folded name sign one) → IsAnswered r (beside_within folded name sign other)
within_same r folded name sign one other same answered = subst (λ o. IsAnswered r (beside_within folded name sign o)) same answered

-- ---- any text

pub kept_answers : (a : LenientTexts) (kept : Tables) (text : List ℕ) (r : Result (SignedValue Number) ReadError)
    → kept ≡ a.reader.tables → IsAnswered r (typed_unit_reading kept a.folded text) → IsAnswered r (typed_unit_reading a.reader.tables a.folded text)
kept_answers a kept text r same answered = subst (λ t. IsAnswered r (typed_unit_reading t a.folded text)) same answered
